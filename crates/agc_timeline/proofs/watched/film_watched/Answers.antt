use Rattle.std.proofs.Common.{◌≡◌, List, ℕ, None, ◌++◌, rules, ap, ◌∙◌, arith}
use Rattle.agc_timeline.specs.Changes.{shown_after, sights_in}
use Rattle.agc_timeline.specs.Film.{Telling, after_first, held_at, until}
use Rattle.agc_timeline.specs.Lines.{reported_of}
use Rattle.agc_timeline.specs.States.{states_of}
use Rattle.agc_timeline.proofs.OverPart.{film_reported}
use Rattle.agc_timeline.specs.Frames.{last_of}
use Rattle.agc_timeline.specs.Recording.{end_of}
use Rattle.agc_timeline.specs.Watched.{span_of}
use Rattle.agc_timeline.proofs.Filmed.{frames_of_part}
use Rattle.agc_timeline.proofs.WatchedFilm.{has_lines, if_ok}
use Rattle.agc_timeline.proofs.watched.film_watched.Goals as goal

pub returns-clause-recording : goal.returns-clause-recording
returns-clause-recording g c =
    let part = c.args.part in
    let start = c.args.machine.now in
    let recorded = rw (c.last.ensures) at c.in_ok-stop.ensures.recorded in
    let ends : c.record.new.machine ≡ end_of part start =
    (rw (c.last.ensures) at c.in_ok-stop.ensures.machine) ∙ c.open-panel.ensures.machine (last_of part) (omega arith) in
    let stops = rw (c.last.ensures) at c.in_ok-stop.ensures.stop in
    let all : c.in_ok-events.events.items ≡ start.events = search rules in
    if_ok c.recording_up_to.result
    (λ recording h. h start (c.as_slice.ensures.value ∙ all) ends stops (frames_of_part part start _ _ _ _ _ c.open-panel.ensures.opened c.in_ok-recorder.ensures recorded))
    c.recording_up_to.ensures.recording

pub returns-clause-tables : goal.returns-clause-tables
unfolding held_at
returns-clause-tables g c =
    let span = span_of c.args.part in
    let spec = c.args.spec.now in
    let start = c.args.machine.now in
    let met = c.open-panel.new.machine in
    let reported = rw (c.last.ensures) at c.in_ok-stop.ensures.tables in
    let opening : c.open-panel.new.opening ≡ held_at spec span.from start =
    c.open-panel.ensures.tables ∙ ap (λ (t : List ℕ). shown_after t (sights_in (until span.from) spec (states_of start))) c.nothing-opening.ensures in
    let lines = c.into_text.ensures ∙ reported
    ∙ ap (λ (t : Telling). t.text ++ reported_of None t.shown (sights_in (after_first span) spec (states_of met))) c.in_ok-tables.ensures
    ∙ film_reported span spec start met c.open-panel.new.opening opening (c.open-panel.ensures.later span.to) in
    if_ok c.recording_up_to.result (λ recording same. has_lines recording.tables c.into_text.result _ same lines) c.recording_up_to.ensures.tables
