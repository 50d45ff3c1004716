use Rattle.std.proofs.Common.{◌≡◌, rules, ◌∙◌, arith}
use Rattle.agc_timeline.specs.Frames.{last_of}
use Rattle.agc_timeline.specs.Recording.{end_of}
use Rattle.agc_timeline.proofs.Filmed.{frames_of_part}
use Rattle.agc_timeline.proofs.WatchedFilm.{if_ok}
use Rattle.agc_timeline.proofs.recording.film.Goals as goal

pub returns-clause-recording : goal.returns-clause-recording
returns-clause-recording g c =
    let part = c.args.part in
    let start = c.args.machine.now in
    let recorded = rw (c.last.ensures) at c.in_ok-stop.ensures.recorded in
    let ends : c.record.new.machine ≡ end_of part start =
    (rw (c.last.ensures) at c.in_ok-stop.ensures.machine) ∙ c.open-panel.ensures.machine (last_of part) (omega arith) in
    let stops = rw (c.last.ensures) at c.in_ok-stop.ensures.stop in
    let all : c.in_ok-events.events.items ≡ start.events = search rules in
    if_ok c.recording_up_to.result
    (λ recording h. h start (c.as_slice.ensures.value ∙ all) ends stops (frames_of_part part start _ _ _ _ _ c.open-panel.ensures.opened c.in_ok-recorder.ensures recorded))
    c.recording_up_to.ensures.recording
