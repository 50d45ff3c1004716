-- The frames of a part of a run, from what its recorder has taken.
use Rattle.std.proofs.Common.{◌≡◌, ℕ, ◌+◌, ◌≤◌, Bool, true, false, Option, None, List, [], ◌++◌, refl, ap, sym, ◌∙◌, subst, arith}
use Rattle.std.specs.Prelude.{nat_le, if◌then◌else◌}
use Rattle.std.proofs.lemmas.Bool.Decides.{nat_tests}
use Rattle.agc_word.specs.declared.channel_write.ChannelWrite.{ChannelWrite}
use Rattle.agc_machine.specs.Laws.{AreRising}
use Rattle.agc_machine.specs.Run.{Run, run_of}
use Rattle.agc_machine.specs.State.{State}
use Rattle.agc_machine.specs.declared.answer.Stop.{Stop}
use Rattle.agc_panel.specs.Face.{panel_of}
use Rattle.agc_panel.specs.declared.face.Face.{Face}
use Rattle.agc_timeline.specs.Frames.{between, frames_after, frames_of, last_of, opening_of, up_to}
use Rattle.agc_timeline.specs.Run.{HasOpened, HasRecorded, HasTaken}
use Rattle.agc_trace.specs.declared.span.Span.{Span}
use Rattle.agc_timeline.specs.declared.recorder.Recorder.{Recorder}
use Rattle.agc_timeline.proofs.Spans.{first_part, second_part}

-- the frames that a recorder has of a run that was opened at the part's beginning and recorded to its end
pub frames_of_part : (part : Span) (s t u : State) (panel : Face) (old new : Recorder) → (o : HasOpened part.from s t panel) →
    ((before : List ChannelWrite) → panel ≡ panel_of before → HasTaken part.from before [] old) → HasRecorded (last_of part) t u old new →
    new.frames.items ≡ frames_of part (run_of s).writes
unfolding frames_of
frames_of_part part s t u panel old new o begins h =
    let xs = o.taken in
    let ys = h.taken in
    let zs = (run_of u).writes in
    let left : (run_of t).writes ≡ ys ++ zs = ap (λ (run : Run). run.writes) h.passed.come in
    let all : (run_of s).writes ≡ xs ++ (ys ++ zs) =
    ap (λ (run : Run). run.writes) o.passed.come ∙ ap (λ (ws : List ChannelWrite). xs ++ ws) left in
    let later = subst (AreRising (part.from + 1)) left o.passed.left_later in
    let before : up_to part.from (run_of s).writes ≡ xs = ap (up_to part.from) all ∙ first_part part.from xs (ys ++ zs) o.passed.taken_up_to later in
    let inside : between part.from (last_of part) (run_of s).writes ≡ ys =
    ap (between part.from (last_of part)) all
    ∙ second_part part.from (last_of part) xs ys zs o.passed.taken_up_to later h.passed.taken_up_to h.passed.left_later in
    (h.recorded part.from xs (begins xs o.panel_is)).frames
    ∙ ap (λ (ws : List ChannelWrite). opening_of part.from xs ++ frames_after xs ws) (sym inside)
    ∙ ap (λ (ws : List ChannelWrite). opening_of part.from ws ++ frames_after ws (between part.from (last_of part) (run_of s).writes)) (sym before)

by_test : (b : Bool) (stop stopped : Option Stop) → (b ≡ true → stop ≡ stopped) → (if b then stop else None) ≡ (if b then stopped else None)
by_test true stop stopped h = h refl
by_test false stop stopped h = refl

-- the stop that is recorded for a part's end
pub stop_reported : (cycle : ℕ) (u : State) (stop : Option Stop) → (u.cycle ≤ cycle → stop ≡ u.stopped) →
    (if nat_le u.cycle cycle then stop else None) ≡ (if nat_le u.cycle cycle then u.stopped else None)
stop_reported cycle u stop h = by_test (nat_le u.cycle cycle) stop u.stopped (λ t. h (grind (arith, nat_tests)))
