-- The frames of a run are cuts: each is later than the one before it and shows something else.
use Rattle.std.proofs.Common.{◌≡◌, ℕ, ◌+◌, ◌≤◌, Bool, true, false, Option, Some, None, List, [], ◌∷◌, ◌++◌, refl, sym, subst, arith}
use Rattle.std.specs.Prelude.{if◌then◌else◌}
use Rattle.std.specs.Str.{bytes_eq}
use Rattle.std.proofs.lemmas.Bool.Decides.{not_from_Decides}
use Rattle.std.proofs.lemmas.Slice.Eq.{bytes_eq-Decides}
use Rattle.agc_word.specs.declared.channel_write.ChannelWrite.{ChannelWrite}
use Rattle.agc_machine.specs.Laws.{AreRising}
use Rattle.agc_machine.specs.Run.{run_of}
use Rattle.agc_machine.specs.State.{State}
use Rattle.agc_machine.proofs.Chain.{run_rises}
use Rattle.agc_panel.specs.Face.{panel_of}
use Rattle.agc_panel.specs.Text.{panel_text}
use Rattle.agc_panel.specs.declared.face.Face.{Face}
use Rattle.agc_timeline.specs.Frames.{between, frame_of, frames_after, frames_of, last_of, opening_of, shown_after, up_to}
use Rattle.agc_timeline.specs.Laws.{AreCuts, frames_of_run}
use Rattle.agc_timeline.specs.declared.frame.Frame.{Frame}
use Rattle.agc_trace.specs.declared.span.Span.{Span}
use Rattle.agc_timeline.proofs.Spans.{between_rises}

-- the frame of a write, if the two panels do not show the same
abbrev pub one_or_none : Bool → ℕ → Option ChannelWrite → Face → List Frame
one_or_none alike cycle write face = if alike then [] else record { cycle = cycle; written = write; panel = face } ∷ []

pub cuts_later : (from later : ℕ) (shown : List ℕ) (frames : List Frame) → from ≤ later → AreCuts later shown frames → AreCuts from shown frames
cuts_later from later shown [] l h = tt
cuts_later from later shown (frame ∷ frames) l h = (omega (arith, h.0), h.1, h.2)

cut : (from : ℕ) (shown : List ℕ) (cycle : ℕ) (write : Option ChannelWrite) (face : Face) (rest : List Frame) (alike : Bool) → bytes_eq shown (panel_text face) ≡ alike →
    from ≤ cycle → AreCuts (cycle + 1) (panel_text face) rest → AreCuts from shown (one_or_none alike cycle write face ++ rest)
cut from shown cycle write face rest true e l h =
    let d = bytes_eq-Decides shown (panel_text face) in
    cuts_later from (cycle + 1) shown rest (omega (arith, l)) (subst (λ (text : List ℕ). AreCuts (cycle + 1) text rest) (sym (d.0 e)) h)
cut from shown cycle write face rest false e l h = (l, λ same. not_from_Decides _ (bytes_eq-Decides shown (panel_text face)) e (sym same), h)

pub cuts_after : (from : ℕ) (before writes : List ChannelWrite) → AreRising from writes → AreCuts from (shown_after before) (frames_after before writes)
unfolding frames_after frame_of shown_after
cuts_after from before [] r = tt
cuts_after from before (write ∷ writes) r =
    cut from (panel_text (panel_of before)) write.cycle (Some write) (panel_of (before ++ write ∷ [])) (frames_after (before ++ write ∷ []) writes)
    (bytes_eq (panel_text (panel_of before)) (panel_text (panel_of (before ++ write ∷ [])))) refl r.0
    (cuts_after (write.cycle + 1) (before ++ write ∷ []) writes r.2)

-- the frames of a part, from its writes
pub part_is_cut : (from : ℕ) (before writes : List ChannelWrite) → AreRising (from + 1) writes →
    AreCuts from (shown_after []) (opening_of from before ++ frames_after before writes)
unfolding opening_of shown_after
part_is_cut from before writes r =
    cut from (panel_text (panel_of [])) from None (panel_of before) (frames_after before writes)
    (bytes_eq (panel_text (panel_of [])) (panel_text (panel_of before))) refl (omega arith) (cuts_after (from + 1) before writes r)

pub film_is_cut : (s : State) (part : Span) → AreCuts part.from (shown_after []) (frames_of_run part s)
unfolding frames_of
film_is_cut s part =
    part_is_cut part.from (up_to part.from (run_of s).writes) (between part.from (last_of part) (run_of s).writes)
    (between_rises part.from (last_of part) s.cycle (run_of s).writes (run_rises s))
