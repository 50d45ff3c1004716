-- What a film shows at a cycle is the panel of the writes up to then.
use Rattle.std.proofs.Common.{◌≡◌, ℕ, ◌+◌, ◌≤◌, Bool, true, false, Option, Some, None, List, [], ◌∷◌, ◌++◌, refl, ap, sym, ◌∙◌, arith, append_assoc, append-nil, inl, inr}
use Rattle.std.specs.Prelude.{cond, filter, nat_le}
use Rattle.std.specs.Str.{bytes_eq}
use Rattle.std.proofs.lemmas.Bool.Decides.{leb_tells}
use Rattle.std.proofs.lemmas.Slice.Eq.{bytes_eq-Decides}
use Rattle.agc_word.specs.declared.channel_write.ChannelWrite.{ChannelWrite}
use Rattle.agc_machine.specs.Laws.{AreRising}
use Rattle.agc_machine.specs.Run.{run_of}
use Rattle.agc_machine.specs.State.{State}
use Rattle.agc_machine.proofs.Chain.{run_rises}
use Rattle.agc_panel.specs.Face.{panel_of}
use Rattle.agc_panel.specs.Text.{panel_text}
use Rattle.agc_panel.specs.declared.face.Face.{Face}
use Rattle.agc_timeline.specs.Frames.{between, frame_of, frames_after, frames_of, last_of, opening_of, shown_after, shown_at, up_to}
use Rattle.agc_timeline.specs.Laws.{frames_of_run, writes_up_to}
use Rattle.agc_timeline.specs.declared.frame.Frame.{Frame}
use Rattle.agc_trace.specs.declared.span.Span.{Span}
use Rattle.agc_timeline.proofs.Cuts.{cuts_after, one_or_none}
use Rattle.agc_timeline.proofs.Spanned.{up_to_between}
use Rattle.agc_timeline.proofs.Spans.{between_rises, none_up_to}
use Rattle.agc_timeline.proofs.PanelAt.{panel_at, panel_before, panel_after_more, panel_past}

one_past : (a b : Face) (write_cycle : ℕ) (write : Option ChannelWrite) (cycle : ℕ) (rest : List Frame) (alike : Bool) → bytes_eq (panel_text a) (panel_text b) ≡ alike → write_cycle ≤ cycle →
    panel_text (panel_at a (one_or_none alike write_cycle write b ++ rest) cycle) ≡ panel_text (panel_at b rest cycle)
one_past a b write_cycle write cycle rest true e l = let d = bytes_eq-Decides (panel_text a) (panel_text b) in panel_after_more a b rest cycle (d.0 e)
one_past a b write_cycle write cycle rest false e l = ap panel_text (panel_past a (record { cycle = write_cycle; written = write; panel = b }) rest cycle l)

shown_after_more : (from : ℕ) (before writes : List ChannelWrite) (cycle : ℕ) → AreRising from writes →
    panel_text (panel_at (panel_of before) (frames_after before writes) cycle)
    ≡ panel_text (panel_of (before ++ filter (λ write. nat_le write.cycle cycle) writes))
unfolding frames_after frame_of shown_after
shown_after_more from before [] cycle r = ap (λ (all : List ChannelWrite). panel_text (panel_of all)) (sym (append-nil before))
shown_after_more from before (write ∷ writes) cycle r =
    elim (leb_tells write.cycle cycle) [
      | inl past ↦
          one_past (panel_of before) (panel_of (before ++ write ∷ [])) write.cycle (Some write) cycle (frames_after (before ++ write ∷ []) writes)
          (bytes_eq (panel_text (panel_of before)) (panel_text (panel_of (before ++ write ∷ [])))) refl past.1
          ∙ shown_after_more (write.cycle + 1) (before ++ write ∷ []) writes cycle r.2
          ∙ ap (λ (all : List ChannelWrite). panel_text (panel_of all)) (append_assoc before (write ∷ []) (filter (λ one. nat_le one.cycle cycle) writes))
          ∙ ap
          (λ (b : Bool). panel_text (panel_of (before ++ cond b (write ∷ filter (λ one. nat_le one.cycle cycle) writes) (filter (λ one. nat_le one.cycle cycle) writes))))
          (sym past.0)
      | inr later ↦
          ap panel_text (panel_before write.cycle (shown_after before) (panel_of before) (frames_after before (write ∷ writes)) cycle
          (cuts_after write.cycle before (write ∷ writes) (omega arith, r.1, r.2)) later.1)
          ∙ ap (λ (all : List ChannelWrite). panel_text (panel_of all)) (sym (append-nil before))
          ∙ ap (λ (more : List ChannelWrite). panel_text (panel_of (before ++ more)))
          (sym (none_up_to write.cycle cycle (write ∷ writes) later.1 (omega arith, r.1, r.2)))
    ]

-- with the frame of the opening
shown_in_part : (from : ℕ) (before writes : List ChannelWrite) (cycle : ℕ) → from ≤ cycle → AreRising (from + 1) writes →
    shown_at (opening_of from before ++ frames_after before writes) cycle ≡ shown_after (before ++ up_to cycle writes)
unfolding opening_of shown_at shown_after
shown_in_part from before writes cycle l r =
    one_past (panel_of []) (panel_of before) from None cycle (frames_after before writes)
    (bytes_eq (panel_text (panel_of [])) (panel_text (panel_of before))) refl l
    ∙ shown_after_more (from + 1) before writes cycle r

pub film_is_the_panel : (s : State) (part : Span) (cycle : ℕ) → part.from ≤ cycle → cycle ≤ part.to →
    shown_at (frames_of_run part s) cycle ≡ shown_after (writes_up_to cycle s)
unfolding frames_of
film_is_the_panel s part cycle l h =
    let ws = (run_of s).writes in
    shown_in_part part.from (up_to part.from ws) (between part.from (last_of part) ws) cycle l
    (between_rises part.from (last_of part) s.cycle ws (run_rises s))
    ∙ ap shown_after (up_to_between part.from (last_of part) s.cycle cycle ws l (omega (arith, h)) (run_rises s))
