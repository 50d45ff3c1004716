-- Two films that have their first frames at the same cycle.
use Rattle.std.proofs.Common.{◌≡◌, ◌≢◌, ℕ, ◌+◌, List, ◌∷◌, Option, Some, None, sym, ◌∙◌, subst, arith, inl, inr}
use Rattle.std.proofs.lemmas.Bool.Decides.{leb_tells}
use Rattle.agc_panel.specs.Text.{panel_text}
use Rattle.agc_panel.specs.declared.face.Face.{Face}
use Rattle.agc_timeline.specs.Laws.{AreCuts}
use Rattle.agc_timeline.specs.declared.frame.Frame.{Frame}
use Rattle.agc_timeline.proofs.Differ.{DifferFirst}
use Rattle.agc_timeline.proofs.PanelAt.{text_at, text_at_frame, text_before_frame, text_after_frame}

-- these frames differ: the films diverge there
pub frames_differ : (from : ℕ) (a b : Face) (l r : Frame) (ls rs : List Frame) → panel_text a ≡ panel_text b → AreCuts from (panel_text a) (l ∷ ls) →
    AreCuts from (panel_text b) (r ∷ rs) → r.cycle ≡ l.cycle → panel_text l.panel ≢ panel_text r.panel →
    DifferFirst from (text_at a (l ∷ ls)) (text_at b (r ∷ rs)) (Some l.cycle)
frames_differ from a b l r ls rs same left right at_once differ =
    let right_text = subst (λ (n : ℕ). text_at b (r ∷ rs) n ≡ panel_text r.panel) at_once (text_at_frame from b r rs right) in (
      left.0,
      λ alike. differ (sym (text_at_frame from a l ls left) ∙ alike ∙ right_text),
      λ n before.
          text_before_frame from a l ls n left before ∙ same
          ∙ sym (text_before_frame from b r rs n right (omega (arith, before, at_once))),
    )

-- if the films show the same after these frames at a cycle, they show the same with them
pub same_with_frames : (from : ℕ) (a b : Face) (l r : Frame) (ls rs : List Frame) (n : ℕ) → panel_text a ≡ panel_text b →
    AreCuts from (panel_text a) (l ∷ ls) → AreCuts from (panel_text b) (r ∷ rs) → r.cycle ≡ l.cycle →
    text_at l.panel ls n ≡ text_at r.panel rs n → text_at a (l ∷ ls) n ≡ text_at b (r ∷ rs) n
same_with_frames from a b l r ls rs n same left right at_once alike =
    elim (leb_tells l.cycle n) [
      | inl past ↦ text_after_frame a l ls n past.1 ∙ alike ∙ sym (text_after_frame b r rs n (omega (arith, past.1, at_once)))
      | inr before ↦
          text_before_frame from a l ls n left before.1 ∙ same
          ∙ sym (text_before_frame from b r rs n right (omega (arith, before.1, at_once)))
    ]

-- the films first differ where they do after these frames
pub differ_after_more : (from : ℕ) (a b : Face) (l r : Frame) (ls rs : List Frame) (at : Option ℕ) → panel_text a ≡ panel_text b →
    AreCuts from (panel_text a) (l ∷ ls) → AreCuts from (panel_text b) (r ∷ rs) → r.cycle ≡ l.cycle →
    DifferFirst (l.cycle + 1) (text_at l.panel ls) (text_at r.panel rs) at → DifferFirst from (text_at a (l ∷ ls)) (text_at b (r ∷ rs)) at
differ_after_more from a b l r ls rs None same left right at_once d = λ n. same_with_frames from a b l r ls rs n same left right at_once (d n)
differ_after_more from a b l r ls rs (Some cycle) same left right at_once d = (
  omega (arith, left.0, d.0),
  λ alike. d.1
      (sym (text_after_frame a l ls cycle (omega (arith, d.0))) ∙ alike ∙ text_after_frame b r rs cycle (omega (arith, d.0, at_once))),
  λ n before. same_with_frames from a b l r ls rs n same left right at_once (d.2 n before),
)
