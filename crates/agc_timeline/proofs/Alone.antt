-- Two films, one of which has a frame before all frames of the other: they diverge there.
use Rattle.std.proofs.Common.{◌≡◌, ◌≢◌, ℕ, ◌+◌, ◌<◌, List, ◌∷◌, Some, sym, ◌∙◌, arith, inl, inr}
use Rattle.std.specs.Prelude.{min}
use Rattle.std.proofs.lemmas.Bool.Decides.{leb_tells}
use Rattle.agc_panel.specs.Text.{panel_text}
use Rattle.agc_panel.specs.declared.face.Face.{Face}
use Rattle.agc_timeline.specs.Laws.{AreCuts}
use Rattle.agc_timeline.specs.declared.frame.Frame.{Frame}
use Rattle.agc_timeline.proofs.Differ.{DifferFirst, at_the_same_cycle, the_other_way}
use Rattle.agc_timeline.proofs.PanelAt.{text_at, text_at_frame, text_before_all, text_before_frame}

-- the film on the left has the first frame
pub left_alone : (from : ℕ) (a b : Face) (l : Frame) (ls rs : List Frame) → panel_text a ≡ panel_text b → AreCuts from (panel_text a) (l ∷ ls) →
    AreCuts (l.cycle + 1) (panel_text b) rs → DifferFirst from (text_at a (l ∷ ls)) (text_at b rs) (Some l.cycle)
left_alone from a b l ls rs same left right = (
  left.0,
  λ alike. left.1 (sym (text_at_frame from a l ls left) ∙ alike ∙ text_before_all (l.cycle + 1) b rs l.cycle right (omega arith) ∙ sym same),
  λ n before. text_before_frame from a l ls n left before ∙ same ∙ sym (text_before_all (l.cycle + 1) b rs n right (omega (arith, before))),
)

-- the film on the right has it
pub right_alone : (from : ℕ) (a b : Face) (r : Frame) (ls rs : List Frame) → panel_text a ≡ panel_text b → AreCuts (r.cycle + 1) (panel_text a) ls →
    AreCuts from (panel_text b) (r ∷ rs) → DifferFirst from (text_at a ls) (text_at b (r ∷ rs)) (Some r.cycle)
right_alone from a b r ls rs same left right =
    the_other_way from (text_at b (r ∷ rs)) (text_at a ls) r.cycle (left_alone from b a r rs ls (sym same) right left)

-- both films have frames, the first ones at two cycles: the films diverge at the earlier one
pub earlier_alone : (from : ℕ) (a b : Face) (l r : Frame) (ls rs : List Frame) → panel_text a ≡ panel_text b → AreCuts from (panel_text a) (l ∷ ls) →
    AreCuts from (panel_text b) (r ∷ rs) → l.cycle ≢ r.cycle → DifferFirst from (text_at a (l ∷ ls)) (text_at b (r ∷ rs)) (Some (min l.cycle r.cycle))
earlier_alone from a b l r ls rs same left right differ =
    elim (leb_tells l.cycle r.cycle) [
      | inl past ↦
          let first : l.cycle < r.cycle = omega (arith, past.1, differ) in
          at_the_same_cycle from (text_at a (l ∷ ls)) (text_at b (r ∷ rs)) l.cycle (min l.cycle r.cycle) (omega (arith, first))
          (left_alone from a b l ls (r ∷ rs) same left (omega (arith, first), right.1, right.2))
      | inr past ↦
          at_the_same_cycle from (text_at a (l ∷ ls)) (text_at b (r ∷ rs)) r.cycle (min l.cycle r.cycle) (omega (arith, past.1))
          (right_alone from a b r (l ∷ ls) rs same (omega (arith, past.1), left.1, left.2) right)
    ]
