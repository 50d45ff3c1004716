-- Two observations that are alike.
use Rattle.std.proofs.Common.{◌≡◌, ◌≢◌, ℕ, Bool, false, List, Some, ap, sym, ◌∙◌}
use Rattle.std.specs.Prelude.{◌↔◌, IsTrue}
use Rattle.std.proofs.lemmas.Slice.Eq.{bytes_eq-Decides}
use Rattle.agc_panel.specs.Text.{panel_text, shows_same}
use Rattle.agc_panel.specs.declared.face.Face.{Face}
use Rattle.agc_diff.specs.ObservedPrefix.{seen as seen_of}
use Rattle.agc_diff.specs.Observation.{InPrint, Look, look_of}
use Rattle.agc_diff.specs.declared.observed.observation.Observation.{Observation}
use Rattle.agc_diff.specs.declared.observed.observation.Observed.{Observed}
use Rattle.agc_diff.specs.declared.observed.observation.Observed.TheVariants as seen

same_print : (x y : List ℕ) → InPrint x ≡ InPrint y → x ≡ y
same_print x y e = cc

-- two panels are alike if they show the same
pub alike_in_print : (alike : Bool) (one other : Face) (sight : Observed) → sight ≡ seen.Panel other → alike ≡ shows_same one other → IsTrue alike ↔ (InPrint (panel_text one) ≡ look_of sight)
alike_in_print alike one other sight e h =
    let texts = bytes_eq-Decides (panel_text one) (panel_text other) in
    rw e (λ yes. ap InPrint (texts.0 (sym h ∙ yes)), λ same. h ∙ texts.1 (same_print (panel_text one) (panel_text other) same))

same_look : (x y : Look) → Some x ≡ Some y → x ≡ y
same_look x y e = cc

-- both show something that is not alike
pub differ_by : (x y : Observation) (alike : Bool) → IsTrue alike ↔ (look_of x.sight ≡ look_of y.sight) → alike ≡ false → seen_of (Some x) ≢ seen_of (Some y)
differ_by x y alike law apart same = let yes = law.1 (same_look (look_of x.sight) (look_of y.sight) same) in cc
