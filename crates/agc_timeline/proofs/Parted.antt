-- The first difference of two films, frame by frame.
use Rattle.std.proofs.Common.{◌≡◌, Bool, true, false, List, [], ◌∷◌, Some, None, ap, sym, ◌∙◌}
use Rattle.std.specs.Prelude.{if◌then◌else◌, min}
use Rattle.agc_timeline.specs.Divergence.{first_difference, is_same_frame}
use Rattle.agc_timeline.specs.declared.frame.Frame.{Frame}

at_both : (lefts rights ls rs : List Frame) → lefts ≡ ls → rights ≡ rs → first_difference lefts rights ≡ first_difference ls rs
at_both lefts rights ls rs p q = ap (λ (xs : List Frame). first_difference xs rights) p ∙ ap (first_difference ls) q

pub part_never : (lefts rights : List Frame) → lefts ≡ [] → rights ≡ [] → None ≡ first_difference lefts rights
unfolding first_difference
part_never lefts rights p q = sym (at_both lefts rights [] [] p q)

pub part_at_left : (lefts rights ls : List Frame) (l : Frame) → lefts ≡ l ∷ ls → rights ≡ [] → Some l.cycle ≡ first_difference lefts rights
unfolding first_difference
part_at_left lefts rights ls l p q = sym (at_both lefts rights (l ∷ ls) [] p q)

pub part_at_right : (lefts rights rs : List Frame) (r : Frame) → lefts ≡ [] → rights ≡ r ∷ rs → Some r.cycle ≡ first_difference lefts rights
unfolding first_difference
part_at_right lefts rights rs r p q = sym (at_both lefts rights [] (r ∷ rs) p q)

pub part_later : (lefts rights ls rs : List Frame) (l r : Frame) → lefts ≡ l ∷ ls → rights ≡ r ∷ rs → true ≡ is_same_frame l r →
    first_difference ls rs ≡ first_difference lefts rights
unfolding first_difference
part_later lefts rights ls rs l r p q e =
    ap (λ (same : Bool). if same then first_difference ls rs else Some (min l.cycle r.cycle)) e
    ∙ sym (at_both lefts rights (l ∷ ls) (r ∷ rs) p q)

pub part_here : (lefts rights ls rs : List Frame) (l r : Frame) → lefts ≡ l ∷ ls → rights ≡ r ∷ rs → false ≡ is_same_frame l r →
    Some (min l.cycle r.cycle) ≡ first_difference lefts rights
unfolding first_difference
part_here lefts rights ls rs l r p q e =
    ap (λ (same : Bool). if same then first_difference ls rs else Some (min l.cycle r.cycle)) e
    ∙ sym (at_both lefts rights (l ∷ ls) (r ∷ rs) p q)
