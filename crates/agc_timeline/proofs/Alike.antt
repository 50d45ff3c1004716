-- Two lists that are the same as far as they were compared.
use Rattle.std.proofs.Common.{◌≡◌, ◌∙◌, ◌+◌, ◌<◌, ◌≤◌, ℕ, List, [], ◌∷◌, ◌++◌, ap, sym, add-one, arith, get_or, length, take}
use Rattle.std.proofs.Math.Seq.{take-suc}
use Rattle.std.proofs.lemmas.List.{take_all}

module _ {A : Type 0} (xs ys : List A) where
  pub one_more_alike : (k : ℕ) (x y : A) → k < length xs → length xs ≡ length ys → get_or xs k x ≡ x → get_or ys k y ≡ y → x ≡ y → take k xs ≡ take k ys →
      take (k + 1) xs ≡ take (k + 1) ys
  one_more_alike k x y l e f g same h =
      rw (add-one, take-suc xs k x l, take-suc ys k y (omega (arith, l, e)), f, g)
      (ap (λ (zs : List A). zs ++ x ∷ []) h ∙ ap (λ (z : A). take k ys ++ z ∷ []) same)

  pub all_alike : (k : ℕ) → length xs ≤ k → length xs ≡ length ys → take k xs ≡ take k ys → xs ≡ ys
  all_alike k l e h = sym (take_all k xs (omega (arith, l))) ∙ h ∙ take_all k ys (omega (arith, l, e))
