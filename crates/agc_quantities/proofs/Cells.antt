-- One more cell of a quantity.
use Rattle.std.proofs.Common.{◌≡◌, ℕ, ◌+◌, ◌-◌, ◌≤◌, suc, zero, List, [], ◌∷◌, ◌++◌, ap, ◌∙◌, arith}
use Rattle.std.specs.List.{range_with_len}

one_more : (a n : ℕ) → range_with_len a (suc n) ≡ range_with_len a n ++ (a + n) ∷ []
one_more a zero = let same : a ≡ a + zero = omega arith in ap (λ (k : ℕ). k ∷ []) same
one_more a (suc n) =
    let same : (a + 1) + n ≡ a + suc n = omega arith in
    ap (λ (l : List ℕ). a ∷ l) (one_more (a + 1) n ∙ ap (λ (k : ℕ). range_with_len (a + 1) n ++ k ∷ []) same)

-- the cells from the first one on, up to the next
pub next_cell : (first number : ℕ) → first ≤ number → range_with_len first (number + 1 - first) ≡ range_with_len first (number - first) ++ number ∷ []
next_cell first number h =
    let longer : number + 1 - first ≡ suc (number - first) = omega arith in
    let last : first + (number - first) ≡ number = omega arith in
    ap (range_with_len first) longer ∙ one_more first (number - first) ∙ ap (λ (k : ℕ). range_with_len first (number - first) ++ k ∷ []) last
