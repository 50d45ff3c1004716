-- One more line, after the lines of some cells.
use Rattle.std.specs.Prelude.{◌≡◌, ℕ, zero, suc, ◌+◌, ◌-◌, ◌++◌, ◌≤◌, List, flat_map}
use Rattle.std.specs.List.{range_with_len}
use Rattle.std.proofs.Common.{◌∙◌, sym, ap, refl, append-nil, append_assoc, arith}

more_lines : (line : ℕ → List ℕ) (first n : ℕ) → flat_map line (range_with_len first (suc n)) ≡ flat_map line (range_with_len first n) ++ line (first + n)
more_lines line first zero = let e : first + 0 ≡ first = omega arith in rw e (append-nil (line first))
more_lines line first (suc n) =
    let e : first + suc n ≡ first + 1 + n = omega arith in
    rw e (ap (λ (rest : List ℕ). line first ++ rest) (more_lines line (first + 1) n)
    ∙ sym (append_assoc (line first) (flat_map line (range_with_len (first + 1) n)) (line (first + 1 + n))))

-- up to a cell, and including it
pub lines_with : (line : ℕ → List ℕ) (first cell : ℕ) (before now after : List ℕ) → first ≤ cell
    → now ≡ before ++ flat_map line (range_with_len first (cell - first)) → after ≡ now ++ line cell
    → after ≡ before ++ flat_map line (range_with_len first (cell + 1 - first))
lines_with line first cell before now after reached so_far more =
    let count : cell + 1 - first ≡ suc (cell - first) = omega arith in
    let last : first + (cell - first) ≡ cell = omega arith in
    let one = rw last at (more_lines line first (cell - first)) in
    rw (count, one) (more ∙ rw (so_far, append_assoc) refl)
