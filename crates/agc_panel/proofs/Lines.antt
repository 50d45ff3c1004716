-- Text that is added piece by piece, or line by numbered line.
use Rattle.std.proofs.Common.{◌≡◌, ◌∙◌, ◌<◌, ◌+◌, ℕ, List, [], ◌∷◌, ◌++◌, ap, append-nil, append_assoc, add-one, arith, get_or, length, sym, take}
use Rattle.std.specs.List.{enumerate_from, flat_map}
use Rattle.std.proofs.Math.Seq.{take-suc}
use Rattle.std.proofs.lemmas.Grind.{flat_map-append}
use Rattle.std.proofs.lemmas.List.{length-take-le}
use Rattle.agc_panel.specs.TablesText.{numbered}

-- one more piece
pub piece_more : {A : Type 0} (piece : A → List ℕ) (xs : List A) (k : ℕ) (d : A) (text : List ℕ) → k < length xs
    → text ++ flat_map piece (take (k + 1) xs) ≡ (text ++ flat_map piece (take k xs)) ++ piece (get_or xs k d)
piece_more piece xs k d text h =
    rw (add-one, take-suc xs k d h, flat_map-append piece (take k xs) (get_or xs k d ∷ []), append-nil (piece (get_or xs k d)))
    (sym (append_assoc text (flat_map piece (take k xs)) (piece (get_or xs k d))))

-- one more numbered entry
numbers_more : {A : Type 0} (n : ℕ) (xs : List A) (x : A) → enumerate_from n (xs ++ x ∷ []) ≡ enumerate_from n xs ++ (n + length xs, x) ∷ []
numbers_more {A} n [] x = ap (λ (k : ℕ). (k, x) ∷ []) (omega arith)
numbers_more {A} n (y ∷ xs) x =
    ap (λ (rest : List (ℕ × A)). (n, y) ∷ rest)
    (numbers_more (n + 1) xs x ∙ ap (λ (k : ℕ). enumerate_from (n + 1) xs ++ (k, x) ∷ []) (omega arith))

-- before the first line
pub no_line : {A : Type 0} (line : ℕ → A → List ℕ) (text : List ℕ) → text ++ numbered line [] ≡ text
unfolding numbered
no_line line text = append-nil text

-- one more line
pub line_more : {A : Type 0} (line : ℕ → A → List ℕ) (xs : List A) (k : ℕ) (d : A) (text : List ℕ) → k < length xs
    → text ++ numbered line (take (k + 1) xs) ≡ (text ++ numbered line (take k xs)) ++ line k (get_or xs k d)
unfolding numbered
line_more {A} line xs k d text h =
    let x = get_or xs k d in
    let place : 0 + length (take k xs) ≡ k = omega (arith, length-take-le k xs (omega arith)) in
    let one = λ (entry : ℕ × A). line entry.0 entry.1 in
    rw (add-one, take-suc xs k d h, numbers_more 0 (take k xs) x, flat_map-append one (enumerate_from 0 (take k xs)) ((0 + length (take k xs), x) ∷ []), append-nil (line (0 + length (take k xs)) x), place)
    (sym (append_assoc text (flat_map one (enumerate_from 0 (take k xs))) (line k x)))

pub ruleset pieces = (piece_more)

pub ruleset numbered_lines = (no_line, line_more)
