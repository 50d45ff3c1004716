-- What each edit makes of a pattern.
use Rattle.std.proofs.Common.{◌≡◌, ℕ, ◌+◌, ◌*◌, ◌/◌, ◌%◌, ◌^◌, ◌<◌, List, ◌++◌, take, drop, replicate, ap, ap₂, sym, refl, ◌∙◌, arith, zero-add}
use Rattle.agc_word.specs.Number.{number_from_pattern}
use Rattle.agc_word.specs.Digits.{binary, number_of_digits}
use Rattle.agc_word.specs.Edits.{edited}
use Rattle.agc_word.specs.declared.edit.Edit.TheVariants as edit
use Rattle.agc_word.proofs.Digits.{binary-cat, take-binary, drop-binary, digits-number_from_pattern, number_of_digits-binary}

-- two rows of digits that are joined into a word
pub joined : (j k a b : ℕ) → j + k ≡ 15 → b < 2 ^ k → a * 2 ^ k + b < 2 ^ 15 → number_of_digits (binary j a ++ binary k b) ≡ number_from_pattern 15 (a * 2 ^ k + b)
joined j k a b whole low fits =
    ap number_of_digits (sym (binary-cat j k a b low))
    ∙ ap (λ (n : ℕ). number_of_digits (binary n (a * 2 ^ k + b))) whole
    ∙ number_of_digits-binary 14 (a * 2 ^ k + b) fits

pub edited-cyr : (p : ℕ) → p < 2 ^ 15 → edited edit.Cyr (number_from_pattern 15 p) ≡ number_from_pattern 15 (p % 2 * 16384 + p / 2)
unfolding edited
edited-cyr p h =
    ap (λ (ds : List ℕ). number_of_digits (drop 14 ds ++ take 14 ds)) (digits-number_from_pattern 14 p h)
    ∙ ap₂ (λ (xs ys : List ℕ). number_of_digits (xs ++ ys)) (drop-binary 14 1 p) (take-binary 14 1 p)
    ∙ joined 1 14 (p % 2) (p / 2) refl (omega arith) (omega arith)

pub edited-sr : (p : ℕ) → p < 2 ^ 15 → edited edit.Sr (number_from_pattern 15 p) ≡ number_from_pattern 15 (p / 16384 * 16384 + p / 2)
unfolding edited
edited-sr p h =
    ap (λ (ds : List ℕ). number_of_digits (take 1 ds ++ take 14 ds)) (digits-number_from_pattern 14 p h)
    ∙ ap₂ (λ (xs ys : List ℕ). number_of_digits (xs ++ ys)) (take-binary 1 14 p) (take-binary 14 1 p)
    ∙ joined 1 14 (p / 16384) (p / 2) refl (omega arith) (omega arith)

pub edited-cyl : (p : ℕ) → p < 2 ^ 15 → edited edit.Cyl (number_from_pattern 15 p) ≡ number_from_pattern 15 (p % 16384 * 2 + p / 16384)
unfolding edited
edited-cyl p h =
    ap (λ (ds : List ℕ). number_of_digits (drop 1 ds ++ take 1 ds)) (digits-number_from_pattern 14 p h)
    ∙ ap₂ (λ (xs ys : List ℕ). number_of_digits (xs ++ ys)) (drop-binary 1 14 p) (take-binary 1 14 p)
    ∙ joined 14 1 (p % 16384) (p / 16384) refl (omega arith) (omega arith)

pub edited-edop : (p : ℕ) → p < 2 ^ 15 → edited edit.Edop (number_from_pattern 15 p) ≡ number_from_pattern 15 (p % 16384 / 128)
unfolding edited binary
edited-edop p h =
    ap (λ (ds : List ℕ). number_of_digits (replicate 8 0 ++ take 7 (drop 1 ds))) (digits-number_from_pattern 14 p h)
    ∙ ap (λ (ds : List ℕ). number_of_digits (replicate 8 0 ++ take 7 ds)) (drop-binary 1 14 p)
    ∙ ap (λ (ds : List ℕ). number_of_digits (replicate 8 0 ++ ds)) (take-binary 7 7 (p % 16384))
    ∙ joined 8 7 0 (p % 16384 / 128) refl (omega arith) (omega arith)
    ∙ ap (number_from_pattern 15) (zero-add (p % 16384 / 128))
