-- The logical orders work on sixteen digits, one by one.
use Rattle.std.specs.Prelude.{ℕ, ◌==◌, min, max, List, [], ◌∷◌, if◌then◌else◌}
use Rattle.agc_word.specs.Number.{Number}
use Rattle.agc_word.specs.Digits.{digits, number_of_digits}

-- a digit from each pair of digits in the same place
unfoldable pub digit_by_digit : (ℕ → ℕ → ℕ) → List ℕ → List ℕ → List ℕ
digit_by_digit f (d ∷ ds) (e ∷ es) = f d e ∷ digit_by_digit f ds es
digit_by_digit f _ _ = []

-- 1 if both digits are 1
unfoldable pub and_of : Number → Number → Number
and_of x y = number_of_digits (digit_by_digit min (digits 16 x) (digits 16 y))

-- 1 if either digit is 1
unfoldable pub or_of : Number → Number → Number
or_of x y = number_of_digits (digit_by_digit max (digits 16 x) (digits 16 y))

-- whether two digits differ
abbrev pub differing : ℕ → ℕ → ℕ
differing d e = if d == e then 0 else 1

-- 1 if the digits differ
unfoldable pub xor_of : Number → Number → Number
xor_of x y = number_of_digits (digit_by_digit differing (digits 16 x) (digits 16 y))
