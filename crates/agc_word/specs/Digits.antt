-- A word as a row of binary digits, the most significant first: what edits, shifts and the logical
-- orders work on.
use Rattle.std.specs.Prelude.{ℕ, zero, suc, ◌-◌, ◌/◌, ◌%◌, ◌^◌, ◌==◌, false}
use Rattle.std.specs.Prelude.{true, List, [], ◌∷◌, map, if◌then◌else◌}
use Rattle.std.specs.Int.Digits.{number_from_digits}
use Rattle.agc_word.specs.Number.{Number}

-- the lowest n binary digits of m
unfoldable pub binary : ℕ → ℕ → List ℕ
binary zero m = []
binary (suc n) m = (m / 2 ^ n % 2) ∷ binary n m

-- the other digit
abbrev pub flipped : ℕ → ℕ
flipped d = 1 - d

-- the digits of a word of n digits: 0 for plus followed by the magnitude's, or 1 for minus followed
-- by the magnitude's flipped
unfoldable pub digits : ℕ → Number → List ℕ
digits n x =
    if x.minus
    then 1 ∷ map flipped (binary (n - 1) x.magnitude)
    else 0 ∷ binary (n - 1) x.magnitude

-- the number that a row of digits writes
unfoldable pub number_of_digits : List ℕ → Number
number_of_digits [] = record { minus = false; magnitude = 0 }
number_of_digits (sign ∷ rest) =
    if sign == 0
    then record { minus = false; magnitude = number_from_digits 2 rest }
    else record { minus = true; magnitude = number_from_digits 2 (map flipped rest) }
