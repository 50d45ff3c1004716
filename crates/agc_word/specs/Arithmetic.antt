-- What the adder does: sums, overflow and its correction, by signed integers with two zeros.
use Rattle.std.specs.Prelude.{zero, suc, ◌-◌, ◌%◌, ◌==◌, Bool, true, false, not, ◌&&◌}
use Rattle.std.specs.Prelude.{ℤ, pos, negsuc, ◌+ℤ◌, ◌-ℤ◌, int_lt, if◌then◌else◌}
use Rattle.agc_word.specs.Number.{Number, value}
use Rattle.agc_word.specs.declared.wide.Over.{Over}
use Rattle.agc_word.specs.declared.wide.Over.TheVariants as over

-- the number of an integer, with the given sign if the integer is 0
abbrev pub signed_number : Bool → ℤ → Number
signed_number sign_of_zero (pos zero) = record { minus = sign_of_zero; magnitude = 0 }
signed_number sign_of_zero (pos (suc n)) = record { minus = false; magnitude = suc n }
signed_number sign_of_zero (negsuc n) = record { minus = true; magnitude = suc n }

-- +0, the zero whose digits are all 0
abbrev pub is_plus_zero : Number → Bool
is_plus_zero x = not x.minus && (x.magnitude == 0)

-- A sum beyond sixteen digits: the carry out of the top digit is added again at the bottom, which
-- subtracts 65535.
abbrev pub wrapped : ℤ → ℤ
wrapped s =
    if int_lt (pos 0o77777) s
    then s -ℤ pos 65535
    else (if int_lt s (negsuc 32766) then s +ℤ pos 65535 else s)

-- The adder's sum. It is +0 only if both terms are +0: every other zero sum is -0, all ones.
unfoldable pub sum_of : Number → Number → Number
sum_of x y =
    signed_number (not (is_plus_zero x && is_plus_zero y)) (wrapped (value x +ℤ value y))

-- Overflow, which the machine sees as a difference between bits 16 and 15: a magnitude too large
-- for a narrow word.
unfoldable pub over_of : Number → Over
over_of x =
    if int_lt (pos 0o37777) (value x)
    then over.Plus
    else (if int_lt (value x) (negsuc 16382) then over.Minus else over.None)

-- Overflow correction: a stored word keeps its sign, and fourteen digits of its magnitude.
unfoldable pub narrow_of : Number → Number
narrow_of x = record x { magnitude = x.magnitude % 0o40000 }

-- the other sign, the same magnitude
unfoldable pub complement_of : Number → Number
complement_of x = record x { minus = not x.minus }

-- the diminished absolute value: plus, with the magnitude less one, not below 0
unfoldable pub dabs_of : Number → Number
dabs_of x = record { minus = false; magnitude = x.magnitude - 1 }
