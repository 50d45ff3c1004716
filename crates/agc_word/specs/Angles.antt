-- Angles are counted in two's complement, round a circle of 100000 octal patterns, but their difference is in ones'
-- complement.
use Rattle.std.specs.Prelude.{◌≡◌, false, ℤ, pos, negsuc, ◌+ℤ◌, ◌-ℤ◌, ◌*ℤ◌, ◌≤ℤ◌, int_lt, if◌then◌else◌}
use Rattle.agc_word.specs.Number.{Number, value, pattern_of}
use Rattle.agc_word.specs.Arithmetic.{signed_number}

-- the way from one pattern to another, as the difference of the patterns
abbrev pub pattern_difference : Number → Number → ℤ
pattern_difference a k = pos (pattern_of 15 a) -ℤ pos (pattern_of 15 k)

-- the shorter way round the circle, in -40000 .. 37777 octal
abbrev pub shorter_way : ℤ → ℤ
shorter_way d =
    if int_lt (pos 0o37777) d
    then d -ℤ pos 0o100000
    else (if int_lt d (negsuc 0o37777) then d +ℤ pos 0o100000 else d)

-- the shorter way from k to a; equal angles give +0
unfoldable pub modular_difference_of : Number → Number → Number
modular_difference_of a k = signed_number false (shorter_way (pattern_difference a k))

-- The law that determines it: a number in -40000 .. 37777 octal that equals the difference of the patterns up to whole
-- turns, and is not -0.
pub record IsModularDifference (a k d : Number) : Type 0 where
  pub least : negsuc 0o37777 ≤ℤ value d
  pub most : value d ≤ℤ pos 0o37777
  pub turns : (n : ℤ) × (pattern_difference a k ≡ value d +ℤ n *ℤ pos 0o100000)
  pub no_minus_zero : value d ≡ pos 0 → d.minus ≡ false
