-- The signs of words: +1, -1 and +0, which orders add and leave, and the tests of a sign.
use Rattle.std.specs.Prelude.{ℕ, ◌==◌, ◌||◌, Bool, false, if◌then◌else◌}
use Rattle.agc_word.specs.Number.{Number, plus_one, minus_one}
use Rattle.agc_word.specs.declared.wide.Over.{Over}
use Rattle.agc_word.specs.declared.wide.Over.TheVariants as over

-- the word with all digits 0
abbrev pub plus_zero : Number
plus_zero = record { minus = false; magnitude = 0 }

-- the word of an overflow: +1, -1, or +0 without one
abbrev pub overflow_word : Over → Number
overflow_word over.Plus = plus_one
overflow_word over.Minus = minus_one
overflow_word over.None = plus_zero

-- either zero, on which BZF jumps
abbrev pub is_zero : Number → Bool
is_zero x = x.magnitude == 0

-- what BZMF jumps on: the sign minus, or +0
abbrev pub is_minus_or_plus_zero : Number → Bool
is_minus_or_plus_zero x = x.minus || is_zero x

-- how many orders CCS skips: 0 for a positive word, then +0, negative, -0
abbrev pub ccs_skip : Number → ℕ
ccs_skip x = if x.minus then (if is_zero x then 3 else 2) else (if is_zero x then 1 else 0)
