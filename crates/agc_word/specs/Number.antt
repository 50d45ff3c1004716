-- Ones' complement numbers: a sign and a magnitude, so there are two zeros.
use Rattle.std.specs.Prelude.{ℕ, ◌-◌, ◌/◌, ◌%◌, ◌^◌, Bool, true, false, ℤ, pos, neg_ℤ, if◌then◌else◌, nat_lt}

-- A number of the machine. A narrow word has magnitudes up to 37777 octal, a wide word up to 77777 octal.
pub record Number : Type 0 where
  pub minus : Bool
  pub magnitude : ℕ

-- the numbers that counters and orders count by
abbrev pub plus_one : Number
plus_one = record { minus = false; magnitude = 1 }

abbrev pub minus_one : Number
minus_one = record { minus = true; magnitude = 1 }

-- the integer that a number stands for: both zeros stand for 0
abbrev pub value : Number → ℤ
value x = if x.minus then neg_ℤ (pos x.magnitude) else pos x.magnitude

-- the number that a pattern of n digits stands for: a top digit of 1 means minus, and then every
-- digit is flipped
abbrev pub number_from_pattern : ℕ → ℕ → Number
number_from_pattern n p =
    if nat_lt p (2 ^ (n - 1))
    then record { minus = false; magnitude = p }
    else record { minus = true; magnitude = 2 ^ n - 1 - p }

-- the pattern of n digits that stands for a number
abbrev pub pattern_of : ℕ → Number → ℕ
pattern_of n x = if x.minus then 2 ^ n - 1 - x.magnitude else x.magnitude

-- bit i of a narrow word, counted from 1 on the right
unfoldable pub bit_of : ℕ → Number → ℕ
bit_of i x = pattern_of 15 x / 2 ^ (i - 1) % 2
