-- Numbers in text, in octal and in decimal.
use Rattle.std.specs.Prelude.{ℕ, ◌+◌, ◌-◌, ◌*◌, nat_lt, nat_le, Bool, ◌&&◌, List}
use Rattle.std.specs.Prelude.{length, fold, Option, Some, None, if◌then◌else◌}
use Rattle.std.specs.List.{list_all}

-- whether a byte is a digit of a base up to ten: the digits are in order from 48 on
abbrev pub is_digit : ℕ → ℕ → Bool
is_digit base b = nat_le 48 b && nat_lt b (48 + base)

-- the value of digits in a base, the most significant first
abbrev pub digits_value : ℕ → List ℕ → ℕ
digits_value base text = fold (λ n b. n * base + (b - 48)) 0 text

-- the number that a text writes in a base, with 1 to `most` digits; other texts write no number
unfoldable pub number_of : ℕ → ℕ → List ℕ → Option ℕ
number_of base most text =
    if nat_le 1 (length text) && nat_le (length text) most && list_all (is_digit base) text
    then Some (digits_value base text)
    else None

-- the number that a text writes in octal, with 1 to `most` digits
abbrev pub octal_number : ℕ → List ℕ → Option ℕ
octal_number most text = number_of 8 most text

-- the number that a text writes in decimal, with 1 to `most` digits
abbrev pub decimal_number : ℕ → List ℕ → Option ℕ
decimal_number most text = number_of 10 most text
