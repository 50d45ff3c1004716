-- Multiplication and division of signed numbers, in one and in two words.
use Rattle.std.specs.Prelude.{◌≡◌, ◌+◌, ◌-◌, ◌*◌, ◌/◌, ◌%◌, ◌<◌, ◌≤◌, ◌==◌, ◌⊎◌}
use Rattle.std.specs.Prelude.{min, nat_le, Bool, not, ◌&&◌, ℤ, pos, ◌+ℤ◌, ◌*ℤ◌}
use Rattle.std.specs.Prelude.{nat_abs, Option, Some, None, if◌then◌else◌}
use Rattle.agc_word.specs.Number.{Number, value}

-- whether one of two numbers is minus and the other plus; then a product or a quotient is minus
abbrev pub signs_differ : Bool → Bool → Bool
signs_differ one other = if one then not other else other

-- The product's magnitude in two words of fourteen digits, both with its sign, even if a word is
-- zero. A factor of +0 or -0 gives +0 in both.
unfoldable pub product_of : Number → Number → Number × Number
product_of a k =
    let size = a.magnitude * k.magnitude in
    let sign = signs_differ a.minus k.minus && not (k.magnitude == 0) in
    let upper : Number = record { minus = sign; magnitude = size / 0o40000 } in
    let lower : Number = record { minus = sign; magnitude = size % 0o40000 } in
    (upper, lower)

-- the number in two words that division takes: the lower one may have a different sign
abbrev pub dividend_of : Number → Number → ℤ
dividend_of a l = pos 0o40000 *ℤ value a +ℤ value l

-- its sign is the upper word's, or the lower word's if the upper one is a zero
abbrev pub dividend_is_minus : Number → Number → Bool
dividend_is_minus a l = if a.magnitude == 0 then l.minus else a.minus

-- The quotient and the remainder, if the divisor is not zero and the quotient fits a word. At
-- equality the quotient is the largest word, and the remainder equals the divisor.
unfoldable pub quotient_of : Number → Number → Number → Option (Number × Number)
quotient_of a l k =
    let size = nat_abs (dividend_of a l) in
    let sign = dividend_is_minus a l in
    let whole = min (size / k.magnitude) 0o37777 in
    let quotient : Number = record { minus = signs_differ sign k.minus; magnitude = whole } in
    let remainder : Number = record { minus = sign; magnitude = size - whole * k.magnitude } in
    let fits = not (k.magnitude == 0) && nat_le size (0o40000 * k.magnitude) in
    if fits then Some (quotient, remainder) else None

-- The law of division: quotient q and remainder r make up the dividend, and the remainder is below
-- the divisor, or equal to it if the quotient is the largest word. The quotient is minus if the
-- signs differ, and the remainder has the dividend's sign.
pub record IsDivision (a l k q r : Number) : Type 0 where
  pub divisor : 0 < k.magnitude
  pub fits : q.magnitude ≤ 0o37777
  pub whole : nat_abs (dividend_of a l) ≡ q.magnitude * k.magnitude + r.magnitude
  pub rest : (r.magnitude < k.magnitude) ⊎ ((q.magnitude ≡ 0o37777) × (r.magnitude ≡ k.magnitude))
  pub quotient_sign : q.minus ≡ signs_differ (dividend_is_minus a l) k.minus
  pub remainder_sign : r.minus ≡ dividend_is_minus a l
