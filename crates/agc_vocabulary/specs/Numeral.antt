-- The numbers of DEC and 2DEC: integers, and fractions with a point, a decimal exponent and a binary scale.
use Rattle.std.specs.Prelude.{ℕ, zero, suc, ◌+◌, ◌-◌, ◌*◌, ◌/◌, ◌^◌, ◌<◌, ◌≤◌, ◌==◌, nat_le, nat_lt, Bool, true, false, ◌&&◌}
use Rattle.std.specs.Prelude.{List, [], ◌∷◌, length, take, drop, position, get_or, Option, Some, None, Result, Ok, Err}
use Rattle.std.specs.Prelude.{if◌then◌else◌}
use Rattle.agc_word.specs.Numeral.{decimal_number}
use Rattle.agc_listing.specs.Number.{begins_with_minus, without_sign}
use Rattle.agc_listing.specs.declared.number.Signed.{Signed}
use Rattle.agc_vocabulary.specs.declared.source_fault.SourceFault.{SourceFault}
use Rattle.agc_vocabulary.specs.declared.source_fault.SourceFault.TheVariants as fault
use Rattle.agc_vocabulary.specs.declared.numeral.Numeral.{Numeral}
use Rattle.agc_vocabulary.specs.declared.numeral.Quotient.{Quotient}
use Rattle.agc_vocabulary.specs.declared.numeral.Scale.{Scale}
use Rattle.agc_vocabulary.specs.declared.numeral.Scale.TheVariants as scale
use Rattle.agc_vocabulary.specs.declared.numeral.Scales.{Scales}

-- Numbers are computed below a bound; a number of use is far below it.

abbrev pub bound : ℕ
bound = 2 ^ 124

abbrev pub times_below : ℕ → ℕ → Option ℕ
times_below n base = if nat_lt (n * base) bound then Some (n * base) else None

-- a number times a power of a base
unfoldable pub raised : ℕ → ℕ → ℕ → Option ℕ
raised n base zero = Some n
raised n base (suc times) =
    elim (times_below n base) [
      | Some more ↦ raised more base times
      | None ↦ None
    ]

abbrev pub raised_more : Option ℕ → ℕ → ℕ → Option ℕ
raised_more (Some n) base times = raised n base times
raised_more None base times = None

-- the power zero
abbrev pub no_power : Signed
no_power = record { minus = false; magnitude = 0 }

-- The numeral: a sign, digits, and perhaps a point with digits before it, after it or both.

abbrev pub is_point : ℕ → Bool
is_point b = b == 0x2E

-- the digits on one side of the point, which may be missing
abbrev pub part_named : ℕ → List ℕ → Option ℕ
part_named most text = if length text == 0 then Some 0 else decimal_number most text

abbrev pub fraction_of : Bool → ℕ → Option ℕ → Option ℕ → Option Numeral
fraction_of minus places (Some whole) (Some part) =
    if nat_lt (whole + part) bound
    then Some (record { minus = minus; digits = whole + part; places = places; whole = false; exponent = no_power })
    else None
fraction_of minus places whole part = None

abbrev pub integer_of : Bool → Option ℕ → Option Numeral
integer_of minus (Some n) = Some (record { minus = minus; digits = n; places = 0; whole = true; exponent = no_power })
integer_of minus None = None

abbrev pub numeral_cut : Bool → Option ℕ → List ℕ → Option Numeral
numeral_cut minus None text = integer_of minus (decimal_number 18 text)
numeral_cut minus (Some at) text =
    if nat_le 2 (length text) && nat_le (length text - (at + 1)) 18
    then fraction_of minus (length text - (at + 1))
    (raised_more (part_named 18 (take at text)) 10 (length text - (at + 1)))
    (part_named 18 (drop (at + 1) text))
    else None

-- the power of ten may stand right behind the digits: `1.5E-3`
abbrev pub power_signed : Bool → Option ℕ → Option Signed
power_signed minus (Some n) = Some (record { minus = minus; magnitude = n })
power_signed minus None = None

abbrev pub power_named : List ℕ → Option Signed
power_named text = power_signed (begins_with_minus text) (decimal_number 2 (without_sign text))

abbrev pub is_exponent : ℕ → Bool
is_exponent b = b == 0x45

abbrev pub with_exponent : Option Numeral → Option Signed → Option Numeral
with_exponent (Some n) (Some power) = Some (record {
  minus = n.minus;
  digits = n.digits;
  places = n.places;
  whole = false;
  exponent = power;
})
with_exponent n power = None

abbrev pub numeral_split : Bool → Option ℕ → List ℕ → Option Numeral
numeral_split minus None text = numeral_cut minus (position is_point text) text
numeral_split minus (Some at) text =
    with_exponent (numeral_cut minus (position is_point (take at text)) (take at text))
    (power_named (drop (at + 1) text))

unfoldable pub numeral_named : List ℕ → Option Numeral
numeral_named text =
    numeral_split (begins_with_minus text) (position is_exponent (without_sign text)) (without_sign text)

-- The scales after it: `E` with a power of ten, and `B` with a power of two; in DEC* and 2DEC* they may end in `*`.

abbrev pub tens : Option Signed → Option Scale
tens (Some n) = Some (scale.Ten n)
tens None = None

abbrev pub twos : Option Signed → Option Scale
twos (Some n) = Some (scale.Two n)
twos None = None

abbrev pub scale_by : List ℕ → Option Scale
scale_by [] = None
scale_by (b ∷ bs) =
    if b == 0x45 then tens (power_named bs) else if b == 0x42 then twos (power_named bs) else None

abbrev pub ends_with_star : List ℕ → Bool
ends_with_star text = get_or text (length text - 1) 0 == 0x2A

unfoldable pub scale_named : Bool → List ℕ → Option Scale
scale_named starred text =
    if starred && ends_with_star text then scale_by (take (length text - 1) text) else scale_by text

abbrev pub IsSmall : Scale → Type 0
IsSmall (scale.Ten n) = n.magnitude < 100
IsSmall (scale.Two n) = n.magnitude < 100

abbrev pub AreSmall : Scales → Type 0
AreSmall scales = (scales.ten.magnitude < 100) × (scales.two.magnitude < 100)

abbrev pub one_scale : Option Scale → Option Scales
one_scale (Some (scale.Ten n)) = Some (record { ten = n; two = no_power })
one_scale (Some (scale.Two n)) = Some (record { ten = no_power; two = n })
one_scale None = None

abbrev pub two_scales : Option Scale → Option Scale → Option Scales
two_scales (Some (scale.Ten n)) (Some (scale.Two m)) = Some (record { ten = n; two = m })
two_scales (Some (scale.Two m)) (Some (scale.Ten n)) = Some (record { ten = n; two = m })
two_scales first second = None

-- The value as a quotient of two integers, in units of the last bit of the word or of the pair.

abbrev pub up : Signed → ℕ
up n = if n.minus then 0 else n.magnitude

abbrev pub down : Signed → ℕ
down n = if n.minus then n.magnitude else 0

abbrev pub ratio_of : Option ℕ → Option ℕ → Option Quotient
ratio_of (Some over) (Some under) = Some (record { over = over; under = under })
ratio_of over under = None

-- Powers over and under the line are set off against each other.
abbrev pub tens_over : Numeral → Scales → ℕ
tens_over n scales = up n.exponent + up scales.ten

abbrev pub tens_under : Numeral → Scales → ℕ
tens_under n scales = n.places + down n.exponent + down scales.ten

abbrev pub twos_over : ℕ → Scales → ℕ
twos_over bits scales = bits + up scales.two

abbrev pub twos_under : Scales → ℕ
twos_under scales = down scales.two

unfoldable pub ratio : ℕ → Numeral → Scales → Option Quotient
ratio bits n scales =
    let ten_up = tens_over n scales in
    let ten_down = tens_under n scales in
    let two_up = twos_over bits scales in
    let two_down = twos_under scales in
    ratio_of (raised_more (raised n.digits 10 (ten_up - ten_down)) 2 (two_up - two_down))
    (raised_more (raised 1 10 (ten_down - ten_up)) 2 (two_down - two_up))

-- The integer nearest to a ratio below `limit`; the largest one below the limit if the nearest is the limit itself.

abbrev pub rounded : Quotient → ℕ
rounded r = (2 * r.over + r.under) / (2 * r.under)

unfoldable pub nearest : ℕ → Quotient → Option ℕ
nearest limit r =
    if nat_lt r.over (limit * r.under)
    then Some (if nat_lt (rounded r) limit then rounded r else limit - 1)
    else None

-- a number's magnitude in units of its last bit: an integer as it stands, a fraction as the nearest integer
abbrev pub in_range : ℕ → ℕ → Result ℕ SourceFault
in_range limit n = if nat_lt n limit then Ok n else Err fault.OutOfRange

abbrev pub or_out_of_range : Option ℕ → Result ℕ SourceFault
or_out_of_range (Some n) = Ok n
or_out_of_range None = Err fault.OutOfRange

abbrev pub scaled : ℕ → Option Quotient → Result ℕ SourceFault
scaled bits (Some r) = or_out_of_range (nearest (2 ^ bits) r)
scaled bits None = Err fault.OutOfRange

abbrev pub magnitude_plain : ℕ → Numeral → Result ℕ SourceFault
magnitude_plain bits n =
    if n.whole
    then in_range (2 ^ bits) n.digits
    else scaled bits (ratio bits n (record { ten = no_power; two = no_power }))

abbrev pub magnitude_scaled : ℕ → Numeral → Option Scales → Result ℕ SourceFault
magnitude_scaled bits n (Some scales) = scaled bits (ratio bits n scales)
magnitude_scaled bits n None = Err fault.BadNumber

abbrev pub signed_magnitude : Bool → Result ℕ SourceFault → Result Signed SourceFault
signed_magnitude minus (Ok n) = Ok (record { minus = minus; magnitude = n })
signed_magnitude minus (Err why) = Err why

abbrev pub magnitude_in : ℕ → Bool → Numeral → List (List ℕ) → Result ℕ SourceFault
magnitude_in bits starred n [] = magnitude_plain bits n
magnitude_in bits starred n (first ∷ []) = magnitude_scaled bits n (one_scale (scale_named starred first))
magnitude_in bits starred n (first ∷ second ∷ []) =
    magnitude_scaled bits n (two_scales (scale_named starred first) (scale_named starred second))
magnitude_in bits starred n words = Err fault.BadNumber

abbrev pub number_by : ℕ → Bool → Option Numeral → List (List ℕ) → Result Signed SourceFault
number_by bits starred (Some n) words = signed_magnitude n.minus (magnitude_in bits starred n words)
number_by bits starred None words = Err fault.BadNumber

-- the number that words write, in units of the last of `bits` bits
unfoldable pub number_in : ℕ → Bool → List (List ℕ) → Result Signed SourceFault
number_in bits starred [] = Err fault.BadNumber
number_in bits starred (first ∷ words) = number_by bits starred (numeral_named first) words

-- How far an integer is from a ratio, in units of one over its denominator.

abbrev pub apart : ℕ → ℕ → ℕ
apart a b = (a - b) + (b - a)

-- no integer below the limit is nearer to a ratio
abbrev pub IsNearest : ℕ → Quotient → ℕ → Type 0
IsNearest limit r n = (k : ℕ) → k < limit → apart (n * r.under) r.over ≤ apart (k * r.under) r.over
