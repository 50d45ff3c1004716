-- The numbers of a source: signed decimal numbers, and octal words.
use Rattle.std.specs.Prelude.{ℕ, ◌-◌, ◌%◌, ◌==◌, nat_lt, Bool, false, ◌||◌, List, [], ◌∷◌, get_or, length, take}
use Rattle.std.specs.Prelude.{Option, Some, None, if◌then◌else◌}
use Rattle.agc_word.specs.Number.{Number, number_from_pattern}
use Rattle.agc_word.specs.Numeral.{decimal_number, octal_number}
use Rattle.agc_listing.specs.declared.number.Signed.{Signed}

abbrev pub is_sign : ℕ → Bool
is_sign b = (b == 0x2B) || (b == 0x2D)

abbrev pub begins_with_sign : List ℕ → Bool
begins_with_sign [] = false
begins_with_sign (b ∷ bs) = is_sign b

abbrev pub begins_with_minus : List ℕ → Bool
begins_with_minus [] = false
begins_with_minus (b ∷ bs) = b == 0x2D

abbrev pub without_sign : List ℕ → List ℕ
without_sign [] = []
without_sign (b ∷ bs) = if is_sign b then bs else b ∷ bs

abbrev pub with_sign : Bool → Option ℕ → Option Signed
with_sign minus None = None
with_sign minus (Some magnitude) = Some (record { minus = minus; magnitude = magnitude })

-- the number that an optional sign and up to `most` decimal digits write
unfoldable pub signed_number : ℕ → List ℕ → Option Signed
signed_number most text =
    with_sign (begins_with_minus text) (decimal_number most (without_sign text))

-- the number that up to five octal digits write, or up to five decimal digits before a letter D
abbrev pub ends_with_d : List ℕ → Bool
ends_with_d text = get_or text (length text - 1) 0 == 0x44

unfoldable pub count_named : List ℕ → Option ℕ
count_named text =
    if ends_with_d text
    then decimal_number 5 (take (length text - 1) text)
    else octal_number 5 text

-- an offset as sources write it: a sign and such a number
unfoldable pub offset_parsed : List ℕ → Option Signed
offset_parsed text =
    if begins_with_sign text
    then with_sign (begins_with_minus text) (count_named (without_sign text))
    else None

-- a number that must have a sign
unfoldable pub offset_named : List ℕ → Option Signed
offset_named text = if begins_with_sign text then signed_number 5 text else None

-- a word with this sign and this magnitude, which must be below 40000 octal
abbrev pub narrow_of : Signed → Number
narrow_of n = record { minus = n.minus; magnitude = n.magnitude % 0o40000 }

abbrev pub word_within : Option Signed → Option Number
word_within None = None
word_within (Some n) = if nat_lt n.magnitude 0o40000 then Some (narrow_of n) else None

-- the word that a decimal number writes, at most 16383 of either sign; there are two zeros
unfoldable pub decimal_word : List ℕ → Option Number
decimal_word text = word_within (signed_number 5 text)

-- the word that up to five octal digits write
abbrev pub word_of_pattern : Option ℕ → Option Number
word_of_pattern None = None
word_of_pattern (Some bits) = Some (number_from_pattern 15 bits)

unfoldable pub octal_word : List ℕ → Option Number
octal_word text = word_of_pattern (octal_number 5 text)
