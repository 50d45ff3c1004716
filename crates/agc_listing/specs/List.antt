-- The text of a rope: a line for each word that is not +0. A place is 2000 octal times its bank,
-- plus its offset in the bank.
use Rattle.std.specs.Prelude.{ℕ, zero, suc, ◌+◌, ◌/◌, ◌%◌, ◌==◌, nat_lt, nat_le, Bool, true, false, not, ◌&&◌}
use Rattle.std.specs.Prelude.{List, [], ◌++◌, codes, Option, Some, None, if◌then◌else◌}
use Rattle.std.specs.List.{flat_map, range_with_len}
use Rattle.agc_word.specs.Number.{Number, pattern_of}
use Rattle.agc_word.specs.Octal.{word_digits}
use Rattle.agc_store.specs.Places.{fixed_bank_size, fixed_fixed, fixed_window, fixed_words}
use Rattle.agc_store.specs.Memory.{fixed_at}
use Rattle.agc_listing.specs.Order.{order_text, next_is_extracode}
use Rattle.agc_listing.specs.Place.{place_text}
use Rattle.agc_listing.specs.declared.place.Place.{Place}
use Rattle.agc_listing.specs.declared.place.Place.TheVariants as printed

-- The address of a place: always 4000 to 7777 for banks 02 and 03, and in the window, 2000 to 3777,
-- for every other bank.
unfoldable pub listed_address : ℕ → ℕ
listed_address place =
    if nat_le fixed_fixed place && nat_lt place 0o10000 then place
    else fixed_window + place % fixed_bank_size

-- the place as listings name it
abbrev pub listed_place : ℕ → Place
listed_place place = printed.Fixed (place / fixed_bank_size) (listed_address place)

-- Whether a bank begins at a place and the word before it does not lead there. Bank 03 follows 02.
unfoldable pub starts_run : ℕ → Bool
starts_run place = (place % fixed_bank_size == 0) && not (place == 0o6000)

-- whether the word at a place is an extracode: the word before it is EXTEND, or INDEX as an
-- extracode
unfoldable pub is_extracode_at : List Number → ℕ → Bool
is_extracode_at words zero = false
is_extracode_at words (suc place) =
    next_is_extracode (is_extracode_at words place) (fixed_at place words)
    && not (starts_run (suc place))

-- the line of a word at a place: its place, its digits, and its order
unfoldable pub line_text : ℕ → Bool → Number → List ℕ
line_text place extracode word =
    place_text (listed_place place)
    ++ codes " " ++ word_digits word
    ++ codes " " ++ order_text extracode word
    ++ codes "\n"

-- whether a place is in the selected bank; without one, every place is
abbrev pub is_in_selected_bank : Option ℕ → ℕ → Bool
is_in_selected_bank None place = true
is_in_selected_bank (Some bank) place = place / fixed_bank_size == bank

-- the line of a word at a place, if it has one: it is not +0 and its bank is selected
abbrev pub text_listed : Option ℕ → ℕ → Bool → Number → List ℕ
text_listed bank place extracode word =
    if not (pattern_of 15 word == 0) && is_in_selected_bank bank place
    then line_text place extracode word
    else []

-- the line of the word at a place of a rope, if it has one
unfoldable pub listed_line : Option ℕ → List Number → ℕ → List ℕ
listed_line bank words place =
    text_listed bank place (is_extracode_at words place) (fixed_at place words)

-- the lines of the first `count` places
unfoldable pub listed_lines : ℕ → Option ℕ → List Number → List ℕ
listed_lines count bank words = flat_map (listed_line bank words) (range_with_len 0 count)

-- the text of a rope, or of one of its banks
unfoldable pub rope_text : Option ℕ → List Number → List ℕ
rope_text bank words = listed_lines fixed_words bank words
