-- The source of a rope: an order line for each word that is not +0, and a SETLOC line if no word precedes it.
use Rattle.std.specs.Prelude.{ℕ, zero, suc, ◌-◌, ◌%◌, ◌==◌, Bool, true, false, not, ◌&&◌}
use Rattle.std.specs.Prelude.{List, [], ◌++◌, codes, Option, if◌then◌else◌}
use Rattle.std.specs.List.{flat_map, range_with_len}
use Rattle.agc_word.specs.Number.{Number, pattern_of}
use Rattle.agc_word.specs.Octal.{word_digits}
use Rattle.agc_store.specs.Places.{fixed_bank_size, fixed_words}
use Rattle.agc_store.specs.Memory.{fixed_at}
use Rattle.agc_listing.specs.Laws.{has_line}
use Rattle.agc_listing.specs.List.{is_in_selected_bank, is_extracode_at, listed_place}
use Rattle.agc_listing.specs.Order.{next_is_extracode, order_text}
use Rattle.agc_listing.specs.Place.{place_text}

-- whether a word immediately precedes a place, in its bank
abbrev pub follows_word : List Number → ℕ → Bool
follows_word words place = not (place % fixed_bank_size == 0) && has_line words (place - 1)

-- whether the line of a word shows its order, and not its digits
abbrev pub shows_order : Bool → Bool → Bool
shows_order true true = true
shows_order false false = true
shows_order wanted extracode = false

-- whether the line of a place is read as an extracode: it follows EXTEND, or INDEX as an extracode, in its bank
unfoldable pub is_wanted_at : List Number → ℕ → Bool
is_wanted_at words zero = false
is_wanted_at words (suc place) =
    shows_order (is_wanted_at words place) (is_extracode_at words place)
    && next_is_extracode (is_wanted_at words place) (fixed_at place words)
    && not (suc place % fixed_bank_size == 0)

-- the order that `list` shows for a word if the line is read as that order; otherwise its digits
abbrev pub order_or_digits : Bool → Bool → Number → List ℕ
order_or_digits true true word = order_text true word
order_or_digits false false word = order_text false word
order_or_digits wanted extracode word = codes "OCT " ++ word_digits word

-- The SETLOC line of a place. The line begins with spaces, so it has no name.
abbrev pub line_to : ℕ → List ℕ
line_to place = codes "        SETLOC " ++ place_text (listed_place place) ++ codes "\n"

-- the line of a word
abbrev pub line_of : Bool → Bool → Number → List ℕ
line_of wanted extracode word = codes "        " ++ order_or_digits wanted extracode word ++ codes "\n"

-- the lines of a word at a place: a SETLOC line if it does not follow a word, and its own
unfoldable pub placed_word_lines : ℕ → Bool → Bool → Bool → Number → List ℕ
placed_word_lines place follows wanted extracode word =
    (if follows then [] else line_to place) ++ line_of wanted extracode word

-- the lines of the word at a place, if it is not +0 and its bank is selected
abbrev pub text_at_place : Option ℕ → ℕ → Bool → Bool → Bool → Number → List ℕ
text_at_place bank place follows wanted extracode word =
    if not (pattern_of 15 word == 0) && is_in_selected_bank bank place
    then placed_word_lines place follows wanted extracode word
    else []

-- the lines of a place in a rope
unfoldable pub resolve : Option ℕ → List Number → ℕ → List ℕ
resolve bank words place =
    text_at_place bank place (follows_word words place) (is_wanted_at words place)
    (is_extracode_at words place) (fixed_at place words)

-- the lines of the first `count` places
unfoldable pub resolve_range : ℕ → Option ℕ → List Number → List ℕ
resolve_range count bank words = flat_map (resolve bank words) (range_with_len 0 count)

-- the source of a rope, or of one of its banks
unfoldable pub rope_source : Option ℕ → List Number → List ℕ
rope_source bank words = resolve_range fixed_words bank words
