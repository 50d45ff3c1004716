-- What a line of a rope's text means: a place and its word.
use Rattle.std.specs.Prelude.{ℕ, ◌+◌, ◌*◌, ◌%◌, ◌==◌, nat_lt, nat_le, Bool, false, not, ◌&&◌, ◌||◌, List, []}
use Rattle.std.specs.Prelude.{◌∷◌, length, take, drop, position, Option, Some, None, Result, Ok, Err}
use Rattle.std.specs.Prelude.{if◌then◌else◌}
use Rattle.std.specs.List.{list_any}
use Rattle.agc_word.specs.Numeral.{octal_number}
use Rattle.agc_store.specs.Places.{fixed_bank_size, fixed_fixed, fixed_words}
use Rattle.agc_store.specs.Cells.{narrow_number}
use Rattle.agc_word.specs.Text.{words_of}
use Rattle.agc_listing.specs.List.{listed_address}
use Rattle.agc_listing.specs.declared.fault.LineFault.{LineFault}
use Rattle.agc_listing.specs.declared.fault.LineFault.TheVariants as fault
use Rattle.agc_listing.specs.declared.line.PlacedWord.{PlacedWord}

-- the number that exactly `width` octal digits write
unfoldable pub octal_exactly : ℕ → List ℕ → Option ℕ
octal_exactly width text = if length text == width then octal_number width text else None

abbrev pub is_comma : ℕ → Bool
is_comma b = b == 0x2C

-- a place, if it is in the rope and has this address
abbrev pub place_checked : ℕ → ℕ → Option ℕ
place_checked place address =
    if nat_lt place fixed_words && (listed_address place == address) then Some place else None

-- the place of a bank and an address in it
abbrev pub place_in_bank : Option ℕ → Option ℕ → Option ℕ
place_in_bank (Some bank) (Some address) =
    place_checked (fixed_bank_size * bank + address % fixed_bank_size) address
place_in_bank _ _ = None

-- the place of an address without a bank: only those from 4000 on name one
abbrev pub place_alone : Option ℕ → Option ℕ
place_alone (Some address) = if nat_le fixed_fixed address then Some address else None
place_alone None = None

-- the place that a text names, with its first comma at this position or without one
abbrev pub place_cut : Option ℕ → List ℕ → Option ℕ
place_cut (Some at) text =
    place_in_bank (octal_exactly 2 (take at text)) (octal_exactly 4 (drop (at + 1) text))
place_cut None text = place_alone (octal_exactly 4 text)

-- The place that a text names: `bb,oooo` or `oooo`, all octal.
unfoldable pub place_named : List ℕ → Option ℕ
place_named text = place_cut (position is_comma text) text

-- a place with its word, if there is a word
abbrev pub named_at : ℕ → Option ℕ → Result (Option PlacedWord) LineFault
named_at place (Some word) = Ok (Some (record { place = place; word = narrow_number word }))
named_at place None = Err fault.BadWord

-- the word of five octal digits that comes next
unfoldable pub word_named : ℕ → List (List ℕ) → Result (Option PlacedWord) LineFault
word_named place [] = Err fault.BadWord
word_named place (word ∷ comment) = named_at place (octal_exactly 5 word)

-- a place and its word
abbrev pub named_by : Option ℕ → List (List ℕ) → Result (Option PlacedWord) LineFault
named_by (Some place) words = word_named place words
named_by None words = Err fault.BadAddress

-- a word that begins a comment: its first byte is `#`
abbrev pub is_hash : List ℕ → Bool
is_hash [] = false
is_hash (b ∷ bs) = b == 0x23

-- what the words of a line mean: nothing if there are none or the first begins with `#`
unfoldable pub words_named : List (List ℕ) → Result (Option PlacedWord) LineFault
words_named [] = Ok None
words_named (first ∷ words) = if is_hash first then Ok None else named_by (place_named first) words

-- a byte that is not text: neither a tab nor printable ASCII
abbrev pub is_no_text : ℕ → Bool
is_no_text b = not (b == 0x09) && (nat_lt b 0x20 || nat_le 0x7F b)

-- what a line means: a word and its place, or nothing
unfoldable pub line_named : List ℕ → Result (Option PlacedWord) LineFault
line_named line =
    if list_any is_no_text line then Err fault.NotText else words_named (words_of line)
