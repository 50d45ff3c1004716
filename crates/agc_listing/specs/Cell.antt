-- A cell of erasable memory by its number: how its place and its word are printed.
use Rattle.std.specs.Prelude.{ℕ, ◌+◌, ◌/◌, ◌%◌, ◌==◌, ◌&&◌, ◌||◌, nat_lt, not, Bool, true, false}
use Rattle.std.specs.Prelude.{List, if◌then◌else◌}
use Rattle.agc_word.specs.Arithmetic.{narrow_of}
use Rattle.agc_word.specs.Number.{Number, pattern_of}
use Rattle.agc_word.specs.Octal.{octal_digits, word_digits}
use Rattle.agc_store.specs.Places.{a_cell, q_cell, erasable_bank_size, erasable_window}
use Rattle.agc_listing.specs.declared.place.Place.{Place}
use Rattle.agc_listing.specs.declared.place.Place.TheVariants as place

-- the place of an erasable cell: its address, or its bank and its address in the window
abbrev pub cell_place : ℕ → Place
cell_place number =
    if nat_lt number erasable_window then place.Plain number
    else
    place.Erasable (number / erasable_bank_size) (erasable_window + number % erasable_bank_size)

-- a cell's word: A and Q have sixteen bits, every other cell fifteen
unfoldable pub cell_word : ℕ → Number → List ℕ
cell_word number word =
    if number == a_cell || number == q_cell
    then octal_digits 6 (pattern_of 16 word)
    else word_digits (narrow_of word)

-- two signs are the same
abbrev pub same_sign : Bool → Bool → Bool
same_sign true minus = minus
same_sign false minus = not minus

-- two words are the same: +0 and -0 differ
abbrev pub same_word : Number → Number → Bool
same_word x y = same_sign x.minus y.minus && (x.magnitude == y.magnitude)
