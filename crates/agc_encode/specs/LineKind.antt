-- The kind of a line: what it occupies, and where the next one goes.
use Rattle.std.specs.Prelude.{ℕ, ◌+◌, ◌<◌, ◌≤◌, ◌==◌, ◌||◌, ◌&&◌, nat_le, nat_lt, List, [], ◌∷◌, take, drop, position}
use Rattle.std.specs.Prelude.{Option, Some, None, Result, Ok, Err}
use Rattle.std.specs.Prelude.{if◌then◌else◌, Bool, false}
use Rattle.agc_word.specs.Numeral.{octal_number}
use Rattle.agc_store.specs.Places.{erasable_cells}
use Rattle.agc_encode.specs.LocationCounter.{after_cells, after_range, after_words, in_bank, moved_to, resumed, room_at}
use Rattle.agc_vocabulary.specs.Name.{Naming}
use Rattle.agc_encode.specs.Operand.{location_in}
use Rattle.agc_listing.specs.Location.{IsWithin}
use Rattle.agc_vocabulary.specs.Mnemonic.{directive_named, is_order}
use Rattle.agc_encode.specs.UnknownOperation.{unknown_operation}
use Rattle.agc_listing.specs.Number.{offset_parsed}
use Rattle.agc_listing.specs.Text.{only_of}
use Rattle.agc_encode.specs.declared.location_counter.At.{At}
use Rattle.agc_encode.specs.declared.location_counter.At.TheVariants as at
use Rattle.agc_encode.specs.declared.location_counter.LocationCounter.{LocationCounter}
use Rattle.agc_vocabulary.specs.declared.source_fault.SourceFault.{SourceFault}
use Rattle.agc_vocabulary.specs.declared.source_fault.SourceFault.TheVariants as fault
use Rattle.agc_listing.specs.declared.location.Location.{Location}
use Rattle.agc_listing.specs.declared.location.Location.TheVariants as location
use Rattle.agc_vocabulary.specs.declared.mnemonic.Directive.{Directive}
use Rattle.agc_vocabulary.specs.declared.mnemonic.Directive.TheVariants as directive
use Rattle.agc_listing.specs.declared.number.Signed.{Signed}
use Rattle.agc_encode.specs.declared.line_kind.LineKind.{LineKind}
use Rattle.agc_encode.specs.declared.line_kind.LineKind.TheVariants as kind

-- a kind that fits the memory
abbrev pub IsKind : LineKind → Type 0
IsKind kind.Word = Unit {0}
IsKind kind.Pair = Unit {0}
IsKind (kind.Cells count) = (0 < count) × (count ≤ 100000)
IsKind (kind.Range first end) = (first < end) × (end ≤ erasable_cells)
IsKind (kind.Moves place) = IsWithin place
IsKind (kind.Bank bank) = bank < 36
IsKind kind.Resumes = Unit {0}
IsKind (kind.StandsFor place) = IsWithin place
IsKind kind.StandsHere = Unit {0}
IsKind (kind.StandsBeside by) = by.magnitude < 100000
IsKind (kind.StandsApart place) = IsWithin place
IsKind (kind.Checks place) = IsWithin place
IsKind kind.Ebank = Unit {0}
IsKind kind.Sbank = Unit {0}
IsKind kind.Nothing = Unit {0}

abbrev pub moves_to : Result Location SourceFault → Result LineKind SourceFault
moves_to (Ok place) = Ok (kind.Moves place)
moves_to (Err why) = Err why

-- `=` and EQUALS without an operand name the current location
abbrev pub as_name : Result Location SourceFault → Result LineKind SourceFault
as_name (Ok place) = Ok (kind.StandsFor place)
as_name (Err why) = Err why

-- an offset alone is relative to this line
abbrev pub stands_beside : Option Signed → Naming → List ℕ → Result LineKind SourceFault
stands_beside (Some by) naming word = Ok (kind.StandsBeside by)
stands_beside None naming word = as_name (location_in naming (word ∷ []))

abbrev pub stands_for : Naming → List (List ℕ) → Result LineKind SourceFault
stands_for naming [] = Ok kind.StandsHere
stands_for naming (word ∷ []) = stands_beside (offset_parsed word) naming word
stands_for naming (word ∷ by ∷ words) = as_name (location_in naming (word ∷ by ∷ words))

-- `=MINUS`: how far this line is behind a location
abbrev pub stands_apart : Result Location SourceFault → Result LineKind SourceFault
stands_apart (Ok place) = Ok (kind.StandsApart place)
stands_apart (Err why) = Err why

-- `CHECK=`: the location that another line is to give the name
abbrev pub checks : Result Location SourceFault → Result LineKind SourceFault
checks (Ok place) = Ok (kind.Checks place)
checks (Err why) = Err why

-- `=ECADR`: a cell
abbrev pub stands_for_cell : Result Location SourceFault → Result LineKind SourceFault
stands_for_cell (Ok (location.Erasable cell)) = Ok (kind.StandsFor (location.Erasable cell))
stands_for_cell (Ok (location.Fixed place)) = Err fault.ErasableWanted
stands_for_cell (Err why) = Err why

-- a bank of the rope, in one or two octal digits; BANK without a number continues in the current one
abbrev pub bank_within : Option ℕ → Result LineKind SourceFault
bank_within (Some bank) = if nat_le bank 0o43 then Ok (kind.Bank bank) else Err fault.BadPlace
bank_within None = Err fault.BadPlace

abbrev pub bank_in : List (List ℕ) → Result LineKind SourceFault
bank_in [] = Ok kind.Resumes
bank_in (word ∷ []) = bank_within (octal_number 2 word)
bank_in words = Err fault.BadPlace

-- BLOCK takes bank 02 or 03
abbrev pub block_within : Option ℕ → Result LineKind SourceFault
block_within (Some bank) =
    if (bank == 2) || (bank == 3) then Ok (kind.Bank bank) else Err fault.BadPlace
block_within None = Err fault.BadPlace

abbrev pub block_in : Option (List ℕ) → Result LineKind SourceFault
block_in (Some word) = block_within (octal_number 2 word)
block_in None = Err fault.BadPlace

-- ERASE alone reserves one cell, with `+n` n more, and with a range its cells
abbrev pub range_of : Option ℕ → Option ℕ → Result LineKind SourceFault
range_of (Some first) (Some last) =
    if nat_le first last && nat_lt last erasable_cells
    then Ok (kind.Range first (last + 1))
    else Err fault.BadNumber
range_of first last = Err fault.BadNumber

abbrev pub is_minus : ℕ → Bool
is_minus b = b == 0x2D

abbrev pub cut_range : Option ℕ → List ℕ → Result LineKind SourceFault
cut_range (Some at) word = range_of (octal_number 6 (take at word)) (octal_number 6 (drop (at + 1) word))
cut_range None word = Err fault.BadNumber

abbrev pub cells_by : Option Signed → List ℕ → Result LineKind SourceFault
cells_by (Some more) word =
    if more.minus then Err fault.BadNumber else Ok (kind.Cells (more.magnitude + 1))
cells_by None word = cut_range (position is_minus word) word

abbrev pub is_dash : List ℕ → Bool
is_dash (b ∷ []) = b == 0x2D
is_dash word = false

abbrev pub cells_in : List (List ℕ) → Result LineKind SourceFault
cells_in [] = Ok (kind.Cells 1)
cells_in (word ∷ []) = cells_by (offset_parsed word) word
cells_in (first ∷ dash ∷ last ∷ []) =
    if is_dash dash then range_of (octal_number 6 first) (octal_number 6 last) else Err fault.BadNumber
cells_in words = Err fault.BadNumber

-- the kind of a directive, with the words after it
abbrev pub directive_kind : Naming → Directive → List (List ℕ) → Result LineKind SourceFault
directive_kind naming directive.SetLoc words = moves_to (location_in naming words)
directive_kind naming directive.Bank words = bank_in words
directive_kind naming directive.Block words = block_in (only_of words)
directive_kind naming directive.Is words = stands_for naming words
directive_kind naming directive.Equals words = stands_for naming words
directive_kind naming directive.Erase words = cells_in words
directive_kind naming directive.PairOct words = Ok kind.Pair
directive_kind naming directive.PairDec words = Ok kind.Pair
directive_kind naming directive.PairDecStarred words = Ok kind.Pair
directive_kind naming directive.PairCadr words = Ok kind.Pair
directive_kind naming directive.Ebank words = Ok kind.Ebank
directive_kind naming directive.Sbank words = Ok kind.Sbank
directive_kind naming directive.Count words = Ok kind.Nothing
directive_kind naming directive.CountStarred words = Ok kind.Nothing
directive_kind naming directive.Memory words = Ok kind.Nothing
directive_kind naming directive.BankSum words = Ok kind.Nothing
directive_kind naming directive.Subro words = Ok kind.Nothing
directive_kind naming directive.PairFcadr words = Ok kind.Pair
directive_kind naming directive.IsMinus words = stands_apart (location_in naming words)
directive_kind naming directive.Check words = checks (location_in naming words)
directive_kind naming directive.IsEcadr words = stands_for_cell (location_in naming words)
directive_kind naming d words = Ok kind.Word

abbrev pub kind_by : Naming → Option Directive → List ℕ → List (List ℕ) → Result LineKind SourceFault
kind_by naming (Some d) word words = directive_kind naming d words
kind_by naming None word words = if is_order word then Ok kind.Word else Err (unknown_operation word)

-- the kind of a line, by its operation and operand
abbrev pub kind_of : Naming → List (List ℕ) → Result LineKind SourceFault
kind_of naming [] = Err fault.UnknownOrder
kind_of naming (word ∷ words) = kind_by naming (directive_named word) word words

-- after `count` words, if there is room for them
abbrev pub after_room : LocationCounter → ℕ → Result ℕ SourceFault → Result LocationCounter SourceFault
after_room counter count (Ok place) = Ok (after_words counter counter.at count)
after_room counter count (Err why) = Err why

-- words take places of the rope, or cells
abbrev pub after_line_words : LocationCounter → At → ℕ → Result LocationCounter SourceFault
after_line_words counter (at.Bank bank) count = after_room counter count (room_at counter (at.Bank bank) count)
after_line_words counter (at.Cell cell) count = after_cells counter (at.Cell cell) count

-- the location counter after a line of a kind
abbrev pub counter_after : LocationCounter → LineKind → Result LocationCounter SourceFault
counter_after counter kind.Word = after_line_words counter counter.at 1
counter_after counter kind.Pair = after_line_words counter counter.at 2
counter_after counter (kind.Cells count) = after_cells counter counter.at count
counter_after counter (kind.Moves place) = Ok (moved_to counter place)
counter_after counter (kind.Bank bank) = Ok (in_bank counter bank)
counter_after counter kind.Resumes = resumed counter counter.at
counter_after counter (kind.Range first end) = after_range counter counter.at end
counter_after counter s = Ok counter
