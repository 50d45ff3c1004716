-- What the lines of a symbol file mean.
use Rattle.std.specs.Prelude.{ℕ, ◌+◌, ◌==◌, Bool, false, not, drop, ◌&&◌, List, [], ◌∷◌, ◌++◌, Option, Some, None}
use Rattle.std.specs.Prelude.{Result, Ok, Err, if◌then◌else◌}
use Rattle.std.specs.List.{list_any}
use Rattle.agc_word.specs.Numeral.{octal_number}
use Rattle.agc_word.specs.Text.{lines_of}
use Rattle.agc_listing.specs.Line.{is_no_text}
use Rattle.agc_listing.specs.Location.{location_named}
use Rattle.agc_listing.specs.Text.{is_name, parsed_by}
use Rattle.agc_listing.specs.declared.location.Location.{Location}
use Rattle.agc_symbols.specs.declared.fault.NameFault.{NameFault}
use Rattle.agc_symbols.specs.declared.fault.NameFault.TheVariants as fault
use Rattle.agc_symbols.specs.declared.fault.SymbolTableFault.{SymbolTableFault}
use Rattle.agc_symbols.specs.declared.fault.SymbolTableFault.TheVariants as trouble
use Rattle.agc_symbols.specs.declared.line.Parsed.{Parsed}

-- a name and its location
pub record Symbol : Type 0 where
  pub place : Location
  pub name : List ℕ

-- a name as sources have them, of printable bytes
abbrev pub is_place_name : List ℕ → Bool
is_place_name word = is_name word && not (list_any is_no_text word)

-- a place with its name, if no further word follows
abbrev pub named_alone : Symbol → List (List ℕ) → Result (Option Symbol) NameFault
named_alone named [] = Ok (Some named)
named_alone named (word ∷ words) = Err fault.MoreWords

-- the name after a place
abbrev pub name_after : Location → List (List ℕ) → Result (Option Symbol) NameFault
name_after place [] = Err fault.BadName
name_after place (word ∷ words) =
    if is_place_name word
    then named_alone (record { place = place; name = word }) words
    else Err fault.BadName

-- a channel: C and one to three octal digits
abbrev pub begins_with_c : List ℕ → Bool
begins_with_c [] = false
begins_with_c (b ∷ bs) = b == 0x43

unfoldable pub channel_named : List ℕ → Option ℕ
channel_named word = if begins_with_c word then octal_number 3 (drop 1 word) else None

-- a name of a channel names no place, if no further word follows
abbrev pub no_place_alone : List (List ℕ) → Result (Option Symbol) NameFault
no_place_alone [] = Ok None
no_place_alone (word ∷ words) = Err fault.MoreWords

-- the name after a channel
abbrev pub name_after_channel : Option ℕ → List (List ℕ) → Result (Option Symbol) NameFault
name_after_channel None words = Err fault.BadPlace
name_after_channel (Some channel) [] = Err fault.BadName
name_after_channel (Some channel) (word ∷ words) =
    if is_place_name word then no_place_alone words else Err fault.BadName

abbrev pub name_at : Option Location → List ℕ → List (List ℕ) → Result (Option Symbol) NameFault
name_at (Some place) first words = name_after place words
name_at None first words = name_after_channel (channel_named first) words

abbrev pub words_named : List (List ℕ) → Result (Option Symbol) NameFault
words_named [] = Ok None
words_named (first ∷ words) = name_at (location_named first) first words

-- what a line means for places: a place and its name, or nothing, as for a channel and its name
unfoldable pub line_named : List ℕ → Result (Option Symbol) NameFault
line_named line =
    if list_any is_no_text line then Err fault.NotText else words_named (parsed_by line)

-- these names, and the name of a line if it has one
abbrev pub names_with : List Symbol → Option Symbol → List Symbol
names_with names None = names
names_with names (Some named) = names ++ named ∷ []

-- the names of lines after these, or the fault of the first faulty line; n is the number of the first line
unfoldable pub names_from : ℕ → List Symbol → List (List ℕ) → Result (List Symbol) SymbolTableFault
names_from n names [] = Ok names
names_from n names (line ∷ lines) =
    elim (line_named line) [
      | Ok parsed ↦ names_from (n + 1) (names_with names parsed) lines
      | Err why ↦ Err (trouble.Line n why)
    ]

-- the names of a text, in its order, or its first fault
unfoldable pub names_in : List ℕ → Result (List Symbol) SymbolTableFault
names_in text = names_from 1 [] (lines_of text)

-- a line as the code returns it
abbrev pub parsed_named : Parsed → Symbol
parsed_named parsed = record { place = parsed.place; name = parsed.name.now }

abbrev pub option_named : Option Parsed → Option Symbol
option_named (Some parsed) = Some (parsed_named parsed)
option_named None = None

abbrev pub as_named : Result (Option Parsed) NameFault → Result (Option Symbol) NameFault
as_named (Ok parsed) = Ok (option_named parsed)
as_named (Err why) = Err why
