-- The names of a source, and the symbol file that holds them.
use Rattle.std.specs.Prelude.{ℕ, ◌++◌, List, [], ◌∷◌, Option, Some, Ok, Err}
use Rattle.agc_word.specs.Text.{lines_of}
use Rattle.agc_symbols.specs.Symbols.{Symbol}
use Rattle.agc_symbols.specs.Writing.{names_text}
use Rattle.agc_vocabulary.specs.Body.{line_label, plain_line}
use Rattle.agc_encode.specs.LocationCounter.{first_counter}
use Rattle.agc_asm.specs.Source.{first_names, define_label, naming_after}
use Rattle.agc_vocabulary.specs.Name.{Naming}
use Rattle.agc_listing.specs.declared.location.Location.{Location}
use Rattle.agc_encode.specs.declared.location_counter.LocationCounter.{LocationCounter}

-- the name of a line, if it has a location
abbrev pub label_named : Option (List ℕ) → Option Location → List Symbol
label_named (Some label) (Some place) = record { place = place; name = label } ∷ []
label_named label place = []

-- the names of lines, after others, up to the first faulty line
unfoldable pub labels_from : Naming → LocationCounter → List Symbol → List (List ℕ) → List Symbol
labels_from naming counter named [] = named
labels_from naming counter named (line ∷ lines) =
    elim (define_label naming counter (plain_line line)) [
      | Ok next ↦ labels_from (naming_after naming (line_label (plain_line line)) next.place) next.counter
          (named ++ label_named (line_label (plain_line line)) next.place) lines
      | Err why ↦ named
    ]

-- the names of a source, each with its place, in the order of its lines
unfoldable pub labels_in : List ℕ → List Symbol
labels_in text = labels_from (first_names (lines_of text)) first_counter [] (lines_of text)

-- a line for each name
unfoldable pub name_lines_in : List ℕ → List ℕ
name_lines_in text = names_text (labels_in text)
