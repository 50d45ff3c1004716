-- The changes in print: the changed lines of each, with the cycle before them.
use Rattle.std.specs.Prelude.{ℕ, ◌==◌, if◌then◌else◌, List, [], ◌∷◌, ◌++◌, codes, flat_map, Option}
use Rattle.std.specs.Fmt.{decimal}
use Rattle.std.specs.Str.{bytes_eq}
use Rattle.agc_machine.specs.State.{State}
use Rattle.agc_panel.specs.declared.watch_spec.WatchSpec.{WatchSpec}
use Rattle.agc_symbols.specs.Symbols.{Symbol}
use Rattle.agc_timeline.specs.Changes.{Sight, changes, changes_in}
use Rattle.agc_timeline.specs.LinePlace.{name_after}
use Rattle.agc_trace.specs.declared.span.Span.{Span}

-- a byte before the first of some lines
abbrev pub onto_first : ℕ → List (List ℕ) → List (List ℕ)
onto_first b [] = (b ∷ []) ∷ []
onto_first b (line ∷ lines) = (b ∷ line) ∷ lines

-- the lines of a text, without the line feeds that end them
unfoldable pub lines_in : List ℕ → List (List ℕ)
lines_in [] = []
lines_in (b ∷ bs) = if b == 10 then [] ∷ lines_in bs else onto_first b (lines_in bs)

-- those lines that differ from the ones in the same places before
unfoldable pub changed_lines : List (List ℕ) → List (List ℕ) → List (List ℕ)
changed_lines before [] = []
changed_lines [] (line ∷ lines) = line ∷ lines
changed_lines (old ∷ before) (line ∷ lines) =
    if bytes_eq old line then changed_lines before lines
    else line ∷ changed_lines before lines

-- a line of the tables at a cycle; with names, that of its place comes after it
unfoldable pub line_at : Option (List Symbol) → ℕ → List ℕ → List ℕ
line_at names cycle line = decimal cycle ++ codes " " ++ line ++ name_after names line ++ codes "\n"

-- some lines at a cycle, after others
abbrev pub lines_at : Option (List Symbol) → ℕ → List (List ℕ) → List (List ℕ) → List ℕ
lines_at names cycle before lines = flat_map (line_at names cycle) (changed_lines before lines)

-- the text of a change, after what was shown before it
unfoldable pub change_text : Option (List Symbol) → List ℕ → Sight → List ℕ
change_text names shown sight = lines_at names sight.cycle (lines_in shown) (lines_in sight.text)

-- the text of changes, one after another
unfoldable pub changes_text : Option (List Symbol) → List ℕ → List Sight → List ℕ
changes_text names shown [] = []
changes_text names shown (sight ∷ sights) =
    change_text names shown sight ++ changes_text names sight.text sights

-- the text of sights: of those that are changes
abbrev pub reported_of : Option (List Symbol) → List ℕ → List Sight → List ℕ
reported_of names shown sights = changes_text names shown (changes shown sights)

-- the text of a run
unfoldable pub jobs_text : Option (List Symbol) → Span → WatchSpec → State → List ℕ
jobs_text names span spec s = changes_text names [] (changes_in span spec s)
