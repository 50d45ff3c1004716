-- The text of a rope with names.
use Rattle.std.specs.Prelude.{ℕ, List, [], ◌++◌, take, drop, codes, Option, Some, None}
use Rattle.std.specs.List.{flat_map}
use Rattle.agc_word.specs.Text.{lines_of}
use Rattle.agc_listing.specs.Location.{location_named}
use Rattle.agc_listing.specs.declared.location.Location.{Location}
use Rattle.agc_symbols.specs.Column.{name_column}
use Rattle.agc_symbols.specs.Symbols.{Symbol}

abbrev pub column_at : List Symbol → Option Location → List ℕ
column_at names (Some at) = name_column names at
column_at names None = []

-- a line begins with its place, of seven characters, and a space; the column comes after these
unfoldable pub line_with_name : List Symbol → List ℕ → List ℕ
line_with_name names line =
    take 8 line ++ column_at names (location_named (take 7 line)) ++ drop 8 line ++ codes "\n"

-- the text of a rope with the column of each line's place
unfoldable pub text_with_names : List Symbol → List ℕ → List ℕ
text_with_names names text = flat_map (line_with_name names) (lines_of text)
