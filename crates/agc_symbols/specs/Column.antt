-- How the name of a place is printed.
use Rattle.std.specs.Prelude.{ℕ, ◌-◌, ◌==◌, List, [], ◌++◌, length, replicate, codes, Option, Some, None}
use Rattle.std.specs.Prelude.{if◌then◌else◌}
use Rattle.std.specs.Fmt.{decimal}
use Rattle.agc_listing.specs.declared.location.Location.{Location}
use Rattle.agc_symbols.specs.Symbols.{Symbol}
use Rattle.agc_symbols.specs.Nearest.{Nearby, nearest}

-- an offset as in listings, in decimal
abbrev pub offset_text : ℕ → List ℕ
offset_text offset = if offset == 0 then [] else codes " +" ++ decimal offset

abbrev pub nearby_text : Option Nearby → List ℕ
nearby_text (Some near) = near.name ++ offset_text near.offset
nearby_text None = []

-- the name printed for a place: `LOOP`, or `LOOP +2`, or nothing
unfoldable pub name_text : List Symbol → Location → List ℕ
name_text names at = nearby_text (nearest names at)

-- the column of a place: its name, padded with spaces to thirteen characters
unfoldable pub name_column : List Symbol → Location → List ℕ
name_column names at = name_text names at ++ replicate (13 - length (name_text names at)) 0x20
