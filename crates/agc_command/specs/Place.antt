-- The places in commands, as numbers or symbols: places of orders, and cells of erasable memory.
use Rattle.std.specs.Prelude.{ℕ, ◌+◌, nat_lt, nat_le, ◌&&◌, List, [], ◌∷◌}
use Rattle.std.specs.Prelude.{Option, Some, None, Result, Ok, Err, if◌then◌else◌}
use Rattle.std.specs.Option.{ok_or}
use Rattle.agc_store.specs.Places.{erasable_cells}
use Rattle.agc_symbols.specs.Lookup.{resolve}
use Rattle.agc_symbols.specs.Symbols.{Symbol}
use Rattle.agc_listing.specs.declared.location.Location.{Location}
use Rattle.agc_listing.specs.declared.location.Location.TheVariants as location
use Rattle.agc_word.specs.Numeral.{decimal_number}
use Rattle.agc_command.specs.Meant.{place_fault}
use Rattle.agc_command.specs.Words.{and_then, only_word}
use Rattle.agc_command.specs.declared.fault.CommandFault.{CommandFault}
use Rattle.agc_command.specs.declared.fault.CommandFault.TheVariants as fault
use Rattle.agc_command.specs.declared.name.CommandName.{CommandName}

-- a place in the notation of sources, `En,oooo`, `bb,oooo` or an address alone, or a symbol if there are any
unfoldable pub place_in : Option (List Symbol) → List ℕ → Result Location CommandFault
place_in names word = ok_or (resolve names word) (place_fault names word)

-- a place that is a cell
abbrev pub as_cell : Location → Result ℕ CommandFault
as_cell (location.Erasable cell) = Ok cell
as_cell (location.Fixed place) = Err fault.NotErasable

unfoldable pub cell_in : Option (List Symbol) → List ℕ → Result ℕ CommandFault
cell_in names word = and_then (place_in names word) as_cell

-- at least one cell, and no more than there are from the first one on
abbrev pub count_from : ℕ → Option ℕ → Result ℕ CommandFault
count_from first (Some count) =
    if nat_lt 0 count && nat_le (first + count) erasable_cells then Ok count else Err fault.BadCount
count_from first None = Err fault.BadCount

unfoldable pub count_in : ℕ → List ℕ → Result ℕ CommandFault
count_in first word = count_from first (decimal_number 6 word)

-- how many cells are requested: one, if no number is written
unfoldable pub cells_after : CommandName → ℕ → List (List ℕ) → Result ℕ CommandFault
cells_after n first [] = Ok 1
cells_after n first (word ∷ words) = and_then (only_word n (word ∷ words)) (count_in first)
