-- The name of a place as the operand of an order.
use Rattle.std.specs.Prelude.{◌==◌, ◌&&◌, not, nat_lt, Bool, false, List, Option, Some, None, if◌then◌else◌}
use Rattle.agc_listing.specs.declared.location.Location.{Location}
use Rattle.agc_listing.specs.declared.location.Location.TheVariants as location
use Rattle.agc_symbols.specs.Nearest.{Nearby, nearest}
use Rattle.agc_symbols.specs.Symbols.{Symbol}

-- The registers and counters, the cells below 61 octal, are single words: no word is counted from one to the next.
abbrev pub is_single : Location → Bool
is_single (location.Erasable cell) = nat_lt cell 0o61
is_single (location.Fixed place) = false

abbrev pub unless_counted : Bool → Option Nearby → Option Nearby
unless_counted single None = None
unless_counted single (Some near) =
    if single && not (near.offset == 0) then None else Some near

-- the nearest name at or below a place; a register or a counter has only a name of its own
unfoldable pub operand_named : List Symbol → Location → Option Nearby
operand_named names at = unless_counted (is_single at) (nearest names at)
