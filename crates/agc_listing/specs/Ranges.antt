-- Ranges of locations: one place or cell, or all between two of the same bank.
use Rattle.std.specs.Prelude.{ℕ, ◌+◌, ◌/◌, ◌==◌, nat_le, Bool, true, false, ◌&&◌, List, take, drop, position, codes}
use Rattle.std.specs.Prelude.{Option, Some, None, Result, Ok, Err, if◌then◌else◌}
use Rattle.agc_store.specs.Places.{erasable_bank_size, fixed_bank_size}
use Rattle.agc_listing.specs.Location.{location_named}
use Rattle.agc_listing.specs.declared.location.Location.{Location}
use Rattle.agc_listing.specs.declared.location.Location.TheVariants as location
use Rattle.agc_listing.specs.declared.location_range.LocationRange.{LocationRange}
use Rattle.agc_listing.specs.declared.location_range.RangeFault.{RangeFault}
use Rattle.agc_listing.specs.declared.location_range.RangeFault.TheVariants as fault

-- a location is between two others, both included
abbrev pub is_from_to : Location → Location → Location → Bool
is_from_to (location.Fixed first) (location.Fixed last) (location.Fixed here) =
    nat_le first here && nat_le here last
is_from_to (location.Erasable first) (location.Erasable last) (location.Erasable here) =
    nat_le first here && nat_le here last
is_from_to _ _ _ = false

abbrev pub has_place : LocationRange → Location → Bool
has_place places here = is_from_to places.first places.last here

-- two places of one bank, the first not after the last
abbrev pub is_stretch : Location → Location → Bool
is_stretch (location.Fixed first) (location.Fixed last) =
    (first / fixed_bank_size == last / fixed_bank_size) && nat_le first last
is_stretch (location.Erasable first) (location.Erasable last) =
    (first / erasable_bank_size == last / erasable_bank_size) && nat_le first last
is_stretch _ _ = false

abbrev pub is_cell : Location → Bool
is_cell (location.Erasable cell) = true
is_cell (location.Fixed place) = false

abbrev pub one_place : Option Location → Result LocationRange RangeFault
one_place (Some place) = Ok (record { first = place; last = place })
one_place None = Err fault.BadPlace

abbrev pub two_places : Option Location → Option Location → Result LocationRange RangeFault
two_places (Some first) (Some last) =
    if is_stretch first last
    then Ok (record { first = first; last = last })
    else Err fault.BadRange
two_places _ _ = Err fault.BadPlace

-- a dash, which separates two places
abbrev pub is_dash : ℕ → Bool
is_dash b = b == 0x2D

-- the range that a text names, with its first dash at this position or without one
abbrev pub places_cut : Option ℕ → List ℕ → Result LocationRange RangeFault
places_cut (Some at) text =
    two_places (location_named (take at text)) (location_named (drop (at + 1) text))
places_cut None text = one_place (location_named text)

-- the places that a text names: a place, or two of one bank with a dash between, `05,2071-05,2100`
unfoldable pub places_named : List ℕ → Result LocationRange RangeFault
places_named text = places_cut (position is_dash text) text

-- the same, if they are cells of erasable memory
abbrev pub only_cells : Result LocationRange RangeFault → Result LocationRange RangeFault
only_cells (Ok places) = if is_cell places.first then Ok places else Err fault.NotErasable
only_cells (Err why) = Err why

-- the cells that a text names, a cell or two of one bank with a dash between, `0100-0107`
unfoldable pub cells_named : List ℕ → Result LocationRange RangeFault
cells_named text = only_cells (places_named text)

-- the names of the faults
abbrev pub fault_name : RangeFault → List ℕ
fault_name fault.BadPlace = codes "BadPlace"
fault_name fault.BadRange = codes "BadRange"
fault_name fault.NotErasable = codes "NotErasable"
