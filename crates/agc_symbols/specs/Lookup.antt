-- How a word resolves to a location: written as one, or as a name with an offset after or before it.
use Rattle.std.specs.Prelude.{ℕ, ◌+◌, ◌-◌, nat_lt, nat_le, false, List, take, drop, position, find}
use Rattle.std.specs.Prelude.{Option, Some, None, option_map, if◌then◌else◌}
use Rattle.std.specs.Option.{option_or}
use Rattle.std.specs.Str.{bytes_eq}
use Rattle.agc_store.specs.Places.{erasable_cells, fixed_words}
use Rattle.agc_listing.specs.Location.{location_named}
use Rattle.agc_listing.specs.Number.{is_sign, offset_named}
use Rattle.agc_listing.specs.declared.location.Location.{Location}
use Rattle.agc_listing.specs.declared.location.Location.TheVariants as location
use Rattle.agc_listing.specs.declared.number.Signed.{Signed}
use Rattle.agc_symbols.specs.Register.{own_location}
use Rattle.agc_symbols.specs.Symbols.{Symbol}

-- the location of the first symbol with this name
unfoldable pub place_of_name : List Symbol → List ℕ → Option Location
place_of_name names word =
    option_map (λ named. named.place) (find (λ named. bytes_eq named.name word) names)

-- a number plus a signed number
abbrev pub number_by : Signed → ℕ → Option ℕ
number_by by n =
    if by.minus
    then (if nat_le by.magnitude n then Some (n - by.magnitude) else None)
    else Some (n + by.magnitude)

-- a place, and a cell, that is in memory
abbrev pub fixed_within : Option ℕ → Option Location
fixed_within (Some place) = if nat_lt place fixed_words then Some (location.Fixed place) else None
fixed_within None = None

abbrev pub cell_within : Option ℕ → Option Location
cell_within (Some cell) = if nat_lt cell erasable_cells then Some (location.Erasable cell) else None
cell_within None = None

-- this many words after or before a location, in the same memory
abbrev pub location_by : Signed → Location → Option Location
location_by by (location.Fixed place) = fixed_within (number_by by place)
location_by by (location.Erasable cell) = cell_within (number_by by cell)

abbrev pub moved : Option Signed → Option Location → Option Location
moved (Some by) (Some at) = location_by by at
moved (Some by) None = None
moved None at = None

abbrev pub no_step : Signed
no_step = record { minus = false; magnitude = 0 }

-- a name followed by a number, which begins at this sign
abbrev pub place_cut : List Symbol → Option ℕ → List ℕ → Option Location
place_cut names (Some at) word =
    moved (offset_named (drop at word)) (place_of_name names (take at word))
place_cut names None word = None

-- `NAME`, or else `NAME+n` or `NAME-n`, cut before the first sign
unfoldable pub place_called : List Symbol → List ℕ → Option Location
place_called names word =
    option_or (moved (Some no_step) (place_of_name names word))
    (place_cut names (position is_sign word) word)

-- the location that a word writes, or else the one that it names: by a symbol, or by a name of the computer's own
abbrev pub called_in : Option (List Symbol) → List ℕ → Option Location
called_in (Some names) word = place_called names word
called_in None word = None

unfoldable pub resolve : Option (List Symbol) → List ℕ → Option Location
resolve names word =
    option_or (location_named word) (option_or (called_in names word) (own_location word))
