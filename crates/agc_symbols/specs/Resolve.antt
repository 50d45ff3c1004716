-- Ranges of locations, by symbols too.
use Rattle.std.specs.Prelude.{ℕ, ◌+◌, ◌&&◌, Bool, List, length, take, drop, get_or, find}
use Rattle.std.specs.Prelude.{Option, Some, None, is_some, Result, Ok, Err}
use Rattle.std.specs.List.{range_with_len}
use Rattle.agc_symbols.specs.Lookup.{resolve}
use Rattle.agc_symbols.specs.Symbols.{Symbol}
use Rattle.agc_listing.specs.declared.location.Location.{Location}
use Rattle.agc_listing.specs.Ranges.{is_dash, one_place, only_cells, places_named, two_places}
use Rattle.agc_listing.specs.declared.location_range.LocationRange.{LocationRange}
use Rattle.agc_listing.specs.declared.location_range.RangeFault.{RangeFault}

-- a dash with a location on either side, written as one or by its name
abbrev pub is_between : Option (List Symbol) → List ℕ → ℕ → Bool
is_between names text at =
    is_dash (get_or text at 0) && is_some (resolve names (take at text))
    && is_some (resolve names (drop (at + 1) text))

-- names may contain dashes: the first one that separates two locations counts
unfoldable pub dash_between : Option (List Symbol) → List ℕ → Option ℕ
dash_between names text = find (is_between names text) (range_with_len 0 (length text))

abbrev pub two_parsed : Option (List Symbol) → RangeFault → List ℕ → Option ℕ → Result LocationRange RangeFault
two_parsed names why text (Some at) =
    two_places (resolve names (take at text)) (resolve names (drop (at + 1) text))
two_parsed names why text None = Err why

abbrev pub one_or_two : Option (List Symbol) → RangeFault → List ℕ → Option Location → Result LocationRange RangeFault
one_or_two names why text (Some place) = one_place (Some place)
one_or_two names why text None = two_parsed names why text (dash_between names text)

-- `LOOP`, `LOOP+3` or `LOOP-3`; if the whole text is not a location, two of one bank: `LOOP-4177`, `LOOP-LOOP+7`
unfoldable pub range_by_names : Option (List Symbol) → RangeFault → List ℕ → Result LocationRange RangeFault
range_by_names names why text = one_or_two names why text (resolve names text)

-- what a text names without names, it names with them; if it names nothing either way, the fault is the same
abbrev pub named_or_called : Option (List Symbol) → List ℕ → Result LocationRange RangeFault → Result LocationRange RangeFault
named_or_called names text (Ok places) = Ok places
named_or_called names text (Err why) = range_by_names names why text

-- the range that a text names
unfoldable pub resolve_range : Option (List Symbol) → List ℕ → Result LocationRange RangeFault
resolve_range names text = named_or_called names text (places_named text)

-- the cells that a text names
unfoldable pub resolve_cells : Option (List Symbol) → List ℕ → Result LocationRange RangeFault
resolve_cells names text = only_cells (resolve_range names text)
