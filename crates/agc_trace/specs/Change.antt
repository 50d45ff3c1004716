-- The watched cells of erasable memory, and what a boundary changes in them.
use Rattle.std.specs.Prelude.{ℕ, Bool, not, List, ◌++◌, codes, filter, flat_map, map}
use Rattle.std.specs.List.{list_any, range_with_len}
use Rattle.agc_store.specs.Memory.{Memory, cell_at}
use Rattle.agc_listing.specs.Place.{place_text}
use Rattle.agc_listing.specs.declared.location.Location.TheVariants as location
use Rattle.agc_listing.specs.Cell.{cell_place, cell_word, same_word}
use Rattle.agc_listing.specs.Ranges.{has_place}
use Rattle.agc_store.specs.Places.{erasable_cells}
use Rattle.agc_trace.specs.declared.change.Change.{Change}
use Rattle.agc_trace.specs.declared.change.Seen.{Seen}
use Rattle.agc_listing.specs.declared.location_range.LocationRange.{LocationRange}

-- one of several ranges contains this cell
abbrev pub is_named : List LocationRange → ℕ → Bool
is_named several cell = list_any (λ places. has_place places (location.Erasable cell)) several

-- those of the first `count` cells that are watched, in the order of their numbers
unfoldable pub named_below : ℕ → List LocationRange → List ℕ
named_below count several = filter (is_named several) (range_with_len 0 count)

-- the watched cells, each once
unfoldable pub named_cells : List LocationRange → List ℕ
named_cells several = named_below erasable_cells several

-- a cell with its word in a memory
abbrev pub seen_in : Memory → ℕ → Seen
seen_in m cell = record { cell = cell; word = cell_at cell m.erasable }

-- a cell that was read, and has another word in this memory
abbrev pub is_changed : Memory → Seen → Bool
is_changed m seen = not (same_word seen.word (cell_at seen.cell m.erasable))

abbrev pub change_of : Memory → Seen → Change
change_of m seen = record { cell = seen.cell; old = seen.word; new = cell_at seen.cell m.erasable }

-- what this memory changes in the cells that were read
abbrev pub changes_since : List Seen → Memory → List Change
changes_since several m = map (change_of m) (filter (is_changed m) several)

-- the changes of some cells from one memory to another: each cell whose word differs, in their order
unfoldable pub changes_between : List ℕ → Memory → Memory → List Change
changes_between cells before after = changes_since (map (seen_in before) cells) after

-- a change as printed: the cell's place, its word before, and the one after
unfoldable pub change_text : Change → List ℕ
change_text change =
    codes " | " ++ place_text (cell_place change.cell) ++ codes " "
    ++ cell_word change.cell change.old ++ codes " to " ++ cell_word change.cell change.new

unfoldable pub changes_text : List Change → List ℕ
changes_text changes = flat_map change_text changes
