-- Which cells past EDOP a boundary may change, known from what happens and the bank in EB alone.
use Rattle.std.specs.Prelude.{ℕ, ◌+◌, ◌-◌, ◌*◌, ◌%◌, Bool, false, nat_lt, nat_le, not, ◌&&◌, List}
use Rattle.std.specs.Prelude.{if◌then◌else◌}
use Rattle.std.specs.List.{list_any}
use Rattle.agc_word.specs.Number.{pattern_of}
use Rattle.agc_store.specs.Places.{erasable_bank_size, erasable_window, edop_cell, time6_cell, zero_cell}
use Rattle.agc_order.specs.Order.{basic_of, extracode_of}
use Rattle.agc_processor.specs.Row.{Reach, below, no_cell, written, two_written, channel}
use Rattle.agc_processor.specs.Row.{edited_again, far_edited_again, two_edited_again}
use Rattle.agc_processor.specs.Table.{basic_row, extracode_row}
use Rattle.agc_machine.specs.declared.upcoming.InHand.{InHand}
use Rattle.agc_machine.specs.declared.upcoming.Upcoming.{Upcoming}
use Rattle.agc_machine.specs.declared.upcoming.Upcoming.TheVariants as upcoming
use Rattle.agc_listing.specs.declared.location.Location.{Location}
use Rattle.agc_listing.specs.declared.location.Location.TheVariants as location
use Rattle.agc_trace.specs.Change.{is_named}
use Rattle.agc_listing.specs.declared.location_range.LocationRange.{LocationRange}
use Rattle.agc_trace.specs.declared.touched.Touched.{Touched}
use Rattle.agc_trace.specs.declared.touched.Touched.TheVariants as touched

-- the cell that an address below 2000 octal names while this bank is in EB
abbrev pub cell_in : ℕ → ℕ → ℕ
cell_in bank address =
    if nat_lt address erasable_window then address
    else
    erasable_bank_size * bank + (address - erasable_window)

-- A double word's cells. If the lower one is a register, the upper one may be in another bank.
abbrev pub two_touched : ℕ → ℕ → Touched
two_touched low high = if nat_le low zero_cell then touched.Any else touched.Two low high

-- the cells that an order with this reach writes at its address
abbrev pub touched_at : Reach → ℕ → ℕ → Touched
touched_at written bank address = touched.One (cell_in bank address)
touched_at two_written bank address =
    two_touched (cell_in bank address) (cell_in bank (below 0o1777 address))
touched_at no_cell bank address = touched.Nothing
touched_at edited_again bank address = touched.Nothing
touched_at far_edited_again bank address = touched.Nothing
touched_at two_edited_again bank address = touched.Nothing
touched_at channel bank address = touched.Nothing

-- the reach of the order in hand, from the table of changes
unfoldable pub reach_of : InHand → Reach
reach_of order =
    let word = pattern_of 15 order.word in
    if order.extracode then (extracode_row (extracode_of word)).reach else (basic_row (basic_of word)).reach

-- the cells past EDOP that what happens may change
unfoldable pub touched_by : ℕ → Upcoming → Touched
touched_by bank (upcoming.Order order) =
    touched_at (reach_of order) bank (pattern_of 15 order.word % 0o2000)
touched_by bank (upcoming.Timer t) = touched.Counter
touched_by bank (upcoming.Stop why) = touched.Any
touched_by bank (upcoming.Event what) = touched.Any
touched_by bank (upcoming.Interrupt r) = touched.Any

-- a range that begins at a cell or below it
abbrev pub begins_by : ℕ → Location → Bool
begins_by cell (location.Erasable first) = nat_le first cell
begins_by cell (location.Fixed first) = false

-- all watched cells come after a cell
abbrev pub are_past : ℕ → List LocationRange → Bool
are_past cell several = not (list_any (λ places. begins_by cell places.first) several)

-- no watched cell may change
abbrev pub is_away : List LocationRange → Touched → Bool
is_away several touched.Nothing = are_past edop_cell several
is_away several (touched.One cell) = are_past edop_cell several && not (is_named several cell)
is_away several (touched.Two low high) =
    are_past edop_cell several && not (is_named several low) && not (is_named several high)
is_away several touched.Counter = are_past time6_cell several
is_away several touched.Any = false
