-- Which boundaries of a run have a line: those that begin in a range of cycles and meet every
-- condition, and the stop; of these all, or only the last ones.
use Rattle.std.specs.Prelude.{ℕ, ◌+◌, ◌-◌, ◌%◌, ◌==◌, ◌&&◌, ◌||◌, not, Bool, true, false, nat_le}
use Rattle.std.specs.Prelude.{List, drop, length, filter, flat_map, string_bytes}
use Rattle.std.specs.Prelude.{Option, Some, None, is_some}
use Rattle.std.specs.List.{list_any}
use Rattle.std.specs.Str.{bytes_eq}
use Rattle.agc_word.specs.Number.{pattern_of}
use Rattle.agc_order.specs.Order.{basic_of, extracode_of}
use Rattle.agc_order.specs.declared.order.Basic.{Basic}
use Rattle.agc_order.specs.declared.order.Basic.TheVariants as basic
use Rattle.agc_order.specs.declared.order.Extracode.{Extracode}
use Rattle.agc_order.specs.declared.order.Extracode.TheVariants as extra
use Rattle.agc_listing.specs.Location.{location_at}
use Rattle.agc_machine.specs.State.{State}
use Rattle.agc_machine.specs.declared.upcoming.InHand.{InHand}
use Rattle.agc_machine.specs.declared.upcoming.Upcoming.{Upcoming}
use Rattle.agc_machine.specs.declared.upcoming.Upcoming.TheVariants as upcoming
use Rattle.agc_trace.specs.Change.{named_cells}
use Rattle.agc_trace.specs.Operand.{mnemonic_of}
use Rattle.agc_trace.specs.OperandLine.{watched_line}
use Rattle.agc_listing.specs.Ranges.{has_place}
use Rattle.agc_trace.specs.Trace.{is_stop}
use Rattle.agc_trace.specs.Watch.{Watched, watch_of}
use Rattle.agc_trace.specs.declared.change.Change.{Change}
use Rattle.agc_trace.specs.declared.entry.Entry.{Entry}
use Rattle.agc_trace.specs.declared.entry.Registers.{Registers}
use Rattle.agc_trace.specs.declared.line_form.LineForm.{LineForm}
use Rattle.agc_listing.specs.declared.location_range.LocationRange.{LocationRange}
use Rattle.agc_trace.specs.declared.selection.Only.{Only}
use Rattle.agc_trace.specs.declared.selection.Only.TheVariants as only
use Rattle.agc_trace.specs.declared.selection.Selection.{Selection}

-- RESUME, which ends the service of an interrupt
abbrev pub is_resume : Basic → Bool
is_resume basic.Resume = true
is_resume _ = false

abbrev pub ends_service : InHand → Bool
ends_service order = not order.extracode && is_resume (basic_of (pattern_of 15 order.word))

-- an interrupt, or RESUME
abbrev pub is_interrupt : Upcoming → Bool
is_interrupt (upcoming.Interrupt r) = true
is_interrupt (upcoming.Order order) = ends_service order
is_interrupt (upcoming.Stop why) = false
is_interrupt (upcoming.Event what) = false
is_interrupt (upcoming.Timer t) = false

-- the order in hand is at one before Z
abbrev pub hand_before : ℕ → ℕ
hand_before z = (z + 0o7777) % 0o10000

-- an order that is not followed by the order at the next address
abbrev pub is_jump : Upcoming → Registers → Bool
is_jump (upcoming.Order order) after =
    not (hand_before after.z == (order.address + 1) % 0o10000)
is_jump (upcoming.Stop why) after = false
is_jump (upcoming.Event what) after = false
is_jump (upcoming.Timer t) after = false
is_jump (upcoming.Interrupt r) after = false

-- an entry of a kind
abbrev pub is_of_kind : Only → Entry → Bool
is_of_kind only.Writes entry = is_some entry.write
is_of_kind only.Interrupts entry = is_interrupt entry.happening
is_of_kind only.Jumps entry = is_jump entry.happening entry.registers

-- without a kind, any entry
abbrev pub is_of_kinds : Option Only → Entry → Bool
is_of_kinds None entry = true
is_of_kinds (Some kind) entry = is_of_kind kind entry

-- an order at one of these places
abbrev pub runs_at : LocationRange → Upcoming → Bool
runs_at places (upcoming.Order order) = has_place places (location_at order.bank order.address)
runs_at places (upcoming.Stop why) = false
runs_at places (upcoming.Event what) = false
runs_at places (upcoming.Timer t) = false
runs_at places (upcoming.Interrupt r) = false

-- an order of this mnemonic
abbrev pub is_called : List ℕ → Upcoming → Bool
is_called name (upcoming.Order order) = bytes_eq (mnemonic_of order) name
is_called name (upcoming.Stop why) = false
is_called name (upcoming.Event what) = false
is_called name (upcoming.Timer t) = false
is_called name (upcoming.Interrupt r) = false

-- READ, WRITE, RAND, WAND, ROR, WOR and RXOR: the orders that read or write a channel
abbrev pub is_channel_order : Extracode → Bool
is_channel_order extra.Read = true
is_channel_order extra.Write = true
is_channel_order extra.Rand = true
is_channel_order extra.Wand = true
is_channel_order extra.Ror = true
is_channel_order extra.Wor = true
is_channel_order extra.Rxor = true
is_channel_order _ = false

-- an order that reads or writes this channel
abbrev pub touches : ℕ → Upcoming → Bool
touches channel (upcoming.Order order) =
    order.extracode && is_channel_order (extracode_of (pattern_of 15 order.word))
    && (pattern_of 15 order.word % 0o1000 == channel)
touches channel (upcoming.Stop why) = false
touches channel (upcoming.Event what) = false
touches channel (upcoming.Timer t) = false
touches channel (upcoming.Interrupt r) = false

-- one of several conditions is met; without any, everything is
abbrev pub is_any_met : {A : Type 0} → (A → Bool) → List A → Bool
is_any_met test several = (length several == 0) || list_any test several

-- a boundary that changes a watched cell; without watched cells, any
abbrev pub changes_one : List LocationRange → List Change → Bool
changes_one cells changes = (length cells == 0) || not (length changes == 0)

-- an entry that meets every condition
abbrev pub is_answer : Selection → Entry → List Change → Bool
is_answer s entry changes =
    is_of_kinds s.only entry && is_any_met (λ places. runs_at places entry.happening) s.places.items
    && is_any_met (λ name. is_called (string_bytes name) entry.happening) s.orders.items
    && is_any_met (λ channel. touches channel entry.happening) s.channels.items
    && changes_one s.cells.items changes

-- an entry whose boundary begins in the range of cycles
abbrev pub is_between : ℕ → ℕ → Entry → Bool
is_between from to entry = nat_le from entry.cycle && nat_le entry.cycle to

-- in the range, the entries that meet every condition have a line, and so has the stop, which says
-- why nothing follows
unfoldable pub is_selected : Selection → Watched → Bool
is_selected s watched =
    is_between s.from s.to watched.entry
    && (is_stop watched.entry.happening || is_answer s watched.entry watched.changes)

-- a run's entries, with the changes of watched cells at each boundary
abbrev pub watch_for : Selection → State → List Watched
watch_for s start = watch_of (named_cells s.cells.items) start

-- the selected entries
unfoldable pub selected : Selection → List Watched → List Watched
selected s entries = filter (is_selected s) entries

-- the last `most` of a list, or all if it is shorter
abbrev pub last_of : {A : Type 0} → ℕ → List A → List A
last_of most several = drop (length several - most) several

-- the last ones, if a number is selected
abbrev pub kept : Option ℕ → List Watched → List Watched
kept None entries = entries
kept (Some most) entries = last_of most entries

-- the lines of entries in a form
unfoldable pub lines_of : LineForm → List Watched → List ℕ
lines_of form entries = flat_map (watched_line form) entries

-- the lines of the selected entries, or of the last of them
unfoldable pub selected_lines : LineForm → Selection → List Watched → List ℕ
selected_lines form s entries = lines_of form (kept s.last (selected s entries))
