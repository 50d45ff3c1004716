-- Where the machine is.
use Rattle.std.specs.Prelude.{ℕ, ◌+◌, ◌%◌, Bool, nat_le, nat_lt, ◌&&◌, List, [], ◌++◌, Option, Some, None, if◌then◌else◌, codes}
use Rattle.agc_listing.specs.Location.{location_at}
use Rattle.agc_listing.specs.Place.{place_text}
use Rattle.agc_listing.specs.declared.location.Location.{Location}
use Rattle.agc_listing.specs.declared.place.Place.TheVariants as place
use Rattle.agc_machine.specs.Boundary.{bank_of_address, in_hand}
use Rattle.agc_machine.specs.State.{State}
use Rattle.agc_processor.specs.declared.processor.Processor.{Processor}
use Rattle.agc_store.specs.Cells.{cell_of}
use Rattle.agc_store.specs.Memory.{Memory}
use Rattle.agc_store.specs.Places.{erasable_window, fixed_fixed, zrupt_cell}
use Rattle.agc_symbols.specs.Column.{nearby_text}
use Rattle.agc_symbols.specs.Nearest.{Nearby, nearest}
use Rattle.agc_symbols.specs.Symbols.{Symbol}
use Rattle.agc_trace.specs.Line.{order_place}
use Rattle.agc_word.specs.Number.{pattern_of}

-- the nearest name of a place, after a space, if there are symbols and it has one
abbrev pub after_blank : Option Nearby → List ℕ
after_blank (Some near) = codes " " ++ nearby_text (Some near)
after_blank None = []

abbrev pub name_beside : Option (List Symbol) → Location → List ℕ
name_beside (Some names) at = after_blank (nearest names at)
name_beside None at = []

-- the place that an address names with the present banks, as traces print it, and its nearest name
unfoldable pub place_line : Option (List Symbol) → Processor → ℕ → List ℕ
place_line names p address =
    let bank = bank_of_address address p in
    place_text (order_place bank address) ++ name_beside names (location_at bank address) ++ codes "\n"

-- the address of the order that an interrupt came before: one before that in ZRUPT
unfoldable pub interrupted_address : Memory → ℕ
interrupted_address m = (pattern_of 15 (cell_of m 0 zrupt_cell) % 0o10000 + 0o7777) % 0o10000

-- an address in a window: the selected banks decide which place it names
abbrev pub is_in_window : ℕ → Bool
is_in_window address = nat_le erasable_window address && nat_lt address fixed_fixed

-- The rest of the line of an order interrupted. The service may have selected other banks since: of an address in a
-- window the bank is not known, and no name is printed.
abbrev pub address_line : ℕ → List ℕ
address_line address = place_text (place.Plain address) ++ codes " (its bank is not known)\n"

unfoldable pub interrupted_line : Option (List Symbol) → Processor → ℕ → List ℕ
interrupted_line names p address =
    if is_in_window address then address_line address else place_line names p address

-- while a service runs, what it interrupted
abbrev pub service_text : Option (List Symbol) → Processor → List ℕ
service_text names p =
    if p.serving
    then codes "service interrupted " ++ interrupted_line names p (interrupted_address p.store)
    else []

-- The place of the order in hand, which runs next unless something else comes before it, and what was interrupted.
unfoldable pub where_text : Option (List Symbol) → State → List ℕ
where_text names s =
    codes "where " ++ place_line names s.processor (in_hand s.processor).address ++ service_text names s.processor
