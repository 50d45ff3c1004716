-- The boundaries of a run, each with the cycles that it takes and the context in which it begins.
use Rattle.std.specs.Prelude.{◌≡◌, ◌<◌, ◌-◌, ◌&&◌, Bool, true, false, nat_le, List, [], ◌∷◌, filter, Option, Some, None}
use Rattle.agc_store.specs.Places.{erasable_cells, fixed_places}
use Rattle.agc_processor.specs.declared.interrupt.Rupt.{Rupt}
use Rattle.agc_machine.specs.Boundary.{boundary, upcoming_of}
use Rattle.agc_machine.specs.State.{State}
use Rattle.agc_machine.specs.declared.upcoming.Upcoming.{Upcoming}
use Rattle.agc_machine.specs.declared.upcoming.Upcoming.TheVariants as upcoming
use Rattle.agc_listing.specs.Location.{location_at}
use Rattle.agc_listing.specs.declared.location.Location.{Location}
use Rattle.agc_listing.specs.declared.location.Location.TheVariants as location
use Rattle.agc_profile.specs.DataReads.{data_of}
use Rattle.agc_profile.specs.Context.{at_start, mode_after}
use Rattle.agc_profile.specs.Opcode.{named_of}
use Rattle.agc_profile.specs.Readers.{Reported, all_reported}
use Rattle.agc_trace.specs.declared.span.Span.{Span}
use Rattle.agc_profile.specs.declared.context.Context.{Context}
use Rattle.agc_profile.specs.declared.opcode.Opcode.{Opcode}
use Rattle.agc_profile.specs.declared.step.Step.{Step}

-- an entry of a trace takes the cycles up to the next one
abbrev pub passage_between : Context → Reported → Reported → Step
passage_between mode reported next =
    record {
      cycle = reported.entry.cycle;
      happening = reported.entry.happening;
      cycles = next.entry.cycle - reported.entry.cycle;
      mode = mode;
      reads = reported.reads;
    }

-- the boundaries of a trace except its last entry, which is the stop and takes no cycles
unfoldable pub passages : Context → List Reported → List Step
passages mode [] = []
passages mode (last ∷ []) = []
passages mode (reported ∷ next ∷ later) =
    passage_between mode reported next
    ∷ passages (mode_after reported.entry.happening mode) (next ∷ later)

-- a boundary that begins in a span of cycles
abbrev pub is_in : Span → Step → Bool
is_in span passage = nat_le span.from passage.cycle && nat_le passage.cycle span.to

-- the boundaries in a span that a machine still makes, from a state and a context
unfoldable pub passages_left : Span → Context → State → List Step
passages_left span mode s = filter (is_in span) (passages mode (all_reported s))

-- the boundaries of a run in a span
abbrev pub steps_in : Span → State → List Step
steps_in span s = passages_left span at_start s

-- the boundary that begins in a state
unfoldable pub passage_of : Context → State → Step
passage_of mode s =
    record {
      cycle = s.cycle;
      happening = upcoming_of s;
      cycles = (boundary None s).0.cycle - s.cycle;
      mode = mode;
      reads = data_of (upcoming_of s) s.processor.store;
    }

-- the entry of an interrupt and everything up to its RESUME belong to its service
abbrev pub service_by : Upcoming → Option Rupt → Option Rupt
service_by (upcoming.Interrupt r) before = Some r
service_by (upcoming.Stop why) before = before
service_by (upcoming.Event what) before = before
service_by (upcoming.Timer t) before = before
service_by (upcoming.Order order) before = before

abbrev pub service_of : Step → Option Rupt
service_of passage = service_by passage.happening passage.mode.service

-- an order runs
abbrev pub is_order : Upcoming → Bool
is_order (upcoming.Order order) = true
is_order (upcoming.Stop why) = false
is_order (upcoming.Event what) = false
is_order (upcoming.Timer t) = false
is_order (upcoming.Interrupt r) = false

-- a place that is in the tables of a profile: in 40 fixed banks, of which the last four are empty, or a cell
abbrev pub HasTally : Location → Type 0
HasTally (location.Fixed place) = place < fixed_places
HasTally (location.Erasable cell) = cell < erasable_cells

-- an order runs at a place, with an opcode
abbrev pub RunsAs : Location → Opcode → Upcoming → Type 0
RunsAs place name (upcoming.Order order) =
    (place ≡ location_at order.bank order.address) × (name ≡ named_of order)
RunsAs place name (upcoming.Stop why) = ⊥
RunsAs place name (upcoming.Event what) = ⊥
RunsAs place name (upcoming.Timer t) = ⊥
RunsAs place name (upcoming.Interrupt r) = ⊥

-- an order is at such a place
abbrev pub IsPlaced : Upcoming → Type 0
IsPlaced (upcoming.Order order) = HasTally (location_at order.bank order.address)
IsPlaced (upcoming.Stop why) = Unit {0}
IsPlaced (upcoming.Event what) = Unit {0}
IsPlaced (upcoming.Timer t) = Unit {0}
IsPlaced (upcoming.Interrupt r) = Unit {0}
