-- What a profile counts of the boundaries of a run.
use Rattle.std.specs.Prelude.{◌-◌, Bool, true, false, List, [], ◌∷◌, Option, Some, None, if◌then◌else◌}
use Rattle.agc_store.specs.Places.{erasable_cells, fixed_places}
use Rattle.agc_processor.specs.Interrupt.{rupt_number}
use Rattle.agc_processor.specs.declared.interrupt.Rupt.{Rupt}
use Rattle.agc_machine.specs.declared.upcoming.Upcoming.{Upcoming}
use Rattle.agc_machine.specs.declared.upcoming.Upcoming.TheVariants as upcoming
use Rattle.agc_listing.specs.Location.{location_at}
use Rattle.agc_listing.specs.declared.location.Location.{Location}
use Rattle.agc_listing.specs.declared.location.Location.TheVariants as location
use Rattle.agc_profile.specs.Opcode.{named_of}
use Rattle.agc_profile.specs.Number.{basic_count, basic_number, extracode_count, extracode_number, rupt_count}
use Rattle.agc_profile.specs.Step.{is_in, service_of}
use Rattle.agc_profile.specs.Tally.{added, empty_table, nothing, once, plus}
use Rattle.agc_profile.specs.declared.profile.Profile.{Profile}
use Rattle.agc_profile.specs.declared.data.DataReads.{DataReads}
use Rattle.agc_profile.specs.declared.opcode.Opcode.{Opcode}
use Rattle.agc_profile.specs.declared.opcode.Opcode.TheVariants as named
use Rattle.agc_profile.specs.declared.step.Step.{Step}
use Rattle.agc_trace.specs.declared.span.Span.{Span}
use Rattle.agc_profile.specs.declared.tally.Tally.{Tally}

-- an order may be at a place of 40 fixed banks, of which the last four are empty, or at a cell
unfoldable pub nothing_counted : Profile
nothing_counted =
    record {
      fixed = empty_table fixed_places;
      erasable = empty_table erasable_cells;
      fixed_data = empty_table fixed_places;
      erasable_data = empty_table erasable_cells;
      basics = empty_table basic_count;
      extracodes = empty_table extracode_count;
      interrupts = empty_table rupt_count;
      orders = nothing;
      timers = nothing;
      events = nothing;
      entries = nothing;
      serving = nothing;
      inhibited = nothing;
    }

-- an order at its place
abbrev pub counted_at : Location → Tally → Profile → Profile
counted_at (location.Fixed place) one c = record c { fixed = added place one c.fixed }
counted_at (location.Erasable cell) one c = record c { erasable = added cell one c.erasable }

-- an order by its opcode
abbrev pub counted_as : Opcode → Tally → Profile → Profile
counted_as (named.Basic order) one c =
    record c { basics = added (basic_number order) one c.basics }
counted_as (named.Extracode order) one c =
    record c { extracodes = added (extracode_number order) one c.extracodes }

-- what happened, with all of its kind
abbrev pub counted_happening : Upcoming → Tally → Profile → Profile
counted_happening (upcoming.Order order) one c =
    let placed = counted_at (location_at order.bank order.address) one c in
    counted_as (named_of order) one (record placed { orders = plus placed.orders one })
counted_happening (upcoming.Timer t) one c = record c { timers = plus c.timers one }
counted_happening (upcoming.Event what) one c = record c { events = plus c.events one }
counted_happening (upcoming.Interrupt r) one c = record c { entries = plus c.entries one }
counted_happening (upcoming.Stop why) one c = c

-- an interrupt is taken
abbrev pub is_entry : Upcoming → Bool
is_entry (upcoming.Interrupt r) = true
is_entry (upcoming.Stop why) = false
is_entry (upcoming.Event what) = false
is_entry (upcoming.Timer t) = false
is_entry (upcoming.Order order) = false

-- what a boundary adds to a service: its cycles, and one interrupt if it is the entry
abbrev pub served : Step → Tally
served p = record { times = if is_entry p.happening then 1 else 0; cycles = p.cycles }

-- a boundary with the service that it belongs to, if any
abbrev pub counted_serving : Option Rupt → Step → Profile → Profile
counted_serving (Some r) p c =
    record c {
      interrupts = added (rupt_number r - 1) (served p) c.interrupts;
      serving = plus c.serving (once p.cycles);
    }
counted_serving None p c = c

-- a boundary that begins with INHINT in force
abbrev pub counted_inhibited : Bool → Tally → Profile → Profile
counted_inhibited true one c = record c { inhibited = plus c.inhibited one }
counted_inhibited false one c = c

-- a word that is read as data
abbrev pub counted_read : Option Location → Tally → Profile → Profile
counted_read (Some (location.Fixed place)) one c =
    record c { fixed_data = added place one c.fixed_data }
counted_read (Some (location.Erasable cell)) one c =
    record c { erasable_data = added cell one c.erasable_data }
counted_read None one c = c

-- all words that a boundary reads as data
abbrev pub counted_data : DataReads → Tally → Profile → Profile
counted_data words one c = counted_read words.before one (counted_read words.at one c)

-- one more boundary
unfoldable pub counted_one : Step → Profile → Profile
counted_one p c =
    let one = once p.cycles in
    counted_data p.reads one
    (counted_inhibited p.mode.inhibited one
    (counted_serving (service_of p) p (counted_happening p.happening one c)))

-- one more boundary, if it begins in a span of cycles
abbrev pub counted_in : Span → Step → Profile → Profile
counted_in span p c = if is_in span p then counted_one p c else c

-- a list of boundaries more
unfoldable pub counted : Profile → List Step → Profile
counted c [] = c
counted c (p ∷ ps) = counted (counted_one p c) ps

-- the profile of a list of boundaries
abbrev pub count_of : List Step → Profile
count_of ps = counted nothing_counted ps
