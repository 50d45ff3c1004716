-- The interrupt service that is still in progress when a run stops.
use Rattle.std.specs.Prelude.{ℕ, nat_le, List, [], ◌∷◌, Option, Some, None, if◌then◌else◌}
use Rattle.agc_machine.specs.declared.upcoming.Upcoming.{Upcoming}
use Rattle.agc_machine.specs.declared.upcoming.Upcoming.TheVariants as upcoming
use Rattle.agc_trace.specs.Selection.{ends_service}
use Rattle.agc_trace.specs.Trace.{is_stop}
use Rattle.agc_trace.specs.declared.entry.Entry.{Entry}
use Rattle.agc_trace.specs.declared.selection.Selection.{Selection}
use Rattle.agc_trace.specs.declared.service.Service.{Service}

-- what an event at a cycle leaves of a service: an interrupt begins one, RESUME ends it
abbrev pub served : ℕ → Upcoming → Option Service → Option Service
served cycle (upcoming.Interrupt r) before = Some (record { rupt = r; cycle = cycle })
served cycle (upcoming.Order order) before = if ends_service order then None else before
served cycle (upcoming.Stop why) before = before
served cycle (upcoming.Event what) before = before
served cycle (upcoming.Timer t) before = before

-- a service that began before the range does not count
abbrev pub service_after : Selection → Option Service → Entry → Option Service
service_after s before entry =
    if nat_le s.from entry.cycle then served entry.cycle entry.happening before else before

-- the service in progress at the stop, given the one before these entries; `None` if the range ends
-- before the stop
unfoldable pub service_at_stop : Selection → Option Service → List Entry → Option Service
service_at_stop s before [] = None
service_at_stop s before (entry ∷ entries) =
    if nat_le entry.cycle s.to
    then (if is_stop entry.happening then before
    else service_at_stop s (service_after s before entry) entries)
    else None

-- the service that began in the range and is in progress at the stop of a trace
abbrev pub service_left : Selection → List Entry → Option Service
service_left s entries = service_at_stop s None entries
