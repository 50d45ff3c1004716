-- Which states of a run are sampled.
use Rattle.std.specs.Prelude.{ℕ, ◌+◌, ◌-◌, ◌%◌, ◌&&◌, Bool, true, false, min, max, nat_le, Option, Some, None}
use Rattle.std.specs.List.{list_any}
use Rattle.agc_listing.specs.Location.{location_at}
use Rattle.agc_listing.specs.Ranges.{has_place}
use Rattle.agc_listing.specs.declared.location_range.LocationRange.{LocationRange}
use Rattle.agc_machine.specs.Boundary.{upcoming_of}
use Rattle.agc_machine.specs.State.{State}
use Rattle.agc_machine.specs.declared.upcoming.Upcoming.{Upcoming}
use Rattle.agc_machine.specs.declared.upcoming.Upcoming.TheVariants as upcoming
use Rattle.agc_quantities.specs.Sample.{is_changed}
use Rattle.agc_quantities.specs.declared.sample.Sample.{Sample}
use Rattle.agc_quantities.specs.declared.sampler.Plan.{Plan}
use Rattle.agc_quantities.specs.declared.sampler.Schedule.{Schedule}
use Rattle.agc_quantities.specs.declared.sampler.Schedule.TheVariants as schedule

-- an order at one of these places comes
abbrev pub comes_at : LocationRange → Upcoming → Bool
comes_at places (upcoming.Order order) = has_place places (location_at order.bank order.address)
comes_at places (upcoming.Stop why) = false
comes_at places (upcoming.Event what) = false
comes_at places (upcoming.Timer t) = false
comes_at places (upcoming.Interrupt r) = false

-- The next multiple of a number after a cycle; 0 counts as 1. After the last number of 64 bits there is none; no run
-- goes that far.
abbrev pub next_multiple : ℕ → ℕ → ℕ
next_multiple period cycle =
    min (cycle - cycle % max period 1 + max period 1) 18446744073709551615

-- a state that may be the first sample
abbrev pub is_first : Schedule → State → Bool
is_first (schedule.Every period) s = true
is_first (schedule.At places) s = comes_at places (upcoming_of s)
is_first schedule.Changes s = true

-- a state that may be the next sample after another one
abbrev pub is_due_after : Schedule → Sample → State → Bool
is_due_after (schedule.Every period) last s = nat_le (next_multiple period last.cycle) s.cycle
is_due_after (schedule.At places) last s = comes_at places (upcoming_of s)
is_due_after schedule.Changes last s = list_any (is_changed s.processor.store) last.words.items

-- a state that may be the next sample; without one before it, it is in the range
abbrev pub is_due : Plan → Option Sample → State → Bool
is_due plan None s = nat_le plan.from s.cycle && is_first plan.schedule s
is_due plan (Some last) s = is_due_after plan.schedule last s

-- before this cycle no state is due
abbrev pub earliest_after : Schedule → Sample → ℕ
earliest_after (schedule.Every period) last = next_multiple period last.cycle
earliest_after (schedule.At places) last = 0
earliest_after schedule.Changes last = 0

abbrev pub earliest : Plan → Option Sample → ℕ
earliest plan None = plan.from
earliest plan (Some last) = earliest_after plan.schedule last
