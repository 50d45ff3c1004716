use Rattle.std.proofs.Common.{◌≡◌, ◌+◌, ◌<◌, ◌≤◌, ◌^◌}
use Rattle.agc_trace.specs.Trace.{entries_left}
use Rattle.agc_profile.specs.Profile.{count_of, counted}
use Rattle.agc_profile.specs.Step.{steps_in, passages_left}
use Rattle.agc_profile.specs.Sums.{AddsUp}
use Rattle.agc_profile.proofs.counting.count.Given as goal

-- with the boundaries that are left, what is counted so far is what the run comes to, and it adds up; the rope stays, and
-- the orders have no more cycles than have gone by, and room for all boundaries that are left
abbrev pub invariant-loop-span : goal.invariant-loop-span
invariant-loop-span g l =
    (counted l.counts (passages_left l.span l.mode l.machine) ≡ count_of (steps_in l.span l.initial.machine))
    × (l.machine.processor.store.fixed ≡ l.initial.machine.processor.store.fixed) × AddsUp l.counts
    × (l.counts.orders.cycles ≤ l.machine.cycle) × (l.counts.orders.times + entries_left l.machine < 2 ^ 64)

abbrev pub decreases-loop-span : goal.decreases-loop-span
decreases-loop-span g l = entries_left l.machine
