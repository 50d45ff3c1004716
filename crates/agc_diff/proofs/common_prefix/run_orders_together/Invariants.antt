use Rattle.std.proofs.Common.{◌≤◌}
use Rattle.agc_machine.specs.State.{State}
use Rattle.agc_trace.specs.Trace.{entries_left}
use Rattle.agc_diff.specs.CommonPrefix.{Shares}
use Rattle.agc_diff.proofs.common_prefix.run_orders_together.Given as goal

-- what both runs have in common stays so
abbrev pub invariant-loop-left_entry : goal.invariant-loop-left_entry
invariant-loop-left_entry g l =
    ((s t : State) → Shares s t l.initial.common l.initial.last l.initial.left l.initial.right → Shares s t l.common l.last l.left l.right)
    × (entries_left l.left ≤ entries_left l.initial.left)

abbrev pub decreases-loop-left_entry : goal.decreases-loop-left_entry
decreases-loop-left_entry g l = entries_left l.left
