use Rattle.agc_trace.specs.Trace.{entries_left}
use Rattle.agc_diff.specs.CommonPrefix.{Shares}
use Rattle.agc_diff.proofs.common_prefix.run_together.Given as goal

-- what both runs have in common so far
abbrev pub invariant-loop-left_turn : goal.invariant-loop-left_turn
invariant-loop-left_turn g l = Shares l.initial.left l.initial.right l.common l.last l.left l.right

abbrev pub decreases-loop-left_turn : goal.decreases-loop-left_turn
decreases-loop-left_turn g l = entries_left l.left
