use Rattle.std.proofs.Common.{length}
use Rattle.agc_diff.specs.ObservedCursor.{shown_left}
use Rattle.agc_diff.proofs.Together.{HasMatched}
use Rattle.agc_diff.proofs.observed.common_prefix.go_together.Given as goal

-- what both runs have shown so far is alike
abbrev pub invariant-loop-pair : goal.invariant-loop-pair
invariant-loop-pair g l = HasMatched l.what l.initial.left l.initial.right l.common l.last l.left_cursor.panel l.left l.right_cursor.panel l.right

abbrev pub decreases-loop-pair : goal.decreases-loop-pair
decreases-loop-pair g l = length (shown_left l.what l.left_cursor.panel l.left)
