use Rattle.std.proofs.Common.{◌≡◌, length}
use Rattle.agc_timeline.specs.Divergence.{first_difference}
use Rattle.agc_timeline.proofs.divergence.first_difference.Given as goal

-- the frames so far are the same in both films
abbrev pub invariant-loop-left_frame : goal.invariant-loop-left_frame
invariant-loop-left_frame l = first_difference l.left l.right ≡ first_difference l.fn.left l.fn.right

abbrev pub decreases-loop-left_frame : goal.decreases-loop-left_frame
decreases-loop-left_frame l = length l.left
