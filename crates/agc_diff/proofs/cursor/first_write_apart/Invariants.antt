use Rattle.agc_diff.proofs.Followed.{HasReportedSame, writes_left}
use Rattle.agc_diff.proofs.cursor.first_write_apart.Given as goal

-- the writes so far are the same in both runs
abbrev pub invariant-loop-number : goal.invariant-loop-number
invariant-loop-number g l =
    HasReportedSame l.before l.number l.initial.left l.initial.left_machine l.left l.left_machine l.initial.right l.initial.right_machine l.right l.right_machine

abbrev pub decreases-loop-number : goal.decreases-loop-number
decreases-loop-number g l = writes_left l.left l.left_machine
