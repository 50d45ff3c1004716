use Rattle.std.proofs.Common.{◌≡◌}
use Rattle.agc_run_tests.proofs.tests.pipe.send_five.Given as goal

abbrev pub invariant-loop-cycle : goal.invariant-loop-cycle
invariant-loop-cycle g l = l.sender.ring ≡ l.initial.sender.ring
