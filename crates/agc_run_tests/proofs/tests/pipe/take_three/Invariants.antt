use Rattle.std.proofs.Common.{◌≡◌}
use Rattle.agc_run_tests.proofs.tests.pipe.take_three.Given as goal

abbrev pub invariant-loop-cycle : goal.invariant-loop-cycle
invariant-loop-cycle g l = l.receiver.ring ≡ l.initial.receiver.ring
