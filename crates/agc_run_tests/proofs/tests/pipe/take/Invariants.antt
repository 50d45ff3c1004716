use Rattle.std.proofs.Common.{◌≡◌}
use Rattle.agc_run_tests.proofs.tests.pipe.take.Given as goal

abbrev pub invariant-loop : goal.invariant-loop
invariant-loop g l = l.receiver.ring ≡ l.initial.receiver.ring
