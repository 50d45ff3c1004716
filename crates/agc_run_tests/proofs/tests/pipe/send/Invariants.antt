use Rattle.std.proofs.Common.{◌≡◌}
use Rattle.agc_run_tests.proofs.tests.pipe.send.Given as goal

abbrev pub invariant-loop : goal.invariant-loop
invariant-loop g l = l.sender.ring ≡ l.initial.sender.ring
