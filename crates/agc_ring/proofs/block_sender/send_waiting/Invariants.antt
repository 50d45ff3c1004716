use Rattle.std.proofs.Common.{◌≡◌}
use Rattle.agc_ring.proofs.block_sender.send_waiting.Given as goal

abbrev pub invariant-loop : goal.invariant-loop
invariant-loop g l = l.sender ≡ l.initial.sender
