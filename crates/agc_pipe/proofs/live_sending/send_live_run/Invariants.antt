use Rattle.std.proofs.Common.{◌≡◌}
use Rattle.agc_pipe.proofs.Lives.{IsLiveSending}
use Rattle.agc_pipe.proofs.live_sending.send_live_run.Given as goal

-- what was sent are the writes of a live run from the start to the machine, with the tape so far
abbrev pub invariant-loop : goal.invariant-loop
invariant-loop g l =
    IsLiveSending l.fn.machine l.fn.sender l.block_sender l.taker.tape l.machine × (l.taker.ring ≡ l.fn.taker.ring) × (l.taker.spacing ≡ l.fn.taker.spacing)
