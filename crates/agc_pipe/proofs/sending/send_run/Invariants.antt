use Rattle.std.proofs.Common.{◌≡◌}
use Rattle.agc_machine.specs.Run.{run_of, boundaries_left}
use Rattle.agc_pipe.proofs.Sends.{IsSending}
use Rattle.agc_pipe.proofs.sending.send_run.Given as goal

abbrev pub invariant-loop-write : goal.invariant-loop-write
invariant-loop-write g l =
    IsSending (run_of l.fn.machine) l.block_sender.sent (run_of l.machine) × (l.block_sender ≡ record l.fn.sender { sent = l.block_sender.sent })

abbrev pub decreases-loop-write : goal.decreases-loop-write
decreases-loop-write g l = boundaries_left l.machine
