use Rattle.std.proofs.Common.{◌≡◌, false}
use Rattle.agc_pipe.specs.Display.{IsShowing}
use Rattle.agc_ring.specs.Items.{has_end, shown_in}
use Rattle.agc_pipe.proofs.display.drain.Given as goal

abbrev pub invariant-loop : goal.invariant-loop
invariant-loop g l =
    (l.receiver.ring ≡ l.fn.receiver.ring) × (has_end l.receiver.received ≡ false) × IsShowing l.display (shown_in l.receiver.received) × (l.feed ≡ l.initial.feed)
