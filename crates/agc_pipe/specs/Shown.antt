-- The result of a run: of the call, and of the machine's thread.
use Rattle.std.specs.Prelude.{◌≡◌, Some}
use Rattle.agc_machine.specs.Run.{Run}
use Rattle.agc_panel.specs.Face.{panel_of}
use Rattle.agc_ring.specs.Items.{items_of}
use Rattle.agc_ring.specs.Ring.{Sending}
use Rattle.agc_pipe.specs.declared.sending.Sent.{Sent}
use Rattle.agc_pipe.specs.declared.shown.Shown.{Shown}

-- The result of a call: every channel write in order, the panel that they make, and the memory, the
-- stop and the cycle at its end.
pub record ShowsRun (run : Run) (shown : Shown) : Type 0 where
  pub log : shown.log.items ≡ run.writes
  pub panel : shown.panel ≡ panel_of run.writes
  pub store : shown.store ≡ run.last.processor.store
  pub stop : run.last.stopped ≡ Some shown.stop
  pub cycle : shown.cycle ≡ run.last.cycle

-- The result of the machine's thread: the sender has sent the run's writes and the end, and the
-- machine is at its stop.
pub record IsSentRun (run : Run) (fresh : Sending) (sent : Sent) : Type 0 where
  pub sender : sent.sender ≡ record fresh { sent = items_of run.writes }
  pub machine : sent.machine ≡ run.last
  pub stop : run.last.stopped ≡ Some sent.stop
