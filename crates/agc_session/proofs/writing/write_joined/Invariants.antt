use Rattle.std.specs.Prelude.{◌≤◌, drop, length}
use Rattle.agc_script.specs.Merge.{joined}
use Rattle.agc_session.proofs.Written.{IsWritten}
use Rattle.agc_session.proofs.writing.write_joined.Given as goal

abbrev pub invariant-loop-event : goal.invariant-loop-event
invariant-loop-event g l = record {
  same : IsWritten (g.W.Write.contents l.fn.out) (g.W.Write.contents l.out) (joined l.rest (drop l.event-index l.given)) (joined l.fn.script l.fn.given);
  few : length l.rest ≤ 65536;
}
