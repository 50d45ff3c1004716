use Rattle.std.proofs.Common.{◌∷◌, ◌++◌, [], List, ap, sym, subst}
use Rattle.agc_machine.specs.Run.{run_of}
use Rattle.agc_machine.proofs.Chain.{fewer_after_write}
use Rattle.agc_ring.specs.Ring.{Sending}
use Rattle.agc_ring.specs.declared.item.Item.{Item}
use Rattle.agc_ring.specs.declared.item.Item.TheVariants as item
use Rattle.agc_pipe.proofs.Sends.{IsSending, after_write, stopped, same_end, whole_end}
use Rattle.agc_pipe.proofs.sending.send_run.Goals as goal

pub loop-write-smaller : goal.loop-write-smaller
loop-write-smaller g c = fewer_after_write c.loop-write.machine c.next_reported.new.machine c.in-Wrote.write c.in-Wrote.ensures.next

pub loop-write-preserved : goal.loop-write-preserved
loop-write-preserved g c =
    let old : Sending = c.loop-write.block_sender in
    let more = after_write (run_of c.args.machine) old.sent c.loop-write.machine c.next_reported.new.machine c.in-Wrote.write c.loop-write.invariant.0 c.in-Wrote.ensures.next in (
      subst (λ (sent : List Item). IsSending (run_of c.args.machine) sent (run_of c.next_reported.new.machine)) (sym (ap (λ (s : Sending). s.sent) c.put.ensures)) more,
      same_end old c.put.new.self c.args.sender (old.sent ++ item.Write c.in-Wrote.write ∷ []) c.put.ensures c.loop-write.invariant.1,
    )

pub returns-in-Stopped : goal.returns-in-Stopped
returns-in-Stopped g c =
    let old : Sending = c.loop-write.block_sender in
    let done = stopped (run_of c.args.machine) old.sent c.loop-write.machine c.next_reported.new.machine c.in-Stopped.stop c.loop-write.invariant.0 c.in-Stopped.ensures.next in
    record {
      sender = whole_end old c.finish.result c.args.sender (old.sent ++ item.End ∷ []) _ c.finish.ensures c.loop-write.invariant.1 done.items;
      machine = done.last;
      stop = done.stop;
    }
