use Rattle.std.proofs.Common.{◌≡◌, ◌++◌, sym, take, add-one, append_assoc, arith}
use Rattle.std.proofs.lemmas.Grind.{common_steps}
use Rattle.agc_ring.specs.Items.{shown_in}
use Rattle.agc_pipe.proofs.Takes.{at_end, at_write}
use Rattle.agc_pipe.proofs.display.Display.show_all.Goals as goal

pub returns-in-End-clause-end : goal.returns-in-End-clause-end
returns-in-End-clause-end g c =
    let is = rw c.in-End.is at c.item-item.is in
    let end = at_end c.args.items.now c.loop-item.item-index c.loop-item-test.true is c.loop-item.invariant.endless in
    sym end.0

pub returns-in-End-clause-shown : goal.returns-in-End-clause-shown
returns-in-End-clause-shown g c writes h =
    let is = rw c.in-End.is at c.item-item.is in
    let end = at_end c.args.items.now c.loop-item.item-index c.loop-item-test.true is c.loop-item.invariant.endless in
    rw end.1 (c.loop-item.invariant.shown writes h)

pub loop-item-preserved : goal.loop-item-preserved
loop-item-preserved g c =
    let is = rw c.in-Write.is at c.item-item.is in
    let more = at_write c.args.items.now c.loop-item.item-index c.in-Write.write c.loop-item-test.true is c.loop-item.invariant.endless in
    rw add-one (record {
      endless = more.0;
      shown = λ writes h. rw (more.1, ← append_assoc) (c.show.ensures (writes ++ shown_in (take c.loop-item.item-index c.args.items.now)) (c.loop-item.invariant.shown writes h));
    })

pub returns-clause-shown : goal.returns-clause-shown
returns-clause-shown g c writes h =
    let all : take c.loop-item.item-index c.args.items.now ≡ c.args.items.now = grind (arith, common_steps) in
    rw (← all) (c.loop-item.invariant.shown writes h)
