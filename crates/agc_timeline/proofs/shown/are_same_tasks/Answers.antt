use Rattle.std.proofs.Common.{sym}
use Rattle.agc_timeline.proofs.Alike.{all_alike, one_more_alike}
use Rattle.agc_timeline.proofs.shown.are_same_tasks.Goals as goal

pub loop-k-preserved : goal.loop-k-preserved
loop-k-preserved c =
    one_more_alike _ _ c.loop-k.k c.index-left-k.result c.index-right-k.result c.loop-k-test.true c.if-left-right.false (sym c.index-left-k.is) (sym c.index-right-k.is)
    (c.is_same_task.ensures c.if-not-is_same_task.false) c.loop-k.invariant

pub returns : goal.returns
returns c = λ _. all_alike _ _ c.loop-k.k c.loop-k-test.false c.if-left-right.false c.loop-k.invariant
