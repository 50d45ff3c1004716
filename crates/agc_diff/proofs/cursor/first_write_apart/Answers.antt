use Rattle.agc_diff.proofs.Followed.{fewer_left, reported_all, reported_apart, reported_more, reported_none}
use Rattle.agc_diff.proofs.cursor.first_write_apart.Goals as goal

pub loop-number-init : goal.loop-number-init
loop-number-init g c = reported_none _ _ _ _ _

pub loop-number-smaller : goal.loop-number-smaller
loop-number-smaller g c = fewer_left _ _ _ _ _ c.next_write.ensures.gone (c.left_has_ended.ensures.some c.if-left_has_ended.false)

pub loop-number-preserved : goal.loop-number-preserved
loop-number-preserved g c =
    reported_more _ _ _ _ _ _ _ _ _ _ _ _ _ _ _ _ _ c.next_write.ensures.gone c.next_write-in-loop-number.ensures.gone
    (c.differs.ensures.same c.if-differs.false) (c.left_has_ended.ensures.some c.if-left_has_ended.false) c.in_ok-number.ensures c.loop-number.invariant

pub returns-then-differs : goal.returns-then-differs
returns-then-differs g c =
    reported_apart _ _ _ _ _ _ _ _ _ _ _ _ _ _ _ _ _ c.next_write.ensures.gone c.next_write-in-loop-number.ensures.gone
    (c.differs.ensures.differ c.if-differs.true) c.next_write.ensures.ended c.next_write-in-loop-number.ensures.ended c.in_ok-number.ensures c.loop-number.invariant

pub returns-then-left_has_ended : goal.returns-then-left_has_ended
returns-then-left_has_ended g c =
    reported_all _ _ _ _ _ _ _ _ _ _ _ _ _ _ _ _ c.next_write.ensures.gone c.next_write-in-loop-number.ensures.gone
    (c.differs.ensures.same c.if-differs.false) (c.left_has_ended.ensures.none c.if-left_has_ended.true) c.next_write.ensures.ended c.next_write-in-loop-number.ensures.ended
    c.loop-number.invariant
