use Rattle.agc_diff.proofs.Together.{fewer_left, matched_all, matched_apart, matched_more, matched_none}
use Rattle.agc_diff.proofs.observed.common_prefix.go_together.Goals as goal

pub loop-pair-init : goal.loop-pair-init
loop-pair-init g c =
    matched_none c.args.what _ _ _ _ _ _ c.new-left_cursor.ensures c.new-right_cursor.ensures c.none-common.ensures.count c.none-common.ensures.skew c.requires

pub loop-pair-smaller : goal.loop-pair-smaller
loop-pair-smaller g c = fewer_left c.args.what _ _ _ _ _ _ c.next_shown-left_shown.ensures.next (rw c.in-Alike.is at c.pairing_of.ensures).0

pub loop-pair-preserved : goal.loop-pair-preserved
loop-pair-preserved g c =
    matched_more c.args.what _ _ _ _ _ _ _ _ _ _ _ _ _ _ _ _ _ c.next_shown-left_shown.ensures.next c.next_shown-right_shown.ensures.next
    c.next_shown-left_shown.ensures.fits c.next_shown-right_shown.ensures.fits (rw c.in-Alike.is at c.pairing_of.ensures)
    c.in_ok-take-in-Alike.ensures.count c.in_ok-take-in-Alike.ensures.skew c.push_last.ensures c.loop-pair.invariant

pub returns-in-Apart : goal.returns-in-Apart
returns-in-Apart g c =
    matched_apart c.args.what _ _ _ _ _ _ _ _ _ _ _ _ _ _ _ c.next_shown-left_shown.ensures.next c.next_shown-right_shown.ensures.next
    c.next_shown-left_shown.ensures.fits c.next_shown-right_shown.ensures.fits (rw c.in-Apart.is at c.pairing_of.ensures) c.in_ok-one_more-in-Apart.ensures c.loop-pair.invariant

pub returns-in-Over : goal.returns-in-Over
returns-in-Over g c =
    matched_all c.args.what _ _ _ _ _ _ _ _ _ _ _ _ _ _ c.next_shown-left_shown.ensures.next c.next_shown-right_shown.ensures.next (rw c.in-Over.is at c.pairing_of.ensures) c.loop-pair.invariant
