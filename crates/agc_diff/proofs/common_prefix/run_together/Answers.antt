use Rattle.std.proofs.Common.{◌≡◌, ◌≢◌, Bool, false, IsTrue, sym, ◌∙◌, arith}
use Rattle.agc_trace.proofs.Steps.{fewer_after_entry}
use Rattle.agc_diff.proofs.Passed.{shares_all, shares_more, shares_no_more, shares_none}
use Rattle.agc_diff.proofs.common_prefix.run_together.Goals as goal

differ : {A : Type 0} {x y : A} {b : Bool} → (x ≡ y → IsTrue b) → b ≡ false → x ≢ y
differ h e same = let k = h same in cc

pub loop-left_turn-init : goal.loop-left_turn-init
loop-left_turn-init g c =
    shares_none _ _ _ _ c.none-common.ensures.boundaries c.none-common.ensures.writes c.none-common.ensures.panel c.requires

pub returns-then-not-is_same_entry : goal.returns-then-not-is_same_entry
returns-then-not-is_same_entry g c =
    let begun = c.in_ok-left_turn.ensures in
    let left = c.finish-left_entry.ensures begun.u begun.left_begun in
    let right = c.finish-right_entry.ensures begun.v begun.right_begun in
    shares_no_more _ _ _ _ _ _ _ _ _ _ left.entered right.entered left.after right.after (differ c.is_same_entry.ensures.1 c.if-not-is_same_entry.true) left.fits right.fits
    (begun.shared _ _ c.loop-left_turn.invariant)

pub returns-then-is_stop : goal.returns-then-is_stop
returns-then-is_stop g c =
    let begun = c.in_ok-left_turn.ensures in
    let left = c.finish-left_entry.ensures begun.u begun.left_begun in
    let right = c.finish-right_entry.ensures begun.v begun.right_begun in
    shares_all _ _ _ _ _ _ _ _ _ _ _ _ left.entered right.entered left.after right.after (c.is_same_entry.ensures.0 c.if-not-is_same_entry.false)
    (sym c.is_stop.ensures ∙ c.if-is_stop.true)
    (record { boundaries = c.in_ok-take.ensures.boundaries; writes = c.in_ok-take.ensures.writes; panel = c.in_ok-take.ensures.panel; last_ones = c.push_last.ensures; fits = left.fits })
    (begun.shared _ _ c.loop-left_turn.invariant)

pub loop-left_turn-smaller : goal.loop-left_turn-smaller
loop-left_turn-smaller g c =
    let begun = c.in_ok-left_turn.ensures in
    let left = c.finish-left_entry.ensures begun.u begun.left_begun in
    let fewer = fewer_after_entry _ _ c.finish-left_entry.result left.entered left.after (sym c.is_stop.ensures ∙ c.if-is_stop.false) in
    omega (arith, fewer, begun.fewer)

pub loop-left_turn-preserved : goal.loop-left_turn-preserved
loop-left_turn-preserved g c =
    let begun = c.in_ok-left_turn.ensures in
    let left = c.finish-left_entry.ensures begun.u begun.left_begun in
    let right = c.finish-right_entry.ensures begun.v begun.right_begun in
    shares_more _ _ _ _ _ _ _ _ _ _ _ _ left.entered right.entered left.after right.after (c.is_same_entry.ensures.0 c.if-not-is_same_entry.false)
    (sym c.is_stop.ensures ∙ c.if-is_stop.false)
    (record { boundaries = c.in_ok-take.ensures.boundaries; writes = c.in_ok-take.ensures.writes; panel = c.in_ok-take.ensures.panel; last_ones = c.push_last.ensures; fits = left.fits })
    (begun.shared _ _ c.loop-left_turn.invariant)
