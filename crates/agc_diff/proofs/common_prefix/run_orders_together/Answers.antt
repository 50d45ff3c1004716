use Rattle.agc_trace.proofs.Steps.{fewer_after_entry}
use Rattle.agc_diff.proofs.Passed.{passes_more}
use Rattle.agc_diff.proofs.common_prefix.run_orders_together.Goals as goal

pub loop-left_entry-smaller : goal.loop-left_entry-smaller
loop-left_entry-smaller g c =
    let left = c.in-Some.ensures.taken _ c.begin-left_turn.ensures in
    fewer_after_entry _ _ c.in-Some.left_entry left.entered left.after c.in-Some.ensures.goes_on

pub loop-left_entry-preserved : goal.loop-left_entry-preserved
loop-left_entry-preserved g c =
    passes_more _ _ _ _ _ _ _ _ _ _ _ _ _ _ (c.in-Some.ensures.taken _ c.begin-left_turn.ensures) (c.in-Some-quiet_entry.ensures.taken _ c.begin-right_turn.ensures)
    (c.is_same_entry.ensures.0 c.if-not-is_same_entry.false) c.in-Some.ensures.goes_on
    (record {
      boundaries = c.in_ok-take.ensures.boundaries;
      writes = c.in_ok-take.ensures.writes;
      panel = c.in_ok-take.ensures.panel;
      last_ones = c.push_copy.ensures;
      fits = (c.in-Some.ensures.taken _ c.begin-left_turn.ensures).fits;
    })
    c.loop-left_entry.invariant
