use Rattle.std.proofs.Common.{arith}
use Rattle.agc_script.proofs.Repeats.{All-more_events, more_events}
use Rattle.agc_script.proofs.parse.push_events.Goals as goal

pub loop-i-preserved : goal.loop-i-preserved
loop-i-preserved c = record {
  pushed = more_events c.args.repeat.now c.loop-i.i _ _ _ c.loop-i.invariant.pushed c.in_ok-push.ensures.items;
  len = omega (arith, c.in_ok-push.ensures.len);
  in_range = All-more_events c.args.repeat.now c.loop-i.i _ _ c.requires.repeat c.loop-i-test.true c.loop-i.invariant.in_range c.in_ok-push.ensures.items;
}
