use Rattle.std.proofs.Common.{ap, sym, ◌∙◌}
use Rattle.agc_trace.specs.Change.{seen_in}
use Rattle.agc_trace.proofs.Changes.{seen_next, seen_none}
use Rattle.agc_trace.proofs.change.watch_cells.Goals as goal

pub loop-number-init : goal.loop-number-init
loop-number-init c = c.new-seen.ensures.items ∙ sym (seen_none c.args.store.now c.args.several.now)

pub loop-number-preserved : goal.loop-number-preserved
loop-number-preserved c =
    seen_next c.args.store.now c.args.several.now c.loop-number.number _ _ _ _ c.is_named-is_named.ensures (c.see.ensures ∙ ap (seen_in c.args.store.now) c.new.ensures) c.loop-number.invariant c.in_ok-push_where.ensures
