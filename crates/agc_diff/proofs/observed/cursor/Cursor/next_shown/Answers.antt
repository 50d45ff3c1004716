use Rattle.std.proofs.Common.{Some, ap, refl, sym, ◌∙◌}
use Rattle.agc_machine.proofs.Chain.{fewer_after_write}
use Rattle.agc_diff.proofs.Follows.{fits, goes_on, is_seen, shows, stops}
use Rattle.agc_diff.proofs.observed.cursor.Cursor.next_shown.Goals as goal

pub loop-write-smaller : goal.loop-write-smaller
loop-write-smaller g c = fewer_after_write _ _ _ c.in-Wrote.ensures.next

pub loop-write-preserved : goal.loop-write-preserved
loop-write-preserved g c =
    goes_on c.args.what _ _ _ _ _ _ _ _ c.in-Wrote.ensures.next c.take_write.ensures.panel refl (sym c.take_write.ensures.shown ∙ c.if-take_write.false) c.loop-write.invariant

pub returns-then-take_write : goal.returns-then-take_write
returns-then-take_write g c =
    let shown = ap Some c.seen_at.ensures ∙ sym (is_seen c.args.what _ _ _ c.take_write.ensures.panel (sym c.take_write.ensures.shown ∙ c.if-take_write.true)) in
    record {
      next = shows c.args.what _ _ _ _ _ _ _ _ c.in-Wrote.ensures.next c.take_write.ensures.panel shown refl c.loop-write.invariant;
      fits = fits c.args.what _ _ _ c.in-Wrote.ensures.channel shown;
    }

pub returns-in-Stopped : goal.returns-in-Stopped
returns-in-Stopped g c = record { next = stops c.args.what _ _ _ _ _ _ c.loop-write.invariant c.in-Stopped.ensures.next; fits = tt }
