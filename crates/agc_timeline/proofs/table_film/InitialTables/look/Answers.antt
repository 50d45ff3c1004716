use Rattle.std.proofs.Common.{sym, ◌∙◌}
use Rattle.agc_timeline.specs.Film.{until}
use Rattle.agc_timeline.proofs.OverPart.{is_in_by, shown_in, shown_out, text_of}
use Rattle.agc_timeline.proofs.table_film.InitialTables.look.Goals as goal

pub returns-then-has : goal.returns-then-has
returns-then-has c =
    let inside = is_in_by _ c.has.result (until c.args.cycle) c.args.machine.now c.cycle.result c.cycle.ensures.cycle c.has.ensures c.if-has.true in
    text_of c.args.machine.now c.store.result.now c.args.spec.now c.read.result c.store.ensures c.read.ensures
    ∙ sym (shown_in (until c.args.cycle) c.args.spec.now c.args.self.now c.args.machine.now inside)

pub returns-else-has : goal.returns-else-has
returns-else-has c =
    sym (shown_out (until c.args.cycle) c.args.spec.now c.args.self.now c.args.machine.now
    (is_in_by _ c.has.result (until c.args.cycle) c.args.machine.now c.cycle.result c.cycle.ensures.cycle c.has.ensures c.if-has.false))
