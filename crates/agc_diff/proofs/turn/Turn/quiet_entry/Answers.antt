use Rattle.std.proofs.Common.{refl, ap, ◌∙◌}
use Rattle.agc_trace.specs.Entry.{registers_of}
use Rattle.agc_diff.proofs.Turns.{taken_by_order}
use Rattle.agc_diff.proofs.turn.Turn.quiet_entry.Goals as goal

pub returns-clause-taken : goal.returns-clause-taken
returns-clause-taken c = λ s begun.
    taken_by_order s _ _ c.in_ok-order.order c.in_ok-order.stepped _ c.in_ok-order.was begun refl refl c.write_shown.ensures
    (c.registers_in.ensures.registers ∙ ap registers_of c.store.ensures) c.registers_in.ensures.erasable c.registers_in.ensures.fixed
