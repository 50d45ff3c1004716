use Rattle.std.proofs.Common.{refl, ap, ◌∙◌}
use Rattle.agc_trace.specs.Entry.{registers_of}
use Rattle.agc_diff.proofs.Turns.{taken_by_order}
use Rattle.agc_diff.proofs.turn.Turn.finish.Goals as goal

pub returns-in-Some : goal.returns-in-Some
returns-in-Some c = λ s begun.
    taken_by_order s _ _ c.in-Some.order c.in-Some.stepped _ c.in-Some.is begun refl refl c.write_shown.ensures
    (c.registers_in.ensures.registers ∙ ap registers_of c.store.ensures) c.registers_in.ensures.erasable c.registers_in.ensures.fixed
