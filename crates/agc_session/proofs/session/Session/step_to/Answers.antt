use Rattle.std.proofs.Common.{ap, ◌∙◌}
use Rattle.agc_store.specs.Memory.{Memory}
use Rattle.std.specs.Prelude.{not}
use Rattle.agc_machine.specs.State.{State}
use Rattle.agc_machine.specs.Boundary.{upcoming_of}
use Rattle.agc_session.specs.Comparison.{same_word, word_at}
use Rattle.agc_session.specs.Condition.{is_service_of}
use Rattle.agc_session.proofs.RunTo.{ends_boundary, ends_cell, ends_interrupt, ends_on_write}
use Rattle.agc_session.proofs.session.Session.step_to.Goals as goal

pub returns-in-Boundary-clause-ends : goal.returns-in-Boundary-clause-ends
returns-in-Boundary-clause-ends c = rw c.in-Boundary.is (ends_boundary c.args.self.now)

pub returns-in-Cell-clause-ends : goal.returns-in-Cell-clause-ends
returns-in-Cell-clause-ends c =
    rw c.in-Cell.is
    (ends_cell c.in-Cell.cell c.args.self.now c.step-in-Cell.new.self c.step-in-Cell.result c.word_of-before.result c.has_changed.result c.step-in-Cell.ensures.gone
    (c.word_of-before.ensures ∙ ap (λ (m : Memory). word_at c.in-Cell.cell m) (c.store.ensures ∙ ap (λ (s : State). s.processor.store) c.machine-in-Cell.ensures))
    (c.has_changed.ensures
    ∙ ap (λ (m : Memory). not (same_word (word_at c.in-Cell.cell m) c.word_of-before.result)) (c.store-in-Cell.ensures ∙ ap (λ (s : State). s.processor.store) c.machine-in-Cell-2.ensures)))

pub returns-in-Write-clause-ends : goal.returns-in-Write-clause-ends
returns-in-Write-clause-ends c =
    ends_on_write c.args.condition.now c.args.self.now c.step-stepped.new.self c.step-stepped.result c.panel.result.now c.is_hit_by_write.result c.in-Write.is
    c.step-stepped.ensures.gone c.panel.ensures c.is_hit_by_write.ensures.meets

pub returns-in-Interrupt-clause-ends : goal.returns-in-Interrupt-clause-ends
returns-in-Interrupt-clause-ends c =
    rw c.in-Interrupt.is
    (ends_interrupt c.in-Interrupt.which c.args.self.now c.is_service_next-hit.result
    (c.is_service_next-hit.ensures ∙ ap (λ (s : State). is_service_of c.in-Interrupt.which (upcoming_of s)) c.machine-in-Interrupt.ensures))
