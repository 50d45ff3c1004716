use Rattle.std.specs.Prelude.{not}
use Rattle.std.proofs.Common.{ap, sym, ◌∙◌}
use Rattle.agc_word.specs.Number.{Number, pattern_of}
use Rattle.agc_store.specs.Memory.{Memory}
use Rattle.agc_session.specs.Comparison.{same_word, word_at}
use Rattle.agc_session.proofs.Passing.{last_changes, no_change}
use Rattle.agc_session.proofs.by_orders.pass_to_change.Goals as goal

pub returns-then-has_changed : goal.returns-then-has_changed
returns-then-has_changed c =
    last_changes c.args.cell c.word_of-before.result c.args.end c.args.panel.now c.pass_some-cycle.new.panel c.args.machine.now c.pass_some-cycle.new.machine
    c.pass_some-cycle.result c.pass_some-cycle.ensures c.requires.runs
    (ap (λ (n : Number). pattern_of 15 n) (c.word_of-before.ensures ∙ ap (λ (m : Memory). word_at c.args.cell m) c.store.ensures))
    (ap (λ (m : Memory). not (same_word (word_at c.args.cell m) c.word_of-before.result)) (sym c.store-2.ensures) ∙ sym c.if-has_changed.ensures)

pub returns-else-has_changed : goal.returns-else-has_changed
returns-else-has_changed c =
    no_change c.args.cell c.word_of-before.result c.args.end c.args.panel.now c.pass_some-cycle.new.panel c.args.machine.now c.pass_some-cycle.new.machine
    c.pass_some-cycle.result c.pass_some-cycle.ensures
    (ap (λ (n : Number). pattern_of 15 n) (c.word_of-before.ensures ∙ ap (λ (m : Memory). word_at c.args.cell m) c.store.ensures))
    (ap (λ (m : Memory). not (same_word (word_at c.args.cell m) c.word_of-before.result)) (sym c.store-2.ensures) ∙ sym c.if-has_changed.ensures)
