use Rattle.std.proofs.Common.{ap, sym, ◌∙◌}
use Rattle.std.specs.List.{list_any}
use Rattle.agc_trace.specs.Change.{is_changed}
use Rattle.agc_trace.proofs.Changes.{none_again, none_changed}
use Rattle.agc_trace.proofs.Away.{not_true}
use Rattle.agc_trace.proofs.change.look.Goals as goal

pub returns-then-are_same-clause-changes : goal.returns-then-are_same-clause-changes
returns-then-are_same-clause-changes c =
    c.clear.ensures.items ∙ sym (none_changed c.args.store.now c.args.seen.now.items
    (ap (list_any (λ s. is_changed c.args.store.now s)) (sym c.as_slice.ensures.value) ∙ not_true _ (sym c.are_same.ensures ∙ c.if-are_same.true)))

pub returns-then-are_same-clause-seen : goal.returns-then-are_same-clause-seen
returns-then-are_same-clause-seen c =
    sym (none_again c.args.store.now c.args.seen.now.items
    (ap (list_any (λ s. is_changed c.args.store.now s)) (sym c.as_slice.ensures.value) ∙ not_true _ (sym c.are_same.ensures ∙ c.if-are_same.true)))
