use Rattle.std.proofs.Common.{List, ℕ, ap, sym, ◌∙◌, ◌++◌, append-nil}
use Rattle.agc_timeline.specs.Film.{after_first}
use Rattle.agc_timeline.proofs.OneByOne.{on_ok}
use Rattle.agc_timeline.proofs.OverPart.{is_in_by, shown_in, shown_out, reported_in, reported_out}
use Rattle.agc_timeline.proofs.table_film.TablesFilm.look.Goals as goal

pub returns-then-has_later-clause-shown : goal.returns-then-has_later-clause-shown
returns-then-has_later-clause-shown c =
    let span = after_first c.args.span in
    let inside = is_in_by _ c.has_later.result span c.args.machine.now c.cycle.result c.cycle.ensures.cycle c.has_later.ensures c.if-has_later.true in
    on_ok c.see.result (λ e. e ∙ sym (shown_in span c.args.spec.now c.args.self.now.shown c.args.machine.now inside)) c.see.ensures.shown

pub returns-then-has_later-clause-text : goal.returns-then-has_later-clause-text
returns-then-has_later-clause-text c =
    let span = after_first c.args.span in
    let inside = is_in_by _ c.has_later.result span c.args.machine.now c.cycle.result c.cycle.ensures.cycle c.has_later.ensures c.if-has_later.true in
    on_ok c.see.result (λ e. e ∙ ap (λ (t : List ℕ). c.args.self.now.text ++ t) (sym (reported_in span c.args.spec.now c.args.self.now.shown c.args.machine.now inside))) c.see.ensures.text

pub returns-else-has_later-clause-shown : goal.returns-else-has_later-clause-shown
returns-else-has_later-clause-shown c =
    let span = after_first c.args.span in
    sym (shown_out span c.args.spec.now c.args.self.now.shown c.args.machine.now
    (is_in_by _ c.has_later.result span c.args.machine.now c.cycle.result c.cycle.ensures.cycle c.has_later.ensures c.if-has_later.false))

pub returns-else-has_later-clause-text : goal.returns-else-has_later-clause-text
returns-else-has_later-clause-text c =
    let span = after_first c.args.span in
    sym (ap (λ (t : List ℕ). c.args.self.now.text ++ t)
    (reported_out span c.args.spec.now c.args.self.now.shown c.args.machine.now
    (is_in_by _ c.has_later.result span c.args.machine.now c.cycle.result c.cycle.ensures.cycle c.has_later.ensures c.if-has_later.false))
    ∙ append-nil c.args.self.now.text)
