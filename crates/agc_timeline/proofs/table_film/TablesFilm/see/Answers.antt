use Rattle.std.proofs.Common.{List, ℕ, None, ap, sym, ◌∙◌, ◌++◌, append-nil}
use Rattle.agc_panel.specs.TablesText.{tables_text}
use Rattle.agc_timeline.specs.Changes.{sight_of}
use Rattle.agc_timeline.specs.Film.{Telling}
use Rattle.agc_timeline.specs.Lines.{change_text}
use Rattle.agc_timeline.proofs.OneByOne.{no_change}
use Rattle.agc_timeline.proofs.OverPart.{text_of, reported_of_change}
use Rattle.agc_timeline.proofs.table_film.TablesFilm.see.Goals as goal

pub returns-then-is_of-clause-shown : goal.returns-then-is_of-clause-shown
returns-then-is_of-clause-shown c =
    sym (ap (λ (t : Telling). t.shown) c.self.view_is) ∙ c.is_of.ensures c.if-is_of.true
    ∙ text_of c.args.machine.now c.store.result.now c.args.spec.now c.read-tables.result c.store.ensures c.read-tables.ensures

pub returns-then-is_of-clause-text : goal.returns-then-is_of-clause-text
returns-then-is_of-clause-text c =
    sym (ap (λ (t : List ℕ). c.args.self.now.text ++ t)
    (no_change None c.args.self.now.shown (sight_of c.args.spec.now c.args.machine.now)
    (sym (ap (λ (t : Telling). t.shown) c.self.view_is) ∙ c.is_of.ensures c.if-is_of.true
    ∙ text_of c.args.machine.now c.store.result.now c.args.spec.now c.read-tables.result c.store.ensures c.read-tables.ensures))
    ∙ append-nil c.args.self.now.text)

pub returns-clause-shown : goal.returns-clause-shown
returns-clause-shown c = c.in_ok-reported.ensures.shown ∙ text_of c.args.machine.now c.store.result.now c.args.spec.now c.read-tables.result c.store.ensures c.read-tables.ensures

pub returns-clause-text : goal.returns-clause-text
returns-clause-text c =
    let sight = sight_of c.args.spec.now c.args.machine.now in
    let was = ap (λ (t : Telling). t.shown) c.self.view_is in
    let read = text_of c.args.machine.now c.store.result.now c.args.spec.now c.read-tables.result c.store.ensures c.read-tables.ensures in
    let reported = reported_of_change c.args.machine.now c.args.spec.now c.cycle.result c.self.inside.shown (tables_text c.read-tables.result) _ c.as_str.result.now
    c.cycle.ensures.cycle read c.in_ok-reported.ensures.reported c.as_str.ensures.value in
    c.in_ok-push_str.ensures.bytes ∙ ap (λ (t : List ℕ). t ++ c.as_str.result.now) (ap (λ (t : Telling). t.text) c.self.view_is)
    ∙ ap (λ (t : List ℕ). c.args.self.now.text ++ t) (reported ∙ ap (λ (t : List ℕ). change_text None t sight) was)
