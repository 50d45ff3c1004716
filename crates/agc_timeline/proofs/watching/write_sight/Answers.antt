use Rattle.std.proofs.Common.{◌≡◌, ap, ◌∙◌, subst, refl, ℕ, List, Option}
use Rattle.std.specs.Io.KnownBytes.{Appends}
use Rattle.agc_store.specs.Memory.{Memory}
use Rattle.agc_panel.specs.Tables.{WatchedTables, tables_of}
use Rattle.agc_panel.specs.TablesText.{tables_text}
use Rattle.agc_panel.specs.Watcher.{watch_text}
use Rattle.agc_panel.specs.declared.watch_spec.WatchSpec.{WatchSpec}
use Rattle.agc_machine.specs.State.{State}
use Rattle.agc_symbols.specs.Symbols.{Symbol}
use Rattle.agc_timeline.specs.Changes.{sight_of}
use Rattle.agc_timeline.specs.Lines.{change_text, lines_at, lines_in}
use Rattle.agc_timeline.proofs.OneByOne.{nothing_new, on_ok}
use Rattle.agc_io.proofs.Begun.{begun_as, none_begun, on_err}
use Rattle.agc_timeline.proofs.watching.write_sight.Goals as goal

-- the text of the tables of a machine's memory
text_of : (s : State) (m : Memory) (spec : WatchSpec) (tables : WatchedTables) → m ≡ s.processor.store → tables ≡ tables_of m spec →
    tables_text tables ≡ (sight_of spec s).text
unfolding watch_text
text_of s m spec tables e f = ap tables_text f ∙ ap (λ (n : Memory). tables_text (tables_of n spec)) e

-- the lines that changed are what is told of the change
reported_of_change : (names : Option (List Symbol)) (s : State) (spec : WatchSpec) (cycle : ℕ) (shown text reported lines : List ℕ) → cycle ≡ s.cycle → text ≡ (sight_of spec s).text →
    reported ≡ lines_at names cycle (lines_in shown) (lines_in text) → lines ≡ reported → lines ≡ change_text names shown (sight_of spec s)
unfolding change_text
reported_of_change names s spec cycle shown text reported lines c t e f = f ∙ e ∙ rw (c, t) refl

pub returns-then-is_of-clause-lines : goal.returns-then-is_of-clause-lines
returns-then-is_of-clause-lines g c =
    nothing_new c.args.names.now _ c.args.shown.now (sight_of c.args.spec.now c.args.machine.now)
    (c.is_of.ensures c.if-is_of.true ∙ text_of c.args.machine.now c.store.result.now c.args.spec.now c.read-tables.result c.store.ensures c.read-tables.ensures)

pub returns-then-is_of-clause-shown : goal.returns-then-is_of-clause-shown
returns-then-is_of-clause-shown g c =
    c.is_of.ensures c.if-is_of.true ∙ text_of c.args.machine.now c.store.result.now c.args.spec.now c.read-tables.result c.store.ensures c.read-tables.ensures

pub returns-in-Ok-clause-lines : goal.returns-in-Ok-clause-lines
returns-in-Ok-clause-lines g c =
    let text = text_of c.args.machine.now c.store.result.now c.args.spec.now c.read-tables.result c.store.ensures c.read-tables.ensures in
    let reported = reported_of_change c.args.names.now c.args.machine.now c.args.spec.now c.cycle.result c.args.shown.now (tables_text c.read-tables.result) _ c.as_str.result.now c.cycle.ensures.cycle text
    c.in-Ok.ensures.reported c.as_str.ensures.value in
    on_ok c.write_lines.result (λ h. subst (λ (lines : List ℕ). Appends (g.W.Write.contents c.args.out.now) (g.W.Write.contents c.write_lines.new.out) lines) reported h)
    c.write_lines.ensures.lines

pub returns-in-Ok-clause-shown : goal.returns-in-Ok-clause-shown
returns-in-Ok-clause-shown g c =
    let text = text_of c.args.machine.now c.store.result.now c.args.spec.now c.read-tables.result c.store.ensures c.read-tables.ensures in
    on_ok c.write_lines.result (λ _. c.in-Ok.ensures.shown ∙ text) c.write_lines.ensures.lines

pub returns-in-Ok-clause-cut : goal.returns-in-Ok-clause-cut
returns-in-Ok-clause-cut g c =
    let text = text_of c.args.machine.now c.store.result.now c.args.spec.now c.read-tables.result c.store.ensures c.read-tables.ensures in
    let reported = reported_of_change c.args.names.now c.args.machine.now c.args.spec.now c.cycle.result c.args.shown.now (tables_text c.read-tables.result) _ c.as_str.result.now c.cycle.ensures.cycle text
    c.in-Ok.ensures.reported c.as_str.ensures.value in
    on_err c.write_lines.result (λ h. begun_as _ _ c.as_str.result.now _ reported h) c.write_lines.ensures.cut

pub returns-in-Err-clause-cut : goal.returns-in-Err-clause-cut
returns-in-Err-clause-cut g c = none_begun _ _
