use Rattle.std.proofs.Common.{String, Global, ap, sym, ◌∙◌}
use Rattle.std.specs.Prelude.{string_bytes}
use Rattle.agc_panel.specs.TablesText.{tables_text}
use Rattle.agc_timeline.specs.Film.{opening_text}
use Rattle.agc_timeline.proofs.OverPart.{begun, first_lines, no_lines}
use Rattle.agc_timeline.proofs.table_film.TablesFilm.begin.Goals as goal
use Rattle.agc_timeline.proofs.table_film.TablesFilm.begin.Goals.{in-Some+in_ok-text-in-Some, in-None}

pub returns : goal.returns
returns c =
    elim c.match-opening.branch [
      | in-Some+in_ok-text-in-Some w ↦
          let opens = ap tables_text w.in-Some.tables-is ∙ sym (ap opening_text w.in-Some.is) ∙ c.opening.view_is in
          begun c.args.cycle _ _ c.args.opening (w.shown-is ∙ w.in_ok-text-in-Some.ensures.shown ∙ opens)
          (ap (λ (t : String Global). string_bytes t) w.text-is
          ∙ first_lines c.args.cycle c.nothing-shown.result _ _ c.args.opening c.nothing-shown.ensures w.in_ok-text-in-Some.ensures.reported opens)
      | in-None w ↦
          let opens = sym c.opening.view_is ∙ ap opening_text w.in-None.is in
          begun c.args.cycle _ _ c.args.opening (w.shown-is ∙ c.nothing-shown.ensures ∙ sym opens)
          (ap (λ (t : String Global). string_bytes t) w.text-is ∙ no_lines c.args.cycle _ c.args.opening w.new-text.ensures.bytes opens)
    ]
