use Rattle.std.proofs.Common.{◌≡◌, ◌∙◌, ap, codes}
use Rattle.std.specs.Prelude.{Option, None, Some, option_map, unwrap_or}
use Rattle.clap.specs.Words.{Text, first_of, found_of, rows_of}
use Rattle.agc_store.specs.declared.rope_file.RopeForm.TheVariants as form
use Rattle.agc_cli.specs.Values.{form_named}
use Rattle.agc_cli.proofs.Matches.{text_in_rows}
use Rattle.agc_cli.proofs.values.form_of.Goals as goal

pub returns-in-Some : goal.returns-in-Some
returns-in-Some c =
    let given : Some c.in-Some.name.now ≡ first_of (codes "form") (rows_of (found_of c.args.matches.now)) =
    let shown = text_in_rows (found_of c.args.matches.now) (codes "form") c.get_str.result c.get_str.ensures in
    rw c.in-Some.is at shown in
    c.form_named.ensures ∙ ap (λ (o : Option Text). unwrap_or (option_map form_named o) form.Classic) given

pub returns-in-None : goal.returns-in-None
returns-in-None c =
    let none : None ≡ first_of (codes "form") (rows_of (found_of c.args.matches.now)) =
    let shown = text_in_rows (found_of c.args.matches.now) (codes "form") c.get_str.result c.get_str.ensures in
    rw c.in-None.is at shown in
    ap (λ (o : Option Text). unwrap_or (option_map form_named o) form.Classic) none
