use Rattle.std.proofs.Common.{◌≡◌, ◌∙◌, [], ap}
use Rattle.std.specs.Prelude.{Option, None, Some, unwrap_or}
use Rattle.std.proofs.lemmas.Result.{IfOk-weaker}
use Rattle.clap.specs.Words.{Text, first_of, found_of, rows_of}
use Rattle.agc_cli.proofs.Matches.{text_in_rows}
use Rattle.agc_cli.proofs.values.path_of.Goals as goal

pub returns-in-Some : goal.returns-in-Some
returns-in-Some c =
    let given : Some c.in-Some.path.now ≡ first_of c.args.id.now (rows_of (found_of c.args.matches.now)) =
    let shown = text_in_rows (found_of c.args.matches.now) c.args.id.now c.get_str.result c.get_str.ensures in
    rw c.in-Some.is at shown in
    IfOk-weaker c.from_str.result _ _ (λ path is. is ∙ ap (λ (o : Option Text). unwrap_or o []) given) c.from_str.ensures.ok

pub returns-in-None : goal.returns-in-None
returns-in-None c =
    let none : None ≡ first_of c.args.id.now (rows_of (found_of c.args.matches.now)) =
    let shown = text_in_rows (found_of c.args.matches.now) c.args.id.now c.get_str.result c.get_str.ensures in
    rw c.in-None.is at shown in
    c.new.ensures.bytes ∙ ap (λ (o : Option Text). unwrap_or o []) none
