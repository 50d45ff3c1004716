use Rattle.std.proofs.Common.{◌≡◌, ◌∙◌, ap}
use Rattle.std.specs.Prelude.{Some}
use Rattle.clap.specs.Words.{first_of, found_of, rows_of}
use Rattle.agc_cli.proofs.Matches.{text_in_rows}
use Rattle.agc_cli.proofs.values.text_of.Goals as goal

pub returns-in_ok-from_str-in-Some : goal.returns-in_ok-from_str-in-Some
returns-in_ok-from_str-in-Some c =
    let given : Some c.in-Some.text.now ≡ first_of c.args.id.now (rows_of (found_of c.args.matches.now)) =
    let shown = text_in_rows (found_of c.args.matches.now) c.args.id.now c.get_str.result c.get_str.ensures in
    rw c.in-Some.is at shown in
    ap Some c.in_ok-from_str-in-Some.ensures.ok ∙ given

pub returns-in-None : goal.returns-in-None
returns-in-None c =
    let shown = text_in_rows (found_of c.args.matches.now) c.args.id.now c.get_str.result c.get_str.ensures in
    rw c.in-None.is at shown
