use Rattle.std.proofs.Common.{map}
use Rattle.std.proofs.lemmas.Result.{IfOk-weaker}
use Rattle.clap.specs.Words.{app_of, found_of, kind_of, rows_of}
use Rattle.agc_cli.specs.ParseArgs.{AreRequiredBy, AsksFor}
use Rattle.agc_cli.proofs.CommandLine.{requested, reported}
use Rattle.agc_cli.proofs.args.parse_args.Goals as goal

pub returns-in-Ok-clause-options : goal.returns-in-Ok-clause-options
returns-in-Ok-clause-options c =
    let words = map (λ word. word.now) c.args.words.now in
    IfOk-weaker c.options_of.result (AsksFor (rows_of (found_of c.in-Ok.matches))) (AreRequiredBy words)
    (λ options asks. requested (app_of c.in_ok-command.command) c.in_ok-command.ensures words c.in-Ok.matches options c.in-Ok.ensures.kinds c.in-Ok.ensures.matches asks)
    c.options_of.ensures.options

pub returns-in-Err-clause-fault : goal.returns-in-Err-clause-fault
returns-in-Err-clause-fault c =
    reported (app_of c.in_ok-command.command) c.in_ok-command.ensures (map (λ word. word.now) c.args.words.now) (kind_of c.in-Err.error) c.fault_of.result
    c.in-Err.ensures.kinds c.fault_of.ensures
