use Rattle.std.proofs.Common.{◌≡◌, false, refl}
use Rattle.std.specs.Prelude.{fold}
use Rattle.std.proofs.lemmas.Result.{IfOk-weaker}
use Rattle.clap.specs.Words.{app_of, rule_of, with_rule}
use Rattle.agc_cli.specs.ParseArgs.{run_parameters}
use Rattle.agc_cli.proofs.CommandLine.{with_parameter}
use Rattle.agc_cli.proofs.command.with_run.Goals as goal

pub returns : goal.returns
returns c =
    let rope = with_parameter _ _ _ _ _ (c.in_ok-command.ensures c.rope_file.ensures.local) refl c.rope_file.ensures.rule in
    let script = with_parameter _ _ _ _ _ (c.in_ok-command-2.ensures c.script_file.ensures.local) rope c.script_file.ensures.rule in
    IfOk-weaker c.with_parameter-3.result (λ new. c.limit_option.result.global ≡ false → app_of new ≡ with_rule (app_of c.in_ok-command-2.command) (rule_of c.limit_option.result)) (λ new. app_of new ≡ fold with_rule (app_of c.args.command) run_parameters)
    (λ new added. with_parameter _ _ _ _ _ (added c.limit_option.ensures.local) script c.limit_option.ensures.rule)
    c.with_parameter-3.ensures
