use Rattle.std.proofs.Common.{◌≡◌, false, refl}
use Rattle.std.specs.Prelude.{fold}
use Rattle.std.proofs.lemmas.Result.{IfOk-weaker}
use Rattle.clap.specs.Words.{app_of, rule_of, with_rule}
use Rattle.agc_cli.specs.ParseArgs.{live_parameters}
use Rattle.agc_cli.proofs.CommandLine.{with_parameter}
use Rattle.agc_cli.proofs.command.with_live.Goals as goal

pub returns : goal.returns
returns c =
    let live = with_parameter _ _ _ _ _ (c.in_ok-command.ensures c.live_option.ensures.local) refl c.live_option.ensures.rule in
    IfOk-weaker c.with_parameter-2.result (λ new. c.spacing_option.result.global ≡ false → app_of new ≡ with_rule (app_of c.in_ok-command.command) (rule_of c.spacing_option.result)) (λ new. app_of new ≡ fold with_rule (app_of c.args.command) live_parameters)
    (λ new added. with_parameter _ _ _ _ _ (added c.spacing_option.ensures.local) live c.spacing_option.ensures.rule)
    c.with_parameter-2.ensures
