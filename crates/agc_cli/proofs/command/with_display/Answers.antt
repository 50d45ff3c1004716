use Rattle.std.proofs.Common.{◌≡◌, false, refl}
use Rattle.std.specs.Prelude.{fold}
use Rattle.std.proofs.lemmas.Result.{IfOk-weaker}
use Rattle.clap.specs.Words.{app_of, rule_of, with_rule}
use Rattle.agc_cli.specs.ParseArgs.{display_parameters}
use Rattle.agc_cli.proofs.CommandLine.{with_parameter}
use Rattle.agc_cli.proofs.command.with_display.Goals as goal

pub returns : goal.returns
returns c =
    let slots = with_parameter _ _ _ _ _ (c.in_ok-command.ensures c.slots_option.ensures.local) refl c.slots_option.ensures.rule in
    let watch = with_parameter _ _ _ _ _ (c.in_ok-command-2.ensures c.watch_option.ensures.local) slots c.watch_option.ensures.rule in
    IfOk-weaker c.with_parameter-3.result (λ new. c.log_option.result.global ≡ false → app_of new ≡ with_rule (app_of c.in_ok-command-2.command) (rule_of c.log_option.result)) (λ new. app_of new ≡ fold with_rule (app_of c.args.command) display_parameters)
    (λ new added. with_parameter _ _ _ _ _ (added c.log_option.ensures.local) watch c.log_option.ensures.rule)
    c.with_parameter-3.ensures
