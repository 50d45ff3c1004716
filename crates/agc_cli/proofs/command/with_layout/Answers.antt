use Rattle.std.proofs.Common.{◌≡◌, false, refl}
use Rattle.std.specs.Prelude.{fold}
use Rattle.std.proofs.lemmas.Result.{IfOk-weaker}
use Rattle.clap.specs.Words.{Rule, app_of, rule_of, with_rule}
use Rattle.agc_cli.specs.Parameters.{IsFormOption}
use Rattle.agc_cli.specs.ParseArgs.{layout_parameters}
use Rattle.agc_cli.proofs.CommandLine.{with_parameter}
use Rattle.agc_cli.proofs.command.with_layout.Goals as goal

pub returns : goal.returns
returns c =
    let form = with_parameter _ _ _ _ _ (c.in_ok-command.ensures c.form_option.ensures.local) refl refl in
    IfOk-weaker c.with_parameter-2.result (λ new. c.until_option.result.global ≡ false → app_of new ≡ with_rule (app_of c.in_ok-command.command) (rule_of c.until_option.result))
    (λ new. (form : Rule) × IsFormOption form × (app_of new ≡ fold with_rule (app_of c.args.command) (layout_parameters form)))
    (λ new added. (rule_of c.form_option.result, c.form_option.ensures.rule, with_parameter _ _ _ _ _ (added c.until_option.ensures.local) form c.until_option.ensures.rule))
    c.with_parameter-2.ensures
