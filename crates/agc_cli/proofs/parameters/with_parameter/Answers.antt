use Rattle.std.proofs.Common.{◌≡◌, false}
use Rattle.std.proofs.lemmas.Result.{IfOk-weaker}
use Rattle.clap.specs.Words.{AddsArg, app_of, rule_of, with_rule}
use Rattle.agc_cli.proofs.parameters.with_parameter.Goals as goal

pub returns : goal.returns
returns c =
    IfOk-weaker c.arg.result (AddsArg c.args.command c.args.parameter) (λ new. c.args.parameter.global ≡ false → app_of new ≡ with_rule (app_of c.args.command) (rule_of c.args.parameter))
    (λ new added local. added.shape local) c.arg.ensures
