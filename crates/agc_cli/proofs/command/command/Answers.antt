use Rattle.std.proofs.Common.{◌≡◌, ◌∙◌, ap, codes}
use Rattle.std.specs.Prelude.{fold}
use Rattle.std.proofs.lemmas.Result.{IfOk-weaker}
use Rattle.clap.specs.Simple.{app_of_fields}
use Rattle.clap.specs.Words.{app_of, new_app, with_rule}
use Rattle.agc_cli.specs.ParseArgs.{IsCommandLine, live_parameters}
use Rattle.agc_cli.proofs.CommandLine.{whole_command}
use Rattle.agc_cli.proofs.command.command.Goals as goal

pub returns : goal.returns
returns c =
    let start : app_of c.about-command.result ≡ new_app (codes "agc") = ap app_of_fields c.about-command.ensures ∙ c.new.ensures.app in
    IfOk-weaker c.with_live.result (λ new. app_of new ≡ fold with_rule (app_of c.in_ok-command-3.command) live_parameters) (λ command. IsCommandLine (app_of command))
    (λ whole live. whole_command (app_of c.about-command.result) (app_of c.in_ok-command.command) (app_of c.in_ok-command-2.command) (app_of c.in_ok-command-3.command) (app_of whole)
    start c.in_ok-command.ensures c.in_ok-command-2.ensures c.in_ok-command-3.ensures live)
    c.with_live.ensures
