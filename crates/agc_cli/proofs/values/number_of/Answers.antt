use Rattle.std.proofs.Common.{◌∙◌, ℕ, ap}
use Rattle.std.specs.Prelude.{Option, unwrap_or}
use Rattle.std.specs.Str.Parse.{ParsesUnsigned, ExplainsUnsignedError, HasUnsignedDigitsIfOk}
use Rattle.clap.specs.Words.{found_of}
use Rattle.agc_cli.proofs.Matches.{number_in_rows}
use Rattle.agc_cli.proofs.values.number_of.Goals as goal

pub returns : goal.returns
returns c =
    let number = number_in_rows _ (λ bs r. ParsesUnsigned 64 10 bs r × ExplainsUnsignedError 10 bs r × HasUnsignedDigitsIfOk bs r) (λ bs r parsed. parsed.0)
    (found_of c.args.matches.now) c.args.id.now c.get_one.result c.get_one.ensures.none c.get_one.ensures.value in
    c.unwrap_or.ensures ∙ ap (λ (o : Option ℕ). unwrap_or o c.args.otherwise) number
