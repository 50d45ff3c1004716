-- The arguments of a session.
use Rattle.std.specs.Prelude.{◌≡◌, List, [], option_and_then, option_map, unwrap_or, codes, string_bytes}
use Rattle.clap.specs.Words.{Row, first_of, one_of}
use Rattle.agc_store.specs.declared.rope_file.RopeForm.TheVariants as form
use Rattle.agc_cli.specs.Values.{form_named, number_written, text_given}
use Rattle.agc_session.specs.declared.arguments.SessionArgs.{SessionArgs}

-- the arguments from the values of the parameters
pub record AreArguments (rows : List Row) (args : SessionArgs) : Type 0 where
  pub rope : string_bytes args.rope ≡ unwrap_or (first_of (codes "rope") rows) []
  pub script : text_given args.script ≡ first_of (codes "script") rows
  pub limit : args.limit
      ≡ unwrap_or (option_and_then number_written (one_of (codes "limit") rows)) 0
  pub form : args.form
      ≡ unwrap_or (option_map form_named (first_of (codes "form") rows)) form.Classic
