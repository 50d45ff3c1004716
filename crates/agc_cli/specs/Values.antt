-- The meaning of parameter values.
use Rattle.std.specs.Prelude.{ℕ, false, Option, Some, None, option_map, if◌then◌else◌, codes, string_bytes}
use Rattle.std.specs.Str.{bytes_eq}
use Rattle.std.specs.Str.Parse.{digits_value, without_leading_plus}
use Rattle.std.specs.declared.string.String.{String}
use Rattle.std.specs.declared.alloc.Global.{Global}
use Rattle.clap.specs.ValueTests.{accepts}
use Rattle.clap.specs.Words.{Text}
use Rattle.agc_store.specs.declared.rope_file.RopeForm.{RopeForm}
use Rattle.agc_store.specs.declared.rope_file.RopeForm.TheVariants as form
use Rattle.agc_cli.specs.Parameters.{numbers}

-- the number that a text writes
abbrev pub number_written : Text → Option ℕ
number_written text =
    if accepts false numbers text then Some (digits_value 10 (without_leading_plus text)) else None

-- the form with a name: any name but `parity` means the classic one
abbrev pub form_named : Text → RopeForm
form_named name = if bytes_eq name (codes "parity") then form.Parity else form.Classic

abbrev pub text_given : Option (String Global) → Option Text
text_given text = option_map (λ t. string_bytes t) text
