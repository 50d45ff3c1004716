-- The rules of files and options.
use Rattle.std.specs.Prelude.{◌≡◌, true, List, [], ◌∷◌, Some, map, codes}
use Rattle.std.specs.Borrow.{Bor}
use Rattle.clap.specs.Words.{Rule, Text, new_rule}
use Rattle.clap.specs.declared.builder.ArgAction.TheVariants.{SetTrue}
use Rattle.clap.specs.declared.builder.value_parser.ValueParser.{ValueParser}
use Rattle.clap.specs.declared.builder.value_parser.ValueParser.TheVariants as parser

-- a file: a separate word, which is required
abbrev pub file_parameter : Text → Rule
file_parameter name = record (new_rule name) { value_names = 1; required = true }

-- an option with a value: `--name value` or `--name=value`
abbrev pub value_option : Text → Rule
value_option name = record (new_rule name) { long = Some name; value_names = 1 }

-- decimal digits that write a number below 2^64, with an optional leading plus
abbrev pub numbers : ValueParser
numbers = parser.Unsigned 0 18446744073709551615

-- an option whose value is such a number
abbrev pub number_option : Text → Rule
number_option name = record (value_option name) { parser = Some numbers }

-- an option with no value
abbrev pub flag_option : Text → Rule
flag_option name = record (new_rule name) { long = Some name; action = Some SetTrue }

-- the option whose value is one of these names
abbrev pub names_option : Bor (List (Bor Text)) → Rule
names_option forms =
    record (value_option (codes "form")) {
      defaults = codes "classic" ∷ [];
      parser = Some (parser.Names forms);
    }

-- the option for the form of the rope file
abbrev pub IsFormOption : Rule → Type 0
IsFormOption rule = (forms : Bor (List (Bor Text)))
    × (map (λ name. name.now) forms.now ≡ codes "classic" ∷ codes "parity" ∷ [])
    × (rule ≡ names_option forms)
