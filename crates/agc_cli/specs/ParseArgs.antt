-- The command line: which parameters the program takes, and the options of a call.
use Rattle.std.specs.Prelude.{◌≡◌, ◌≢◌, ℕ, Bool, true, false, List, [], ◌∷◌, ◌++◌, fold, codes}
use Rattle.std.specs.Prelude.{Option, Some, None, option_and_then, option_map, unwrap_or}
use Rattle.std.specs.Prelude.{string_bytes}
use Rattle.clap.specs.Words.{App, IsAmong, Row, Rule, Text, fault_of, first_of, matches_of, new_app}
use Rattle.clap.specs.Words.{one_of, with_rule}
use Rattle.clap.specs.declared.error.kind.ErrorKind.{ErrorKind}
use Rattle.clap.specs.declared.error.kind.ErrorKind.TheVariants.{DisplayHelp}
use Rattle.agc_store.specs.declared.rope_file.RopeForm.TheVariants as form
use Rattle.agc_cli.specs.Mistakes.{not_text_reported}
use Rattle.agc_cli.specs.Parameters.{IsFormOption, file_parameter, flag_option}
use Rattle.agc_cli.specs.Parameters.{number_option, value_option}
use Rattle.agc_cli.specs.Values.{form_named, number_written, text_given}
use Rattle.agc_cli.specs.declared.fault.ArgsFault.{ArgsFault}
use Rattle.agc_cli.specs.declared.fault.ArgsFault.TheVariants as fault
use Rattle.agc_cli.specs.declared.session_options.Options.{Options}

-- the files of a run, and its limit, which is required
abbrev pub run_parameters : List Rule
run_parameters =
    file_parameter (codes "rope")
    ∷ file_parameter (codes "script")
    ∷ record (number_option (codes "limit")) { required = true }
    ∷ []

-- what is printed of a run, and how many writes may wait for that
abbrev pub display_parameters : List Rule
display_parameters =
    record (number_option (codes "slots")) { defaults = codes "256" ∷ [] }
    ∷ value_option (codes "watch")
    ∷ flag_option (codes "log")
    ∷ []

-- the layout of the rope, and the order before which a run stops
abbrev pub layout_parameters : Rule → List Rule
layout_parameters form = form ∷ value_option (codes "until") ∷ []

-- the live keys
abbrev pub live_parameters : List Rule
live_parameters =
    flag_option (codes "live")
    ∷ record (number_option (codes "spacing")) { defaults = codes "8533" ∷ [] }
    ∷ []

-- The parameters of the program: two files, and eight options; `--limit` is required. `form` is the
-- option for the rope's form.
unfoldable pub command_line : Rule → App
command_line form = fold with_rule (new_app (codes "agc"))
    (run_parameters ++ display_parameters ++ layout_parameters form ++ live_parameters)

-- the program's command
abbrev pub IsCommandLine : App → Type 0
IsCommandLine app = (form : Rule) × IsFormOption form × (app ≡ command_line form)

-- a flag is set if its value is `true`, and not if it is `false` or absent
abbrev pub IsFlag : Option Text → Bool → Type 0
IsFlag None set = set ≡ false
IsFlag (Some text) set = (text ≡ codes "true" → set ≡ true) × (text ≡ codes "false" → set ≡ false)

-- the options from the values of the parameters
pub record AsksFor (rows : List Row) (options : Options) : Type 0 where
  pub rope : string_bytes options.rope ≡ unwrap_or (first_of (codes "rope") rows) []
  pub script : string_bytes options.script ≡ unwrap_or (first_of (codes "script") rows) []
  pub limit : options.limit
      ≡ unwrap_or (option_and_then number_written (one_of (codes "limit") rows)) 0
  pub slots : options.slots
      ≡ unwrap_or (option_and_then number_written (one_of (codes "slots") rows)) 256
  pub watch : text_given options.watch ≡ first_of (codes "watch") rows
  pub log : IsFlag (one_of (codes "log") rows) options.log
  pub form : options.form
      ≡ unwrap_or (option_map form_named (first_of (codes "form") rows)) form.Classic
  pub until : text_given options.until ≡ first_of (codes "until") rows
  pub live : IsFlag (one_of (codes "live") rows) options.live
  pub spacing : options.spacing
      ≡ unwrap_or (option_and_then number_written (one_of (codes "spacing") rows)) 8533

-- the options of the words: the command accepts them, and the options are those of its matches
abbrev pub AreRequiredBy : List Text → Options → Type 0
AreRequiredBy words options =
    (app : App) × IsCommandLine app × (fault_of app words ≡ [])
    × AsksFor (matches_of app words) options

-- why the words give no options: they ask for help, they are mistaken, or memory ran out
abbrev pub IsFaultOf : List Text → ArgsFault → Type 0
IsFaultOf words (fault.Help text) =
    (app : App) × IsCommandLine app × IsAmong DisplayHelp (fault_of app words)
IsFaultOf words (fault.Command text) =
    (app : App) × IsCommandLine app × (kind : ErrorKind) × (kind ≢ DisplayHelp)
    × IsAmong kind (fault_of app words)
IsFaultOf words fault.Memory = Unit {0}

-- a word that is not text is reported as a mistake in the words, or memory ran out
abbrev pub IsNotText : ℕ → ArgsFault → Type 0
IsNotText number (fault.Help text) = ⊥
IsNotText number (fault.Command text) =
    (usage : Text) × (string_bytes text ≡ not_text_reported number usage)
IsNotText number fault.Memory = Unit {0}
