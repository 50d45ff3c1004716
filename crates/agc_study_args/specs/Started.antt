-- The machine of a rope file and a script file at its start, or the fault for which they are rejected.
use Rattle.std.specs.Prelude.{◌≡◌, ℕ, List, [], ◌∷◌, ◌++◌, Option, Some, None, IfSome, IsSomeAnd, length, string_bytes}
use Rattle.std.specs.declared.alloc.Global.{Global}
use Rattle.std.specs.declared.string.String.{String}
use Rattle.agc_store.specs.RopeFile.{rope_words}
use Rattle.agc_store.specs.declared.rope_file.RopeForm.{RopeForm}
use Rattle.agc_script.specs.Parse.{script_of}
use Rattle.agc_machine.specs.State.{State, start_state}
use Rattle.agc_machine.specs.StopAddress.{stop_address_of}
use Rattle.agc_panel.specs.WatchSpec.{spec_of, watch_fault_of}
use Rattle.agc_panel.specs.declared.watch_spec.WatchSpec.{WatchSpec}
use Rattle.agc_load.specs.Files.{events_in, script_steps}
use Rattle.agc_load.specs.Options.{parsed_by}
use Rattle.agc_load.specs.Prepare.{start_steps, tables_refusal}
use Rattle.agc_load.specs.Steps.{Step, IsOutcome, checks, refusal_in}
use Rattle.agc_load.specs.declared.fault.LoadFault.{LoadFault}
use Rattle.agc_study_args.specs.RopeRead.{reading_steps, wrong_words}
use Rattle.agc_study_args.specs.declared.args.RunOptions.{RunOptions}

-- the same options for a rope in this form
abbrev pub in_form : RopeForm → RunOptions → RunOptions
in_form form options = record options { form = form }

-- the steps to a machine, and to the watched tables if a text names some that can be watched
unfoldable pub watched_steps : RunOptions → Option (String Global) → List Step
watched_steps options watch =
    start_steps options.until watch options.limit ++ checks (tables_refusal (parsed_by spec_of watch)) ∷ []

-- the steps that these two files go through, each of which may reject them
unfoldable pub starting_steps : RunOptions → Option (String Global) → List ℕ → List ℕ → List Step
starting_steps options watch rope script =
    reading_steps options.ignores_parity options.form rope ++ (script_steps script ++ watched_steps options watch)

-- nothing is rejected, and this is the machine of the files at its start
pub record IsStartedOf (options : RunOptions) (watch : Option (String Global)) (rope script : List ℕ)
    (machine : State) : Type 0 where
  pub accepted : refusal_in (starting_steps options watch rope script) ≡ None
  pub start : machine ≡ start_state (rope_words options.form rope) (events_in (script_of script))
      options.limit (parsed_by stop_address_of options.until)

-- the same for the bytes that the readers of the files report
abbrev pub IsStarted : RunOptions → Option (String Global) → Option (List ℕ) → Option (List ℕ) → State → Type 0
IsStarted options watch None script machine = Unit {0}
IsStarted options watch (Some rope) None machine = Unit {0}
IsStarted options watch (Some rope) (Some script) machine = IsStartedOf options watch rope script machine

-- no fault of the files, for the bytes that their readers report
abbrev pub IsAccepted : RunOptions → Option (String Global) → Option (List ℕ) → Option (List ℕ) → Type 0
IsAccepted options watch None script = Unit {0}
IsAccepted options watch (Some rope) None = Unit {0}
IsAccepted options watch (Some rope) (Some script) =
    refusal_in (starting_steps options watch rope script) ≡ None

-- a fault that the steps may report
abbrev pub IsRefused : RunOptions → Option (String Global) → Option (List ℕ) → Option (List ℕ) → LoadFault → Type 0
IsRefused options watch None script r = Unit {0}
IsRefused options watch (Some rope) None r = Unit {0}
IsRefused options watch (Some rope) (Some script) r = IsOutcome (starting_steps options watch rope script) r

-- the number of words with wrong parity that were read, for the bytes that the rope's reader reports
abbrev pub AreWrong : RunOptions → Option (List ℕ) → ℕ → Type 0
AreWrong options known wrong =
    IfSome known (λ rope. wrong ≡ length (wrong_words options.ignores_parity options.form rope))

-- a text is a spec whose tables can be watched
pub record IsWatchable (text : List ℕ) (spec : WatchSpec) : Type 0 where
  pub read : spec_of text ≡ Some spec
  pub sound : watch_fault_of spec ≡ None

-- the watched tables: those that the text of `--watch` names, or none without a text
abbrev pub AreWatched : Option (String Global) → Option WatchSpec → Type 0
AreWatched None tables = tables ≡ None
AreWatched (Some watch) tables = IsSomeAnd tables (IsWatchable (string_bytes watch))
