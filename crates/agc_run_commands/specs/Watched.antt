-- What `jobs` writes for the run of a rope and a script, and how it fails.
use Rattle.std.specs.Prelude.{ℕ, List, Option, Some, string_bytes}
use Rattle.std.specs.Io.KnownBytes.{Appends, Keeps}
use Rattle.agc_io.specs.Output.{IsBegun}
use Rattle.agc_machine.specs.State.{State}
use Rattle.agc_panel.specs.declared.watch_spec.WatchSpec.{WatchSpec}
use Rattle.agc_study_args.specs.declared.args.JobsArgs.{JobsArgs}
use Rattle.agc_symbols.specs.Symbols.{Symbol}
use Rattle.agc_timeline.specs.Lines.{jobs_text}
use Rattle.agc_load.specs.declared.fault.LoadFault.{LoadFault}
use Rattle.agc_study_args.specs.Started.{IsRefused, IsStarted, IsWatchable}
use Rattle.agc_run_commands.specs.declared.traces.TraceError.{TraceError}
use Rattle.agc_run_commands.specs.declared.traces.TraceError.TheVariants as error

-- the changes of the tables in the run of two files were written, with these names
pub record IsWatched (args : JobsArgs) (names : Option (List Symbol)) (rope script before after : Option (List ℕ)) : Type 0 where
  pub machine : State
  pub start : IsStarted args.options (Some args.watch) rope script machine
  pub spec : WatchSpec
  pub watchable : IsWatchable (string_bytes args.watch) spec
  pub lines : Appends before after (jobs_text names args.span spec machine)

-- the same, cut off: a beginning of them was written
pub record IsWatchCut (args : JobsArgs) (names : Option (List Symbol)) (rope script before after : Option (List ℕ)) : Type 0 where
  pub machine : State
  pub start : IsStarted args.options (Some args.watch) rope script machine
  pub spec : WatchSpec
  pub watchable : IsWatchable (string_bytes args.watch) spec
  pub cut : IsBegun before after (jobs_text names args.span spec machine)

-- what may be rejected: the files, or the tables
abbrev pub IsWatchRefused : JobsArgs → Option (List ℕ) → Option (List ℕ) → LoadFault → Type 0
IsWatchRefused args rope script r =
    IsRefused args.options (Some args.watch) rope script r

-- why the changes are incomplete: a fault before anything was written, or the lines were cut off
abbrev pub IsUnwatched : JobsArgs → Option (List Symbol) → Option (List ℕ) → Option (List ℕ) → Option (List ℕ)
    → Option (List ℕ) → TraceError → Type 0
IsUnwatched args names rope script before after (error.Refused r) =
    IsWatchRefused args rope script r × Keeps before after
IsUnwatched args names rope script before after (error.Cut why) =
    IsWatchCut args names rope script before after
