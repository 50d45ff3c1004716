-- The recording of the run of a rope and a script, and what is refused of them, or of two of each.
use Rattle.std.specs.Prelude.{◌≡◌, ℕ, List, Option, Some, None, string_bytes}
use Rattle.std.specs.declared.alloc.Global.{Global}
use Rattle.std.specs.declared.string.String.{String}
use Rattle.agc_machine.specs.State.{State}
use Rattle.agc_panel.specs.declared.watch_spec.WatchSpec.{WatchSpec}
use Rattle.agc_timeline.specs.Film.{film_text}
use Rattle.agc_timeline.specs.Recording.{IsRecordingOf}
use Rattle.agc_timeline.specs.Watched.{HasLines, span_of}
use Rattle.agc_trace.specs.declared.span.Span.{Span}
use Rattle.agc_timeline.specs.declared.recording.Recording.{Recording}
use Rattle.agc_load.specs.declared.fault.LoadFault.{LoadFault}
use Rattle.agc_run_commands.specs.Pairs.{IsPairRefused}
use Rattle.agc_study_args.specs.Started.{IsRefused, IsStartedOf}
use Rattle.agc_study_args.specs.Started.{IsWatchable}
use Rattle.agc_run_commands.specs.declared.fault.AnalysisFault.{AnalysisFault}
use Rattle.agc_study_args.specs.declared.args.FilmArgs.{FilmArgs}

-- the tables over a part of a run: none if --watch is not given, else those at the addresses that its text names
abbrev pub ShowsTables : Option (String Global) → Span → State → Option (String Global) → Type 0
ShowsTables None part machine tables = tables ≡ None
ShowsTables (Some watch) part machine tables =
    (spec : WatchSpec) × IsWatchable (string_bytes watch) spec
    × HasLines tables (film_text (span_of part) spec machine)

-- nothing is rejected, and the recording shows this part of the run of the files, with the watched tables
pub record IsFilmedOf (args : FilmArgs) (rope script : List ℕ) (recording : Recording) : Type 0 where
  pub machine : State
  pub start : IsStartedOf args.options args.watch rope script machine
  pub shows : IsRecordingOf args.part machine recording
  pub tables : ShowsTables args.watch args.part machine recording.tables

-- the same for the bytes that the readers of the files report
abbrev pub IsFilmed : FilmArgs → Option (List ℕ) → Option (List ℕ) → Recording → Type 0
IsFilmed args None script recording = Unit {0}
IsFilmed args (Some rope) None recording = Unit {0}
IsFilmed args (Some rope) (Some script) recording =
    IsFilmedOf args rope script recording

-- what may be rejected: the files, or the tables
abbrev pub IsFilmRefused : FilmArgs → Option (List ℕ) → Option (List ℕ) → LoadFault → Type 0
IsFilmRefused args rope script r =
    IsRefused args.options args.watch rope script r

-- the same for two runs
abbrev pub IsFilmPairRefused : FilmArgs → Option (List ℕ) → Option (List ℕ)
    → Option (List ℕ) → Option (List ℕ) → AnalysisFault → Type 0
IsFilmPairRefused args left_rope left_script right_rope right_script t =
    IsPairRefused args.options args.options args.watch
    left_rope left_script right_rope right_script t
