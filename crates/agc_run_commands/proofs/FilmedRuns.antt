-- From two files to the recording of their run.
use Rattle.std.proofs.Common.{List, ℕ}
use Rattle.std.specs.Prelude.{Option, None, Some, Result, Ok, Err, IfOk}
use Rattle.std.specs.declared.alloc.Global.{Global}
use Rattle.std.specs.declared.string.String.{String}
use Rattle.agc_machine.specs.State.{State}
use Rattle.agc_timeline.specs.Recording.{IsRecordingOf}
use Rattle.agc_timeline.specs.declared.recording.Recording.{Recording}
use Rattle.agc_load.specs.declared.fault.LoadFault.{LoadFault}
use Rattle.agc_study_args.specs.declared.runs.Start.{Start}
use Rattle.agc_run_commands.specs.Filmed.{IsFilmed, ShowsTables}
use Rattle.agc_study_args.specs.Started.{IsAccepted, IsStarted}
use Rattle.agc_study_args.specs.Started.{AreWatched}
use Rattle.agc_study_args.specs.declared.args.FilmArgs.{FilmArgs}

-- the machine that was started is that of the files, and its run is shown
filmed_run : (args : FilmArgs) (rope script : Option (List ℕ)) (machine : State) (recording : Recording)
    → IsStarted args.options args.watch rope script machine → IsRecordingOf args.part machine recording
    → ShowsTables args.watch args.part machine recording.tables → IsFilmed args rope script recording
filmed_run args None script machine recording start shows tables = tt
filmed_run args (Some rope) None machine recording start shows tables = tt
filmed_run args (Some rope) (Some script) machine recording start shows tables =
    record { machine = machine; start = start; shows = shows; tables = tables }

-- a run that was filmed has no fault
pub filmed_accepted : (args : FilmArgs) (rope script : Option (List ℕ)) (recording : Recording) → IsFilmed args rope script recording
    → IsAccepted args.options args.watch rope script
filmed_accepted args None script recording h = tt
filmed_accepted args (Some rope) None recording h = tt
filmed_accepted args (Some rope) (Some script) recording h = h.start.accepted

-- a recording of the machine that was started, with the tables watched in it, is that of the files
pub filmed_start : (args : FilmArgs) (rope script : Option (List ℕ)) (start : Start) (result : Result Recording LoadFault)
    → IsStarted args.options args.watch rope script start.machine → AreWatched args.watch start.tables
    → IfOk result (IsRecordingOf args.part start.machine)
    → IfOk result (λ recording. (watch : Option (String Global)) → AreWatched watch start.tables → ShowsTables watch args.part start.machine recording.tables)
    → IfOk result (IsFilmed args rope script)
filmed_start args rope script start (Ok recording) is parsed shows tables =
    filmed_run args rope script start.machine recording is shows (tables args.watch parsed)
filmed_start args rope script start (Err r) is parsed shows tables = tt
