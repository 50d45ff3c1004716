-- What a run reports and prints for its files, or how it refuses.
use Rattle.std.specs.Prelude.{◌≡◌, ℕ, Bool, true, false, List, ◌++◌, Option, Some, None, Result}
use Rattle.std.specs.Prelude.{string_bytes}
use Rattle.std.specs.declared.alloc.Global.{Global}
use Rattle.std.specs.declared.string.String.{String}
use Rattle.std.specs.Io.KnownBytes.{Appends}
use Rattle.agc_store.specs.RopeFile.{rope_words}
use Rattle.agc_script.specs.Parse.{script_of}
use Rattle.agc_script.specs.declared.key.Key.{Key}
use Rattle.agc_machine.specs.Run.{run_of}
use Rattle.agc_machine.specs.State.{State, start_state}
use Rattle.agc_machine.specs.StopAddress.{stop_address_of}
use Rattle.agc_load.specs.Files.{Files, events_in, keys_steps_where, rope_steps, script_steps}
use Rattle.agc_load.specs.Keys.{keys_of}
use Rattle.agc_load.specs.Options.{parsed_by}
use Rattle.agc_load.specs.Prepare.{run_steps, start_steps}
use Rattle.agc_pipe.specs.declared.shown.ShowFault.{ShowFault}
use Rattle.agc_pipe.specs.declared.shown.ShowFault.TheVariants as show
use Rattle.agc_run.specs.Print.{report_text}
use Rattle.agc_run.specs.Report.{IsLiveReport, IsReport}
use Rattle.agc_load.specs.Steps.{ComesOf, Step, refusal_in}
use Rattle.agc_cli.specs.declared.session_options.Options.{Options}
use Rattle.agc_load.specs.declared.fault.LoadFault.{LoadFault}
use Rattle.agc_load.specs.declared.fault.LoadFault.TheVariants as refusal
use Rattle.agc_run.specs.declared.report.Report.{Report}

-- the steps of a run
unfoldable pub session_steps : Options → Files → List Step
session_steps options files =
    rope_steps options.form files.rope
    ++ (script_steps files.script
    ++ (start_steps options.until options.watch options.limit
    ++ (keys_steps_where options.live files.keys
    ++ run_steps options)))

-- the machine of the files and the options, at its start
unfoldable pub machine_of : Options → Files → State
machine_of options files =
    start_state (rope_words options.form files.rope) (events_in (script_of files.script))
    options.limit (parsed_by stop_address_of options.until)

-- the refusal for a run that failed
abbrev pub show_refusal : ShowFault → LoadFault
show_refusal show.Slots = refusal.Slots
show_refusal show.Spacing = refusal.Spacing
show_refusal show.Memory = refusal.Memory
show_refusal show.Thread = refusal.Thread

-- the report of a run without live keys
abbrev pub IsRunReport : Options → State → Report → Type 0
IsRunReport options start report = IsReport options (run_of start) None report

-- the report of a run with the live keys of a key text
abbrev pub IsKeysReport : Options → State → List ℕ → Report → Type 0
IsKeysReport options start file report =
    (keys : List Key) × (keys_of file ≡ Some keys) × IsLiveReport options start keys report

-- the report of a run, with live keys or without
abbrev pub IsReportWhere : Bool → Options → Files → State → Report → Type 0
IsReportWhere false options files start report = IsRunReport options start report
IsReportWhere true options files start report = IsKeysReport options start files.keys report

-- the report if nothing is refused
abbrev pub IsSessionReport : Options → Files → Report → Type 0
IsSessionReport options files report =
    IsReportWhere options.live options files (machine_of options files) report

-- the printed text if nothing is refused: that of the report
abbrev pub IsSessionText : Options → Files → List ℕ → Type 0
IsSessionText options files text =
    (report : Report) × IsSessionReport options files report × (text ≡ report_text report)

-- nothing is refused
abbrev pub IsAccepted : Options → Files → Type 0
IsAccepted options files = refusal_in (session_steps options files) ≡ None

-- a run's report, or its refusal
abbrev pub IsReported : Options → Result Report LoadFault → Files → Type 0
IsReported options result files =
    ComesOf (session_steps options files) (IsSessionReport options files) result

-- a run's text, or its refusal
abbrev pub IsAnswered : Options → Result (String Global) LoadFault → Files → Type 0
IsAnswered options result files =
    ComesOf (session_steps options files)
    (λ text. IsSessionText options files (string_bytes text)) result

-- a run's text was written after the earlier contents of a stream
abbrev pub IsPrinted : Options → Option (List ℕ) → Option (List ℕ) → Files → Type 0
IsPrinted options old new files =
    (text : List ℕ) × IsSessionText options files text × Appends old new text
