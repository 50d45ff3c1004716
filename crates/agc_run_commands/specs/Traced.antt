-- What `trace` writes for the run of a rope and a script, and how it fails.
use Rattle.std.specs.Prelude.{◌≡◌, ◌⊎◌, ℕ, List, ◌++◌, Option, None, codes}
use Rattle.std.specs.Fmt.{decimal}
use Rattle.std.specs.Io.KnownBytes.{Appends, Keeps}
use Rattle.agc_io.specs.Output.{IsBegun}
use Rattle.agc_processor.specs.Interrupt.{rupt_name}
use Rattle.agc_machine.specs.State.{State}
use Rattle.agc_study_args.specs.declared.args.TraceArgs.{TraceArgs}
use Rattle.agc_trace.specs.Selection.{selected_lines, watch_for}
use Rattle.agc_trace.specs.Service.{service_left}
use Rattle.agc_trace.specs.Trace.{trace_of}
use Rattle.agc_trace.specs.declared.line_form.LineForm.{LineForm}
use Rattle.agc_trace.specs.declared.service.Service.{Service}
use Rattle.agc_trace.specs.declared.tracing.TraceFault.TheVariants as fault
use Rattle.agc_study_args.specs.Started.{IsRefused, IsStarted}
use Rattle.agc_run_commands.specs.Fault.{error_line}
use Rattle.agc_run_commands.specs.declared.traces.TraceError.{TraceError}
use Rattle.agc_run_commands.specs.declared.traces.TraceError.TheVariants as error
use Rattle.agc_run_commands.specs.declared.fault.AnalysisFault.TheVariants as analysis

-- the lines of the run of two files were written in this form, and this service is in progress at its stop
pub record IsTraced (args : TraceArgs) (form : LineForm)
    (rope script before after : Option (List ℕ)) (service : Option Service) : Type 0 where
  pub machine : State
  pub start : IsStarted args.options None rope script machine
  pub lines : Appends before after (selected_lines form args.selection (watch_for args.selection machine))
  pub left : service ≡ service_left args.selection (trace_of machine)

-- the same, without a claim about the service
pub record IsTraceWritten (args : TraceArgs) (form : LineForm)
    (rope script before after : Option (List ℕ)) : Type 0 where
  pub service : Option Service
  pub traced : IsTraced args form rope script before after service

-- the lines of the run of two files were cut off: a beginning of them was written
pub record IsCutOff (args : TraceArgs) (form : LineForm)
    (rope script before after : Option (List ℕ)) : Type 0 where
  pub machine : State
  pub start : IsStarted args.options None rope script machine
  pub cut : IsBegun before after (selected_lines form args.selection (watch_for args.selection machine))

-- why the trace is incomplete: a fault before anything was written, or the lines were cut off
abbrev pub IsUntraced : TraceArgs → LineForm → Option (List ℕ) → Option (List ℕ)
    → Option (List ℕ) → Option (List ℕ) → TraceError → Type 0
IsUntraced args form rope script before after (error.Refused r) =
    IsRefused args.options None rope script r × Keeps before after
IsUntraced args form rope script before after (error.Cut why) =
    IsCutOff args form rope script before after

-- How the program ends then: with 2 and the line of a fault, or with 3 if that line or the trace could not be
-- written, or memory ran out.
abbrev pub EndsUntraced : TraceError → ℕ → Option (List ℕ) → Option (List ℕ) → Type 0
EndsUntraced (error.Refused r) ended before after =
    ((ended ≡ 2) × Appends before after (error_line (analysis.Refused r))) ⊎ (ended ≡ 3)
EndsUntraced (error.Cut fault.Write) ended before after = (ended ≡ 3) × Keeps before after
EndsUntraced (error.Cut fault.Memory) ended before after = ended ≡ 3

-- the line about a service in progress at the stop
abbrev pub service_line : Service → List ℕ
service_line service =
    codes "agc-study: the service of " ++ rupt_name service.rupt ++ codes ", begun at cycle "
    ++ decimal service.cycle ++ codes ", has not ended\n"
