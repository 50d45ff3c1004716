use Rattle.std.proofs.Common.{◌⊎◌, inl, inr, ℕ, List, Option}
use Rattle.std.specs.Io.KnownBytes.{Keeps}
use Rattle.agc_study_args.specs.declared.args.TraceArgs.{TraceArgs}
use Rattle.agc_trace.specs.declared.line_form.LineForm.{LineForm}
use Rattle.agc_run_commands.specs.Traced.{IsCutOff, IsUntraced}
use Rattle.agc_run_commands.specs.declared.traces.TraceError.{TraceError}
use Rattle.agc_run_commands.specs.declared.traces.TraceError.TheVariants as error
use Rattle.agc_run_commands.proofs.cmd_trace.write_trace.Goals as goal

-- a run that was refused has written nothing, and one that was cut off a beginning of the lines
unfinished : (u : TraceError) (args : TraceArgs) (form : LineForm) (rope script before after : Option (List ℕ)) →
    IsUntraced args form rope script before after u → Keeps before after ⊎ IsCutOff args form rope script before after
unfinished (error.Refused r) args form rope script before after h = inl h.1
unfinished (error.Cut why) args form rope script before after h = inr h

pub returns-in-Err-clause-cut : goal.returns-in-Err-clause-cut
returns-in-Err-clause-cut g c failed = unfinished c.in-Err.error c.args.args.now c.args.form.now _ _ _ _ c.in-Err.ensures.error
