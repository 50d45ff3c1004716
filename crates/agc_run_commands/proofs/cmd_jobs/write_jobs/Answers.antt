use Rattle.std.proofs.Common.{◌≡◌, ◌⊎◌, inl, inr, ℕ, List, Option, arith}
use Rattle.std.specs.Io.KnownBytes.{Appends, Keeps}
use Rattle.agc_study_args.specs.declared.args.JobsArgs.{JobsArgs}
use Rattle.agc_symbols.specs.Symbols.{Symbol}
use Rattle.agc_run_commands.specs.Traced.{EndsUntraced}
use Rattle.agc_run_commands.specs.Fault.{error_line}
use Rattle.agc_run_commands.specs.Watched.{IsUnwatched, IsWatchCut, IsWatchRefused}
use Rattle.agc_run_commands.specs.declared.traces.TraceError.{TraceError}
use Rattle.agc_run_commands.specs.declared.traces.TraceError.TheVariants as error
use Rattle.agc_run_commands.specs.declared.fault.AnalysisFault.TheVariants as analysis
use Rattle.agc_load.specs.declared.fault.LoadFault.{LoadFault}
use Rattle.agc_trace.specs.declared.tracing.TraceFault.TheVariants as fault
use Rattle.agc_run_commands.proofs.cmd_jobs.write_jobs.Goals as goal

-- with status 2 the line of a refusal was written
refused_by : (u : TraceError) (args : JobsArgs) (names : Option (List Symbol)) (rope script out_before out_after err_before err_after : Option (List ℕ)) (status : ℕ) →
    IsUnwatched args names rope script out_before out_after u → EndsUntraced u status err_before err_after → status ≡ 2 →
    (r : LoadFault) × IsWatchRefused args rope script r × Appends err_before err_after (error_line (analysis.Refused r))
refused_by (error.Refused r) args names rope script ob oa eb ea status h (inl e) two = (r, h.0, e.1)
refused_by (error.Refused r) args names rope script ob oa eb ea status h (inr e) two = absurd (omega (arith, e, two))
refused_by (error.Cut fault.Write) args names rope script ob oa eb ea status h e two = absurd (omega (arith, e.0, two))
refused_by (error.Cut fault.Memory) args names rope script ob oa eb ea status h e two = absurd (omega (arith, e, two))

pub returns-in-Err-clause-refused : goal.returns-in-Err-clause-refused
returns-in-Err-clause-refused g c =
    refused_by c.in-Err.unwatched c.args.args.now c.args.names.now _ _ _ _ _ _ c.status_of_trace_error.result c.in-Err.ensures.unwatched c.status_of_trace_error.ensures

-- a run that was refused has written nothing, and one that was cut off a beginning of the lines
unfinished : (u : TraceError) (args : JobsArgs) (names : Option (List Symbol)) (rope script before after : Option (List ℕ)) → IsUnwatched args names rope script before after u →
    Keeps before after ⊎ IsWatchCut args names rope script before after
unfinished (error.Refused r) args names rope script before after h = inl h.1
unfinished (error.Cut why) args names rope script before after h = inr h

pub returns-in-Err-clause-cut : goal.returns-in-Err-clause-cut
returns-in-Err-clause-cut g c failed = unfinished c.in-Err.unwatched c.args.args.now c.args.names.now _ _ _ _ c.in-Err.ensures.unwatched
