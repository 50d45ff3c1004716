use Rattle.std.proofs.Common.{inl, inr}
use Rattle.agc_load.specs.declared.fault.LoadFault.TheVariants as refusal
use Rattle.agc_run_commands.proofs.FilmedRuns.{filmed_accepted}
use Rattle.agc_study_args.proofs.Starts.{memory_refused}
use Rattle.agc_run_commands.proofs.films.film_file_pairs.Goals as goal

pub returns : goal.returns
returns g c =
    let args = c.args.args.now in
    inl (refusal.Memory, cc, memory_refused args.options args.watch _ _)

pub returns-in-Err : goal.returns-in-Err
returns-in-Err g c =
    let accepted = filmed_accepted c.args.args.now _ _ c.in_ok-left.left c.in_ok-left.ensures.filmed in
    inr (accepted, c.in-Err.refusal, c.of_other_run.ensures, c.in-Err.ensures.refused)
