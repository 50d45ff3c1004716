use Rattle.std.proofs.Common.{None, inl}
use Rattle.std.proofs.lemmas.Result.{IfErr-weaker, IfOk-weaker, err_from_is_err_and}
use Rattle.agc_run_commands.proofs.Pairs.{pair_refused}
use Rattle.agc_run_commands.specs.Compared.{other_options}
use Rattle.agc_study_args.proofs.Starts.{started_accepted}
use Rattle.agc_run_commands.proofs.compares.compare_files.Goals as goal

pub returns-clause-compared : goal.returns-clause-compared
returns-clause-compared g c =
    IfOk-weaker c.compare_with.result _ _
    (λ outcome h. record { left = c.in_ok-machine.machine; right = h.0; left_start = c.in_ok-machine.ensures.started; right_start = h.1; reports = h.2 })
    c.compare_with.ensures.compared

pub returns-in_err-machine-clause-refused : goal.returns-in_err-machine-clause-refused
returns-in_err-machine-clause-refused g c =
    let p = err_from_is_err_and c.from_residual.result c.from_residual.ensures.1 in
    rw p.1 (inl (_, p.2, c.in_err-machine.ensures.refused))

pub returns-clause-refused : goal.returns-clause-refused
returns-clause-refused g c =
    let args = c.args.args.now in
    let accepted = started_accepted args.options None _ _ c.in_ok-machine.machine c.in_ok-machine.ensures.started in
    IfErr-weaker c.compare_with.result _ _
    (pair_refused args.options (other_options args) None _ _ _ _ accepted) c.compare_with.ensures.refused
