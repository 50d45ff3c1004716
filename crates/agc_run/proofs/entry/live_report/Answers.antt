use Rattle.std.specs.Prelude.{Err}
use Rattle.std.proofs.lemmas.Result.{IfErr-weaker, err_from_is_err_and}
use Rattle.agc_run.specs.Entry.{IsKeysReport}
use Rattle.agc_load.specs.Files.{keys_steps}
use Rattle.agc_load.specs.Prepare.{run_steps}
use Rattle.agc_run.proofs.Printed.{with_keys}
use Rattle.agc_run.proofs.Refused.{run_reported}
use Rattle.agc_load.proofs.Reported.{known_any, known_first, known_later}
use Rattle.agc_run.proofs.entry.live_report.Goals as goal

pub returns-in_err-keys-clause-report : goal.returns-in_err-keys-clause-report
returns-in_err-keys-clause-report g c =
    let p = err_from_is_err_and c.from_residual.result c.from_residual.ensures.1 in
    rw (p.1, p.2) (known_first keys_steps (run_steps c.args.options.now) _ _ c.in_err-keys.ensures.refused)

pub returns-in_err-run-clause-report : goal.returns-in_err-run-clause-report
returns-in_err-run-clause-report g c =
    let p = err_from_is_err_and c.from_residual-in_err-run.result c.from_residual-in_err-run.ensures.1 in
    rw (p.1, p.2) (known_later keys_steps (run_steps c.args.options.now) _ (IsKeysReport c.args.options.now c.args.prepared.machine) (Err _)
    c.in_ok-keys.ensures.accepted (known_any _ _ c.in_err-run.ensures.checked))

pub returns-clause-report : goal.returns-clause-report
returns-clause-report g c =
    let tables = rw c.requires.watch at c.in_ok-run.ensures.tables in
    known_later keys_steps (run_steps c.args.options.now) _ (IsKeysReport c.args.options.now c.args.prepared.machine) c.report_live_run.result
    c.in_ok-keys.ensures.accepted
    (with_keys c.args.options.now c.args.prepared.machine _ c.in_ok-keys.keys.items c.report_live_run.result c.in_ok-run.ensures.checked
    c.in_ok-keys.ensures.keys c.report_live_run.ensures.report
    (IfErr-weaker c.report_live_run.result _ _
    (λ r h. run_reported c.args.options.now r c.in_ok-run.ensures.slots c.in_ok-run.ensures.spacing tables h) c.report_live_run.ensures.refused))
