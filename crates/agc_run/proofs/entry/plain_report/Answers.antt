use Rattle.std.proofs.lemmas.Result.{IfErr-weaker, err_from_is_err_and}
use Rattle.agc_run.specs.Entry.{IsRunReport}
use Rattle.agc_load.specs.Prepare.{run_steps}
use Rattle.agc_run.proofs.Refused.{run_reported}
use Rattle.agc_load.proofs.Reported.{comes_of}
use Rattle.agc_run.proofs.entry.plain_report.Goals as goal

pub returns-in_err-run : goal.returns-in_err-run
returns-in_err-run g c =
    let p = err_from_is_err_and c.from_residual.result c.from_residual.ensures.1 in
    rw (p.1, p.2) c.in_err-run.ensures.checked

pub returns : goal.returns
returns g c =
    let tables = rw c.requires.watch at c.in_ok-run.ensures.tables in
    comes_of (IsRunReport c.args.options.now c.args.prepared.machine) (run_steps c.args.options.now) c.report_run.result c.in_ok-run.ensures.checked
    c.report_run.ensures.report
    (IfErr-weaker c.report_run.result _ _
    (λ r h. run_reported c.args.options.now r c.in_ok-run.ensures.slots c.in_ok-run.ensures.spacing tables h) c.report_run.ensures.refused)
