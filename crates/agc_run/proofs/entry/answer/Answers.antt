use Rattle.std.proofs.lemmas.Result.{err_from_is_err_and}
use Rattle.agc_run.proofs.Printed.{answered_known}
use Rattle.agc_run.proofs.entry.answer.Goals as goal

pub returns-in_err-report-clause-answered : goal.returns-in_err-report-clause-answered
returns-in_err-report-clause-answered g c =
    let p = err_from_is_err_and c.from_residual.result c.from_residual.ensures.1 in
    rw (p.1, p.2) c.in_err-report.ensures.reported

pub returns-clause-answered : goal.returns-clause-answered
returns-clause-answered g c =
    answered_known _ c.args.options.now c.in_ok-report.report c.print.result c.print.ensures.text c.print.ensures.memory c.in_ok-report.ensures.reported
