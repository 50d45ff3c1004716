use Rattle.std.proofs.lemmas.Result.{err_from_is_err_and}
use Rattle.agc_run.proofs.Printed.{plain_known, live_known}
use Rattle.agc_run.proofs.Refused.{rope_known, script_known, machine_known}
use Rattle.agc_run.proofs.entry.report.Goals as goal

pub returns-in_err-rope-clause-reported : goal.returns-in_err-rope-clause-reported
returns-in_err-rope-clause-reported g c =
    let p = err_from_is_err_and c.from_residual.result c.from_residual.ensures.1 in
    rw (p.1, p.2) (rope_known c.args.options.now _ _ _ _ c.in_err-rope.ensures.refused)

pub returns-in_err-script-clause-reported : goal.returns-in_err-script-clause-reported
returns-in_err-script-clause-reported g c =
    let p = err_from_is_err_and c.from_residual-in_err-script.result c.from_residual-in_err-script.ensures.1 in
    rw (p.1, p.2) (script_known c.args.options.now _ _ _ _ c.in_ok-rope.ensures.accepted c.in_err-script.ensures.refused)

pub returns-in_err-prepared-clause-reported : goal.returns-in_err-prepared-clause-reported
returns-in_err-prepared-clause-reported g c =
    let p = err_from_is_err_and c.from_residual-in_err-prepared.result c.from_residual-in_err-prepared.ensures.1 in
    rw (p.1, p.2) (machine_known c.args.options.now _ _ _ _ c.in_ok-rope.ensures.accepted c.in_ok-script.ensures.accepted (rw c.as_ref-watch.ensures.value at c.in_err-prepared.ensures.checked))

pub returns-then-options-clause-reported : goal.returns-then-options-clause-reported
returns-then-options-clause-reported g c =
    live_known c.args.options.now _ _ _ c.in_ok-prepared.ensures.machine (rw c.as_ref-watch.ensures.value at c.in_ok-prepared.ensures.checked) _ _ _ c.live_report.result c.if-options.true
    c.in_ok-rope.ensures.words c.in_ok-script.ensures.events c.in_ok-rope.ensures.accepted c.in_ok-script.ensures.accepted c.live_report.ensures.report

pub returns-else-options-clause-reported : goal.returns-else-options-clause-reported
returns-else-options-clause-reported g c =
    plain_known c.args.options.now _ _ _ c.in_ok-prepared.ensures.machine (rw c.as_ref-watch.ensures.value at c.in_ok-prepared.ensures.checked) _ _ _ c.plain_report.result c.if-options.false
    c.in_ok-rope.ensures.words c.in_ok-script.ensures.events c.in_ok-rope.ensures.accepted c.in_ok-script.ensures.accepted c.plain_report.ensures
