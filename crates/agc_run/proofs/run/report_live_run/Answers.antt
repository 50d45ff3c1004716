use Rattle.std.proofs.Common.{◌≡◌, ◌∙◌, length}
use Rattle.agc_machine.specs.Run.{run_of}
use Rattle.agc_machine.specs.Taken.{replayed}
use Rattle.agc_run.proofs.Channels.{run_in_range}
use Rattle.agc_run.proofs.run.report_live_run.Goals as goal

pub report_shown-requires-clause-channels : goal.report_shown-requires-clause-channels
report_shown-requires-clause-channels g c = rw c.in-Ok.ensures.live.shown.log (run_in_range (replayed c.in-Ok.live.tape c.args.machine))

pub returns-clause-report : goal.returns-clause-report
returns-clause-report g c =
    let live = c.in-Ok.live in
    let left = c.in-Ok.ensures.live in
    let run = run_of (replayed live.tape c.args.machine) in
    let count : c.len-left.result ≡ length live.rest.items = c.len-left.ensures ∙ live.rest.ok.0 in
    let reported = rw count at (c.report_shown.ensures run left.shown) in
    record { tape = live.tape; rest = live.rest.items; taken = rw (← c.requires.spacing) left.tape; kept = left.keys; reported = reported }
