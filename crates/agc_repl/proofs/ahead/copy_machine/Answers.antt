use Rattle.std.proofs.Common.{arith}
use Rattle.agc_repl.proofs.Remaining.{copied_now, few_left}
use Rattle.agc_repl.proofs.ahead.copy_machine.Goals as goal

pub overflow_sub-taken : goal.overflow_sub-taken
overflow_sub-taken c =
    omega (arith, c.len.ensures.count, few_left c.in_ok-script.script c.events_left.result.now c.args.session.now c.machine-machine.result.now c.in_ok-script.ensures.replay c.machine-machine.ensures c.events_left.ensures)

pub resume_with-requires : goal.resume_with-requires
resume_with-requires c = omega (arith, c.len.ensures.count)

pub returns : goal.returns
returns c =
    copied_now c.in_ok-script.script c.events_left.result.now _ _ c.args.session.now c.machine-machine.result.now c.in_ok-copy.copy c.resume_with.result
    c.in_ok-script.ensures.replay c.machine-machine.ensures c.events_left.ensures (omega (arith, c.len.ensures.count)) c.in_ok-copy.ensures c.resume_with.ensures
