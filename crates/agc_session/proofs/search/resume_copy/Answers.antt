use Rattle.std.specs.Prelude.{length}
use Rattle.std.proofs.Common.{ap, arith}
use Rattle.agc_session.proofs.Back.{resumed_copy}
use Rattle.agc_session.proofs.search.resume_copy.Goals as goal

pub resume_with-requires : goal.resume_with-requires
resume_with-requires c = omega (arith, c.len.ensures.count, ap length c.in_ok-events.ensures, c.requires)

pub returns : goal.returns
returns c =
    resumed_copy c.args.script.now c.in_ok-events.events c.empty.result c.args.from.now.machine c.in_ok-machine.machine c.resume_with.result (length c.args.from.now.taken) c.len.result
    c.in_ok-machine.ensures c.in_ok-events.ensures c.len.ensures.count c.resume_with.ensures
