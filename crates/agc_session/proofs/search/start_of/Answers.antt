use Rattle.agc_session.proofs.Back.{start_resumed}
use Rattle.agc_session.proofs.search.start_of.Goals as goal

pub returns-clause-start : goal.returns-clause-start
returns-clause-start c = λ script.
    start_resumed script c.empty.result c.empty-3.result c.empty-2.result c.args.machine.now c.in_ok-machine.machine c.restart_with.result c.in_ok-machine.ensures
    c.restart_with.ensures c.empty-3.ensures
