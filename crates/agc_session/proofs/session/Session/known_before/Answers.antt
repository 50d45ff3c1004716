use Rattle.std.proofs.Common.{rules}
use Rattle.agc_session.proofs.Again.{injects_again}
use Rattle.agc_session.proofs.session.Session.known_before.Goals as goal

pub returns-clause-script : goal.returns-clause-script
returns-clause-script c = search rules

pub returns-clause-again : goal.returns-clause-again
returns-clause-again c =
    injects_again c.args.cycle _ c.args.self.now c.in_ok-script.script c.self.view_is c.self.invariant.session c.rises.ensures c.rises-2.ensures (returns-clause-script c)
