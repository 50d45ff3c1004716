use Rattle.agc_session.proofs.Begun.{when_reported}
use Rattle.agc_session.proofs.session.Session.script.Goals as goal

pub returns-clause-replay : goal.returns-clause-replay
returns-clause-replay c = when_reported c.join.result _ _ _ c.ok.ensures.value c.join.ensures.ok c.self.view_is c.self.invariant.session
