use Rattle.agc_session.proofs.Checkpoints.{reaches}
use Rattle.agc_session.proofs.session.Session.rewind_to.Goals as goal

pub returns-clause-reached : goal.returns-clause-reached
returns-clause-reached c = reaches c.args.cycle _ _ _ _ _ c.in_ok-session.ensures.way c.go_to.ensures.reached
