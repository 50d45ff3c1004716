use Rattle.agc_session.specs.Search.{span}
use Rattle.agc_session.proofs.RunTo.{RunsTo}
use Rattle.agc_session.proofs.session.Session.go_until.Given as goal

abbrev pub invariant-loop-condition : goal.invariant-loop-condition
invariant-loop-condition l = RunsTo l.condition l.cycle l.initial.self l.self

abbrev pub decreases-loop-condition : goal.decreases-loop-condition
decreases-loop-condition l = span l.self.now
