use Rattle.agc_session.proofs.Gone.{goes_by_boundary}
use Rattle.agc_session.proofs.session.Session.step.Goals as goal

pub invariant_of-self : goal.invariant_of-self
invariant_of-self c =
    goes_by_boundary _ c.step-stepped.new.self c.show.new.panel c.step-stepped.result _ c.show.new.writes _ c.self.invariant c.step-stepped.ensures.boundary c.show.ensures.all c.show.ensures.count
