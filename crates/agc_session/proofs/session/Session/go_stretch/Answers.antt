use Rattle.agc_session.proofs.Gone.{goes_on_before}
use Rattle.agc_session.proofs.session.Session.go_stretch.Goals as goal

pub invariant_of-self : goal.invariant_of-self
invariant_of-self c =
    goes_on_before c.args.cycle _ c.next_write_before-stepped.new.self c.show.new.panel c.next_write_before-stepped.result _ c.show.new.writes _ c.self.invariant
    c.next_write_before-stepped.ensures.next c.show.ensures.all c.show.ensures.count
