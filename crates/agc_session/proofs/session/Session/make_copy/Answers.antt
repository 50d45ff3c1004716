use Rattle.std.specs.Prelude.{All}
use Rattle.std.proofs.Common.{subst, sym}
use Rattle.agc_session.specs.Checkpoints.{IsCheckpoint}
use Rattle.agc_session.proofs.session.Session.make_copy.Goals as goal

pub invariant_of-self-in-Some : goal.invariant_of-self-in-Some
invariant_of-self-in-Some c =
    let words = c.self.inside.machine.processor.store.fixed in
    let limit = c.self.inside.machine.limit in
    record {
      session = c.self.invariant.session;
      count = c.self.invariant.count;
      right = c.keep.ensures words limit (subst (All (IsCheckpoint words limit)) (sym c.wait.ensures) c.self.invariant.right) c.in-Some.ensures;
    }
