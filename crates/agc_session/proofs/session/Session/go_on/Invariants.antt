use Rattle.std.specs.Prelude.{◌≡◌}
use Rattle.agc_machine.specs.Run.{boundaries_left, next_before}
use Rattle.agc_session.proofs.session.Session.go_on.Given as goal

abbrev pub invariant-loop-self : goal.invariant-loop-self
invariant-loop-self l = (next_before l.cycle l.self.now ≡ next_before l.cycle l.initial.self.now) × (l.self.panel ≡ l.initial.self.panel) × (l.self.base ≡ l.initial.self.base) × (l.self.retained ≡ l.initial.self.retained) × (l.self.script ≡ l.initial.self.script) × (l.self.injected ≡ l.initial.self.injected)

abbrev pub decreases-loop-self : goal.decreases-loop-self
decreases-loop-self l = boundaries_left l.self.now
