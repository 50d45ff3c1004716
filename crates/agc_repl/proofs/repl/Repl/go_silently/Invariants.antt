use Rattle.std.specs.Prelude.{[]}
use Rattle.agc_repl.specs.Repl.{turns_left}
use Rattle.agc_repl.proofs.Runs.{Follows}
use Rattle.agc_repl.proofs.repl.Repl.go_silently.Given as goal

abbrev pub invariant-loop-self : goal.invariant-loop-self
invariant-loop-self l = Follows [] l.cycle l.initial.self l.self

abbrev pub decreases-loop-self : goal.decreases-loop-self
decreases-loop-self l = turns_left l.self.session.now
