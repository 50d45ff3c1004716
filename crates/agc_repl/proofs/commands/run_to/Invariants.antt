use Rattle.std.proofs.Common.{string_bytes}
use Rattle.std.specs.Io.KnownBytes.{append_known}
use Rattle.agc_repl.specs.Answered.{Grows}
use Rattle.agc_repl.specs.Repl.{RunsOn, turns_left}
use Rattle.agc_repl.proofs.Runs.{Follows, Says}
use Rattle.agc_repl.proofs.commands.run_to.Given as goal

abbrev pub invariant-loop-repl : goal.invariant-loop-repl
invariant-loop-repl g l =
    Follows l.fn.armed l.cycle l.initial.repl l.repl
    × Says l.quiet l.fn.armed l.cycle l.initial.repl l.repl (append_known (g.W.Write.contents l.initial.output) (string_bytes l.initial.text))
    (append_known (g.W.Write.contents l.output) (string_bytes l.text))
    × RunsOn l.initial.repl l.repl
    × Grows (g.W.Write.contents l.initial.output) (g.W.Write.contents l.output)

abbrev pub decreases-loop-repl : goal.decreases-loop-repl
decreases-loop-repl g l = turns_left l.repl.session.now
