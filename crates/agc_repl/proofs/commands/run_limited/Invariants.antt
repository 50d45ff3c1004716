use Rattle.std.proofs.Common.{◌-◌, string_bytes}
use Rattle.std.specs.Io.KnownBytes.{append_known}
use Rattle.agc_repl.specs.Answered.{Grows}
use Rattle.agc_repl.specs.Repl.{RunsOn}
use Rattle.agc_repl.specs.Run.{AreSound}
use Rattle.agc_repl.proofs.Past.{Follows, Says}
use Rattle.agc_repl.proofs.commands.run_limited.Given as goal

abbrev pub invariant-loop-passed : goal.invariant-loop-passed
invariant-loop-passed g l =
    Follows l.initial.armed.items l.fn.limits.ignore l.cycle l.initial.repl l.armed.items (l.fn.limits.ignore - l._passed) l.repl
    × Says l.quiet l.initial.armed.items l.fn.limits.ignore l.cycle l.initial.repl l.armed.items (l.fn.limits.ignore - l._passed) l.repl
    (append_known (g.W.Write.contents l.initial.output) (string_bytes l.initial.text))
    (append_known (g.W.Write.contents l.output) (string_bytes l.text))
    × RunsOn l.initial.repl l.repl
    × Grows (g.W.Write.contents l.initial.output) (g.W.Write.contents l.output)
    × AreSound l.armed.items
