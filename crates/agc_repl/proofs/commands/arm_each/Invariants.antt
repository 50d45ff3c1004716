use Rattle.std.proofs.Common.{◌≡◌, map, take}
use Rattle.agc_repl.specs.Run.{armed_by}
use Rattle.agc_repl.proofs.commands.arm_each.Given as goal

abbrev pub invariant-loop-breakpoint : goal.invariant-loop-breakpoint
invariant-loop-breakpoint l = l.armed.items ≡ map (armed_by l.machine) (take l.breakpoint-index l.breakpoints)
