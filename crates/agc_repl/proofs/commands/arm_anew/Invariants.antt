use Rattle.std.proofs.Common.{◌≡◌, take}
use Rattle.agc_repl.specs.Repl.{armed_anew}
use Rattle.agc_repl.proofs.commands.arm_anew.Given as goal

abbrev pub invariant-loop-one : goal.invariant-loop-one
invariant-loop-one l = l.anew.items ≡ armed_anew l.machine (take l.one-index l.armed)
