use Rattle.std.proofs.Common.{take}
use Rattle.std.proofs.lemmas.List.Elements.{All-take}
use Rattle.agc_command.specs.Command.{IsBreakpointInRange}
use Rattle.agc_repl.specs.declared.settings.Numbered.{Numbered}
use Rattle.agc_repl.proofs.Runs.{armed_as}
use Rattle.agc_repl.proofs.commands.arm_each.Goals as goal

pub returns-clause-range : goal.returns-clause-range
returns-clause-range c =
    armed_as c.args.machine.now (take c.loop-breakpoint.breakpoint-index c.args.breakpoints.now) c.loop-breakpoint.armed.items c.loop-breakpoint.invariant
    (All-take (λ (b : Numbered). IsBreakpointInRange b.what) c.loop-breakpoint.breakpoint-index c.args.breakpoints.now c.requires)
