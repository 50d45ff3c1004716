use Rattle.std.proofs.Common.{take}
use Rattle.std.proofs.lemmas.List.Elements.{All-take}
use Rattle.agc_session.specs.declared.condition.Armed.{Armed}
use Rattle.agc_command.specs.Command.{IsBreakpointInRange}
use Rattle.agc_repl.proofs.Past.{anew_sound}
use Rattle.agc_repl.proofs.commands.arm_anew.Goals as goal

pub returns-clause-range : goal.returns-clause-range
returns-clause-range c =
    anew_sound c.args.machine.now (take c.loop-one.one-index c.args.armed.now) c.loop-one.anew.items c.loop-one.invariant
    (All-take (λ (a : Armed). IsBreakpointInRange a.condition) c.loop-one.one-index c.args.armed.now c.requires)
