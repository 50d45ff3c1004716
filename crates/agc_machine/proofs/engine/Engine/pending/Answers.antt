use Rattle.std.proofs.Common.{sym}
use Rattle.agc_machine.proofs.Stillness.{held_off}
use Rattle.agc_machine.proofs.engine.Engine.pending.Goals as goal

pub returns-then-is_held_off : goal.returns-then-is_held_off
returns-then-is_held_off c = sym (held_off c.args.self.now.processor (sym c.if-is_held_off.ensures))
