use Rattle.std.proofs.Common.{append_assoc}
use Rattle.agc_run_commands.proofs.traces.remark_service.Goals as goal

pub returns : goal.returns
returns g c = simp append_assoc (rw c.name-name.ensures at c.writeln.ensures.bytes)
