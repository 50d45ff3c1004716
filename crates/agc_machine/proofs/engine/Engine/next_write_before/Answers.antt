use Rattle.std.proofs.Common.{◌∙◌, arith}
use Rattle.agc_machine.proofs.Before.{before_same_way}
use Rattle.agc_machine.proofs.engine.Engine.next_write_before.Goals as goal

pub returns-clause-next : goal.returns-clause-next
returns-clause-next c = c.go_before.ensures.next ∙ before_same_way _ _ _ _ (omega arith) c.skip_idle_turns.ensures.next
