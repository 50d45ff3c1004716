use Rattle.agc_machine.proofs.Turns.{turns_repeat, turns_skip}
use Rattle.agc_machine.proofs.laws.idle_turns_repeat.Goals as goal

pub returns-clause-turns : goal.returns-clause-turns
returns-clause-turns c = turns_repeat

pub returns-clause-next : goal.returns-clause-next
returns-clause-next c = turns_skip
