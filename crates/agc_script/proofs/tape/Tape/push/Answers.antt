use Rattle.agc_script.proofs.Tapes.{tape_more}
use Rattle.agc_script.proofs.tape.Tape.push.Goals as goal

pub invariant_of-self-2 : goal.invariant_of-self-2
invariant_of-self-2 c =
    let later = rw (← c.self.view_is) at c.requires.later in
    rw c.in_ok-push.ensures.items (tape_more _ _ _ c.self.invariant later c.requires.range)
