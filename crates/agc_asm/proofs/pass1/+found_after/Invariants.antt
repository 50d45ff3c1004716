use Rattle.agc_asm.proofs.pass1.+found_after.Given as goal

abbrev pub decreases-found_after : goal.decreases-found_after
decreases-found_after l = l.times
