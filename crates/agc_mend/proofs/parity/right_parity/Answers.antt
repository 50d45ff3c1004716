use Rattle.agc_mend.proofs.RightParity.{accepted, bits_stay, length_right}
use Rattle.agc_mend.proofs.parity.right_parity.Goals as goal

pub returns-clause-long : goal.returns-clause-long
returns-clause-long c = rw c.in_ok-right.ensures (length_right c.args.file.now c.requires)

pub returns-clause-bits : goal.returns-clause-bits
returns-clause-bits c = rw c.in_ok-right.ensures (bits_stay c.args.file.now c.requires)

pub returns-clause-accepted : goal.returns-clause-accepted
returns-clause-accepted c = rw c.in_ok-right.ensures (accepted c.args.file.now c.requires)
