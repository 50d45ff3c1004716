-- A shift is a cut and a join of the pattern.
use Rattle.agc_word.proofs.Pulses.{pulsed-shinc, pulsed-shanc}
use Rattle.agc_word.proofs.narrow.Narrow.pulse.Goals as goal

pub returns-in-Shinc : goal.returns-in-Shinc
returns-in-Shinc c = let bits = c.bits-bits in cc (pulsed-shinc bits.result bits.ensures.range)

pub returns-in-Shanc : goal.returns-in-Shanc
returns-in-Shanc c = let bits = c.bits-bits in cc (pulsed-shanc bits.result bits.ensures.range)
