use Rattle.agc_io.proofs.Begun.{no_byte, no_byte_taken}
use Rattle.agc_io.proofs.output.write_some.Goals as goal

pub returns-in-Ok-eq0-clause-bytes : goal.returns-in-Ok-eq0-clause-bytes
returns-in-Ok-eq0-clause-bytes g c = no_byte _ _ _ _ c.in-Ok-eq0.field-0-test c.in-Ok-eq0.ensures.bytes

pub returns-then-eq-clause-bytes : goal.returns-then-eq-clause-bytes
returns-then-eq-clause-bytes g c = no_byte_taken _ _ c.args.bytes.now c.in-Err.ensures.bytes
