use Rattle.std.proofs.Common.{refl}
use Rattle.agc_command.specs.Number.{spec_in}
use Rattle.agc_command.proofs.Ascii.{no_spec}
use Rattle.agc_command.proofs.number.read_spec.Goals as goal

pub returns-in_default-clause-spec : goal.returns-in_default-clause-spec
unfolding spec_in
returns-in_default-clause-spec c = rw (no_spec c.args.word.now c.in_default.ensures.cases.0) refl
