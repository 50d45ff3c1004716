use Rattle.agc_study_args.proofs.SureLocation.{is_addressed}
use Rattle.agc_study_args.proofs.laws.a_listed_operand_is_addressed.Goals as goal

pub returns : goal.returns
returns c = is_addressed
