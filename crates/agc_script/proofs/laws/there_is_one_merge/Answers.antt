use Rattle.agc_script.proofs.OneMerge.{one_merge}
use Rattle.agc_script.proofs.laws.there_is_one_merge.Goals as goal

pub returns : goal.returns
returns c = one_merge
