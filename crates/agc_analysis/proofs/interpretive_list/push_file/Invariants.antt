use Rattle.std.proofs.Common.{length}
use Rattle.agc_analysis.proofs.interpretive_list.push_file.Given as goal

abbrev pub decreases-loop-line : goal.decreases-loop-line
decreases-loop-line g l = length l.rest
