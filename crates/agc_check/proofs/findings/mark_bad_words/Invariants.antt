use Rattle.std.specs.Prelude.{length}
use Rattle.agc_check.proofs.findings.mark_bad_words.Given as goal

abbrev pub decreases-loop-line : goal.decreases-loop-line
decreases-loop-line l = length l.rest
