use Rattle.std.specs.Prelude.{All}
use Rattle.agc_mend.specs.WordDiff.{IsMoved}
use Rattle.agc_mend.proofs.word_diff.moved_blocks.Given as goal

abbrev pub invariant-loop-source : goal.invariant-loop-source
invariant-loop-source l = All (IsMoved l.first.fixed l.second.fixed l.least) l.blocks.items
