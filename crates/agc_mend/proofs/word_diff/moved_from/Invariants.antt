use Rattle.std.specs.Prelude.{◌≤◌, IfSome}
use Rattle.agc_mend.specs.WordDiff.{IsMoved}
use Rattle.agc_mend.proofs.word_diff.moved_from.Given as goal

abbrev pub invariant-loop : goal.invariant-loop
invariant-loop l = record {
  found : IfSome l.longest (IsMoved l.first.fixed l.second.fixed l.least);
  enough : l.least ≤ l.most;
}
