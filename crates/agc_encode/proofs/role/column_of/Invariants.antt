use Rattle.std.specs.Prelude.{◌≡◌, ◌≤◌, length}
use Rattle.agc_encode.specs.Interpretive.{column_from, column_of}
use Rattle.agc_encode.proofs.role.column_of.Given as goal

abbrev pub invariant-loop-rest : goal.invariant-loop-rest
invariant-loop-rest l = record {
  same : column_from l.is_named l.column l.rest ≡ column_of l.fn.line;
  low : l.column ≤ 24;
}

abbrev pub decreases-loop-rest : goal.decreases-loop-rest
decreases-loop-rest l = length l.rest
