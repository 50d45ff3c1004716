use Rattle.std.proofs.Common.{length}
use Rattle.std.specs.Prelude.{All}
use Rattle.agc_trace.specs.Selection.{lines_of}
use Rattle.agc_trace.specs.Watch.{FitsWatched}
use Rattle.agc_trace.proofs.Lines.{IsWritten}
use Rattle.agc_trace.proofs.last.write_kept.Given as goal

-- what is written so far and the lines that are left are those of the whole
abbrev pub invariant-loop-kept : goal.invariant-loop-kept
invariant-loop-kept g l = record {
  written : IsWritten (g.W.Write.contents l.initial.out) (g.W.Write.contents l.out) (lines_of l.form l.last.items) (lines_of l.form l.initial.last.items);
  fits : All FitsWatched l.last.items;
}

abbrev pub decreases-loop-kept : goal.decreases-loop-kept
decreases-loop-kept g l = length l.last.items
