use Rattle.std.specs.Prelude.{◌≡◌, ◌+◌, ◌≤◌, length}
use Rattle.agc_word.specs.Text.{lines_of}
use Rattle.agc_quantities.proofs.lists.read_lists.Given as goal

-- the lines so far, and those left, are all
abbrev pub invariant-loop-line : goal.invariant-loop-line
invariant-loop-line l = record {
  lines : l.lines + length (lines_of l.rest) ≡ length (lines_of l.fn.text);
  bytes : l.lines + length l.rest ≤ length l.fn.text;
}

abbrev pub decreases-loop-line : goal.decreases-loop-line
decreases-loop-line l = length l.rest
