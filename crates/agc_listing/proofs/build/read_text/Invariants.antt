use Rattle.std.specs.Prelude.{◌≡◌, ◌+◌, ◌≤◌, [], length}
use Rattle.agc_word.specs.Text.{lines_of}
use Rattle.agc_listing.specs.Weave.{parsed_from}
use Rattle.agc_listing.proofs.build.read_text.Given as goal

abbrev pub invariant-loop-line : goal.invariant-loop-line
invariant-loop-line l = record {
  same : parsed_from (l.lines + 1) l.builder (lines_of l.rest) ≡ parsed_from 1 [] (lines_of l.fn.text);
  bytes : l.lines + length l.rest ≤ length l.fn.text;
}

abbrev pub decreases-loop-line : goal.decreases-loop-line
decreases-loop-line l = length l.rest
