use Rattle.std.specs.Prelude.{◌≡◌, ◌+◌, ◌≤◌, [], length, All}
use Rattle.agc_script.specs.Event.{IsInRange}
use Rattle.agc_word.specs.Text.{lines_of}
use Rattle.agc_script.specs.Parse.{reading}
use Rattle.agc_script.proofs.parse.read_lines.Given as goal

abbrev pub invariant-loop-line : goal.invariant-loop-line
invariant-loop-line l = record {
  same : reading (l.lines + 1) l.last l.events.items (lines_of l.rest) ≡ reading 1 0 [] (lines_of l.fn.file);
  count : l.lines + length (lines_of l.rest) ≡ length (lines_of l.fn.file);
  bytes : l.lines + length l.rest ≤ length l.fn.file;
  range : All IsInRange l.events.items;
  few : length l.events.items ≤ 65536;
}

abbrev pub decreases-loop-line : goal.decreases-loop-line
decreases-loop-line l = length l.rest
