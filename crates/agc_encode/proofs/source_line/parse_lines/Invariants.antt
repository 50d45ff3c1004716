use Rattle.std.specs.Prelude.{◌≡◌, ◌++◌, length, map}
use Rattle.agc_word.specs.Text.{lines_of}
use Rattle.agc_encode.proofs.source_line.parse_lines.Given as goal

abbrev pub invariant-loop-line : goal.invariant-loop-line
invariant-loop-line l = map (λ line. line.text.now) l.lines.items ++ lines_of l.rest ≡ lines_of l.fn.text

abbrev pub decreases-loop-line : goal.decreases-loop-line
decreases-loop-line l = length l.rest
