use Rattle.std.proofs.Common.{◌≡◌, ◌++◌, string_bytes, length}
use denote.Shadow.{shadow}
use denote.Text.{Utf8}
use Rattle.agc_timeline.specs.Lines.{lines_at, lines_in}
use Rattle.agc_timeline.proofs.changed_lines.push_changed.Given as goal

-- with what is told of the lines that are left, all of it
abbrev pub invariant-loop-old : goal.invariant-loop-old
invariant-loop-old l =
    (string_bytes l.reported ++ lines_at l.names l.cycle (lines_in l.before) (lines_in l.after)
    ≡ string_bytes l.initial.reported ++ lines_at l.names l.cycle (lines_in l.initial.before) (lines_in l.initial.after))
    × shadow (Utf8 l.before) × shadow (Utf8 l.after)

abbrev pub decreases-loop-old : goal.decreases-loop-old
decreases-loop-old l = length l.after
