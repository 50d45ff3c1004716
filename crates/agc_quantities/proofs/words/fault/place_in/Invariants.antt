use Rattle.std.specs.Prelude.{◌+◌, ◌≤◌, length}
use Rattle.agc_quantities.proofs.words.fault.place_in.Given as goal

abbrev pub invariant-loop-line : goal.invariant-loop-line
invariant-loop-line l = l.lines + length l.rest ≤ length l.fn.file

abbrev pub decreases-loop-line : goal.decreases-loop-line
decreases-loop-line l = length l.rest
