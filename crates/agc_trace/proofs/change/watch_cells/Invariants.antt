use Rattle.std.proofs.Common.{◌≡◌}
use Rattle.std.specs.Prelude.{map}
use Rattle.agc_trace.specs.Change.{named_below, seen_in}
use Rattle.agc_trace.proofs.change.watch_cells.Given as goal

-- the cells so far
abbrev pub invariant-loop-number : goal.invariant-loop-number
invariant-loop-number l = l.seen.items ≡ map (seen_in l.store) (named_below l.number l.several)
