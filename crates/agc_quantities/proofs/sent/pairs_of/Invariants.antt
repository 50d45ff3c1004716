use Rattle.std.specs.Prelude.{◌≡◌, ◌++◌, length}
use Rattle.agc_quantities.specs.Sent.{pairs_of}
use Rattle.agc_quantities.proofs.sent.pairs_of.Given as goal

-- the pairs so far, and those of the words left, are all
abbrev pub invariant-loop-first : goal.invariant-loop-first
invariant-loop-first l = l.pairs.items ++ pairs_of l.rest ≡ pairs_of l.fn.words

abbrev pub decreases-loop-first : goal.decreases-loop-first
decreases-loop-first l = length l.rest
