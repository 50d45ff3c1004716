use Rattle.std.proofs.Common.{◌≡◌, take}
use Rattle.agc_timeline.proofs.shown.are_same_tasks.Given as goal

-- the first ones are the same
abbrev pub invariant-loop-k : goal.invariant-loop-k
invariant-loop-k l = take l.k l.left ≡ take l.k l.right
