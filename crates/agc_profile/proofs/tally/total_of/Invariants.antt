use Rattle.std.proofs.Common.{◌≡◌, take}
use Rattle.agc_profile.specs.Tally.{total_of}
use Rattle.agc_profile.proofs.tally.total_of.Given as goal

-- those so far together
abbrev pub invariant-loop-tally : goal.invariant-loop-tally
invariant-loop-tally l = l.all ≡ total_of (take l.tally-index l.tallies)
