use Rattle.std.proofs.Common.{◌≡◌, ℕ, ◌<◌, length}
use Rattle.agc_profile.specs.Routine.{begins, last_below, routine_of, size_of, sum_below}
use Rattle.agc_profile.specs.Tally.{tally_at}
use Rattle.agc_profile.proofs.routine.sum_routines.Given as goal

-- where the routine of the last place begins, and the sums of the places so far
abbrev pub invariant-loop-place : goal.invariant-loop-place
invariant-loop-place l =
    (l.first ≡ last_below (begins l.names l.memory) l.place) × (length l.sums ≡ size_of l.memory)
    × ((first : ℕ) → first < size_of l.memory → tally_at first l.sums ≡ sum_below (routine_of l.names l.memory) first l.table l.place)
