use Rattle.std.specs.Prelude.{ℕ, ◌<◌}
use Rattle.agc_machine.specs.Laws.{after}
use Rattle.agc_session.specs.Search.{IsAt, IsCounting, span}
use Rattle.agc_session.proofs.search.count_hits.Given as goal

abbrev pub invariant-loop-end : goal.invariant-loop-end
invariant-loop-end g l = record {
  counting : (n : ℕ) → IsAt l.end (after n l.initial.machine) → IsCounting l.condition n l.initial.panel l.panel l.initial.machine l.machine l.hits;
  few : l.hits.number < l.most;
}

abbrev pub decreases-loop-end : goal.decreases-loop-end
decreases-loop-end g l = span l.machine
