use Rattle.std.specs.Prelude.{◌≡◌, ℕ, ◌+◌, ◌<◌, ◌≤◌}
use Rattle.agc_word.specs.Number.{pattern_of}
use Rattle.agc_store.specs.Memory.{fixed_at}
use Rattle.agc_mend.proofs.word_diff.same_run.Given as goal

abbrev pub invariant-loop-at : goal.invariant-loop-at
invariant-loop-at l = record {
  same : (k : ℕ) → k < l.at → pattern_of 15 (fixed_at (l.source + k) l.first.fixed) ≡ pattern_of 15 (fixed_at (l.target + k) l.second.fixed);
  within : l.count ≤ l.at;
}
