use Rattle.std.specs.Prelude.{◌≡◌}
use Rattle.agc_mend.specs.Merge.{choices_by_words}
use Rattle.agc_mend.proofs.merging.choices_by_words.Given as goal

abbrev pub invariant-loop-place : goal.invariant-loop-place
invariant-loop-place l = l.choices.items ≡ choices_by_words l.dumps l.place
