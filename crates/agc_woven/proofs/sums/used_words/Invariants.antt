use Rattle.std.specs.Prelude.{◌≡◌}
use Rattle.agc_woven.specs.Sums.{used_words}
use Rattle.agc_woven.proofs.sums.used_words.Given as goal

abbrev pub invariant-loop-place : goal.invariant-loop-place
invariant-loop-place l = l.used.items ≡ used_words l.place l.form l.fn.words.items l.lines
