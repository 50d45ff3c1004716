use Rattle.std.proofs.Common.{◌≡◌}
use Rattle.agc_store.specs.RopeFile.{first_words}
use Rattle.agc_store.proofs.rope.weave.Given as goal

-- the words that are woven so far
abbrev pub invariant-loop-place : goal.invariant-loop-place
invariant-loop-place l = l.woven.items ≡ first_words l.place l.form l.bytes
