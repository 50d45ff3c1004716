use Rattle.std.specs.Prelude.{◌≡◌, ◌<◌, ℕ}
use Rattle.agc_store.specs.Memory.{fixed_at}
use Rattle.agc_asm.proofs.listing_style.has_same_words.Given as goal

abbrev pub invariant-loop-place : goal.invariant-loop-place
invariant-loop-place l = (place : ℕ) → place < l.place → fixed_at place l.fn.first.fixed ≡ fixed_at place l.fn.second.fixed
