-- The places at which two ropes differ, and blocks of words that moved.
use Rattle.std.specs.Prelude.{◌≡◌, ◌≢◌, ℕ, ◌+◌, ◌≤◌, ◌<◌, ◌==◌, Bool, not, ◌&&◌, List, filter, length}
use Rattle.std.specs.List.{range_with_len}
use Rattle.agc_word.specs.Number.{Number, pattern_of}
use Rattle.agc_store.specs.Memory.{fixed_at}
use Rattle.agc_store.specs.Places.{fixed_words}
use Rattle.agc_mend.specs.declared.word_diff.MovedBlock.{MovedBlock}

-- whether two ropes differ at a place
abbrev pub differs_at : List Number → List Number → ℕ → Bool
differs_at first second place =
    not (pattern_of 15 (fixed_at place first) == pattern_of 15 (fixed_at place second))

-- the places at which two ropes differ, among the first ones, in their order
unfoldable pub places_apart : ℕ → List Number → List Number → List ℕ
places_apart count first second = filter (differs_at first second) (range_with_len 0 count)

-- as many words of one rope from a place on are in another from a place on
pub record IsSameRun (first second : List Number) (source target count : ℕ) : Type 0 where
  pub in_first : source + count ≤ fixed_words
  pub in_second : target + count ≤ fixed_words
  pub same : (k : ℕ) → k < count → pattern_of 15 (fixed_at (source + k) first) ≡ pattern_of 15 (fixed_at (target + k) second)

-- how many words of a block are not at their own place in both ropes, neither before the move nor after it
unfoldable pub moved_words : List Number → List Number → MovedBlock → ℕ
moved_words first second block =
    length (filter (λ k. differs_at first second (block.source + k) && differs_at first second (block.target + k)) (range_with_len 0 block.count))

-- a block of one rope that is at another place in the other, at least so many words of it moved
pub record IsMoved (first second : List Number) (least : ℕ) (block : MovedBlock) : Type 0 where
  pub moved : least ≤ moved_words first second block
  pub elsewhere : block.source ≢ block.target
  pub run : IsSameRun first second block.source block.target block.count
