-- How a rope keeps its words: 36 banks, and four more of +0 after them.
use Rattle.std.specs.Prelude.{◌≡◌, ℕ, ◌≤◌, List, length, get_or}
use Rattle.agc_word.specs.Number.{Number}
use Rattle.agc_store.specs.Places.{fixed_places, fixed_words}
use Rattle.agc_store.specs.Memory.{nothing}

-- forty banks of which the last four are empty
pub record IsWoven (words : List Number) : Type 0 where
  pub count : length words ≡ fixed_places
  pub empty : (place : ℕ) → fixed_words ≤ place → get_or words place nothing ≡ nothing
