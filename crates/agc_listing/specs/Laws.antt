-- The law that the text of a rope builds a rope with the words that it lists.
use Rattle.std.specs.Prelude.{◌≡◌, ℕ, ◌^◌, ◌<◌, ◌==◌, Bool, not, All, List, length, map, filter}
use Rattle.std.specs.Prelude.{None}
use Rattle.std.specs.List.{range_with_len}
use Rattle.agc_word.specs.Number.{Number, pattern_of}
use Rattle.agc_store.specs.Places.{fixed_words}
use Rattle.agc_store.specs.Memory.{fixed_at}
use Rattle.agc_store.specs.RopeFile.{rope_fault_of, rope_words}
use Rattle.agc_store.specs.declared.rope_file.RopeForm.{RopeForm}
use Rattle.agc_listing.specs.declared.line.PlacedWord.{PlacedWord}

-- the words of a rope: 36 banks of 2000 octal, each word narrow
pub record AreRopeWords (words : List Number) : Type 0 where
  pub count : length words ≡ fixed_words
  pub narrow : All (λ word. word.magnitude < 2 ^ 14) words

-- whether the word at a place has a line: +0 has none, -0 has one
abbrev pub has_line : List Number → ℕ → Bool
has_line words place = not (pattern_of 15 (fixed_at place words) == 0)

-- the word at a place, together with its place
abbrev pub named_word : List Number → ℕ → PlacedWord
named_word words place = record { place = place; word = fixed_at place words }

-- the words of the first `count` places that have a line, in the order of the places
unfoldable pub words_below : ℕ → List Number → List PlacedWord
words_below count words = map (named_word words) (filter (has_line words) (range_with_len 0 count))

-- the words of a rope that have a line, in the order of the places
unfoldable pub words_listed : List Number → List PlacedWord
words_listed words = words_below fixed_words words

-- a file of a form holds a rope with these words
pub record IsRopeOf (form : RopeForm) (words : List Number) (file : List ℕ) : Type 0 where
  pub accepted : rope_fault_of form file ≡ None
  pub same : rope_words form file ≡ words
