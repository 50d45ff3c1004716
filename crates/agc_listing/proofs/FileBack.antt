-- A file into which the words of a rope are put, one place after the other, holds that rope.
use Rattle.std.specs.Prelude.{◌≡◌, ℕ, ◌+◌, ◌-◌, ◌*◌, ◌/◌, ◌%◌, ◌<◌, ◌≤◌, ◌≢◌, ◌==◌, false, List, [], ◌∷◌, length, set}
use Rattle.std.proofs.Common.{refl, ◌∙◌, arith, inl, inr, length-set}
use Rattle.std.proofs.lemmas.Bool.{cases_eq, cases_lt}
use Rattle.agc_word.specs.Number.{Number, pattern_of}
use Rattle.agc_store.specs.Memory.{fixed_at}
use Rattle.agc_store.specs.RopeFile.{file_index, file_word}
use Rattle.agc_store.specs.declared.rope_file.RopeForm.{RopeForm}
use Rattle.agc_listing.specs.Laws.{named_word}
use Rattle.agc_listing.specs.Weave.{woven_bits, woven_on, woven_with}
use Rattle.agc_listing.specs.declared.line.PlacedWord.{PlacedWord}
use Rattle.agc_listing.proofs.FileWords.{file_bits, index_apart, index_below, length_on, on_word, put_at, put_beside, zeros}

-- a file that holds the words of the first `count` places, and no others
pub record Holds (form : RopeForm) (words : List Number) (count : ℕ) (bytes : List ℕ) : Type 0 where
  pub even : length bytes % 2 ≡ 0
  pub some : 2 ≤ length bytes
  pub within : length bytes ≤ 73728
  pub woven : (place : ℕ) → place < count → file_word bytes (file_index form place) ≡ file_bits form (pattern_of 15 (fixed_at place words))
  pub empty : (place : ℕ) → count ≤ place → file_word bytes (file_index form place) ≡ 0

nothing_in : (i : ℕ) → file_word (0 ∷ 0 ∷ []) i ≡ 0
unfolding file_word
nothing_in i = rw (zeros 2 (2 * i), zeros 2 (2 * i + 1)) refl

pub holds_none : (form : RopeForm) (words : List Number) → Holds form words 0 (0 ∷ 0 ∷ [])
holds_none form words =
    record {
      even = refl;
      some = omega arith;
      within = omega arith;
      woven = λ place below. absurd (omega arith);
      empty = λ place from. nothing_in (file_index form place);
    }

-- one more place, whose word is +0
pub holds_empty : (form : RopeForm) (words : List Number) (count : ℕ) (bytes : List ℕ) → Holds form words count bytes → pattern_of 15 (fixed_at count words) ≡ 0
    → Holds form words (count + 1) bytes
holds_empty form words count bytes h zero_word =
    record {
      even = h.even;
      some = h.some;
      within = h.within;
      woven = λ place below. elim (cases_lt place count) [
        | inl before ↦ h.woven place before
        | inr from ↦
            let here : place ≡ count = omega arith in
            rw here (h.empty count (omega arith) ∙ rw zero_word refl)
      ];
      empty = λ place from. h.empty place (omega arith);
    }

-- what writing a word leaves unchanged in a file
length_with : (form : RopeForm) (bytes : List ℕ) (word : PlacedWord) → length (woven_with form bytes word) ≡ length bytes + (2 * file_index form word.place + 2 - length bytes)
unfolding woven_with
length_with form bytes word =
    let at = 2 * file_index form word.place in
    let bits = woven_bits form (pattern_of 15 word.word) in
    length-set (set (woven_on (at + 2) bytes) at (bits / 256)) (at + 1) (bits % 256) ∙ length-set (woven_on (at + 2) bytes) at (bits / 256) ∙ length_on (at + 2) bytes

word_there : (form : RopeForm) (bytes : List ℕ) (word : PlacedWord) → file_word (woven_with form bytes word) (file_index form word.place) ≡ woven_bits form (pattern_of 15 word.word)
unfolding woven_with
word_there form bytes word =
    let index = file_index form word.place in
    put_at (woven_on (2 * index + 2) bytes) index (woven_bits form (pattern_of 15 word.word)) (omega (arith, length_on (2 * index + 2) bytes))

word_elsewhere : (form : RopeForm) (bytes : List ℕ) (word : PlacedWord) (place : ℕ) → place ≢ word.place
    → file_word (woven_with form bytes word) (file_index form place) ≡ file_word bytes (file_index form place)
unfolding woven_with
word_elsewhere form bytes word place other =
    let index = file_index form word.place in
    let bits = woven_bits form (pattern_of 15 word.word) in
    put_beside (woven_on (2 * index + 2) bytes) index (file_index form place) (bits / 256) (bits % 256) (index_apart form place word.place other)
    ∙ on_word (2 * index + 2) (file_index form place) bytes

-- one more place, whose word is written
bits_of : (form : RopeForm) (word : ℕ) → (word == 0) ≡ false → woven_bits form word ≡ file_bits form word
bits_of form word some = rw some refl

pub holds_word : (form : RopeForm) (words : List Number) (count : ℕ) (bytes : List ℕ) → Holds form words count bytes → count < 0o110000 → (pattern_of 15 (fixed_at count words) == 0) ≡ false
    → Holds form words (count + 1) (woven_with form bytes (named_word words count))
holds_word form words count bytes h inside some =
    let word = named_word words count in
    let len = length_with form bytes word in
    let below = index_below form count inside in
    record {
      even = omega (arith, len, h.even);
      some = omega (arith, len, h.some);
      within = omega (arith, len, h.within, below);
      woven = λ place upto. elim (cases_eq place count) [
        | inl here ↦ rw here (word_there form bytes word ∙ bits_of form (pattern_of 15 (fixed_at count words)) some)
        | inr other ↦ word_elsewhere form bytes word place other ∙ h.woven place (omega arith)
      ];
      empty = λ place from. word_elsewhere form bytes word place (omega arith) ∙ h.empty place (omega arith);
    }
