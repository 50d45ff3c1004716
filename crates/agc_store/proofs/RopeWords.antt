-- A rope's words, one after the other.
use Rattle.std.proofs.Common.{◌≡◌, ◌≤◌, ◌-◌, ℕ, ◌+◌, List, [], ◌∷◌, ◌++◌, refl, replicate, length, take, get_or, ap, ◌∙◌, zero-add, arith}
use Rattle.std.proofs.lemmas.List.{length-append, get_or-append-add, take-append-le, take_all}
use Rattle.std.proofs.lemmas.List.FromFn.{map-range_with_len_more, length-map-range_with_len}
use Rattle.agc_word.specs.Number.{Number}
use Rattle.agc_store.specs.declared.rope_file.RopeForm.{RopeForm}
use Rattle.agc_store.specs.Memory.{nothing, cell_at}
use Rattle.agc_store.specs.Cells.{cleared_cells}
use Rattle.agc_store.specs.Rope.{IsWoven}
use Rattle.agc_store.proofs.Kept.{length-cleared, cell_at-cleared}
use Rattle.agc_store.specs.RopeFile.{rope_word_at, first_words}

-- no words yet
pub first_words_none : (form : RopeForm) (bytes : List ℕ) → first_words 0 form bytes ≡ []
unfolding first_words
first_words_none form bytes = refl

-- one more word
pub first_words_more : (form : RopeForm) (bytes : List ℕ) (count : ℕ) → first_words (count + 1) form bytes ≡ first_words count form bytes ++ rope_word_at form bytes count ∷ []
unfolding first_words
first_words_more form bytes count = map-range_with_len_more (rope_word_at form bytes) 0 count count (zero-add count)

-- a number of words
pub length_first_words : (count : ℕ) (form : RopeForm) (bytes : List ℕ) → length (first_words count form bytes) ≡ count
unfolding first_words
length_first_words count form bytes = length-map-range_with_len (rope_word_at form bytes) 0 count

-- the words that were woven, and +0 after them
pub resized_words : (form : RopeForm) (bytes : List ℕ) (woven resized : List Number) (len count places : ℕ) → len ≡ length woven → count ≤ places → woven ≡ first_words count form bytes → resized ≡ take places woven ++ replicate (places - len) nothing → resized ≡ first_words count form bytes ++ cleared_cells (places - count)
unfolding cleared_cells
resized_words form bytes woven resized len count places is_len room is h =
    let all : length woven ≡ count = ap length is ∙ length_first_words count form bytes in
    h ∙ rw (take_all places woven (omega arith), is_len, all, is) refl

-- a place after the words is empty
empty-append : (words : List Number) (count place : ℕ) → length words ≤ place → get_or (words ++ cleared_cells count) place nothing ≡ nothing
unfolding cell_at
empty-append words count place past =
    let split : place ≡ length words + (place - length words) = omega arith in
    rw split (get_or-append-add words (cleared_cells count) (place - length words) nothing ∙ cell_at-cleared count (place - length words))

-- the words of a rope with empty banks after them are as a rope keeps them
pub woven_words : (form : RopeForm) (bytes : List ℕ) (words : List Number) → words ≡ first_words 36864 form bytes ++ cleared_cells 4096 → IsWoven words
woven_words form bytes words is =
    let len = length_first_words 36864 form bytes in
    record {
      count = ap length is ∙ length-append (first_words 36864 form bytes) (cleared_cells 4096) ∙ rw (len, length-cleared 4096) refl;
      empty = λ place past. rw is (empty-append (first_words 36864 form bytes) 4096 place (omega arith));
    }

-- and are seen as the words alone
pub take-woven : (count : ℕ) (form : RopeForm) (bytes : List ℕ) (more : List Number) → take count (first_words count form bytes ++ more) ≡ first_words count form bytes
take-woven count form bytes more =
    let len = length_first_words count form bytes in
    take-append-le count (first_words count form bytes) more (omega arith) ∙ take_all count (first_words count form bytes) (omega arith)
