-- The file of a rope's words is accepted, and its words are the rope's.
use Rattle.std.specs.Prelude.{◌≡◌, ℕ, zero, suc, ◌+◌, ◌/◌, ◌%◌, ◌^◌, ◌<◌, ◌≤◌, ◌==◌, nat_lt, Bool, true, false, not, List, [], ◌∷◌, ◌++◌, length, map, filter, find, fold, None}
use Rattle.std.specs.List.{range_with_len}
use Rattle.std.proofs.Common.{refl, ap, sym, ◌∙◌, arith, add-one, zero-add, ne_eqb, le-ltb}
use Rattle.std.proofs.lemmas.Bool.Decides.{nat_tests}
use Rattle.std.proofs.lemmas.List.{map-append}
use Rattle.std.proofs.lemmas.List.Elements.{filter-append}
use Rattle.std.proofs.lemmas.List.FromFn.{fill_by_all}
use Rattle.std.proofs.lemmas.List.Sums.{fold-append}
use Rattle.agc_word.specs.Number.{Number, pattern_of}
use Rattle.agc_store.specs.Memory.{nothing, fixed_at}
use Rattle.agc_store.specs.Cells.{narrow_number}
use Rattle.agc_store.specs.RopeFile.{file_bank, file_index, file_word, first_bad, first_words, is_bad_parity, parity_fault, rope_fault_of, rope_word_at}
use Rattle.agc_store.specs.declared.rope_file.RopeForm.{RopeForm}
use Rattle.agc_store.specs.declared.rope_file.RopeForm.TheVariants as form
use Rattle.agc_listing.specs.Laws.{has_line, named_word, words_below}
use Rattle.agc_listing.specs.Weave.{woven_file, woven_with}
use Rattle.agc_listing.specs.declared.line.PlacedWord.{PlacedWord}
use Rattle.agc_listing.proofs.FileBack.{Holds, holds_empty, holds_none, holds_word}
use Rattle.agc_listing.proofs.FileWords.{good_parity, half_back}
use Rattle.agc_listing.proofs.LineBack.{narrow_back}
use Rattle.agc_listing.proofs.RopeLines.{range_more}

-- the words with one more place
abbrev words_at : List Number → ℕ → List PlacedWord
words_at words place = map (named_word words) (filter (has_line words) (place ∷ []))

words_more : (count : ℕ) (words : List Number) → words_below (suc count) words ≡ words_below count words ++ words_at words count
unfolding words_below
words_more count words =
    let before = range_with_len 0 count in
    let here = ap (λ (place : ℕ). before ++ place ∷ []) (zero-add count) in
    ap (λ (places : List ℕ). map (named_word words) (filter (has_line words) places)) (range_more 0 count ∙ here)
    ∙ ap (map (named_word words)) (filter-append (has_line words) before (count ∷ []))
    ∙ map-append (named_word words) (filter (has_line words) before) (filter (has_line words) (count ∷ []))

file_more : (form : RopeForm) (parsed more : List PlacedWord) → woven_file form (parsed ++ more) ≡ fold (woven_with form) (woven_file form parsed) more
unfolding woven_file
file_more form parsed more = fold-append (woven_with form) (0 ∷ 0 ∷ []) parsed more

is_zero : (n : ℕ) → not (n == 0) ≡ false → n ≡ 0
is_zero n h = grind (arith, nat_tests)

is_some : (n : ℕ) → not (n == 0) ≡ true → (n == 0) ≡ false
is_some n h = grind (arith, nat_tests)

holds_by : (form : RopeForm) (words : List Number) (count : ℕ) (bytes : List ℕ) (has : Bool) → Holds form words count bytes → count < 0o110000 → has_line words count ≡ has
    → Holds form words (count + 1) (fold (woven_with form) bytes (words_at words count))
holds_by form words count bytes true h inside has = rw has (holds_word form words count bytes h inside (is_some _ has))
holds_by form words count bytes false h inside has = rw has (holds_empty form words count bytes h (is_zero _ has))

-- the file of the words of the first `count` places holds them
pub holds_all : (form : RopeForm) (words : List Number) (count : ℕ) → count ≤ 0o110000 → Holds form words count (woven_file form (words_below count words))
unfolding words_below woven_file
holds_all form words zero room = holds_none form words
holds_all form words (suc count) room =
    let more = holds_by form words count (woven_file form (words_below count words)) (has_line words count) (holds_all form words count (omega arith)) (omega arith) refl in
    rw (words_more count words, file_more form (words_below count words) (words_at words count), ← add-one count) more

-- the words that such a file holds
word_back : (form : RopeForm) (words : List Number) (count place : ℕ) (bytes : List ℕ) → Holds form words count bytes → place < count → (fixed_at place words).magnitude < 2 ^ 14
    → rope_word_at form bytes place ≡ fixed_at place words
unfolding rope_word_at
word_back form words count place bytes h inside narrow =
    let half = ap (λ (bits : ℕ). narrow_number (bits / 2)) (h.woven place inside) in
    half ∙ ap narrow_number (half_back form (pattern_of 15 (fixed_at place words))) ∙ narrow_back (fixed_at place words) narrow

pub first_words_back : (form : RopeForm) (words : List Number) (count : ℕ) (bytes : List ℕ) → Holds form words count bytes → length words ≡ count
    → ((place : ℕ) → (fixed_at place words).magnitude < 2 ^ 14) → first_words count form bytes ≡ words
unfolding first_words fixed_at
first_words_back form words count bytes h long narrow =
    sym (fill_by_all (rope_word_at form bytes) words count nothing long (λ place inside. sym (word_back form words count place bytes h inside (narrow place))))

-- none of its words has wrong parity
find_none : (test : ℕ → Bool) (count first : ℕ) → ((i : ℕ) → i < first + count → test i ≡ false) → find test (range_with_len first count) ≡ None
find_none test zero first h = refl
find_none test (suc count) first h = rw (h first (omega arith)) (find_none test count (first + 1) (λ i inside. h i (omega arith)))

plain_index : (place : ℕ) → file_index form.Parity place ≡ place
unfolding file_index file_bank
plain_index place = omega arith

good_word : (words : List Number) (count index : ℕ) (bytes : List ℕ) → Holds form.Parity words count bytes → index < count → is_bad_parity (file_word bytes index) ≡ false
good_word words count index bytes h inside =
    let here = rw (plain_index index) at (h.woven index inside) in
    rw here (good_parity (pattern_of 15 (fixed_at index words)))

no_parity_fault : (form : RopeForm) (words : List Number) (bytes : List ℕ) → Holds form words 0o110000 bytes → parity_fault form bytes ≡ None
unfolding parity_fault first_bad
no_parity_fault form.Classic words bytes h = refl
no_parity_fault form.Parity words bytes h =
    let none = find_none (λ index. is_bad_parity (file_word bytes index)) (length bytes / 2) 0 (λ i inside. good_word words 0o110000 i bytes h (omega (arith, h.within))) in
    rw none refl

pub accepted : (form : RopeForm) (words : List Number) (bytes : List ℕ) → Holds form words 0o110000 bytes → rope_fault_of form bytes ≡ None
unfolding rope_fault_of
accepted form words bytes h =
    let some : (length bytes == 0) ≡ false = ne_eqb (length bytes) 0 (omega (arith, h.some)) in
    let even : (length bytes % 2 == 1) ≡ false = ne_eqb (length bytes % 2) 1 (omega (arith, h.even)) in
    let within : nat_lt 73728 (length bytes) ≡ false = le-ltb 73728 (length bytes) h.within in
    rw (some, even, within) (no_parity_fault form words bytes h)
