-- Words with their parity bits made right keep their fifteen bits, and the reader of ropes accepts them.
use Rattle.std.specs.Prelude.{◌≡◌, ℕ, zero, suc, ◌+◌, ◌*◌, ◌/◌, ◌%◌, ◌^◌, ◌<◌, ◌≤◌, ◌==◌, nat_lt, Bool, true, false, List, map, find, length, get_or, count_ones, None}
use Rattle.std.specs.List.{range_with_len}
use Rattle.std.specs.Int.Count.{ones}
use Rattle.std.proofs.Common.{refl, ap, sym, ◌∙◌, arith, ne_eqb, le-ltb, inl, inr}
use Rattle.std.proofs.lemmas.Bool.{cases_lt}
use Rattle.std.proofs.lemmas.Bool.Decides.{nat_tests}
use Rattle.std.proofs.lemmas.List.{get_or-map, get_or_past, length-map}
use Rattle.std.proofs.lemmas.Nat.{ones_cat}
use Rattle.agc_store.specs.RopeFile.{file_word, first_bad, is_bad_parity, parity_fault, rope_fault_of}
use Rattle.agc_store.specs.declared.rope_file.RopeForm.TheVariants as form
use Rattle.agc_mend.specs.FileWords.{file_of_words, file_words}
use Rattle.agc_mend.specs.Parity.{with_last_bit_flipped, with_right_parities, with_right_parity}
use Rattle.agc_mend.proofs.BytesBack.{length_file, length_words, word_back, word_there}

-- with its last bit a word has one more one bit
pub one_more : (word : ℕ) → count_ones (2 * word + 1) ≡ count_ones (2 * word) + 1
unfolding ones
one_more word =
    let with_bit : 2 * word + 1 ≡ word * 2 ^ 1 + 1 = omega arith in
    let without : 2 * word ≡ word * 2 ^ 1 + 0 = omega arith in
    let odd : count_ones (2 * word + 1) ≡ count_ones word + 1 = ap count_ones with_bit ∙ ones_cat 1 word 1 (omega arith) in
    let even : count_ones (2 * word) ≡ count_ones word + 0 = ap count_ones without ∙ ones_cat 1 word 0 (omega arith) in
    omega arith

pub same_bits : (word : ℕ) → with_right_parity word / 2 ≡ word / 2
unfolding with_right_parity
same_bits word = grind (arith, nat_tests)

pub right_fits : (word : ℕ) → word < 2 ^ 16 → with_right_parity word < 2 ^ 16
unfolding with_right_parity
right_fits word small = grind (arith, nat_tests)

-- a word is twice its half, and one more if its last bit is one
flipped_even : (half : ℕ) → is_bad_parity (2 * half) ≡ true → is_bad_parity (2 * half + 1) ≡ false
unfolding is_bad_parity
flipped_even half bad = let more = one_more half in grind (arith, nat_tests)

flipped_odd : (half : ℕ) → is_bad_parity (2 * half + 1) ≡ true → is_bad_parity (2 * half) ≡ false
unfolding is_bad_parity
flipped_odd half bad = let more = one_more half in grind (arith, nat_tests)

made_right : (word : ℕ) (bad : Bool) (last : ℕ) → is_bad_parity word ≡ bad → word % 2 ≡ last → is_bad_parity (with_right_parity word) ≡ false
unfolding with_right_parity
made_right word false last is rest = rw is is
made_right word true zero is rest =
    let whole : word ≡ 2 * (word / 2) = omega arith in
    let flipped = flipped_even (word / 2) (rw (← whole) is) in
    let same : with_last_bit_flipped word ≡ 2 * (word / 2) + 1 = rw rest (omega arith) in
    rw (is, same) flipped
made_right word true (suc last) is rest =
    let whole : word ≡ 2 * (word / 2) + 1 = omega arith in
    let flipped = flipped_odd (word / 2) (rw (← whole) is) in
    let one : word % 2 ≡ 1 = omega arith in
    let same : with_last_bit_flipped word ≡ 2 * (word / 2) = rw one (omega arith) in
    rw (is, same) flipped

pub right_parity : (word : ℕ) → is_bad_parity (with_right_parity word) ≡ false
right_parity word = made_right word (is_bad_parity word) (word % 2) refl refl

nothing_right : with_right_parity 0 ≡ 0
unfolding with_right_parity is_bad_parity
nothing_right = refl

right_at : (words : List ℕ) (i : ℕ) → get_or (with_right_parities words) i 0 ≡ with_right_parity (get_or words i 0)
unfolding with_right_parities
right_at words i =
    elim (cases_lt i (length words)) [
      | inl inside ↦ get_or-map with_right_parity words i 0 0 inside
      | inr past ↦
          get_or_past (map with_right_parity words) i 0 (omega (arith, length-map words with_right_parity))
          ∙ sym nothing_right ∙ ap with_right_parity (sym (get_or_past words i 0 past))
    ]

-- the file of a file's words with their parity bits made right
abbrev pub right_file : List ℕ → List ℕ
right_file file = file_of_words (with_right_parities (file_words file))

pub length_right : (file : List ℕ) → length file % 2 ≡ 0 → length (right_file file) ≡ length file
unfolding with_right_parities
length_right file even =
    omega (arith, length_file (map with_right_parity (file_words file)), length-map (file_words file) with_right_parity, length_words file)

past_end : (file : List ℕ) (i : ℕ) → length file ≤ 2 * i → file_word file i ≡ 0
unfolding file_word
past_end file i past = rw (get_or_past file (2 * i) 0 past, get_or_past file (2 * i + 1) 0 (omega arith)) refl

word_at : (file : List ℕ) (i : ℕ) → length file % 2 ≡ 0 → get_or (file_words file) i 0 ≡ file_word file i
word_at file i even =
    elim (cases_lt i (length file / 2)) [
      | inl inside ↦ word_there file i inside
      | inr past ↦ get_or_past (file_words file) i 0 (omega (arith, length_words file)) ∙ sym (past_end file i (omega arith))
    ]

right_word : (file : List ℕ) (i : ℕ) → length file % 2 ≡ 0 → file_word (right_file file) i ≡ with_right_parity (file_word file i)
right_word file i even =
    word_back (with_right_parities (file_words file)) i ∙ right_at (file_words file) i ∙ ap with_right_parity (word_at file i even)

pub bits_stay : (file : List ℕ) → length file % 2 ≡ 0 → (i : ℕ) → file_word (right_file file) i / 2 ≡ file_word file i / 2
bits_stay file even i = rw (right_word file i even) (same_bits (file_word file i))

find_none : (test : ℕ → Bool) (count first : ℕ) → ((i : ℕ) → test i ≡ false) → find test (range_with_len first count) ≡ None
find_none test zero first h = refl
find_none test (suc count) first h = rw (h first) (find_none test count (first + 1) h)

pub accepted : (file : List ℕ) → length file % 2 ≡ 0 → 0 < length file → length file ≤ 73728 → rope_fault_of form.Parity (right_file file) ≡ None
unfolding rope_fault_of parity_fault first_bad
accepted file even some within =
    let right = right_file file in
    let long = length_right file even in
    let full : (length right == 0) ≡ false = ne_eqb (length right) 0 (omega (arith, long)) in
    let whole : (length right % 2 == 1) ≡ false = ne_eqb (length right % 2) 1 (omega (arith, long)) in
    let inside : nat_lt 73728 (length right) ≡ false = le-ltb 73728 (length right) (omega (arith, long)) in
    let none = find_none (λ index. is_bad_parity (file_word right index)) (length right / 2) 0 (λ i. rw (right_word file i even) (right_parity (file_word file i))) in
    rw (full, whole, inside, none) refl
