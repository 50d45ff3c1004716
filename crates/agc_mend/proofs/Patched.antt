-- A patched file has the words of the patch at their places, and every other word as it was.
use Rattle.std.specs.Prelude.{◌≡◌, ℕ, ◌+◌, ◌-◌, ◌==◌, false, max, List, [], ◌∷◌, fold, get_or, length, replicate, set}
use Rattle.std.proofs.Common.{refl, ap, sym, ◌∙◌, arith, inl, inr, length-append, length-set, get_or-set_same, get_or-set_other}
use Rattle.std.proofs.lemmas.Bool.{cases_eq, cases_lt, or_parts}
use Rattle.std.proofs.lemmas.Bool.Decides.{nat_tests}
use Rattle.std.proofs.lemmas.List.{get_or-append_right, get_or_append_left, get_or_past, length-replicate}
use Rattle.agc_word.specs.Number.{pattern_of}
use Rattle.agc_store.specs.RopeFile.{file_index}
use Rattle.agc_store.specs.declared.rope_file.RopeForm.{RopeForm}
use Rattle.agc_listing.specs.Weave.{is_named, woven_bits}
use Rattle.agc_listing.specs.declared.line.PlacedWord.{PlacedWord}
use Rattle.agc_listing.proofs.FileWords.{index_apart, zeros}
use Rattle.agc_mend.specs.Patch.{IsPatched, bits_after, length_after, padded_to, with_word, with_words}

padded_read : (len i : ℕ) (words : List ℕ) → get_or (padded_to len words) i 0 ≡ get_or words i 0
padded_read len i words =
    elim (cases_lt i (length words)) [
      | inl inside ↦ get_or_append_left words (replicate (len - length words) 0) 0 i inside
      | inr past ↦
          get_or-append_right words (replicate (len - length words) 0) (length words) i 0 refl past
          ∙ zeros (len - length words) (i - length words)
          ∙ sym (get_or_past words i 0 past)
    ]

padded_long : (len : ℕ) (words : List ℕ) → length (padded_to len words) ≡ max (length words) len
padded_long len words = omega (arith, length-append words (replicate (len - length words) 0), length-replicate {A = ℕ} (len - length words) 0)

word_length : (form : RopeForm) (words : List ℕ) (named : PlacedWord) → length (with_word form words named) ≡ length_after form (length words) named
unfolding with_word
word_length form words named =
    let index = file_index form named.place in
    length-set (padded_to (index + 1) words) index (woven_bits form (pattern_of 15 named.word)) ∙ padded_long (index + 1) words

one_word : (form : RopeForm) (words : List ℕ) (named : PlacedWord) (place : ℕ)
    → get_or (with_word form words named) (file_index form place) 0 ≡ bits_after form place (get_or words (file_index form place) 0) named
unfolding with_word
one_word form words named place =
    let index = file_index form named.place in
    let bits = woven_bits form (pattern_of 15 named.word) in
    let padded = padded_to (index + 1) words in
    elim (cases_eq named.place place) [
      | inl here ↦
          let put : get_or (set padded index bits) index 0 ≡ bits = get_or-set_same padded index bits 0 (omega (arith, padded_long (index + 1) words)) in
          rw (← here) (put ∙ grind (arith, nat_tests))
      | inr other ↦
          let apart = index_apart form place named.place (λ same. other (sym same)) in
          let stays : get_or (set padded index bits) (file_index form place) 0 ≡ get_or words (file_index form place) 0 =
          get_or-set_other padded index (file_index form place) bits 0 apart ∙ padded_read (index + 1) (file_index form place) words in
          stays ∙ grind (arith, nat_tests)
    ]

each_word : (form : RopeForm) (words : List ℕ) (parsed : List PlacedWord) (place : ℕ)
    → get_or (fold (with_word form) words parsed) (file_index form place) 0 ≡ fold (bits_after form place) (get_or words (file_index form place) 0) parsed
each_word form words [] place = refl
each_word form words (named ∷ parsed) place =
    each_word form (with_word form words named) parsed place
    ∙ ap (λ (bits : ℕ). fold (bits_after form place) bits parsed) (one_word form words named place)

each_length : (form : RopeForm) (words : List ℕ) (parsed : List PlacedWord) → length (fold (with_word form) words parsed) ≡ fold (length_after form) (length words) parsed
each_length form words [] = refl
each_length form words (named ∷ parsed) =
    each_length form (with_word form words named) parsed
    ∙ ap (λ (len : ℕ). fold (length_after form) len parsed) (word_length form words named)

left_alone : (form : RopeForm) (place bits : ℕ) (parsed : List PlacedWord) → is_named place parsed ≡ false → fold (bits_after form place) bits parsed ≡ bits
left_alone form place bits [] none = refl
left_alone form place bits (named ∷ parsed) none =
    let parts = or_parts (named.place == place) (is_named place parsed) none in
    rw parts.0 (left_alone form place bits parsed parts.1)

pub is_patched : (form : RopeForm) (parsed : List PlacedWord) (words : List ℕ) → IsPatched form parsed words (with_words form words parsed)
unfolding with_words
is_patched form parsed words =
    record {
      named = λ place. each_word form words parsed place;
      others = λ place none. each_word form words parsed place ∙ left_alone form place (get_or words (file_index form place) 0) parsed none;
      long = each_length form words parsed;
    }
