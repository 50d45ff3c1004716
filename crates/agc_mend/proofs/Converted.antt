-- A file in another reading holds the same rope, and converting back gives the same words.
use Rattle.std.specs.Prelude.{◌≡◌, ℕ, ◌+◌, ◌-◌, ◌*◌, ◌/◌, ◌%◌, ◌^◌, ◌<◌, ◌≤◌, All, List, map, length, get_or, replicate}
use Rattle.std.specs.List.{range_with_len}
use Rattle.std.proofs.Common.{refl, ap, sym, ◌∙◌, arith, inl, inr, length-append}
use Rattle.std.proofs.lemmas.Bool.{cases_lt}
use Rattle.std.proofs.lemmas.Bool.Decides.{nat_tests}
use Rattle.std.proofs.lemmas.List.{get_or-append_right, get_or_append_left, get_or_past, get_or-replicate, length-replicate}
use Rattle.std.proofs.lemmas.List.Elements.{All-get_or}
use Rattle.std.proofs.lemmas.List.FromFn.{fill_by_all, get_or-map-range_with_len, length-map-range_with_len}
use Rattle.agc_store.specs.RopeFile.{file_bank, file_index}
use Rattle.agc_store.specs.declared.rope_file.RopeForm.{RopeForm}
use Rattle.agc_store.specs.declared.rope_file.RopeForm.TheVariants as form
use Rattle.agc_mend.specs.Reading.{ComesBack, IsConverted, bits_for, carried_over, converted, converted_at, length_for, padded_for, word_at, word_meant}
use Rattle.agc_mend.specs.declared.reading.Reading.{Reading}
use Rattle.agc_mend.proofs.WordReadings.{bits_back, carried_back, carried_fits, meant_back, meant_fits, nothing_carried, nothing_comes_back, nothing_meant, same_carried}

-- the place of a word in a file gives back the place in the rope
bank_again : (order : RopeForm) (bank : ℕ) → file_bank order (file_bank order bank) ≡ bank
unfolding file_bank
bank_again form.Classic bank = grind (arith, nat_tests)
bank_again form.Parity bank = refl

index_again : (order : RopeForm) (place : ℕ) → file_index order (file_index order place) ≡ place
unfolding file_index
index_again order place =
    let at = 0o2000 * file_bank order (place / 0o2000) + place % 0o2000 in
    let bank : at / 0o2000 ≡ file_bank order (place / 0o2000) = omega arith in
    let offset : at % 0o2000 ≡ place % 0o2000 = omega arith in
    rw (bank, offset, bank_again order (place / 0o2000)) (omega arith)

plain_index : (place : ℕ) → file_index form.Parity place ≡ place
unfolding file_index file_bank
plain_index place = omega arith

high_bank : (bank : ℕ) → 4 ≤ bank → file_bank form.Classic bank ≡ bank
unfolding file_bank
high_bank bank h = grind (arith, nat_tests)

high_index : (place : ℕ) → 0o10000 ≤ place → file_index form.Classic place ≡ place
unfolding file_index
high_index place h = rw (high_bank (place / 0o2000) (omega arith)) (omega arith)

high_again : (place : ℕ) → 0o10000 ≤ file_index form.Classic place → file_index form.Classic place ≡ place
high_again place h = sym (high_index (file_index form.Classic place) h) ∙ index_again form.Classic place

-- a place past the end of one file is past the end of the other
past_both : (before after : RopeForm) (len place : ℕ) → length_for before after len ≤ file_index after place → len ≤ file_index before place
past_both form.Classic form.Classic len place past = past
past_both form.Parity form.Parity len place past = past
past_both form.Classic form.Parity len place past =
    let plain = plain_index place in
    let high = high_index place (omega arith) in
    omega arith
past_both form.Parity form.Classic len place past =
    let plain = plain_index place in
    let high = high_again place (omega arith) in
    omega arith

length_again : (before after : RopeForm) (len : ℕ) → length_for after before (length_for before after len) ≡ length_for before after len
length_again form.Classic form.Classic len = refl
length_again form.Parity form.Parity len = refl
length_again form.Classic form.Parity len = omega arith
length_again form.Parity form.Classic len = omega arith

length_least : (before after : RopeForm) (len : ℕ) → len ≤ length_for before after len
length_least form.Classic form.Classic len = omega arith
length_least form.Parity form.Parity len = omega arith
length_least form.Classic form.Parity len = omega arith
length_least form.Parity form.Classic len = omega arith

length_most : (before after : RopeForm) (len : ℕ) → len ≤ 0o110000 → length_for before after len ≤ 0o110000
length_most form.Classic form.Classic len h = h
length_most form.Parity form.Parity len h = h
length_most form.Classic form.Parity len h = omega arith
length_most form.Parity form.Classic len h = omega arith

length_converted : (before after : Reading) (words : List ℕ) → length (converted before after words) ≡ length_for before.order after.order (length words)
unfolding converted
length_converted before after words =
    length-map-range_with_len (converted_at before after words) 0 (length_for before.order after.order (length words))

bits_at : (before after : Reading) (words : List ℕ) (index : ℕ) → index < length_for before.order after.order (length words) → get_or (converted before after words) index 0 ≡ converted_at before after words index
unfolding converted
bits_at before after words index inside =
    get_or-map-range_with_len (converted_at before after words) 0 (length_for before.order after.order (length words)) index index 0 inside (omega arith)

fits_at : (reading : Reading) (words : List ℕ) (place : ℕ) → ((i : ℕ) → get_or words i 0 < 2 ^ 16) → word_at reading words place < 2 ^ 16
unfolding word_at
fits_at reading words place small = meant_fits reading (get_or words (file_index reading.order place) 0) (small (file_index reading.order place))

nothing_at : (reading : Reading) (words : List ℕ) (place : ℕ) → length words ≤ file_index reading.order place → word_at reading words place ≡ 0
unfolding word_at
nothing_at reading words place past =
    ap (word_meant reading) (get_or_past words (file_index reading.order place) 0 past) ∙ nothing_meant reading

-- the word at each place
inside_at : (before after : Reading) (words : List ℕ) (place : ℕ) → ((i : ℕ) → get_or words i 0 < 2 ^ 16) → file_index after.order place < length_for before.order after.order (length words)
    → word_at after (converted before after words) place ≡ carried_over before.parity after.parity (word_at before words place)
unfolding word_at converted_at
inside_at before after words place small inside =
    let index = file_index after.order place in
    let word = carried_over before.parity after.parity (word_at before words place) in
    let here : converted_at before after words index ≡ bits_for after word = rw (index_again after.order place) refl in
    ap (word_meant after) (bits_at before after words index inside ∙ here)
    ∙ meant_back after word (carried_fits before.parity after.parity (word_at before words place) (fits_at before words place small))

same_at : (before after : Reading) (words : List ℕ) (place : ℕ) → ((i : ℕ) → get_or words i 0 < 2 ^ 16)
    → word_at after (converted before after words) place ≡ carried_over before.parity after.parity (word_at before words place)
same_at before after words place small =
    elim (cases_lt (file_index after.order place) (length_for before.order after.order (length words))) [
      | inl inside ↦ inside_at before after words place small inside
      | inr past ↦
          let none = nothing_at before words place (past_both before.order after.order (length words) place past) in
          nothing_at after (converted before after words) place (omega (arith, length_converted before after words))
          ∙ sym (nothing_carried before.parity after.parity) ∙ ap (carried_over before.parity after.parity) (sym none)
    ]

pub is_converted : (before after : Reading) (words : List ℕ) → ((i : ℕ) → get_or words i 0 < 2 ^ 16) → IsConverted before after words (converted before after words)
is_converted before after words small =
    record {
      long = length_converted before after words;
      same = λ place inside. same_at before after words place small;
      bits = λ place inside. ap (λ (word : ℕ). word / 2) (same_at before after words place small) ∙ same_carried before.parity after.parity (word_at before words place);
    }

-- there and back
small_at : (words : List ℕ) → All (λ bits. bits < 2 ^ 16) words → (i : ℕ) → get_or words i 0 < 2 ^ 16
small_at words small i =
    elim (cases_lt i (length words)) [
      | inl inside ↦ All-get_or (λ (bits : ℕ). bits < 2 ^ 16) words i 0 inside small
      | inr past ↦ rw (get_or_past words i 0 past) (omega arith)
    ]

comes_at : (before after : Reading) (words : List ℕ) → All (λ bits. ComesBack before.parity after.parity (word_meant before bits)) words → (i : ℕ) → ComesBack before.parity after.parity (word_meant before (get_or words i 0))
comes_at before after words all i =
    elim (cases_lt i (length words)) [
      | inl inside ↦ All-get_or (λ (bits : ℕ). ComesBack before.parity after.parity (word_meant before bits)) words i 0 inside all
      | inr past ↦ rw (get_or_past words i 0 past, nothing_meant before) (nothing_comes_back before.parity after.parity)
    ]

padded_at : (before after : RopeForm) (words : List ℕ) (i : ℕ) → i < length_for before after (length words) → get_or (padded_for before after words) i 0 ≡ get_or words i 0
unfolding padded_for
padded_at before after words i inside =
    let more = length_for before after (length words) - length words in
    elim (cases_lt i (length words)) [
      | inl low ↦ get_or_append_left words (replicate more 0) 0 i low
      | inr past ↦
          get_or-append_right words (replicate more 0) (length words) i 0 refl past
          ∙ get_or-replicate more (i - length words) 0 0 (omega arith)
          ∙ sym (get_or_past words i 0 past)
    ]

length_padded : (before after : RopeForm) (words : List ℕ) → length (padded_for before after words) ≡ length_for before after (length words)
unfolding padded_for
length_padded before after words =
    let more = length_for before after (length words) - length words in
    omega (arith, length-append words (replicate more 0), length-replicate {A = ℕ} more 0, length_least before after (length words))

back_at : (before after : Reading) (words : List ℕ) (i : ℕ) → ((i : ℕ) → get_or words i 0 < 2 ^ 16) → ((i : ℕ) → ComesBack before.parity after.parity (word_meant before (get_or words i 0)))
    → converted_at after before (converted before after words) i ≡ get_or words i 0
unfolding converted_at word_at
back_at before after words i small comes =
    let place = file_index before.order i in
    let word = word_meant before (get_or words i 0) in
    let here : word_at before words place ≡ word = rw (index_again before.order i) refl in
    let there = same_at before after words place small ∙ ap (carried_over before.parity after.parity) here in
    ap (λ (w : ℕ). bits_for before (carried_over after.parity before.parity w)) there
    ∙ ap (bits_for before) (carried_back before.parity after.parity word (comes i))
    ∙ bits_back before (get_or words i 0) (small i)

pub there_and_back : (before after : Reading) (words : List ℕ) → length words ≤ 0o110000 → All (λ bits. bits < 2 ^ 16) words
    → All (λ bits. ComesBack before.parity after.parity (word_meant before bits)) words
    → converted after before (converted before after words) ≡ padded_for before.order after.order words
unfolding converted
there_and_back before after words room small comes =
    let there = map (converted_at before after words) (range_with_len 0 (length_for before.order after.order (length words))) in
    let count = length_for after.order before.order (length there) in
    let same : count ≡ length_for before.order after.order (length words) =
    ap (length_for after.order before.order) (length-map-range_with_len (converted_at before after words) 0 (length_for before.order after.order (length words)))
    ∙ length_again before.order after.order (length words) in
    sym (fill_by_all (converted_at after before there) (padded_for before.order after.order words) count 0
    (length_padded before.order after.order words ∙ sym same)
    (λ i inside. padded_at before.order after.order words i (omega (arith, same)) ∙ sym (back_at before after words i (small_at words small) (comes_at before after words comes))))
