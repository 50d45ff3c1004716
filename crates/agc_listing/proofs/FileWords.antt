-- A word that is written into a file reads back, and leaves the others unchanged.
use Rattle.std.specs.Prelude.{◌≡◌, ℕ, zero, suc, ◌+◌, ◌-◌, ◌*◌, ◌/◌, ◌%◌, ◌^◌, ◌<◌, ◌≢◌, ◌==◌, Bool, true, false, List, [], ◌∷◌, ◌++◌, length, get_or, set, replicate, count_ones, if◌then◌else◌}
use Rattle.std.proofs.Common.{refl, ap, sym, ◌∙◌, arith, length-append, length-set, get_or-set_same, get_or-set_other}
use Rattle.std.proofs.lemmas.Bool.Decides.{nat_tests}
use Rattle.std.proofs.lemmas.List.{length-replicate}
use Rattle.std.specs.Int.Count.{ones}
use Rattle.std.proofs.lemmas.Nat.{ones_cat}
use Rattle.agc_store.specs.RopeFile.{file_bank, file_index, file_word, is_bad_parity}
use Rattle.agc_store.specs.declared.rope_file.RopeForm.{RopeForm}
use Rattle.agc_store.specs.declared.rope_file.RopeForm.TheVariants as form
use Rattle.agc_listing.specs.Weave.{woven_bits, woven_on}

-- zeros after a file read like what is past its end
pub zeros : (n i : ℕ) → get_or {A = ℕ} (replicate n 0) i 0 ≡ 0
zeros zero i = refl
zeros (suc n) zero = refl
zeros (suc n) (suc i) = zeros n i

zeros_after : (bytes : List ℕ) (n i : ℕ) → get_or (bytes ++ replicate n 0) i 0 ≡ get_or bytes i 0
zeros_after [] n i = zeros n i
zeros_after (b ∷ bytes) n zero = refl
zeros_after (b ∷ bytes) n (suc i) = zeros_after bytes n i

on_reads : (len i : ℕ) (bytes : List ℕ) → get_or (woven_on len bytes) i 0 ≡ get_or bytes i 0
unfolding woven_on
on_reads len i bytes = zeros_after bytes (len - length bytes) i

pub length_on : (len : ℕ) (bytes : List ℕ) → length (woven_on len bytes) ≡ length bytes + (len - length bytes)
unfolding woven_on
length_on len bytes = length-append bytes (replicate (len - length bytes) 0) ∙ ap (λ (k : ℕ). length bytes + k) (length-replicate (len - length bytes) 0)

-- the word that was written, and the others
pub put_at : (bytes : List ℕ) (at bits : ℕ) → 2 * at + 1 < length bytes → file_word (set (set bytes (2 * at) (bits / 256)) (2 * at + 1) (bits % 256)) at ≡ bits
unfolding file_word
put_at bytes at bits inside =
    let first = set bytes (2 * at) (bits / 256) in
    let high = get_or-set_other first (2 * at + 1) (2 * at) (bits % 256) 0 (omega arith) ∙ get_or-set_same bytes (2 * at) (bits / 256) 0 (omega arith) in
    let low = get_or-set_same first (2 * at + 1) (bits % 256) 0 (omega (arith, length-set bytes (2 * at) (bits / 256))) in
    rw (high, low) (omega arith)

pub put_beside : (bytes : List ℕ) (at other a b : ℕ) → other ≢ at → file_word (set (set bytes (2 * at) a) (2 * at + 1) b) other ≡ file_word bytes other
unfolding file_word
put_beside bytes at other a b ne =
    let first = set bytes (2 * at) a in
    let high = get_or-set_other first (2 * at + 1) (2 * other) b 0 (omega arith) ∙ get_or-set_other bytes (2 * at) (2 * other) a 0 (omega arith) in
    let low = get_or-set_other first (2 * at + 1) (2 * other + 1) b 0 (omega arith) ∙ get_or-set_other bytes (2 * at) (2 * other + 1) a 0 (omega arith) in
    rw (high, low) refl

pub on_word : (len i : ℕ) (bytes : List ℕ) → file_word (woven_on len bytes) i ≡ file_word bytes i
unfolding file_word
on_word len i bytes = rw (on_reads len (2 * i) bytes, on_reads len (2 * i + 1) bytes) refl

-- the place of a word in a file gives back the place in the rope
bank_again : (form : RopeForm) (bank : ℕ) → file_bank form (file_bank form bank) ≡ bank
unfolding file_bank
bank_again form.Classic bank = grind (arith, nat_tests)
bank_again form.Parity bank = refl

bank_below : (form : RopeForm) (bank : ℕ) → bank < 36 → file_bank form bank < 36
unfolding file_bank
bank_below form.Classic bank h = grind (arith, nat_tests)
bank_below form.Parity bank h = h

index_again : (form : RopeForm) (place : ℕ) → file_index form (file_index form place) ≡ place
unfolding file_index
index_again form place =
    let at = 0o2000 * file_bank form (place / 0o2000) + place % 0o2000 in
    let bank : at / 0o2000 ≡ file_bank form (place / 0o2000) = omega arith in
    let offset : at % 0o2000 ≡ place % 0o2000 = omega arith in
    rw (bank, offset, bank_again form (place / 0o2000)) (omega arith)

pub index_below : (form : RopeForm) (place : ℕ) → place < 0o110000 → file_index form place < 0o110000
unfolding file_index
index_below form place h = omega (arith, bank_below form (place / 0o2000) (omega arith))

pub index_apart : (form : RopeForm) (a b : ℕ) → a ≢ b → file_index form a ≢ file_index form b
index_apart form a b ne same = ne (sym (index_again form a) ∙ ap (file_index form) same ∙ index_again form b)

-- the sixteen bits of a word in a file; +0 has none
abbrev pub file_bits : RopeForm → ℕ → ℕ
file_bits form word = if word == 0 then 0 else woven_bits form word

half_of : (form : RopeForm) (word : ℕ) → woven_bits form word / 2 ≡ word
unfolding woven_bits
half_of form.Classic word = omega arith
half_of form.Parity word = grind (arith, nat_tests)

pub half_back : (form : RopeForm) (word : ℕ) → file_bits form word / 2 ≡ word
half_back form word = grind (arith, nat_tests, half_of)

-- with its last bit a word has an odd count of one bits
one_more : (word : ℕ) → count_ones (2 * word + 1) ≡ count_ones (2 * word) + 1
unfolding ones
one_more word =
    let with_bit : 2 * word + 1 ≡ word * 2 ^ 1 + 1 = omega arith in
    let without : 2 * word ≡ word * 2 ^ 1 + 0 = omega arith in
    let odd : count_ones (2 * word + 1) ≡ count_ones word + 1 = ap count_ones with_bit ∙ ones_cat 1 word 1 (omega arith) in
    let even : count_ones (2 * word) ≡ count_ones word + 0 = ap count_ones without ∙ ones_cat 1 word 0 (omega arith) in
    omega arith

odd_bits : (word : ℕ) → is_bad_parity (woven_bits form.Parity word) ≡ false
unfolding is_bad_parity woven_bits
odd_bits word = let more = one_more word in grind (arith, nat_tests)

parity_by : (word : ℕ) (none : Bool) → (word == 0) ≡ none → is_bad_parity (file_bits form.Parity word) ≡ false
unfolding is_bad_parity
parity_by word true is = rw is refl
parity_by word false is = rw is (odd_bits word)

pub good_parity : (word : ℕ) → is_bad_parity (file_bits form.Parity word) ≡ false
good_parity word = parity_by word (word == 0) refl
