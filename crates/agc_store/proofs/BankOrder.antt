-- The banks of a file are in the order of the list.
use Rattle.std.proofs.Common.{◌≡◌, ℕ, zero, suc, ◌+◌, ◌*◌, ◌/◌, ◌%◌, ◌<◌, List, get_or, refl, ◌∙◌, arith}
use Rattle.std.proofs.lemmas.Bool.Decides.{nat_tests}
use Rattle.std.proofs.lemmas.List.FromFn.{get_or-range_with_len, get_or-map-range_with_len}
use Rattle.agc_store.specs.declared.rope_file.RopeForm.{RopeForm}
use Rattle.agc_store.specs.declared.rope_file.RopeForm.TheVariants as form
use Rattle.agc_store.specs.Memory.{nothing, fixed_at}
use Rattle.agc_store.specs.Cells.{narrow_number}
use Rattle.agc_store.specs.RopeFile.{file_word, file_bank, file_index, banks_of, rope_word_at, first_words, rope_words, FollowsBanks}

-- the i-th bank of the list is the i-th in the file
record IsIth (form : RopeForm) (i bank : ℕ) : Type 0 where
  below : bank < 36
  stands : file_bank form bank ≡ i

later : (i : ℕ) → i < 32 → get_or (banks_of form.Classic) (suc (suc (suc (suc i)))) 0 ≡ 4 + i
later i h = get_or-range_with_len 4 32 i 0 h

ith_classic : (i : ℕ) → i < 36 → IsIth form.Classic i (get_or (banks_of form.Classic) i 0)
unfolding file_bank
ith_classic zero h = record { below = omega arith; stands = refl }
ith_classic (suc zero) h = record { below = omega arith; stands = refl }
ith_classic (suc (suc zero)) h = record { below = omega arith; stands = refl }
ith_classic (suc (suc (suc zero))) h = record { below = omega arith; stands = refl }
ith_classic (suc (suc (suc (suc i)))) h =
    let bank = later i (omega arith) in
    record { below = omega (arith, bank); stands = rw bank (grind (arith, nat_tests)) }

ith_plain : (i : ℕ) → i < 36 → IsIth form.Parity i (get_or (banks_of form.Parity) i 0)
unfolding file_bank
ith_plain i h =
    let bank = get_or-range_with_len 0 36 i 0 h in
    record { below = omega (arith, bank); stands = omega (arith, bank) }

ith : (form : RopeForm) (i : ℕ) → i < 36 → IsIth form i (get_or (banks_of form) i 0)
ith form.Classic i h = ith_classic i h
ith form.Parity i h = ith_plain i h

at_place : (form : RopeForm) (bytes : List ℕ) (place : ℕ) → place < 36864 → fixed_at place (rope_words form bytes) ≡ rope_word_at form bytes place
unfolding fixed_at rope_words first_words
at_place form bytes place h = get_or-map-range_with_len (rope_word_at form bytes) 0 36864 place place nothing h (omega arith)

in_bank : (form : RopeForm) (bytes : List ℕ) (i bank offset : ℕ) → file_bank form bank ≡ i → offset < 0o2000
    → rope_word_at form bytes (0o2000 * bank + offset) ≡ narrow_number (file_word bytes (0o2000 * i + offset) / 2)
unfolding rope_word_at file_index
in_bank form bytes i bank offset stands h =
    let whole : (0o2000 * bank + offset) / 0o2000 ≡ bank = omega arith in
    let rest : (0o2000 * bank + offset) % 0o2000 ≡ offset = omega arith in
    rw (whole, rest, stands) refl

pub follows_banks : (form : RopeForm) (bytes : List ℕ) → FollowsBanks form bytes (rope_words form bytes)
unfolding FollowsBanks
follows_banks form bytes i offset below inside =
    let bank : ℕ = get_or (banks_of form) i 0 in
    let known = ith form i below in
    at_place form bytes (0o2000 * bank + offset) (omega (arith, known.below)) ∙ in_bank form bytes i bank offset known.stands inside
