-- One bank more, and one place more.
use Rattle.std.specs.Prelude.{◌≡◌, ℕ, ◌+◌, Bool, true, ◌&&◌, List, [], ◌++◌}
use Rattle.std.proofs.Common.{refl, add-one}
use Rattle.agc_word.specs.Number.{Number}
use Rattle.agc_store.specs.declared.rope_file.RopeForm.{RopeForm}
use Rattle.agc_woven.specs.Sums.{are_right, checked_bank, checked_banks, filled_bank, filled_banks, full_bank, full_banks, is_full, is_right, used_words, with_used}

pub filled_none : (form : RopeForm) (words : List ℕ) (rope : List Number) → filled_banks 0 form words rope ≡ words
unfolding filled_banks
filled_none form words rope = refl

pub filled_more : (bank : ℕ) (form : RopeForm) (words : List ℕ) (rope : List Number) → filled_banks (bank + 1) form words rope ≡ filled_bank form (filled_banks bank form words rope) rope bank
unfolding filled_banks
filled_more bank form words rope = rw add-one refl

pub checked_none : (form : RopeForm) (words : List ℕ) (rope filled : List Number) → checked_banks 0 form words rope filled ≡ words
unfolding checked_banks
checked_none form words rope filled = refl

pub checked_more : (bank : ℕ) (form : RopeForm) (words : List ℕ) (rope filled : List Number) → checked_banks (bank + 1) form words rope filled ≡ checked_bank form (checked_banks bank form words rope filled) rope filled bank
unfolding checked_banks
checked_more bank form words rope filled = rw add-one refl

pub right_none : (rope after : List Number) → are_right 0 rope after ≡ true
unfolding are_right
right_none rope after = refl

pub right_more : (bank : ℕ) (rope after : List Number) → are_right (bank + 1) rope after ≡ are_right bank rope after && is_right rope after bank
unfolding are_right
right_more bank rope after = rw add-one refl

pub full_none : (rope : List Number) → full_banks 0 rope ≡ []
unfolding full_banks
full_none rope = refl

pub full_more : (bank : ℕ) (rope : List Number) → full_banks (bank + 1) rope ≡ full_banks bank rope ++ full_bank (is_full rope bank) bank
unfolding full_banks
full_more bank rope = rw add-one refl

pub used_none : (form : RopeForm) (words lines : List ℕ) → used_words 0 form words lines ≡ words
unfolding used_words
used_none form words lines = refl

pub used_more : (place : ℕ) (form : RopeForm) (words lines : List ℕ) → used_words (place + 1) form words lines ≡ with_used form (used_words place form words lines) lines place
unfolding used_words
used_more place form words lines = rw add-one refl
