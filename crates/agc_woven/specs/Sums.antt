-- The sums of a rope's banks: behind the last word of a bank TC SELF twice, and a check word.
use Rattle.std.specs.Prelude.{ℕ, zero, suc, ◌+◌, ◌*◌, Bool, true, false, not, ◌&&◌, ◌||◌, nat_lt, List, [], ◌∷◌, ◌++◌, get_or}
use Rattle.std.specs.Prelude.{Option, Some, None, is_some, if◌then◌else◌}
use Rattle.agc_word.specs.Number.{Number, number_from_pattern}
use Rattle.agc_store.specs.Places.{fixed_bank_size, fixed_banks, fixed_words}
use Rattle.agc_store.specs.declared.rope_file.RopeForm.{RopeForm}
use Rattle.agc_listing.specs.List.{listed_address}
use Rattle.agc_listing.specs.declared.line.PlacedWord.{PlacedWord}
use Rattle.agc_mend.specs.BankSum.{sum_of_bank}
use Rattle.agc_mend.specs.CheckWord.{check_word}
use Rattle.agc_mend.specs.FileWords.{file_of_words, file_words}
use Rattle.agc_mend.specs.Parity.{damaged_words}
use Rattle.agc_mend.specs.Patch.{with_word}
use Rattle.agc_mend.specs.Repair.{fits}
use Rattle.agc_mend.specs.declared.bank_sum.BankSum.{BankSum}

-- the place behind the last word of a bank that is not +0, if three words have room there
abbrev pub start_behind : Option BankSum → Option ℕ
start_behind (Some sum) =
    if nat_lt (sum.last + 3) fixed_bank_size then Some (fixed_bank_size * sum.bank + sum.last + 1) else None
start_behind None = None

unfoldable pub sum_start : List Number → ℕ → Option ℕ
sum_start rope bank = start_behind (sum_of_bank rope bank)

-- TC, whose code is 0, with its own address
abbrev pub self_word : ℕ → PlacedWord
self_word place = record { place = place; word = number_from_pattern 15 (listed_address place) }

-- Whether a line of the source fills a place. `lines` has for each place the number of its line, or 0.
abbrev pub has_line : List ℕ → ℕ → Bool
has_line lines place = nat_lt 0 (get_or lines place 0)

abbrev pub used_word : ℕ → PlacedWord
used_word place = record { place = place; word = number_from_pattern 15 1 }

-- the words of a file with +1 at each place below a bound that a line fills
abbrev pub with_used : RopeForm → List ℕ → List ℕ → ℕ → List ℕ
with_used form words lines place = if has_line lines place then with_word form words (used_word place) else words

unfoldable pub used_words : ℕ → RopeForm → List ℕ → List ℕ → List ℕ
used_words zero form words lines = words
used_words (suc place) form words lines = with_used form (used_words place form words lines) lines place

-- The file that says where the sums stand: a rope's file with +1 at exactly the places that the source's lines fill, so
-- that the last of them in each bank is not +0.
abbrev pub used_file : RopeForm → List ℕ → List ℕ → List ℕ
used_file form file lines = file_of_words (used_words fixed_words form (file_words file) lines)

-- the words of a file with TC SELF three times in each bank of a rope that has room
abbrev pub filled_from : RopeForm → List ℕ → Option ℕ → List ℕ
filled_from form words None = words
filled_from form words (Some start) =
    with_word form (with_word form (with_word form words (self_word start)) (self_word (start + 1))) (self_word (start + 2))

abbrev pub filled_bank : RopeForm → List ℕ → List Number → ℕ → List ℕ
filled_bank form words rope bank = filled_from form words (sum_start rope bank)

unfoldable pub filled_banks : ℕ → RopeForm → List ℕ → List Number → List ℕ
filled_banks zero form words rope = words
filled_banks (suc bank) form words rope = filled_bank form (filled_banks bank form words rope) rope bank

-- The third of them is the last word of its bank now: in its place stands the word that makes the sum the bank's number.
abbrev pub checked_by : RopeForm → List ℕ → Option ℕ → Option PlacedWord → List ℕ
checked_by form words (Some start) (Some named) = with_word form words named
checked_by form words start named = words

abbrev pub checked_bank : RopeForm → List ℕ → List Number → List Number → ℕ → List ℕ
checked_bank form words rope filled bank = checked_by form words (sum_start rope bank) (check_word filled bank)

unfoldable pub checked_banks : ℕ → RopeForm → List ℕ → List Number → List Number → List ℕ
checked_banks zero form words rope filled = words
checked_banks (suc bank) form words rope filled =
    checked_bank form (checked_banks bank form words rope filled) rope filled bank

-- The file of a rope with its sums. `rope` says where they stand: behind the last of its words that is not +0.
unfoldable pub summed_file : RopeForm → List Number → List ℕ → List ℕ
summed_file form rope file =
    let filled = filled_banks fixed_banks form (file_words file) rope in
    file_of_words (checked_banks fixed_banks form filled rope (damaged_words form (file_of_words filled)))

-- The sum of each bank that got one is the bank's number or its complement.
abbrev pub right_sum : Option BankSum → Bool
right_sum (Some sum) = fits sum.fit
right_sum None = false

abbrev pub is_right : List Number → List Number → ℕ → Bool
is_right rope after bank = not (is_some (sum_start rope bank)) || right_sum (sum_of_bank after bank)

unfoldable pub are_right : ℕ → List Number → List Number → Bool
are_right zero rope after = true
are_right (suc bank) rope after = are_right bank rope after && is_right rope after bank

-- the banks with words that have no room for a sum
abbrev pub is_full : List Number → ℕ → Bool
is_full rope bank = is_some (sum_of_bank rope bank) && not (is_some (sum_start rope bank))

abbrev pub full_bank : Bool → ℕ → List ℕ
full_bank full bank = if full then bank ∷ [] else []

unfoldable pub full_banks : ℕ → List Number → List ℕ
full_banks zero rope = []
full_banks (suc bank) rope = full_banks bank rope ++ full_bank (is_full rope bank) bank
