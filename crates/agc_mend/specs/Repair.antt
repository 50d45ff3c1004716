-- The single-bit repairs of words with wrong parity, the most plausible ones first.
use Rattle.std.specs.Prelude.{ℕ, zero, suc, ◌+◌, ◌*◌, ◌/◌, ◌%◌, ◌^◌, ◌==◌, Bool, true, false, not, ◌&&◌, nat_le, nat_lt}
use Rattle.std.specs.Prelude.{List, ◌++◌, bit_xor, codes, filter, length, map, if◌then◌else◌}
use Rattle.std.specs.List.{flat_map, list_any, range_with_len}
use Rattle.agc_word.specs.Number.{Number, pattern_of}
use Rattle.agc_word.specs.Octal.{word_digits}
use Rattle.agc_store.specs.Cells.{narrow_number}
use Rattle.agc_store.specs.Memory.{nothing, fixed_at}
use Rattle.agc_store.specs.Places.{fixed_bank_size, fixed_banks, fixed_words}
use Rattle.agc_listing.specs.List.{is_extracode_at, listed_place, starts_run}
use Rattle.agc_listing.specs.Order.{next_is_extracode, order_text}
use Rattle.agc_listing.specs.Place.{place_text}
use Rattle.agc_mend.specs.BankSum.{bank_sum, bank_word, fit_of, word_sum}
use Rattle.agc_mend.specs.Woven.{has_words}
use Rattle.agc_mend.specs.Legal.{is_legal}
use Rattle.agc_mend.specs.Reached.{is_next_reached}
use Rattle.agc_mend.specs.declared.bank_sum.SumFit.{SumFit}
use Rattle.agc_mend.specs.declared.bank_sum.SumFit.TheVariants as fit
use Rattle.agc_mend.specs.declared.parity.BadWord.{BadWord}
use Rattle.agc_mend.specs.declared.repair.Repair.{Repair}
use Rattle.agc_mend.specs.declared.repair.Sureness.{Sureness}
use Rattle.agc_mend.specs.declared.repair.Sureness.TheVariants as how

-- the fifteen bits of a word of which one of its sixteen bits is flipped
abbrev pub word_repaired : ℕ → ℕ → Number
word_repaired word bit = narrow_number (bit_xor word (2 ^ bit) / 2)

-- the sum of the first words of a bank, with this word at an offset
unfoldable pub sum_with : ℕ → List Number → ℕ → ℕ → Number → Number
sum_with zero words bank offset word = nothing
sum_with (suc count) words bank offset word =
    word_sum (sum_with count words bank offset word)
    (if count == offset then word else bank_word words bank count)

abbrev pub fits : SumFit → Bool
fits fit.Neither = false
fits _ = true

-- whether the sum of the bank fits with this word at a place
unfoldable pub makes_sum_fit : List Number → ℕ → Number → Bool
makes_sum_fit words place word =
    let bank = place / fixed_bank_size in
    fits (fit_of bank (sum_with fixed_bank_size words bank (place % fixed_bank_size) word))

-- whether the same word is at another place, among the first ones
unfoldable pub stands_elsewhere : ℕ → List Number → ℕ → Number → Bool
stands_elsewhere count words place word =
    list_any (λ at. not (at == place) && (pattern_of 15 (fixed_at at words) == pattern_of 15 word)) (range_with_len 0 count)

-- whether the word after a place, if there is one, is legal after this word
unfoldable pub is_next_legal : List Number → ℕ → Bool → Number → Bool
is_next_legal words place extracode word =
    let next = next_is_extracode extracode word && not (starts_run (place + 1)) in
    nat_lt (place + 1) fixed_words && is_legal words (place + 1) next (fixed_at (place + 1) words)

abbrev pub points : ℕ → Bool → ℕ
points count true = count
points count false = 0

-- How plausible a word is at a place, from 0 to 15: above all, the sum of its bank fits; next, it is legal there; next,
-- it is elsewhere too; last, the word after it is legal and can be reached.
unfoldable pub plausibility_of : List Number → ℕ → Bool → Number → ℕ
plausibility_of words place extracode word =
    points 8 (makes_sum_fit words place word) + points 4 (is_legal words place extracode word)
    + points 2 (stands_elsewhere fixed_words words place word)
    + points 1 (is_next_legal words place extracode word && is_next_reached words place extracode word)

-- how many of a word's sixteen single-bit repairs make the sum of its bank right
unfoldable pub fitting_repairs : List Number → BadWord → ℕ
fitting_repairs words bad =
    length (filter (λ bit. makes_sum_fit words bad.place (word_repaired bad.word bit)) (range_with_len 0 16))

-- whether one of these words is another word of the same bank
unfoldable pub has_other_in_bank : List BadWord → BadWord → Bool
has_other_in_bank wrong bad =
    list_any (λ other. (other.place / fixed_bank_size == bad.place / fixed_bank_size) && not (other.place == bad.place)) wrong

-- whether another bank than this one has a word that is not +0, and whether its sum is right too
unfoldable pub is_other_used : List Number → ℕ → ℕ → Bool
is_other_used words bank other = not (other == bank) && has_words words other

unfoldable pub is_other_right : List Number → ℕ → ℕ → Bool
is_other_right words bank other =
    is_other_used words bank other && fits (fit_of other (bank_sum words other))

unfoldable pub others_used : List Number → ℕ → ℕ
others_used words bank = length (filter (is_other_used words bank) (range_with_len 0 fixed_banks))

unfoldable pub others_right : List Number → ℕ → ℕ
others_right words bank = length (filter (is_other_right words bank) (range_with_len 0 fixed_banks))

-- whether at least half of the other used banks have right sums, and one of them at least
unfoldable pub are_sums_usual : List Number → ℕ → Bool
are_sums_usual words bank =
    nat_lt 0 (others_right words bank) && nat_le (others_used words bank) (2 * others_right words bank)

-- Whether the sum of a bank shows the right repair of a bad word, if no other word of the bank is wrong: only one of the
-- word's sixteen repairs makes the sum right, no other word of the bank has wrong parity, and the rope's banks have right
-- sums.
unfoldable pub is_shown_by_sum : List Number → List BadWord → BadWord → Bool
is_shown_by_sum words wrong bad =
    (fitting_repairs words bad == 1) && not (has_other_in_bank wrong bad)
    && are_sums_usual words (bad.place / fixed_bank_size)

-- How sure a repair is. It is sure if the sum of its bank shows it, and the places of the file's words are known. With
-- another bad word in the bank, or with two repairs that fit, a sum that fits makes it likely alone.
unfoldable pub sureness_of : Bool → ℕ → Sureness
sureness_of is_shown plausibility =
    if nat_le 8 plausibility
    then (if is_shown then how.Sure else how.Fits)
    else (if nat_le 6 plausibility then how.Likely else (if nat_le 4 plausibility then how.Possible else how.Unlikely))

-- the repair of a bad word by one bit
unfoldable pub repair_at : List Number → Bool → BadWord → ℕ → Repair
repair_at words is_shown bad bit =
    let word = word_repaired bad.word bit in
    let extracode = is_extracode_at words bad.place in
    let plausibility = plausibility_of words bad.place extracode word in
    record {
      place = bad.place;
      word = word;
      is_legal = is_legal words bad.place extracode word;
      plausibility = plausibility;
      sureness = sureness_of is_shown plausibility;
    }

-- the sixteen repairs of a word among those with wrong parity
unfoldable pub repairs_of : List Number → Bool → List BadWord → BadWord → List Repair
repairs_of words is_placed wrong bad =
    map (repair_at words (is_placed && is_shown_by_sum words wrong bad) bad) (range_with_len 0 16)

-- the repairs of one plausibility, and all of them from the highest plausibility on
abbrev pub of_plausibility : List Repair → ℕ → List Repair
of_plausibility repairs below = filter (λ repair. repair.plausibility + below == 15) repairs

unfoldable pub most_plausible_first : ℕ → List Repair → List Repair
most_plausible_first count repairs = flat_map (of_plausibility repairs) (range_with_len 0 count)

-- how sure a repair is, in words; `sure` comes with its condition
abbrev pub sureness_text : Sureness → List ℕ
sureness_text how.Sure = codes "sure if no other word of this bank is wrong"
sureness_text how.Fits = codes "likely: the bank's sum fits"
sureness_text how.Stuck = codes "likely: its bit is the same in all wrong words"
sureness_text how.Likely = codes "likely"
sureness_text how.Possible = codes "possible"
sureness_text how.Unlikely = codes "unlikely"

-- a repair as a line of a patch: its place, its word, and for the reader the order and how sure it is
unfoldable pub repair_text : List Number → Repair → List ℕ
repair_text words repair =
    word_digits repair.word ++ codes " " ++ order_text (is_extracode_at words repair.place) repair.word
    ++ codes " (" ++ sureness_text repair.sureness ++ codes ")"

unfoldable pub repair_line : List Number → Repair → List ℕ
repair_line words repair =
    place_text (listed_place repair.place) ++ codes " " ++ repair_text words repair ++ codes "\n"
