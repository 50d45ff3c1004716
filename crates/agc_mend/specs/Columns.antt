-- Bits that are stuck in part of a rope, and the repairs of the words with wrong parity there.
use Rattle.std.specs.Prelude.{ℕ, ◌-◌, ◌*◌, ◌/◌, ◌%◌, ◌^◌, ◌==◌, Bool, false, not, ◌&&◌, ◌||◌, nat_le, nat_lt}
use Rattle.std.specs.Prelude.{List, Option, Some, None, filter, find, get_or, is_none, length, map, if◌then◌else◌}
use Rattle.std.specs.List.{list_any, range_with_len}
use Rattle.agc_store.specs.Cells.{narrow_number}
use Rattle.agc_store.specs.Places.{fixed_bank_size, fixed_words}
use Rattle.agc_store.specs.RopeFile.{is_bad_parity}
use Rattle.agc_word.specs.Number.{Number}
use Rattle.agc_mend.specs.Repair.{word_repaired}
use Rattle.agc_mend.specs.declared.repair.Repair.{Repair}
use Rattle.agc_mend.specs.declared.repair.Sureness.TheVariants as how

-- a bit of sixteen; bit 0 is the parity bit
abbrev pub bit_at : ℕ → ℕ → ℕ
bit_at word bit = word / 2 ^ bit % 2

-- how many of the `count` places from `start` on have words, and how many have words with wrong parity
unfoldable pub used_in : List ℕ → ℕ → ℕ → ℕ
used_in words start count = length (filter (λ place. not (get_or words place 0 == 0)) (range_with_len start count))

unfoldable pub wrong_in : List ℕ → ℕ → ℕ → ℕ
wrong_in words start count = length (filter (λ place. is_bad_parity (get_or words place 0)) (range_with_len start count))

-- whether a word is not the same as the word before it; how many of these places have such a word, and such a word with wrong
-- parity
unfoldable pub is_fresh : List ℕ → ℕ → Bool
is_fresh words place = (place == 0) || not (get_or words (place - 1) 0 == get_or words place 0)

unfoldable pub fresh_in : List ℕ → ℕ → ℕ → ℕ
fresh_in words start count =
    length (filter (λ place. not (get_or words place 0 == 0) && is_fresh words place) (range_with_len start count))

unfoldable pub fresh_wrong_in : List ℕ → ℕ → ℕ → ℕ
fresh_wrong_in words start count =
    length (filter (λ place. is_bad_parity (get_or words place 0) && is_fresh words place) (range_with_len start count))

-- whether a bit has a value in a word of these places, and whether it is the same in all of them
unfoldable pub has_bit : List ℕ → ℕ → ℕ → ℕ → ℕ → Bool
has_bit words start count bit value =
    list_any (λ place. not (get_or words place 0 == 0) && (bit_at (get_or words place 0) bit == value))
    (range_with_len start count)

unfoldable pub is_same_in : List ℕ → ℕ → ℕ → ℕ → Bool
is_same_in words start count bit =
    not (has_bit words start count bit 0) || not (has_bit words start count bit 1)

unfoldable pub same_bits : List ℕ → ℕ → ℕ → ℕ
same_bits words start count = length (filter (is_same_in words start count) (range_with_len 0 16))

unfoldable pub first_same : List ℕ → ℕ → ℕ → Option ℕ
first_same words start count = find (is_same_in words start count) (range_with_len 0 16)

-- A bit is stuck among these places: at least sixteen words differ from the word before them, at least eight of these have
-- wrong parity, and exactly one bit is the same in all words.
unfoldable pub has_column : List ℕ → ℕ → ℕ → Bool
has_column words start count =
    nat_le 16 (fresh_in words start count) && nat_le 8 (fresh_wrong_in words start count) && (same_bits words start count == 1)

-- the bit that is stuck among these places
unfoldable pub column_in : List ℕ → ℕ → ℕ → Option ℕ
column_in words start count = if has_column words start count then first_same words start count else None

abbrev pub or_else : Option ℕ → Option ℕ → Option ℕ
or_else None other = other
or_else (Some bit) other = Some bit

-- the bit that is stuck at a half bank: in the whole rope, else in its module, else in its bank, else in itself
unfoldable pub column_at : List ℕ → ℕ → Option ℕ
column_at words half =
    or_else (column_in words 0 fixed_words)
    (or_else (column_in words (6144 * (half / 12)) 6144)
    (or_else (column_in words (fixed_bank_size * (half / 2)) fixed_bank_size)
    (column_in words (512 * half) 512)))

unfoldable pub columns_of : List ℕ → List (Option ℕ)
columns_of words = map (column_at words) (range_with_len 0 72)

abbrev pub bit_within : Option ℕ → Option ℕ
bit_within None = None
bit_within (Some bit) = if nat_lt bit 16 then Some bit else None

abbrev pub column_of : List (Option ℕ) → ℕ → Option ℕ
column_of columns place = bit_within (get_or columns (place / 512) None)

unfoldable pub is_in_column : List ℕ → List (Option ℕ) → ℕ → Bool
is_in_column words columns place = is_bad_parity (get_or words place 0) && not (is_none (column_of columns place))

-- a word with the bit of its column turned
abbrev pub word_turned : ℕ → Option ℕ → Number
word_turned word None = narrow_number (word / 2)
word_turned word (Some bit) = word_repaired word bit

unfoldable pub repair_in_column : List ℕ → List (Option ℕ) → ℕ → Repair
repair_in_column words columns place =
    record {
      place = place;
      word = word_turned (get_or words place 0) (column_of columns place);
      is_legal = false;
      plausibility = 0;
      sureness = how.Stuck;
    }

-- the repairs of exactly the words with wrong parity in stuck columns, in their order
unfoldable pub column_repairs : List ℕ → List Repair
column_repairs words =
    let columns = columns_of words in
    map (repair_in_column words columns) (filter (is_in_column words columns) (range_with_len 0 (length words)))

-- Stuck bits are suspected only if they explain more than half of the words with wrong parity.
abbrev pub explain_most : ℕ → ℕ → Bool
explain_most explained wrong = nat_lt wrong (2 * explained)
