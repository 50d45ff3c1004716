-- What a rope file means: which word is at each place, and why a file is refused.
use Rattle.std.specs.Prelude.{◌≡◌, ◌<◌, ℕ, ◌+◌, ◌-◌, ◌*◌, ◌/◌, ◌%◌, ◌==◌, ◌&&◌, not}
use Rattle.std.specs.Prelude.{Bool, List, ◌∷◌, map, length, get_or, find, count_ones}
use Rattle.std.specs.Prelude.{Option, Some, None, option_map, nat_lt, if◌then◌else◌}
use Rattle.std.specs.List.{range_with_len}
use Rattle.agc_word.specs.Number.{Number}
use Rattle.agc_store.specs.Places.{fixed_bank_size, fixed_banks, fixed_words}
use Rattle.agc_store.specs.Memory.{fixed_at}
use Rattle.agc_store.specs.Cells.{narrow_number}
use Rattle.agc_store.specs.declared.rope_file.RopeForm.{RopeForm}
use Rattle.agc_store.specs.declared.rope_file.RopeForm.TheVariants as form
use Rattle.agc_store.specs.declared.rope_file.RopeFault.{RopeFault}
use Rattle.agc_store.specs.declared.rope_file.RopeFault.TheVariants as fault

-- the number of 16 bits in a file's word, the higher byte first; past the end of the file it is 0
unfoldable pub file_word : List ℕ → ℕ → ℕ
file_word bytes index = 256 * get_or bytes (2 * index) 0 + get_or bytes (2 * index + 1) 0

-- The position of a bank among a file's banks. The classic order is 02, 03, 00, 01, because the banks 02 and 03 can
-- always be addressed, then 04 to 43 octal; the form with parity has the plain order.
unfoldable pub file_bank : RopeForm → ℕ → ℕ
file_bank form.Classic bank =
    if nat_lt bank 2 then bank + 2 else if nat_lt bank 4 then bank - 2 else bank
file_bank form.Parity bank = bank

-- the position of a place's word among a file's words
unfoldable pub file_index : RopeForm → ℕ → ℕ
file_index form place =
    fixed_bank_size * file_bank form (place / fixed_bank_size) + place % fixed_bank_size

-- the word of a rope at a place: its fifteen bits are the left ones of the file's sixteen
unfoldable pub rope_word_at : RopeForm → List ℕ → ℕ → Number
rope_word_at form bytes place = narrow_number (file_word bytes (file_index form place) / 2)

-- the words of a rope at the first places
unfoldable pub first_words : ℕ → RopeForm → List ℕ → List Number
first_words count form bytes = map (rope_word_at form bytes) (range_with_len 0 count)

-- the banks in the order of a file: the classic order begins with those that can always be
-- addressed
abbrev pub banks_of : RopeForm → List ℕ
banks_of form.Classic = 2 ∷ 3 ∷ 0 ∷ 1 ∷ range_with_len 4 32
banks_of form.Parity = range_with_len 0 36

-- The law of that order: the word at an offset of the i-th bank is the file's at that offset of
-- its i-th run of 2000 octal words.
unfoldable pub FollowsBanks : RopeForm → List ℕ → List Number → Type 0
FollowsBanks form bytes words = (i offset : ℕ) → i < fixed_banks → offset < fixed_bank_size
    → fixed_at (fixed_bank_size * get_or (banks_of form) i 0 + offset) words
    ≡ narrow_number (file_word bytes (fixed_bank_size * i + offset) / 2)

-- the words of a rope, 36 banks of 1024
unfoldable pub rope_words : RopeForm → List ℕ → List Number
rope_words form bytes = first_words fixed_words form bytes

-- Whether a word has an even number of one bits, so that its parity is wrong. A word of 0 is a
-- place without a word.
unfoldable pub is_bad_parity : ℕ → Bool
is_bad_parity word = not (word == 0) && (count_ones word % 2 == 0)

-- the first word of a file whose parity is wrong
unfoldable pub first_bad : List ℕ → Option ℕ
first_bad bytes =
    find (λ index. is_bad_parity (file_word bytes index)) (range_with_len 0 (length bytes / 2))

-- the fault of a bad word, by its bank and offset
abbrev pub parity_fault_at : ℕ → RopeFault
parity_fault_at index = fault.Parity (index / fixed_bank_size) (index % fixed_bank_size)

-- the parity fault of a file; the classic form has none
unfoldable pub parity_fault : RopeForm → List ℕ → Option RopeFault
parity_fault form.Classic bytes = None
parity_fault form.Parity bytes = option_map parity_fault_at (first_bad bytes)

-- why a file is refused, if it is: the first fault that applies
unfoldable pub rope_fault_of : RopeForm → List ℕ → Option RopeFault
rope_fault_of form bytes =
    if length bytes == 0 then Some fault.Empty
    else if length bytes % 2 == 1 then Some fault.OddLength
    else if nat_lt (2 * fixed_words) (length bytes) then Some fault.TooLong
    else parity_fault form bytes
