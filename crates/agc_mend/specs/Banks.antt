-- The words of some banks of a rope file, and a rope file with other words in some of its banks.
use Rattle.std.specs.Prelude.{ℕ, ◌+◌, ◌*◌, ◌/◌, ◌%◌, ◌==◌, Bool, not, ◌&&◌, nat_le, nat_lt}
use Rattle.std.specs.Prelude.{List, Option, Some, None, find, get_or, length, map, if◌then◌else◌}
use Rattle.std.specs.List.{list_any, range_with_len}
use Rattle.agc_store.specs.Places.{fixed_bank_size, fixed_banks, fixed_words}
use Rattle.agc_store.specs.RopeFile.{file_index}
use Rattle.agc_store.specs.declared.rope_file.RopeForm.{RopeForm}

-- the word at an offset of a bank; a number past the last bank is a bank without words
abbrev pub word_in_bank : RopeForm → List ℕ → ℕ → ℕ → ℕ
word_in_bank order words bank offset =
    if nat_lt bank fixed_banks then get_or words (file_index order (fixed_bank_size * bank + offset)) 0 else 0

unfoldable pub word_of_banks : RopeForm → List ℕ → List ℕ → ℕ → ℕ
word_of_banks order banks words index =
    word_in_bank order words (get_or banks (index / fixed_bank_size) fixed_banks) (index % fixed_bank_size)

-- the words of the banks of a list, one bank after the other
unfoldable pub words_of_banks : RopeForm → List ℕ → List ℕ → List ℕ
words_of_banks order banks words =
    map (word_of_banks order banks words) (range_with_len 0 (fixed_bank_size * length banks))

-- the first index of a bank in a list
unfoldable pub place_in_list : List ℕ → ℕ → Option ℕ
place_in_list banks bank = find (λ at. get_or banks at fixed_banks == bank) (range_with_len 0 (length banks))

abbrev pub word_put : Option ℕ → List ℕ → ℕ → ℕ → ℕ
word_put None put offset old = old
word_put (Some at) put offset old = get_or put (fixed_bank_size * at + offset) 0

-- the word at an index of a file: that of `put` if its bank is in the list, else the old one
unfoldable pub word_with_banks : RopeForm → List ℕ → List ℕ → List ℕ → ℕ → ℕ
word_with_banks order banks put words index =
    let place = file_index order index in
    word_put (place_in_list banks (place / fixed_bank_size)) put (place % fixed_bank_size) (get_or words index 0)

abbrev pub fits_in : RopeForm → ℕ → ℕ → Bool
fits_in order bank len =
    nat_lt bank fixed_banks && nat_le (file_index order (fixed_bank_size * bank) + fixed_bank_size) len

abbrev pub is_lacking : RopeForm → ℕ → ℕ → Bool
is_lacking order bank len = not (fits_in order bank len)

unfoldable pub lacks_bank : RopeForm → List ℕ → ℕ → Bool
lacks_bank order banks len =
    list_any (λ at. is_lacking order (get_or banks at fixed_banks) len) (range_with_len 0 (length banks))

unfoldable pub length_with : RopeForm → List ℕ → ℕ → ℕ
length_with order banks len = if lacks_bank order banks len then fixed_words else len

unfoldable pub with_banks : RopeForm → List ℕ → List ℕ → List ℕ → List ℕ
with_banks order banks put words =
    map (word_with_banks order banks put words) (range_with_len 0 (length_with order banks (length words)))
