-- The file of a rope whose banks from one on are given words, and which has no other words.
use Rattle.std.specs.Prelude.{ℕ, ◌+◌, ◌-◌, ◌*◌, List, get_or, length, map, max, nat_lt, if◌then◌else◌}
use Rattle.std.specs.List.{range_with_len}
use Rattle.agc_store.specs.Places.{fixed_bank_size}
use Rattle.agc_store.specs.RopeFile.{file_index}
use Rattle.agc_store.specs.declared.rope_file.RopeForm.{RopeForm}
use Rattle.agc_store.specs.declared.rope_file.RopeForm.TheVariants as form

-- the word at an index of the file, if the given words begin at a place
abbrev pub word_in_banks : RopeForm → ℕ → List ℕ → ℕ → ℕ
word_in_banks order start words index =
    let place = file_index order index in
    if nat_lt place start then 0 else get_or words (place - start) 0

-- a file in the classic order of banks has the first four of them at least
abbrev pub least_length : RopeForm → ℕ
least_length form.Classic = 4 * fixed_bank_size
least_length form.Parity = 0

unfoldable pub words_in_banks : RopeForm → ℕ → List ℕ → List ℕ
words_in_banks order first words =
    let start = fixed_bank_size * first in
    map (word_in_banks order start words) (range_with_len 0 (max (least_length order) (start + length words)))
