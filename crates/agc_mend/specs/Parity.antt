-- Which words of a file in the form with parity are bad, and the same words with the parity bits made right.
use Rattle.std.specs.Prelude.{ℕ, ◌+◌, ◌-◌, ◌%◌, ◌==◌, List, map, filter, length, get_or, if◌then◌else◌}
use Rattle.std.specs.List.{range_with_len}
use Rattle.agc_word.specs.Number.{Number}
use Rattle.agc_store.specs.RopeFile.{is_bad_parity, rope_words}
use Rattle.agc_store.specs.declared.rope_file.RopeForm.{RopeForm}
use Rattle.agc_store.specs.declared.rope_file.RopeForm.TheVariants as form
use Rattle.agc_mend.specs.FileWords.{file_of_words, file_words}
use Rattle.agc_mend.specs.declared.parity.BadWord.{BadWord}

-- the word at a place, together with its place
abbrev pub bad_word_at : List ℕ → ℕ → BadWord
bad_word_at words place = record { place = place; word = get_or words place 0 }

-- the words whose parity is wrong, in the order of their places
unfoldable pub bad_words : List ℕ → List BadWord
bad_words words =
    map (bad_word_at words)
    (filter (λ place. is_bad_parity (get_or words place 0)) (range_with_len 0 (length words)))

-- a word with its last bit, the parity bit, flipped
abbrev pub with_last_bit_flipped : ℕ → ℕ
with_last_bit_flipped word = if word % 2 == 0 then word + 1 else word - 1

-- a word with the parity bit that makes its parity right
unfoldable pub with_right_parity : ℕ → ℕ
with_right_parity word = if is_bad_parity word then with_last_bit_flipped word else word

-- words with their parity bits made right
unfoldable pub with_right_parities : List ℕ → List ℕ
with_right_parities words = map with_right_parity words

-- the words of a rope whose file may have wrong parity bits
abbrev pub damaged_words : RopeForm → List ℕ → List Number
damaged_words form.Classic file = rope_words form.Classic file
damaged_words form.Parity file =
    rope_words form.Parity (file_of_words (with_right_parities (file_words file)))
