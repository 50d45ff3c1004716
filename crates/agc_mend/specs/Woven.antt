-- Which places and banks of a rope have words.
use Rattle.std.specs.Prelude.{ℕ, ◌+◌, ◌*◌, ◌==◌, Bool, not, List}
use Rattle.std.specs.List.{list_any, range_with_len}
use Rattle.agc_word.specs.Number.{Number, pattern_of}
use Rattle.agc_store.specs.Memory.{fixed_at}
use Rattle.agc_store.specs.Places.{fixed_bank_size}

-- whether the word of a rope at a place is not +0
unfoldable pub is_woven_at : List Number → ℕ → Bool
is_woven_at words place = not (pattern_of 15 (fixed_at place words) == 0)

-- whether a bank of 2000 octal words has one that is not +0
unfoldable pub has_words : List Number → ℕ → Bool
has_words words bank =
    list_any (λ offset. is_woven_at words (fixed_bank_size * bank + offset))
    (range_with_len 0 fixed_bank_size)
