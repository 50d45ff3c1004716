-- Where interpretive code begins: behind each word that is TC to the interpreter.
use Rattle.std.specs.Prelude.{ℕ, ◌-◌, ◌&&◌, Bool, ◌==◌, nat_lt, List, Option, find}
use Rattle.std.specs.List.{range_with_len}
use Rattle.agc_word.specs.Number.{Number, pattern_of}
use Rattle.agc_store.specs.Memory.{fixed_at}
use Rattle.agc_store.specs.Places.{fixed_words}

-- The word at a place is TC to an address: TC's code is 0.
abbrev pub is_call : List Number → ℕ → ℕ → Bool
is_call rope address place = nat_lt place fixed_words && (pattern_of 15 (fixed_at place rope) == address)

-- the first place from one on with such a word
unfoldable pub next_call : List Number → ℕ → ℕ → Option ℕ
next_call rope address from = find (is_call rope address) (range_with_len from (fixed_words - from))
