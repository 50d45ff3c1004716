-- A name and its offset may stand apart in a question: `DIG +2` is `DIG+2`.
use Rattle.std.specs.Prelude.{ℕ, ◌+◌, ◌==◌, ◌&&◌, not, Bool, List, get_or, length, map, filter}
use Rattle.std.specs.List.{range_with_len}
use Rattle.agc_listing.specs.Number.{is_sign}

-- a space before a sign
abbrev pub is_gap : List ℕ → ℕ → Bool
is_gap text at = (get_or text at 0 == 0x20) && is_sign (get_or text (at + 1) 0)

-- a text without the spaces before signs
unfoldable pub joined : List ℕ → List ℕ
joined text =
    map (λ at. get_or text at 0) (filter (λ at. not (is_gap text at)) (range_with_len 0 (length text)))
