-- Whether the mnemonic in a line of a listing matches its word.
use Rattle.std.specs.Prelude.{ℕ, ◌+◌, nat_lt, Bool, true, false, ◌||◌, ◌&&◌, codes, List, [], ◌∷◌}
use Rattle.std.specs.Prelude.{Option, Some, None, Result, Ok, if◌then◌else◌}
use Rattle.std.specs.Str.{bytes_eq}
use Rattle.agc_word.specs.Number.{Number, pattern_of}
use Rattle.agc_order.specs.Order.{basic_of, extracode_of}
use Rattle.agc_order.specs.Row.{basic_row, extracode_row}
use Rattle.agc_order.specs.declared.order.Basic.{Basic}
use Rattle.agc_order.specs.declared.order.Extracode.{Extracode}
use Rattle.agc_word.specs.Text.{lines_of, words_of}
use Rattle.agc_listing.specs.Line.{line_named}
use Rattle.agc_listing.specs.declared.fault.LineFault.{LineFault}
use Rattle.agc_listing.specs.declared.line.PlacedWord.{PlacedWord}
use Rattle.agc_vocabulary.specs.Mnemonic.{basic_named, extracode_named}
use Rattle.agc_listing_check.specs.declared.mnemonic_check.Misnamed.{Misnamed}
use Rattle.agc_listing_check.specs.declared.mnemonic_check.Written.{Written}
use Rattle.agc_listing_check.specs.declared.mnemonic_check.Written.TheVariants as kind

-- the order of a mnemonic: the basic one for INDEX, which names two orders
abbrev pub either_order : Option Basic → Option Extracode → Option Written
either_order (Some order) other = Some (kind.Basic order)
either_order None (Some order) = Some (kind.Extracode order)
either_order None None = None

abbrev pub order_named : List ℕ → Option Written
order_named name = either_order (basic_named name) (extracode_named name)

-- its mnemonic, and whether it is read as an extracode
abbrev pub mnemonic_of : Written → List ℕ
mnemonic_of (kind.Basic order) = (basic_row order).mnemonic
mnemonic_of (kind.Extracode order) = (extracode_row order).mnemonic

abbrev pub is_extracode : Written → Bool
is_extracode (kind.Basic order) = false
is_extracode (kind.Extracode order) = true

-- Whether a mnemonic matches a word: `list` shows the word with it, as a basic order or as an extracode. Words below
-- 10000 match TC too, because RELINT, INHINT and EXTEND are TC 3, 4 and 6.
abbrev pub has_mnemonic : ℕ → List ℕ → Bool
has_mnemonic word name =
    bytes_eq (basic_row (basic_of word)).mnemonic name
    || bytes_eq (extracode_row (extracode_of word)).mnemonic name
    || (bytes_eq (codes "TC") name && nat_lt word 0o10000)

-- the order of a mnemonic if it does not match the word
abbrev pub order_amiss : ℕ → List ℕ → Option Written
order_amiss word name = if has_mnemonic word name then None else order_named name

-- what follows a line's place and word
abbrev pub third_of : List (List ℕ) → Option (List ℕ)
third_of (place ∷ word ∷ third ∷ more) = Some third
third_of words = None

abbrev pub misnamed_as : ℕ → Number → Option Written → Option Misnamed
misnamed_as n word (Some order) = Some (record { line = n; word = word; written = order })
misnamed_as n word None = None

abbrev pub misnamed_by : ℕ → Result (Option PlacedWord) LineFault → Option (List ℕ) → Option Misnamed
misnamed_by n (Ok (Some parsed)) (Some name) =
    misnamed_as n parsed.word (order_amiss (pattern_of 15 parsed.word) name)
misnamed_by n parsed name = None

-- a listing line whose mnemonic does not match its word, with its number
unfoldable pub misnamed_at : ℕ → List ℕ → Option Misnamed
misnamed_at n line = misnamed_by n (line_named line) (third_of (words_of line))

-- the first such line; n is the number of the first line
unfoldable pub misnamed_from : ℕ → List (List ℕ) → Option Misnamed
misnamed_from n [] = None
misnamed_from n (line ∷ lines) =
    elim (misnamed_at n line) [
      | Some reported ↦ Some reported
      | None ↦ misnamed_from (n + 1) lines
    ]

unfoldable pub misnamed_in : List ℕ → Option Misnamed
misnamed_in text = misnamed_from 1 (lines_of text)
