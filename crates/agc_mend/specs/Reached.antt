-- Whether the word after a place can be reached, if a word stands at the place.
use Rattle.std.specs.Prelude.{ℕ, ◌+◌, ◌==◌, Bool, true, false, not, ◌&&◌, ◌||◌, nat_le, nat_lt, List, Option, Some}
use Rattle.std.specs.List.{list_any, range_with_len}
use Rattle.agc_word.specs.Number.{Number, pattern_of}
use Rattle.agc_store.specs.Memory.{fixed_at}
use Rattle.agc_store.specs.Places.{fixed_words}
use Rattle.agc_order.specs.Order.{basic_of}
use Rattle.agc_order.specs.Row.{basic_row}
use Rattle.agc_order.specs.declared.order.Basic.{Basic}
use Rattle.agc_order.specs.declared.order.Basic.TheVariants as basic
use Rattle.agc_listing.specs.Order.{operand_in}
use Rattle.agc_listing.specs.SureLocation.{sure_location}
use Rattle.agc_listing.specs.declared.location.Location.{Location}
use Rattle.agc_listing.specs.declared.location.Location.TheVariants as location
use Rattle.agc_listing.specs.declared.order.Operand.{Operand}
use Rattle.agc_listing.specs.declared.order.Operand.TheVariants as operand
use Rattle.agc_mend.specs.Woven.{is_woven_at}

abbrev pub is_jump : Basic → Bool
is_jump basic.Tcf = true
is_jump basic.Resume = true
is_jump _ = false

-- whether control does not go on to the word after a word: TCF, RESUME and TC Q, which is 2
unfoldable pub ends_code : Bool → Number → Bool
ends_code extracode word =
    not extracode && (is_jump (basic_of (pattern_of 15 word)) || (pattern_of 15 word == 2))

abbrev pub is_place : ℕ → Option Location → Bool
is_place place (Some (location.Fixed other)) = other == place
is_place place _ = false

-- whether the operand of the order at a place is another place
abbrev pub is_operand : ℕ → ℕ → Operand → Bool
is_operand place here (operand.Address address) = is_place place (sure_location here address)
is_operand place here _ = false

abbrev pub is_ccs : Basic → Bool
is_ccs basic.Ccs = true
is_ccs _ = false

-- Whether the word at a place, read as a basic order, leads to another place: it names it, or is a CCS, which goes on to one
-- of the four words after it. An extracode has its address in the same bits.
unfoldable pub leads_to : List Number → ℕ → ℕ → Bool
leads_to words place here =
    let bits = pattern_of 15 (fixed_at here words) in
    is_operand place here (operand_in (basic_row (basic_of bits)).takes bits)
    || (is_ccs (basic_of bits) && nat_lt here place && nat_le place (here + 4))

-- whether one of the first words of a rope, but not the one at a place, leads to the place after it
unfoldable pub is_led_to : ℕ → List Number → ℕ → Bool
is_led_to count words place =
    list_any (λ here. not (here == place) && leads_to words (place + 1) here) (range_with_len 0 count)

-- Whether the word after a place, if there is one, can be reached, if this word stands at the place: control goes on to it,
-- or another word leads to it. An unused place need not be reached. One of several jumps in a row may belong to a table that
-- is indexed.
unfoldable pub is_next_reached : List Number → ℕ → Bool → Number → Bool
is_next_reached words place extracode word =
    not (ends_code extracode word) || not (nat_lt (place + 1) fixed_words) || not (is_woven_at words (place + 1))
    || ends_code false (fixed_at (place + 1) words) || is_led_to fixed_words words place
