-- Whether a word can be meant as an order at a place.
use Rattle.std.specs.Prelude.{ℕ, nat_le, Bool, true, false, not, ◌&&◌, List, Option, Some}
use Rattle.agc_word.specs.Number.{Number, pattern_of}
use Rattle.agc_order.specs.Order.{basic_of, extracode_of}
use Rattle.agc_order.specs.Row.{basic_row, extracode_row}
use Rattle.agc_order.specs.declared.order.Extracode.{Extracode}
use Rattle.agc_order.specs.declared.order.Extracode.TheVariants as extra
use Rattle.agc_listing.specs.Order.{operand_in}
use Rattle.agc_listing.specs.declared.order.Operand.{Operand}
use Rattle.agc_listing.specs.declared.order.Operand.TheVariants as operand
use Rattle.agc_listing.specs.declared.location.Location.{Location}
use Rattle.agc_listing.specs.declared.location.Location.TheVariants as location
use Rattle.agc_mend.specs.Woven.{is_woven_at}
use Rattle.agc_listing.specs.SureLocation.{sure_location}

-- whether a location is not a place with +0
abbrev pub holds_word : List Number → Option Location → Bool
holds_word words (Some (location.Fixed place)) = is_woven_at words place
holds_word words _ = true

-- Whether an address names a word, for an order at a place. A cell always counts, and so does an address that an unknown
-- bank decides.
unfoldable pub names_word : List Number → ℕ → ℕ → Bool
names_word words here address = holds_word words (sure_location here address)

-- whether a channel exists: they are 01 to 35 octal
abbrev pub is_channel : ℕ → Bool
is_channel channel = nat_le 0o01 channel && nat_le channel 0o35

-- whether an order at a place can have an operand
abbrev pub can_have : List Number → ℕ → Operand → Bool
can_have words here operand.Nothing = true
can_have words here (operand.Address address) = names_word words here address
can_have words here (operand.Channel channel) = is_channel channel

-- EDRUPT halts the machine
abbrev pub is_edrupt : Extracode → Bool
is_edrupt extra.Edrupt = true
is_edrupt _ = false

-- Whether a word is legal at a place, as a basic order or as an extracode: it is not EDRUPT, its channel exists, and
-- the place in fixed memory that it names has a word.
unfoldable pub is_legal : List Number → ℕ → Bool → Number → Bool
is_legal words here false word =
    let bits = pattern_of 15 word in
    can_have words here (operand_in (basic_row (basic_of bits)).takes bits)
is_legal words here true word =
    let bits = pattern_of 15 word in
    not (is_edrupt (extracode_of bits))
    && can_have words here (operand_in (extracode_row (extracode_of bits)).takes bits)
