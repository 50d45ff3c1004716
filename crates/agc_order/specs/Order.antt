-- The orders, and which order a word names.
use Rattle.std.specs.Prelude.{ℕ, ◌+◌, Bool, true, false, List, [], ◌∷◌, nat_le, if◌then◌else◌}
use Rattle.agc_order.specs.declared.order.Basic.{Basic}
use Rattle.agc_order.specs.declared.order.Basic.TheVariants as basic
use Rattle.agc_order.specs.declared.order.Extracode.{Extracode}
use Rattle.agc_order.specs.declared.order.Extracode.TheVariants as extra
use Rattle.agc_order.specs.Row.{basic_row, extracode_row, least_word}

-- the words from `first` on name this order, up to the next range
pub record Stretch (Order : Type 0) : Type 0 where
  pub first : ℕ
  pub names : Order

-- the range that begins at the least word of an order, and the one that continues after a single word
abbrev pub begins : Basic → Stretch Basic
begins order = record { first = least_word (basic_row order); names = order }

abbrev pub goes_on : Basic → Basic → Stretch Basic
goes_on single order = record { first = (basic_row single).first + 1; names = order }

abbrev pub begins_extracode : Extracode → Stretch Extracode
begins_extracode order = record { first = least_word (extracode_row order); names = order }

-- The basic orders, in the order of their words. RELINT, INHINT and EXTEND are single words among those of TC, and
-- RESUME among those of INDEX; TC and INDEX continue after them.
unfoldable pub basic_orders : List (Stretch Basic)
basic_orders =
    begins basic.Tc ∷ begins basic.Relint ∷ begins basic.Inhint ∷ goes_on basic.Inhint basic.Tc ∷
    begins basic.Extend ∷ goes_on basic.Extend basic.Tc ∷ begins basic.Ccs ∷ begins basic.Tcf ∷
    begins basic.Das ∷ begins basic.Lxch ∷ begins basic.Incr ∷ begins basic.Ads ∷ begins basic.Ca ∷
    begins basic.Cs ∷ begins basic.Index ∷ begins basic.Resume ∷ goes_on basic.Resume basic.Index ∷
    begins basic.Dxch ∷ begins basic.Ts ∷ begins basic.Xch ∷ begins basic.Ad ∷ begins basic.Mask ∷ []

-- The extracodes, in the same way.
unfoldable pub extracodes : List (Stretch Extracode)
extracodes =
    begins_extracode extra.Read ∷ begins_extracode extra.Write ∷ begins_extracode extra.Rand ∷
    begins_extracode extra.Wand ∷ begins_extracode extra.Ror ∷ begins_extracode extra.Wor ∷
    begins_extracode extra.Rxor ∷ begins_extracode extra.Edrupt ∷ begins_extracode extra.Dv ∷
    begins_extracode extra.Bzf ∷ begins_extracode extra.Msu ∷ begins_extracode extra.Qxch ∷
    begins_extracode extra.Aug ∷ begins_extracode extra.Dim ∷ begins_extracode extra.Dca ∷
    begins_extracode extra.Dcs ∷ begins_extracode extra.Index ∷ begins_extracode extra.Su ∷
    begins_extracode extra.Bzmf ∷ begins_extracode extra.Mp ∷ []

-- the order of the last range that begins at or below the word
abbrev pub last_begun : {Order : Type 0} → ℕ → Order → List (Stretch Order) → Order
last_begun word found [] = found
last_begun word found (stretch ∷ stretches) =
    if nat_le stretch.first word then last_begun word stretch.names stretches else found

-- the basic order that a word names
unfoldable pub basic_of : ℕ → Basic
basic_of word = last_begun word basic.Tc basic_orders

-- the extracode that a word names, after EXTEND and after the extracode INDEX
unfoldable pub extracode_of : ℕ → Extracode
extracode_of word = last_begun word extra.Read extracodes

-- Of the basic orders only EXTEND makes the next order an extracode, and of the extracodes only
-- INDEX.
abbrev pub is_extend : Basic → Bool
is_extend basic.Extend = true
is_extend _ = false

abbrev pub is_extracode_index : Extracode → Bool
is_extracode_index extra.Index = true
is_extracode_index _ = false
