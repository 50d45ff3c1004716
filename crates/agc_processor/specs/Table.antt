-- The table of changes: for each order the registers that it sets beside Z, and which cells it
-- changes by its address.
use Rattle.std.specs.Prelude.{◌≡◌, ℕ, Bool, true, false, List, [], ◌∷◌}
use Rattle.agc_store.specs.Places.{a_cell, l_cell, q_cell}
use Rattle.agc_order.specs.declared.order.Basic.{Basic}
use Rattle.agc_order.specs.declared.order.Basic.TheVariants as basic
use Rattle.agc_order.specs.declared.order.Extracode.{Extracode}
use Rattle.agc_order.specs.declared.order.Extracode.TheVariants as extra
use Rattle.agc_processor.specs.declared.processor.Processor.{Processor}
use Rattle.agc_processor.specs.Row.{Reach, OrderRow, no_cell, written, two_written, channel}
use Rattle.agc_processor.specs.Row.{edited_again, far_edited_again, two_edited_again}

-- a row of the table
abbrev pub sets : List ℕ → Reach → OrderRow
sets registers reach = record { sets = registers; reach = reach }

-- the registers that most orders set
abbrev pub only_a : List ℕ
only_a = a_cell ∷ []

abbrev pub a_and_l : List ℕ
a_and_l = a_cell ∷ l_cell ∷ []

-- the basic orders
unfoldable pub basic_row : Basic → OrderRow
basic_row basic.Tc = sets (q_cell ∷ []) no_cell
basic_row basic.Relint = sets [] no_cell
basic_row basic.Inhint = sets [] no_cell
basic_row basic.Extend = sets [] no_cell
basic_row basic.Ccs = sets only_a edited_again
basic_row basic.Tcf = sets [] no_cell
basic_row basic.Das = sets a_and_l two_written
basic_row basic.Lxch = sets (l_cell ∷ []) written
basic_row basic.Incr = sets [] written
basic_row basic.Ads = sets only_a written
basic_row basic.Ca = sets only_a far_edited_again
basic_row basic.Cs = sets only_a far_edited_again
basic_row basic.Index = sets [] edited_again
basic_row basic.Resume = sets [] no_cell
basic_row basic.Dxch = sets a_and_l two_written
basic_row basic.Ts = sets only_a written
basic_row basic.Xch = sets only_a written
basic_row basic.Ad = sets only_a far_edited_again
basic_row basic.Mask = sets only_a no_cell

-- the extracodes
unfoldable pub extracode_row : Extracode → OrderRow
extracode_row extra.Read = sets only_a no_cell
extracode_row extra.Write = sets [] channel
extracode_row extra.Rand = sets only_a no_cell
extracode_row extra.Wand = sets only_a channel
extracode_row extra.Ror = sets only_a no_cell
extracode_row extra.Wor = sets only_a channel
extracode_row extra.Rxor = sets only_a no_cell
extracode_row extra.Edrupt = sets [] no_cell
extracode_row extra.Dv = sets a_and_l no_cell
extracode_row extra.Bzf = sets [] no_cell
extracode_row extra.Msu = sets only_a edited_again
extracode_row extra.Qxch = sets (q_cell ∷ []) written
extracode_row extra.Aug = sets [] written
extracode_row extra.Dim = sets [] written
extracode_row extra.Dca = sets a_and_l two_edited_again
extracode_row extra.Dcs = sets a_and_l two_edited_again
extracode_row extra.Index = sets [] far_edited_again
extracode_row extra.Su = sets only_a edited_again
extracode_row extra.Bzmf = sets [] no_cell
extracode_row extra.Mp = sets a_and_l no_cell

-- the flags that three orders change: INHINT turns inhibition on and RELINT off, and RESUME ends
-- the service
unfoldable pub inhibited_after : Basic → Bool → Bool
inhibited_after basic.Inhint inhibited = true
inhibited_after basic.Relint inhibited = false
inhibited_after order inhibited = inhibited

unfoldable pub serving_after : Basic → Bool → Bool
serving_after basic.Resume serving = false
serving_after order serving = serving

-- both flags are as they were
abbrev pub KeepsFlags : Processor → Processor → Type 0
KeepsFlags p q = (q.inhibited ≡ p.inhibited) × (q.serving ≡ p.serving)
