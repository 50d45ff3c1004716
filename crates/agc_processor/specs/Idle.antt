-- Still orders: those that change nothing but the context, and do the same at every cycle. Turns of a loop of them can
-- be skipped.
use Rattle.std.specs.Prelude.{◌≡◌, ℕ, ◌==◌, ◌&&◌, ◌||◌, not, Bool, true, false, List, set, if◌then◌else◌}
use Rattle.agc_word.specs.Channels.{hiscalar, loscalar}
use Rattle.agc_word.specs.Number.{Number, pattern_of}
use Rattle.agc_store.specs.Cells.{is_editing}
use Rattle.agc_store.specs.Memory.{is_erasable}
use Rattle.agc_store.specs.Places.{a_cell, l_cell, q_cell, z_cell}
use Rattle.agc_store.specs.Registers.{register}
use Rattle.agc_order.specs.Order.{basic_of, extracode_of}
use Rattle.agc_order.specs.declared.order.Basic.{Basic}
use Rattle.agc_order.specs.declared.order.Extracode.{Extracode}
use Rattle.agc_order.specs.declared.order.Extracode.TheVariants as extra
use Rattle.agc_processor.specs.Effect.{channel_number, order_effect}
use Rattle.agc_processor.specs.Row.{Reach, no_cell, edited_again, far_edited_again, place_of, ten_bits, twelve_bits}
use Rattle.agc_processor.specs.Signs.{plus_zero}
use Rattle.agc_processor.specs.Table.{basic_row, extracode_row}
use Rattle.agc_processor.specs.declared.idle.Context.{Context}
use Rattle.agc_processor.specs.declared.processor.Processor.{Processor}
use Rattle.agc_processor.specs.declared.processor.Ran.{Ran}
use Rattle.agc_processor.specs.declared.processor.Ran.TheVariants as ran

-- the context: A, L, Q and Z, the order in hand, and the flags between orders
abbrev pub context_of : Processor → Context
context_of p =
    record {
      a = register a_cell p.store;
      l = register l_cell p.store;
      q = register q_cell p.store;
      z = register z_cell p.store;
      hand = p.hand;
      extracode = p.extracode;
      uninterruptible = p.uninterruptible;
      inhibited = p.inhibited;
      serving = p.serving;
    }

-- the erasable cells with +0 in A, L, Q and Z
unfoldable pub other_cells : List Number → List Number
other_cells cells =
    set (set (set (set cells a_cell plus_zero) l_cell plus_zero) q_cell plus_zero) z_cell plus_zero

-- all that the context leaves out
abbrev pub rest_of : Processor → Processor
rest_of p =
    record p {
      store = record p.store { erasable = other_cells p.store.erasable };
      hand = plus_zero;
      extracode = false;
      uninterruptible = false;
      inhibited = false;
      serving = false;
    }

-- an address names an editing register
abbrev pub edits : ℕ → Processor → Bool
edits k p = is_erasable k && is_editing (place_of k p)

-- An order with this reach changes no cell by its address. It is known of orders that only read one cell; an order that
-- writes, or reads two words, does not count.
unfoldable pub leaves_cells : Reach → Processor → Bool
leaves_cells no_cell p = true
leaves_cells edited_again p = not (edits (ten_bits p) p)
leaves_cells far_edited_again p = not (edits (twelve_bits p) p)
leaves_cells reach p = false

-- the channels that show the scaler, and so the cycle
abbrev pub shows_cycle : ℕ → Bool
shows_cycle h = h == hiscalar || h == loscalar

-- An extracode runs, and does the same at every cycle: EDRUPT and DV may halt the machine.
unfoldable pub is_timeless : Extracode → ℕ → Bool
is_timeless extra.Read h = not (shows_cycle h)
is_timeless extra.Rand h = not (shows_cycle h)
is_timeless extra.Ror h = not (shows_cycle h)
is_timeless extra.Rxor h = not (shows_cycle h)
is_timeless extra.Edrupt h = false
is_timeless extra.Dv h = false
is_timeless order h = true

-- by the table of changes: no order sets a register that the context leaves out
unfoldable pub is_still_basic : Basic → Processor → Bool
is_still_basic order p = leaves_cells (basic_row order).reach p

unfoldable pub is_still_extracode : Extracode → Processor → Bool
is_still_extracode order p =
    leaves_cells (extracode_row order).reach p && is_timeless order (channel_number p)

-- the order in hand is still
unfoldable pub is_still : Processor → Bool
is_still p =
    let word = pattern_of 15 p.hand in
    if p.extracode then is_still_extracode (extracode_of word) p else is_still_basic (basic_of word) p

-- nothing is visible outside
abbrev pub IsUnseen : Ran → Type 0
IsUnseen (ran.Quiet cycles) = Unit {0}
IsUnseen (ran.Wrote channel value) = ⊥
IsUnseen (ran.Halted why) = ⊥

-- What is true of the order in hand if it is still: at every cycle it does the same, shows nothing outside, and leaves
-- all but the context.
pub record KeepsStill (p : Processor) : Type 0 where
  pub always : (c d : ℕ) → order_effect c p ≡ order_effect d p
  pub unseen : (c : ℕ) → IsUnseen (order_effect c p).1
  pub rest : (c : ℕ) → rest_of (order_effect c p).0 ≡ rest_of p
