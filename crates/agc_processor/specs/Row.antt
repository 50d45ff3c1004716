-- What a row of the table of changes means for a processor before and after an order.
use Rattle.std.specs.Prelude.{◌≡◌, ◌≢◌, ℕ, ◌-◌, ◌%◌, ◌==◌, ◌&&◌, ◌||◌, Bool, true, false, nat_le}
use Rattle.std.specs.Prelude.{List, [], ◌∷◌, Option, Some, None, if◌then◌else◌}
use Rattle.agc_word.specs.Number.{pattern_of}
use Rattle.agc_word.specs.Channels.{superbnk, chan13}
use Rattle.agc_store.specs.Places.{l_cell, q_cell, eb_cell, fb_cell, z_cell, bb_cell}
use Rattle.agc_store.specs.Memory.{is_erasable, erasable_place, cell_at}
use Rattle.agc_store.specs.Cells.{is_editing}
use Rattle.agc_processor.specs.declared.processor.Processor.{Processor}
use Rattle.agc_processor.specs.Channel.{channel_cell}

-- The cells that an order changes by the address in its word: none; the cell K; the cell K and the
-- one below it; K alone or both if they are editing registers, which are edited again as they are
-- read; or, for a channel order, the channel and the register that it stands for.
pub data Reach : Type 0 where
  no_cell : Reach
  written : Reach
  two_written : Reach
  edited_again : Reach
  far_edited_again : Reach
  two_edited_again : Reach
  channel : Reach

-- a row: the registers that the order sets beside Z, and its reach
pub record OrderRow : Type 0 where
  pub sets : List ℕ
  pub reach : Reach

-- bits 10 to 1, 12 to 1 and 9 to 1 of the order in hand
abbrev pub ten_bits : Processor → ℕ
ten_bits p = pattern_of 15 p.hand % 0o2000

abbrev pub twelve_bits : Processor → ℕ
twelve_bits p = pattern_of 15 p.hand % 0o10000

abbrev pub nine_bits : Processor → ℕ
nine_bits p = pattern_of 15 p.hand % 0o1000

-- the address below one; below 0 is the highest of the field
abbrev pub below : ℕ → ℕ → ℕ
below highest k = if k == 0 then highest else k - 1

-- EB, FB and BB show the same two banks, so that a write to one changes another.
abbrev pub is_bank_register : ℕ → Bool
is_bank_register cell = cell == eb_cell || cell == fb_cell || cell == bb_cell

-- a write to a place leaves the cell unchanged
abbrev pub IsElsewhere : ℕ → ℕ → Type 0
IsElsewhere place cell =
    (cell ≢ place) × (is_bank_register place ≡ true → is_bank_register cell ≡ false)

-- the cell that an erasable address names
abbrev pub place_of : ℕ → Processor → ℕ
place_of k p = erasable_place p.store.erasable k

-- The cell of the upper word: the lower one is written first, and if that is EB or BB, the new bank
-- applies from then on.
abbrev pub upper_place : Processor → Processor → ℕ
upper_place p q =
    let low = place_of (ten_bits p) p in
    place_of (below 0o1777 (ten_bits p)) (if low == eb_cell || low == bb_cell then q else p)

-- a read of an address leaves the cell unchanged: it is no editing register, or has another address
abbrev pub IsNotEdited : ℕ → Processor → ℕ → Type 0
IsNotEdited k p cell =
    is_erasable k ≡ true → is_editing (place_of k p) ≡ true → cell ≢ place_of k p

-- the cell is out of the order's reach
unfoldable pub IsOutOfReach : Reach → Processor → Processor → ℕ → Type 0
IsOutOfReach no_cell p q cell = Unit {0}
IsOutOfReach written p q cell = IsElsewhere (place_of (ten_bits p) p) cell
IsOutOfReach two_written p q cell =
    IsElsewhere (place_of (ten_bits p) p) cell × IsElsewhere (upper_place p q) cell
IsOutOfReach edited_again p q cell = IsNotEdited (ten_bits p) p cell
IsOutOfReach far_edited_again p q cell = IsNotEdited (twelve_bits p) p cell
IsOutOfReach two_edited_again p q cell =
    IsNotEdited (twelve_bits p) p cell × IsNotEdited (below 0o7777 (twelve_bits p)) p cell
IsOutOfReach channel p q cell =
    (nine_bits p ≡ 1 → cell ≢ l_cell) × (nine_bits p ≡ 2 → cell ≢ q_cell)

-- the channel whose cell the order sets: 1 and 2 are L and Q, and the scaler's two are not set
unfoldable pub channel_set : Reach → Processor → Option ℕ
channel_set channel p =
    let h = nine_bits p in if nat_le 1 h && nat_le h 4 then None else Some h
channel_set reach p = None

-- the cell is none of these registers
unfoldable pub IsNoneOf : List ℕ → ℕ → Type 0
IsNoneOf [] cell = Unit {0}
IsNoneOf (register ∷ rest) cell = (cell ≢ register) × IsNoneOf rest cell

-- All but what the row names stays. The superbank goes with its channel, and TIME6's mark with the
-- channel of its switch.
pub record ChangesItsRow (row : OrderRow) (p q : Processor) : Type 0 where
  pub cells : (cell : ℕ) → cell ≢ z_cell → IsNoneOf row.sets cell
      → IsOutOfReach row.reach p q cell
      → cell_at cell q.store.erasable ≡ cell_at cell p.store.erasable
  pub fixed : q.store.fixed ≡ p.store.fixed
  pub channels : (h : ℕ) → channel_set row.reach p ≢ Some h → channel_cell h q ≡ channel_cell h p
  pub superbank : channel_set row.reach p ≢ Some superbnk
      → q.store.superbank ≡ p.store.superbank
  pub mark : channel_set row.reach p ≢ Some chan13 → q.timers.mark ≡ p.timers.mark
  pub counts : q.timers ≡ record p.timers { mark = q.timers.mark }
  pub requests : q.requests ≡ p.requests
