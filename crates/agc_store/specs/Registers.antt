-- The registers by name, and what is true of them in every store.
use Rattle.std.specs.Prelude.{◌≡◌, ◌≢◌, ℕ, ◌+◌, ◌*◌, ◌%◌, ◌^◌, ◌<◌, List, length, Bool}
use Rattle.agc_word.specs.Number.{Number, pattern_of}
use Rattle.agc_store.specs.Places.{a_cell, q_cell, eb_cell, fb_cell, z_cell, bb_cell}
use Rattle.agc_store.specs.Places.{zero_cell, erasable_bank_size, erasable_cells, fixed_bank_size}
use Rattle.agc_store.specs.Places.{fixed_places}
use Rattle.agc_store.specs.Memory.{Memory, nothing, erasable_bank, fixed_bank, bank_with_superbank, cell_at}
use Rattle.agc_store.specs.Cells.{narrow_number}

-- what a register holds
unfoldable pub register : ℕ → Memory → Number
register cell m = cell_at cell m.erasable

-- the address in Z: bits 12 to 1
unfoldable pub z_of : Memory → ℕ
z_of m = pattern_of 15 (register z_cell m) % 0o10000

-- There are 2048 cells; only A and Q may hold words with overflow. EB and FB have zeros beside
-- their bank bits, BB shows both banks, and ZERO is +0.
pub record HoldsRegisters (cells : List Number) : Type 0 where
  pub count : length cells ≡ erasable_cells
  pub narrow : (k : ℕ) → k ≢ a_cell → k ≢ q_cell → (cell_at k cells).magnitude < 2 ^ 14
  pub eb : cell_at eb_cell cells ≡ narrow_number (erasable_bank_size * erasable_bank cells)
  pub fb : cell_at fb_cell cells ≡ narrow_number (fixed_bank_size * fixed_bank cells)
  pub bb : cell_at bb_cell cells ≡ narrow_number (fixed_bank_size * fixed_bank cells + erasable_bank cells)
  pub zero : cell_at zero_cell cells ≡ nothing

-- a cell that selects no bank, and not ZERO
pub record IsPlain (place : ℕ) : Type 0 where
  pub in_range : place < erasable_cells
  pub no_eb : place ≢ eb_cell
  pub no_fb : place ≢ fb_cell
  pub no_bb : place ≢ bb_cell
  pub no_zero : place ≢ zero_cell

-- a word that a cell can hold: one with overflow only in A and Q, and an address in Z
abbrev pub IsStorable : ℕ → Number → Type 0
IsStorable place w =
    (place ≢ a_cell → place ≢ q_cell → w.magnitude < 2 ^ 14)
    × (place ≡ z_cell → pattern_of 16 w < 0o10000)

-- the two places that a store caches: the first cell of EB's bank, and the first word of the
-- selected fixed bank; and Z, which is an address
pub record KeepsPlaces (cells : List Number) (superbank : Bool) (erasable_base fixed_base : ℕ)
    : Type 0 where
  pub erasable : erasable_base ≡ erasable_bank_size * erasable_bank cells
  pub fixed : fixed_base ≡ fixed_bank_size * bank_with_superbank superbank (fixed_bank cells)
  pub in_range : fixed_base < fixed_places
  pub z : pattern_of 16 (cell_at z_cell cells) < 0o10000
