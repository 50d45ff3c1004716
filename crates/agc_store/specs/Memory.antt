-- The whole memory, flat: erasable cells, fixed words, and the superbank bit.
use Rattle.std.specs.Prelude.{ℕ, ◌+◌, ◌-◌, ◌*◌, ◌/◌, ◌%◌, Bool, false, ◌&&◌}
use Rattle.std.specs.Prelude.{List, get_or, nat_lt, nat_le, if◌then◌else◌}
use Rattle.agc_word.specs.Number.{Number, pattern_of}
use Rattle.agc_store.specs.Places.{eb_cell, fb_cell, erasable_bank_size, fixed_bank_size}
use Rattle.agc_store.specs.Places.{erasable_window, fixed_window, fixed_fixed}

-- The erasable cells, in 8 banks that begin with the registers, and the fixed words, in 36 banks. A
-- and Q hold wide numbers, every other cell narrow ones.
pub record Memory : Type 0 where
  pub erasable : List Number
  pub fixed : List Number
  pub superbank : Bool

-- +0, which a place without a word reads as
abbrev pub nothing : Number
nothing = record { minus = false; magnitude = 0 }

-- the content of an erasable cell
unfoldable pub cell_at : ℕ → List Number → Number
cell_at place cells = get_or cells place nothing

-- The erasable bank that EB names: EB keeps bits 11 to 9.
unfoldable pub erasable_bank : List Number → ℕ
erasable_bank cells = pattern_of 15 (cell_at eb_cell cells) / erasable_bank_size % 0o10

-- The fixed bank that FB names: FB keeps bits 15 to 11.
unfoldable pub fixed_bank : List Number → ℕ
fixed_bank cells = pattern_of 15 (cell_at fb_cell cells) / fixed_bank_size

-- The bank that the bank in FB selects: the superbank adds ten octal to the banks 30 octal and up.
unfoldable pub bank_with_superbank : Bool → ℕ → ℕ
bank_with_superbank superbank bank = if superbank && nat_le 0o30 bank then bank + 0o10 else bank

-- the fixed bank in the window at 2000 octal
unfoldable pub selected_bank : Memory → ℕ
selected_bank m = bank_with_superbank m.superbank (fixed_bank m.erasable)

-- whether an address names an erasable cell
abbrev pub is_erasable : ℕ → Bool
is_erasable address = nat_lt address fixed_window

-- the erasable cell that such an address names: below the window the banks 0, 1 and 2, and in it
-- the bank in EB
unfoldable pub erasable_place : List Number → ℕ → ℕ
erasable_place cells address =
    if nat_lt address erasable_window
    then address
    else erasable_bank_size * erasable_bank cells + (address - erasable_window)

-- the fixed word that any other address names: in the window one of the selected bank, and from
-- 4000 octal one of the banks 02 and 03
unfoldable pub fixed_place : Memory → ℕ → ℕ
fixed_place m address =
    if nat_lt address fixed_fixed
    then fixed_bank_size * selected_bank m + (address - fixed_window)
    else address

-- a fixed word by its number: banks above 43 octal have +0 everywhere
unfoldable pub fixed_at : ℕ → List Number → Number
fixed_at place words = get_or words place nothing

-- what an address of twelve bits reads
unfoldable pub read_of : Memory → ℕ → Number
read_of m address =
    if is_erasable address
    then cell_at (erasable_place m.erasable address) m.erasable
    else fixed_at (fixed_place m address) m.fixed
