-- Locations in memory: a place in the rope, or a cell of erasable memory.
use Rattle.std.specs.Prelude.{ℕ, ◌+◌, ◌-◌, ◌*◌, ◌/◌, ◌%◌, ◌<◌, ◌==◌, nat_lt, nat_le, Bool, false, ◌&&◌, ◌||◌, List, [], ◌∷◌}
use Rattle.std.specs.Prelude.{take, drop, position, Option, Some, None, if◌then◌else◌}
use Rattle.agc_word.specs.Numeral.{octal_number}
use Rattle.agc_store.specs.Memory.{Memory, erasable_place, fixed_place, is_erasable}
use Rattle.agc_store.specs.Places.{erasable_bank_size, erasable_cells, erasable_window, fixed_bank_size}
use Rattle.agc_store.specs.Places.{fixed_fixed, fixed_window, fixed_words}
use Rattle.agc_listing.specs.Line.{is_comma, place_named}
use Rattle.agc_listing.specs.declared.location.Location.{Location}
use Rattle.agc_listing.specs.declared.location.Location.TheVariants as location

-- a place of one of the 36 banks, or one of the 2048 cells
abbrev pub IsWithin : Location → Type 0
IsWithin (location.Fixed place) = place < fixed_words
IsWithin (location.Erasable cell) = cell < erasable_cells

-- the cell of an erasable bank and an address: in the window, or below it the bank's own
abbrev pub cell_in_bank : Option ℕ → Option ℕ → Option ℕ
cell_in_bank (Some bank) (Some address) =
    if nat_le erasable_window address && nat_lt address fixed_window
    then Some (erasable_bank_size * bank + address % erasable_bank_size)
    else (if address / erasable_bank_size == bank then Some address else None)
cell_in_bank _ _ = None

-- the cell that a text with a comma at this position names after its `E`
abbrev pub cell_cut : Option ℕ → List ℕ → Option ℕ
cell_cut (Some at) text =
    cell_in_bank (octal_number 1 (take at text)) (octal_number 4 (drop (at + 1) text))
cell_cut None text = None

-- the cell that an address without a bank names: those below the window
abbrev pub cell_alone : Option ℕ → Option ℕ
cell_alone (Some address) = if nat_lt address erasable_window then Some address else None
cell_alone None = None

abbrev pub erasable_at : Option ℕ → Option Location
erasable_at (Some cell) = Some (location.Erasable cell)
erasable_at None = None

abbrev pub fixed_at_place : Option ℕ → Option Location
fixed_at_place (Some place) = Some (location.Fixed place)
fixed_at_place None = None

abbrev pub cell_or_place : Option ℕ → List ℕ → Option Location
cell_or_place (Some cell) text = Some (location.Erasable cell)
cell_or_place None text = fixed_at_place (place_named text)

-- a letter E, and what follows it
abbrev pub begins_with_e : List ℕ → Bool
begins_with_e [] = false
begins_with_e (b ∷ bs) = b == 0x45

unfoldable pub cell_named : List ℕ → Option ℕ
cell_named text = cell_cut (position is_comma text) text

-- The location that a text names: `En,oooo`, an address below 1400, `bb,oooo`, or an address from
-- 4000 on.
unfoldable pub location_named : List ℕ → Option Location
location_named text =
    if begins_with_e text
    then erasable_at (cell_named (drop 1 text))
    else cell_or_place (cell_alone (octal_number 4 text)) text

-- the address of a cell: its number below the window, otherwise its address in the window
abbrev pub cell_address : ℕ → ℕ
cell_address cell =
    if nat_lt cell erasable_window then cell else erasable_window + cell % erasable_bank_size

-- the bank that FB holds for a place: with the superbank, ten octal less
abbrev pub bank_register : ℕ → ℕ
bank_register place =
    let bank = place / fixed_bank_size in if nat_lt bank 0o40 then bank else bank % 0o10 + 0o30

-- the complete address of a place: the bank that FB holds, and the offset
abbrev pub complete_address : ℕ → ℕ
complete_address place = fixed_bank_size * bank_register place + place % fixed_bank_size

-- Whether an order at a place may name another place: one of them is in bank 02 or 03, or both are in the same bank.
-- An order in bank 02 or 03 that names a place in another bank runs with that bank in FB.
abbrev pub is_fixed_fixed : ℕ → Bool
is_fixed_fixed place = nat_le fixed_fixed place && nat_lt place 0o10000

abbrev pub is_addressable : ℕ → ℕ → Bool
is_addressable here place =
    is_fixed_fixed place || is_fixed_fixed here
    || (place / fixed_bank_size == here / fixed_bank_size)

-- The location of a number, as listings count all memory: from 0 to 3777 the cells, from 4000 to 7777 banks 02 and 03,
-- and from 10000 on the banks in their order.
abbrev pub pseudo_fixed : ℕ → Option Location
pseudo_fixed place = if nat_lt place fixed_words then Some (location.Fixed place) else None

abbrev pub location_of_pseudo_address : ℕ → Option Location
location_of_pseudo_address n =
    if nat_lt n fixed_fixed then Some (location.Erasable n)
    else if nat_lt n 0o10000 then Some (location.Fixed n) else pseudo_fixed (n - 0o10000)

-- the location that an address names in a memory: EB, FB and the superbank select the banks in the two windows
unfoldable pub location_in : Memory → ℕ → Location
location_in m address =
    if is_erasable address
    then location.Erasable (erasable_place m.erasable address)
    else location.Fixed (fixed_place m address)

-- a location that has a word: each place of the rope, and the cells that exist
abbrev pub IsReadable : Location → Type 0
IsReadable (location.Erasable cell) = cell < erasable_cells
IsReadable (location.Fixed place) = Unit {0}

-- The place of an order by its bank and its address. A cell that the window shows is the same cell
-- by its own address.
unfoldable pub location_at : ℕ → ℕ → Location
location_at bank address =
    if nat_lt address erasable_window then location.Erasable address
    else if nat_lt address fixed_window
    then location.Erasable (erasable_bank_size * bank + address % erasable_bank_size)
    else if nat_lt address fixed_fixed
    then location.Fixed (fixed_bank_size * bank + address % fixed_bank_size)
    else location.Fixed address
