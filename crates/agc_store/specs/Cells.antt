-- What a write to an erasable cell leaves, and what each access to the memory returns and leaves.
use Rattle.std.specs.Prelude.{ℕ, ◌+◌, ◌*◌, ◌/◌, ◌%◌, ◌==◌, List, set, replicate, Option}
use Rattle.std.specs.Prelude.{Some, None, Bool, false, nat_le, ◌&&◌, ◌||◌, if◌then◌else◌}
use Rattle.agc_word.specs.Number.{Number, number_from_pattern, pattern_of}
use Rattle.agc_word.specs.Arithmetic.{narrow_of}
use Rattle.agc_word.specs.Edits.{edited}
use Rattle.agc_word.specs.declared.edit.Edit.{Edit}
use Rattle.agc_word.specs.declared.edit.Edit.TheVariants as edit
use Rattle.agc_store.specs.Places.{a_cell, q_cell, eb_cell, fb_cell, z_cell, bb_cell}
use Rattle.agc_store.specs.Places.{zero_cell, cyr_cell, sr_cell, cyl_cell, edop_cell}
use Rattle.agc_store.specs.Places.{erasable_bank_size, erasable_cells, fixed_bank_size}
use Rattle.agc_store.specs.Memory.{Memory, nothing, erasable_bank, fixed_bank, is_erasable}
use Rattle.agc_store.specs.Memory.{erasable_place, cell_at, fixed_at, read_of}

-- the narrow number of a pattern of fifteen bits
abbrev pub narrow_number : ℕ → Number
narrow_number p = number_from_pattern 15 p

-- EB and FB with these banks, and BB, which shows both: FB's in bits 15 to 11, EB's in bits 3 to 1
unfoldable pub with_banks : List Number → ℕ → ℕ → List Number
with_banks cells eb fb =
    let with_eb = set cells eb_cell (narrow_number (erasable_bank_size * eb)) in
    let with_fb = set with_eb fb_cell (narrow_number (fixed_bank_size * fb)) in
    set with_fb bb_cell (narrow_number (fixed_bank_size * fb + eb))

-- the edit of an editing register
abbrev pub edit_at : ℕ → Edit
edit_at place =
    if place == cyr_cell then edit.Cyr
    else if place == sr_cell then edit.Sr
    else if place == cyl_cell then edit.Cyl
    else edit.Edop

-- whether an erasable cell is an editing register: these are CYR to EDOP
abbrev pub is_editing : ℕ → Bool
is_editing place = nat_le cyr_cell place && nat_le place edop_cell

-- the pattern of fifteen bits that a narrow cell takes from a word: overflow is corrected first
abbrev pub stored_pattern : Number → ℕ
stored_pattern w = pattern_of 15 (narrow_of w)

-- the erasable bank of a word that is written to EB: its bits 11 to 9
abbrev pub bank_in_eb : Number → ℕ
bank_in_eb w = stored_pattern w / erasable_bank_size % 0o10

-- the fixed bank of a word that is written to FB or BB: its bits 15 to 11
abbrev pub bank_in_fb : Number → ℕ
bank_in_fb w = stored_pattern w / fixed_bank_size

-- the erasable bank of a word that is written to BB: its bits 3 to 1
abbrev pub bank_in_bb : Number → ℕ
bank_in_bb w = stored_pattern w % 0o10

-- The cells after a wide word is written to an erasable cell. A and Q take the word as it is, every
-- other cell the corrected word: EB keeps bits 11 to 9, FB bits 15 to 11, Z bits 12 to 1; BB sets
-- EB and FB, ZERO ignores it, an editing register edits it.
unfoldable pub cells_with : List Number → ℕ → Number → List Number
cells_with cells place w =
    if place == a_cell || place == q_cell then set cells place w
    else if place == eb_cell then with_banks cells (bank_in_eb w) (fixed_bank cells)
    else if place == fb_cell then with_banks cells (erasable_bank cells) (bank_in_fb w)
    else if place == z_cell then set cells z_cell (narrow_number (stored_pattern w % 0o10000))
    else if place == bb_cell then with_banks cells (bank_in_bb w) (bank_in_fb w)
    else if place == zero_cell then cells
    else if is_editing place then set cells place (edited (edit_at place) (narrow_of w))
    else set cells place (narrow_of w)

-- the memory after a write of a wide word to an erasable cell by its number
unfoldable pub put_of : Memory → ℕ → Number → Memory
put_of m place w = record m { erasable = cells_with m.erasable place w }

-- the memory after a write of a wide word to an address below 2000 octal
unfoldable pub write_of : Memory → ℕ → Number → Memory
write_of m address w = put_of m (erasable_place m.erasable address) w

-- the narrow word that an address reads, as an order is fetched
unfoldable pub fetch_of : Memory → ℕ → Number
fetch_of m address = narrow_of (read_of m address)

-- the erasable cell that an address names, if it names one
unfoldable pub named_cell : Memory → ℕ → Option ℕ
named_cell m address =
    if is_erasable address then Some (erasable_place m.erasable address) else None

-- the memory after an order has written back a word that it read: only an editing register changes
unfoldable pub reedit_of : Memory → ℕ → Memory
reedit_of m address =
    if is_erasable address && is_editing (erasable_place m.erasable address)
    then write_of m address (cell_at (erasable_place m.erasable address) m.erasable)
    else m

-- an erasable cell by bank and offset, a register as its narrow word
unfoldable pub cell_of : Memory → ℕ → ℕ → Number
cell_of m bank offset = narrow_of (cell_at (erasable_bank_size * bank + offset) m.erasable)

-- a fixed word by bank and offset
unfoldable pub fixed_of : Memory → ℕ → ℕ → Number
fixed_of m bank offset = fixed_at (fixed_bank_size * bank + offset) m.fixed

-- the memory with a word in an erasable cell, unedited
unfoldable pub poke_of : Memory → ℕ → ℕ → Number → Memory
poke_of m bank offset w =
    record m { erasable = set m.erasable (erasable_bank_size * bank + offset) w }

-- the memory with the superbank on or off, and all else unchanged
unfoldable pub superbank_set : Memory → Bool → Memory
superbank_set m on = record m { superbank = on }

-- this many cells of +0
unfoldable pub cleared_cells : ℕ → List Number
cleared_cells count = replicate count nothing

-- the memory at the start: the fixed words of a rope, +0 in every erasable cell, the superbank off
unfoldable pub start_memory : List Number → Memory
start_memory words =
    record { erasable = cleared_cells erasable_cells; fixed = words; superbank = false }
