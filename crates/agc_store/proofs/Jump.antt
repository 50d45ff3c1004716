-- A jump that fetches the next order sets Z twice, and no fixed word depends on Z.
use Rattle.std.proofs.Common.{◌≡◌, ℕ, ◌<◌, ◌≤◌, length, ap, arith}
use Rattle.std.proofs.lemmas.List.{get_or-set_same, get_or-set_other, set-set}
use Rattle.std.proofs.lemmas.Bool.Decides.{nat_tests}
use Rattle.std.specs.Prelude.{◌%◌, List}
use Rattle.agc_word.specs.Number.{Number, pattern_of}
use Rattle.agc_store.specs.Places.{fb_cell, z_cell, fixed_window}
use Rattle.agc_store.specs.Memory.{Memory, nothing, cell_at, fixed_bank, fixed_place, read_of, selected_bank}
use Rattle.agc_store.specs.Cells.{narrow_number, cells_with, fetch_of, put_of, stored_pattern}
use Rattle.agc_store.specs.Registers.{register, z_of}
use Rattle.agc_store.proofs.Kept.{stored_address}

-- only the later word is left in Z
pub put_twice : (m : Memory) (a b : Number) → put_of (put_of m z_cell a) z_cell b ≡ put_of m z_cell b
unfolding put_of cells_with
put_twice m a b =
    ap (λ (cells : List Number). record m { erasable = cells })
    (set-set m.erasable z_cell (narrow_number (stored_pattern a % 0o10000)) (narrow_number (stored_pattern b % 0o10000)))

address_back : (k : ℕ) → k < 0o10000 → pattern_of 15 (narrow_number (k % 0o10000)) % 0o10000 ≡ k
address_back k h = grind (arith, nat_tests)

-- Z holds the address that it was set to
pub z_after : (m : Memory) (k : ℕ) → length m.erasable ≡ 2048 → k < 0o10000 → z_of (put_of m z_cell (narrow_number k)) ≡ k
unfolding z_of register cell_at put_of cells_with
z_after m k count h =
    rw (get_or-set_same m.erasable z_cell (narrow_number (stored_pattern (narrow_number k) % 0o10000)) nothing (omega arith), stored_address k h)
    (address_back k h)

bank_unmoved : (cells : List Number) (w : Number) → fixed_bank (cells_with cells z_cell w) ≡ fixed_bank cells
unfolding fixed_bank cell_at cells_with
bank_unmoved cells w = rw (get_or-set_other cells z_cell fb_cell (narrow_number (stored_pattern w % 0o10000)) nothing (omega arith))

-- fixed memory reads the same whatever Z holds
pub fetch_unmoved : (m : Memory) (w : Number) (k : ℕ) → fixed_window ≤ k → fetch_of (put_of m z_cell w) k ≡ fetch_of m k
unfolding fetch_of read_of fixed_place selected_bank put_of
fetch_unmoved m w k h = grind (arith, nat_tests, bank_unmoved)
