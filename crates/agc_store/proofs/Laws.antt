-- What crates above may use of a write: the fixed words and the superbank stay, other cells stay, and a plain cell
-- reads back.
use Rattle.std.proofs.Common.{◌≡◌, ◌≢◌, ℕ, ◌<◌, List, set, length, refl, arith}
use Rattle.std.proofs.lemmas.List.{length-set, get_or-set_other}
use Rattle.std.proofs.lemmas.Bool.Decides.{nat_tests}
use Rattle.std.proofs.lemmas.Grind.{common_steps}
use Rattle.agc_word.specs.Number.{Number}
use Rattle.agc_word.specs.Arithmetic.{narrow_of}
use Rattle.agc_store.specs.Places.{eb_cell, fb_cell, bb_cell, edop_cell}
use Rattle.agc_store.specs.Memory.{Memory, nothing, cell_at}
use Rattle.agc_store.specs.Cells.{cells_with, put_of, write_of}
use Rattle.agc_store.proofs.Kept.{length-banks, cell_at-banks}

-- a write leaves the fixed words
pub fixed-put_of : (m : Memory) (place : ℕ) (w : Number) → (put_of m place w).fixed ≡ m.fixed
unfolding put_of
fixed-put_of m place w = refl

pub fixed-write_of : (m : Memory) (address : ℕ) (w : Number) → (write_of m address w).fixed ≡ m.fixed
unfolding put_of write_of
fixed-write_of m address w = refl

-- a write leaves the superbank
pub superbank-put_of : (m : Memory) (place : ℕ) (w : Number) → (put_of m place w).superbank ≡ m.superbank
unfolding put_of
superbank-put_of m place w = refl

pub superbank-write_of : (m : Memory) (address : ℕ) (w : Number) → (write_of m address w).superbank ≡ m.superbank
unfolding put_of write_of
superbank-write_of m address w = refl

-- there are as many cells after a write as before
pub length-cells_with : (cells : List Number) (place : ℕ) (w : Number) → length (cells_with cells place w) ≡ length cells
unfolding cells_with
length-cells_with cells place w = grind (arith, nat_tests, length-set, length-banks)

-- a cell that is set leaves the others
cell_at-set : (cells : List Number) (place k : ℕ) (w : Number) → k ≢ place → cell_at k (set cells place w) ≡ cell_at k cells
unfolding cell_at
cell_at-set cells place k w other = get_or-set_other cells place k w nothing other

-- a write leaves every cell but the one that it names, EB, FB and BB
pub cell_at-cells_with : (cells : List Number) (place k : ℕ) (w : Number) → k ≢ place → k ≢ eb_cell → k ≢ fb_cell → k ≢ bb_cell → cell_at k (cells_with cells place w) ≡ cell_at k cells
unfolding cells_with
cell_at-cells_with cells place k w other no_eb no_fb no_bb = grind (arith, nat_tests, cell_at-set, cell_at-banks)

-- a memory cell past EDOP reads back the corrected word that was written
pub cell_at-plain : (cells : List Number) (place : ℕ) (w : Number) → edop_cell < place → place < length cells → cell_at place (cells_with cells place w) ≡ narrow_of w
unfolding cells_with cell_at
cell_at-plain cells place w plain inside = grind (arith, nat_tests, common_steps)
