-- The cells of a store stay well-formed after a write.
use Rattle.std.proofs.Common.{◌≡◌, ◌≢◌, ℕ, ◌+◌, ◌*◌, ◌^◌, ◌<◌, List, get_or, set, length, ◌∙◌, arith, replicate, inl, inr, Bool, false}
use Rattle.std.proofs.lemmas.List.{length-set, get_or-set_other, get_or-replicate, get_or_past, get_or_default, length-replicate}
use Rattle.std.proofs.lemmas.Bool.Decides.{nat_tests}
use Rattle.std.proofs.lemmas.Bool.{cases_lt, cases_eq}
use Rattle.std.proofs.lemmas.Grind.{common_steps}
use Rattle.agc_word.specs.Number.{Number, pattern_of}
use Rattle.agc_word.specs.Arithmetic.{narrow_of}
use Rattle.agc_store.specs.Places.{a_cell, l_cell, q_cell, eb_cell, fb_cell, z_cell, bb_cell, zero_cell}
use Rattle.agc_store.specs.Memory.{nothing, cell_at, erasable_bank, fixed_bank, bank_with_superbank}
use Rattle.agc_store.specs.Cells.{narrow_number, with_banks, cleared_cells, stored_pattern}
use Rattle.agc_store.specs.Registers.{HoldsRegisters, KeepsPlaces}

-- an address comes back from the word that Z keeps
pub stored_address : (z : ℕ) → z < 0o10000 → stored_pattern (narrow_number z) ≡ z
unfolding narrow_of
stored_address z h = grind (arith, nat_tests)

-- a narrow number is its own overflow correction
pub narrow_of-narrow : (x : Number) → x.magnitude < 2 ^ 14 → narrow_of x ≡ x
unfolding narrow_of
narrow_of-narrow x h = grind (arith, common_steps)

-- the same under a name that code can cite
pub narrow_stays : (x : Number) → x.magnitude < 2 ^ 14 → narrow_of x ≡ x
narrow_stays x h = narrow_of-narrow x h

-- every cell of cleared ones is +0
pub cell_at-cleared : (count k : ℕ) → cell_at k (cleared_cells count) ≡ nothing
unfolding cell_at cleared_cells
cell_at-cleared count k =
    elim (cases_lt k count) [
      | inl below ↦ get_or-replicate count k nothing nothing below
      | inr past ↦ get_or_past (replicate count nothing) k nothing (omega (arith, length-replicate count nothing))
    ]

-- there are as many cells
pub length-cleared : (count : ℕ) → length (cleared_cells count) ≡ count
unfolding cleared_cells
length-cleared count = length-replicate count nothing

-- +0 in EB and FB names the banks 0
pub erasable_bank-zero : (cells : List Number) → cell_at eb_cell cells ≡ nothing → erasable_bank cells ≡ 0
unfolding erasable_bank
erasable_bank-zero cells h = rw h

pub fixed_bank-zero : (cells : List Number) → cell_at fb_cell cells ≡ nothing → fixed_bank cells ≡ 0
unfolding fixed_bank
fixed_bank-zero cells h = rw h

-- cleared cells hold the registers of the start
pub start_registers : (count : ℕ) → count ≡ 2048 → HoldsRegisters (cleared_cells count)
start_registers count h =
    let cells = cleared_cells count in
    let e = erasable_bank-zero cells (cell_at-cleared count eb_cell) in
    let f = fixed_bank-zero cells (cell_at-cleared count fb_cell) in
    record {
      count = length-cleared count ∙ h;
      narrow = λ k a q. rw (cell_at-cleared count k) (omega arith);
      eb = rw e (cell_at-cleared count eb_cell);
      fb = rw f (cell_at-cleared count fb_cell);
      bb = rw (e, f) (cell_at-cleared count bb_cell);
      zero = cell_at-cleared count zero_cell;
    }

-- EB and FB name the banks that were set
pub erasable_bank-banks : (cells : List Number) (eb fb : ℕ) → length cells ≡ 2048 → eb < 8 → fb < 32 → erasable_bank (with_banks cells eb fb) ≡ eb
unfolding erasable_bank cell_at with_banks
erasable_bank-banks cells eb fb h e f = grind (arith, common_steps, nat_tests)

pub fixed_bank-banks : (cells : List Number) (eb fb : ℕ) → length cells ≡ 2048 → eb < 8 → fb < 32 → fixed_bank (with_banks cells eb fb) ≡ fb
unfolding fixed_bank cell_at with_banks
fixed_bank-banks cells eb fb h e f = grind (arith, common_steps, nat_tests)

-- the cells that a change of banks leaves unchanged
pub cell_at-banks : (cells : List Number) (eb fb k : ℕ) → k ≢ eb_cell → k ≢ fb_cell → k ≢ bb_cell → cell_at k (with_banks cells eb fb) ≡ cell_at k cells
unfolding cell_at with_banks
cell_at-banks cells eb fb k p q r =
    let with_eb = set cells eb_cell (narrow_number (0o400 * eb)) in
    let with_fb = set with_eb fb_cell (narrow_number (0o2000 * fb)) in
    get_or-set_other with_fb bb_cell k (narrow_number (0o2000 * fb + eb)) nothing r
    ∙ get_or-set_other with_eb fb_cell k (narrow_number (0o2000 * fb)) nothing q
    ∙ get_or-set_other cells eb_cell k (narrow_number (0o400 * eb)) nothing p

-- what EB, FB and BB hold once the banks are set
pub eb-banks : (cells : List Number) (eb fb : ℕ) → length cells ≡ 2048 → cell_at eb_cell (with_banks cells eb fb) ≡ narrow_number (0o400 * eb)
unfolding cell_at with_banks
eb-banks cells eb fb h = grind (arith, common_steps)

pub fb-banks : (cells : List Number) (eb fb : ℕ) → length cells ≡ 2048 → cell_at fb_cell (with_banks cells eb fb) ≡ narrow_number (0o2000 * fb)
unfolding cell_at with_banks
fb-banks cells eb fb h = grind (arith, common_steps)

pub bb-banks : (cells : List Number) (eb fb : ℕ) → length cells ≡ 2048 → cell_at bb_cell (with_banks cells eb fb) ≡ narrow_number (0o2000 * fb + eb)
unfolding cell_at with_banks
bb-banks cells eb fb h = grind (arith, common_steps)

-- a pattern of fifteen bits stands for a narrow number
pub magnitude-narrow_number : (p : ℕ) → p < 2 ^ 15 → (narrow_number p).magnitude < 2 ^ 14
magnitude-narrow_number p h = grind (arith, nat_tests)

pub length-banks : (cells : List Number) (eb fb : ℕ) → length (with_banks cells eb fb) ≡ length cells
unfolding with_banks
length-banks cells eb fb = simp length-set

-- narrow cells stay narrow
narrow-banks : (cells : List Number) (eb fb : ℕ) → HoldsRegisters cells → eb < 8 → fb < 32 → (k : ℕ) → k ≢ a_cell → k ≢ q_cell → (cell_at k (with_banks cells eb fb)).magnitude < 2 ^ 14
narrow-banks cells eb fb holds e f k a q =
    elim (cases_eq k eb_cell) [
      | inl is ↦ rw (is, eb-banks cells eb fb holds.count) (magnitude-narrow_number (0o400 * eb) (omega arith))
      | inr no_eb ↦ elim (cases_eq k fb_cell) [
        | inl is ↦ rw (is, fb-banks cells eb fb holds.count) (magnitude-narrow_number (0o2000 * fb) (omega arith))
        | inr no_fb ↦ elim (cases_eq k bb_cell) [
          | inl is ↦ rw (is, bb-banks cells eb fb holds.count) (magnitude-narrow_number (0o2000 * fb + eb) (omega arith))
          | inr no_bb ↦ rw (cell_at-banks cells eb fb k no_eb no_fb no_bb) (holds.narrow k a q)
        ]
      ]
    ]

-- the cells hold the registers once the banks are set
pub banks_registers : (cells : List Number) (eb fb : ℕ) → HoldsRegisters cells → eb < 8 → fb < 32 → HoldsRegisters (with_banks cells eb fb)
banks_registers cells eb fb holds e f =
    let after = with_banks cells eb fb in
    let is_eb = erasable_bank-banks cells eb fb holds.count e f in
    let is_fb = fixed_bank-banks cells eb fb holds.count e f in
    record {
      count = length-banks cells eb fb ∙ holds.count;
      narrow = λ k a q. narrow-banks cells eb fb holds e f k a q;
      eb = rw is_eb (eb-banks cells eb fb holds.count);
      fb = rw is_fb (fb-banks cells eb fb holds.count);
      bb = rw (is_eb, is_fb) (bb-banks cells eb fb holds.count);
      zero = cell_at-banks cells eb fb zero_cell (omega arith) (omega arith) (omega arith) ∙ holds.zero;
    }

-- the selected bank is one of forty
bank_with_superbank-lt : (superbank : Bool) (bank : ℕ) → bank < 32 → bank_with_superbank superbank bank < 40
unfolding bank_with_superbank
bank_with_superbank-lt superbank bank h = grind (arith, nat_tests)

-- the cached places once the banks are set
pub banks_places : (cells : List Number) (superbank : Bool) (eb fb : ℕ) → length cells ≡ 2048 → eb < 8 → fb < 32 → pattern_of 16 (cell_at z_cell cells) < 0o10000 → KeepsPlaces (with_banks cells eb fb) superbank (0o400 * eb) (0o2000 * bank_with_superbank superbank fb)
banks_places cells superbank eb fb h e f z =
    record {
      erasable = rw (erasable_bank-banks cells eb fb h e f);
      fixed = rw (fixed_bank-banks cells eb fb h e f);
      in_range = omega (arith, bank_with_superbank-lt superbank fb f);
      z = rw (cell_at-banks cells eb fb z_cell (omega arith) (omega arith) (omega arith)) z;
    }

-- the cached places at the start
pub start_places : (count : ℕ) → KeepsPlaces (cleared_cells count) false 0 0
unfolding bank_with_superbank
start_places count =
    record {
      erasable = rw (erasable_bank-zero (cleared_cells count) (cell_at-cleared count eb_cell));
      fixed = rw (fixed_bank-zero (cleared_cells count) (cell_at-cleared count fb_cell));
      in_range = omega arith;
      z = rw (cell_at-cleared count z_cell) (omega arith);
    }

-- L reads as it is
pub narrow_of-l : (cells : List Number) (x : Number) → HoldsRegisters cells → narrow_of (get_or cells l_cell x) ≡ cell_at l_cell cells
unfolding cell_at
narrow_of-l cells x holds =
    rw (get_or_default cells l_cell x nothing (omega (arith, holds.count))) (narrow_of-narrow (get_or cells l_cell nothing) (holds.narrow l_cell (omega arith) (omega arith)))
