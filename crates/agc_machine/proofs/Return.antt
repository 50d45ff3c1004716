-- An interrupt and the RESUME after it: Z and the order in hand are in ZRUPT and BRUPT in between.
use Rattle.std.proofs.Common.{◌≡◌, ◌≢◌, ℕ, ◌+◌, ◌%◌, ◌<◌, ◌^◌, List, set, length, refl, ap, ◌∙◌, arith}
use Rattle.std.proofs.lemmas.List.{length-set, get_or-set_same, get_or-set_other}
use Rattle.std.proofs.lemmas.Bool.Decides.{nat_tests}
use Rattle.agc_word.specs.Number.{Number, pattern_of}
use Rattle.agc_word.specs.Arithmetic.{narrow_of}
use Rattle.agc_word.proofs.Bits.{z-address}
use Rattle.agc_store.specs.Memory.{Memory, nothing, cell_at}
use Rattle.agc_store.specs.Cells.{narrow_number, cell_of, cells_with, poke_of, put_of}
use Rattle.agc_store.specs.Places.{brupt_cell, z_cell, zrupt_cell}
use Rattle.agc_store.specs.Registers.{HoldsRegisters, register, z_of}
use Rattle.agc_store.proofs.Kept.{narrow_of-narrow}
use Rattle.agc_store.proofs.Laws.{cell_at-cells_with, length-cells_with}
use Rattle.agc_processor.specs.declared.interrupt.Rupt.{Rupt}
use Rattle.agc_processor.specs.declared.processor.Processor.{Processor}
use Rattle.agc_processor.specs.Basic.{resume_of}
use Rattle.agc_processor.specs.Interrupt.{interrupted, vector_of}
use Rattle.agc_processor.specs.Processor.{◌▷◌, z_at}
use Rattle.agc_machine.specs.Laws.{ComesBack}

cell_at-same : (cells : List Number) (k : ℕ) (w : Number) → k < length cells → cell_at k (set cells k w) ≡ w
unfolding cell_at
cell_at-same cells k w h = get_or-set_same cells k w nothing h

cell_at-other : (cells : List Number) (place k : ℕ) (w : Number) → k ≢ place → cell_at k (set cells place w) ≡ cell_at k cells
unfolding cell_at
cell_at-other cells place k w other = get_or-set_other cells place k w nothing other

-- the narrow number of an address
small : (y : ℕ) → y < 4096 → narrow_of (narrow_number y) ≡ narrow_number y
small y h = narrow_of-narrow (narrow_number y) (grind (arith, nat_tests))

-- Z reads back the address that it was set to
z_of-put : (m : Memory) (y : ℕ) → y < 4096 → 5 < length m.erasable → z_of (put_of m z_cell (narrow_number y)) ≡ y
unfolding z_of put_of cells_with register
z_of-put m y h l =
    ap (λ (x : Number). pattern_of 15 x % 4096) (cell_at-same m.erasable z_cell _ l)
    ∙ ap (λ (x : Number). pattern_of 15 (narrow_number (pattern_of 15 x % 4096)) % 4096) (small y h)
    ∙ ap (λ (a : ℕ). pattern_of 15 (narrow_number a) % 4096) (z-address y h)
    ∙ z-address y h

-- what ZRUPT and BRUPT hold once Z is at the vector
zrupt_held : (cells : List Number) (z hand w : Number) → 15 < length cells → cell_at zrupt_cell (cells_with (set (set cells zrupt_cell z) brupt_cell hand) z_cell w) ≡ z
zrupt_held cells z hand w h =
    cell_at-cells_with (set (set cells zrupt_cell z) brupt_cell hand) z_cell zrupt_cell w (λ e. omega arith) (λ e. omega arith) (λ e. omega arith) (λ e. omega arith)
    ∙ cell_at-other (set cells zrupt_cell z) brupt_cell zrupt_cell hand (λ e. omega arith) ∙ cell_at-same cells zrupt_cell z (omega arith)

brupt_held : (cells : List Number) (z hand w : Number) → 15 < length cells → cell_at brupt_cell (cells_with (set (set cells zrupt_cell z) brupt_cell hand) z_cell w) ≡ hand
brupt_held cells z hand w h =
    let long : length (set cells zrupt_cell z) ≡ length cells = length-set cells zrupt_cell z in
    cell_at-cells_with (set (set cells zrupt_cell z) brupt_cell hand) z_cell brupt_cell w (λ e. omega arith) (λ e. omega arith) (λ e. omega arith) (λ e. omega arith)
    ∙ cell_at-same (set cells zrupt_cell z) brupt_cell hand (omega arith)

after_length : (cells : List Number) (z hand w : Number) → length (cells_with (set (set cells zrupt_cell z) brupt_cell hand) z_cell w) ≡ length cells
after_length cells z hand w =
    length-cells_with (set (set cells zrupt_cell z) brupt_cell hand) z_cell w ∙ length-set (set cells zrupt_cell z) brupt_cell hand ∙ length-set cells zrupt_cell z

z_small : (p : Processor) → z_at p < 4096
unfolding z_of
z_small p = omega arith

-- the memory in between
abbrev between : Rupt → Processor → Memory
between r p =
    put_of (poke_of (poke_of p.store 0 zrupt_cell (narrow_number (z_at p))) 0 brupt_cell p.hand) z_cell (narrow_number ((vector_of r + 1) % 4096))

zrupt_reads : (r : Rupt) (p : Processor) → length p.store.erasable ≡ 2048 → pattern_of 15 (cell_of (between r p) 0 zrupt_cell) % 4096 ≡ z_at p
unfolding cell_of poke_of put_of
zrupt_reads r p l =
    ap (λ (x : Number). pattern_of 15 (narrow_of x) % 4096) (zrupt_held p.store.erasable (narrow_number (z_at p)) p.hand _ (omega arith))
    ∙ ap (λ (x : Number). pattern_of 15 x % 4096) (small (z_at p) (z_small p)) ∙ z-address (z_at p) (z_small p)

brupt_reads : (r : Rupt) (p : Processor) → length p.store.erasable ≡ 2048 → p.hand.magnitude < 16384 → cell_of (between r p) 0 brupt_cell ≡ p.hand
unfolding cell_of poke_of put_of
brupt_reads r p l n =
    ap narrow_of (brupt_held p.store.erasable (narrow_number (z_at p)) p.hand _ (omega arith)) ∙ narrow_of-narrow p.hand n

between_long : (r : Rupt) (p : Processor) → length p.store.erasable ≡ 2048 → 5 < length (between r p).erasable
unfolding poke_of put_of
between_long r p l =
    let long : length (between r p).erasable ≡ length p.store.erasable = after_length p.store.erasable (narrow_number (z_at p)) p.hand _ in
    omega arith

z_back : (r : Rupt) (p : Processor) → length p.store.erasable ≡ 2048 →
    z_of (put_of (between r p) z_cell (narrow_number (pattern_of 15 (cell_of (between r p) 0 zrupt_cell) % 4096))) ≡ z_at p
z_back r p l =
    z_of-put (between r p) (pattern_of 15 (cell_of (between r p) 0 zrupt_cell) % 4096) (omega arith) (between_long r p l) ∙ zrupt_reads r p l

pub comes_back : (r : Rupt) (p : Processor) → HoldsRegisters p.store.erasable → p.hand.magnitude < 2 ^ 14 → ComesBack p (p ▷ interrupted r ▷ resume_of)
unfolding interrupted resume_of
comes_back r p h n = (z_back r p h.count, brupt_reads r p h.count (omega arith), refl)
