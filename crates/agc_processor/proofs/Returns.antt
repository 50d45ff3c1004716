-- RESUME restores what an interrupt left in ZRUPT and BRUPT.
use Rattle.std.proofs.Common.{◌≡◌, ℕ, ◌<◌, ap, ◌∙◌, List, length, false, arith}
use Rattle.std.proofs.lemmas.Bool.Decides.{nat_tests}
use Rattle.std.proofs.lemmas.Grind.{common_steps}
use Rattle.std.specs.Prelude.{get_or, set, ◌%◌}
use Rattle.agc_word.specs.Number.{Number, pattern_of}
use Rattle.agc_word.specs.Arithmetic.{narrow_of}
use Rattle.agc_word.specs.Patterns.{pattern_back}
use Rattle.agc_store.specs.Memory.{cell_at}
use Rattle.agc_store.specs.Cells.{narrow_number, cell_of, poke_of, put_of, cells_with}
use Rattle.agc_store.specs.Places.{zrupt_cell, brupt_cell}
use Rattle.agc_store.specs.Registers.{z_of}
use Rattle.agc_processor.specs.declared.interrupt.Rupt.{Rupt}
use Rattle.agc_processor.specs.declared.processor.Processor.{Processor}
use Rattle.agc_processor.specs.Basic.{resume_of}
use Rattle.agc_processor.specs.Interrupt.{interrupted}
use Rattle.agc_processor.specs.Service.{KeepsRupt}
use Rattle.agc_processor.specs.Processor.{◌▷◌, set_hand, serve, jump, z_at}

narrow_same : (x : Number) → x.magnitude < 16384 → narrow_of x ≡ x
unfolding narrow_of
narrow_same x h = let e : x.magnitude % 16384 ≡ x.magnitude = omega arith in ap (λ (n : ℕ). record x { magnitude = n }) e

-- Z's place does not touch the two cells
kept : (cells : List Number) (z h w d : Number) → length cells ≡ 2048 →
    (get_or (set (set (set cells 13 z) 15 h) 5 w) 13 d ≡ z) × (get_or (set (set (set cells 13 z) 15 h) 5 w) 15 d ≡ h)
kept cells z h w d l = (grind (arith, common_steps), grind (arith, common_steps))

brupt_saved : (r : Rupt) (p : Processor) → length p.store.erasable ≡ 2048 → p.hand.magnitude < 16384 →
    cell_of (interrupted r p).store 0 brupt_cell ≡ p.hand
unfolding interrupted cell_of poke_of put_of cells_with cell_at
brupt_saved r p l n = ap narrow_of (kept p.store.erasable _ p.hand _ _ l).1 ∙ narrow_same p.hand n

below : (z : ℕ) → z < 4096 → (narrow_number z).magnitude < 16384
below z h = grind (arith, nat_tests)

z_below : (p : Processor) → z_at p < 4096
unfolding z_of
z_below p = omega arith

zrupt_saved : (r : Rupt) (p : Processor) → length p.store.erasable ≡ 2048 →
    pattern_of 15 (cell_of (interrupted r p).store 0 zrupt_cell) ≡ z_at p
unfolding interrupted cell_of poke_of put_of cells_with cell_at
zrupt_saved r p l =
    let b = z_below p in
    ap (λ (x : Number). pattern_of 15 (narrow_of x)) (kept p.store.erasable (narrow_number (z_at p)) p.hand _ _ l).0
    ∙ ap (λ (x : Number). pattern_of 15 x) (narrow_same (narrow_number (z_at p)) (below (z_at p) b))
    ∙ pattern_back 15 (z_at p) (omega arith)

pub comes_back : (r : Rupt) (p q : Processor) → length p.store.erasable ≡ 2048 → p.hand.magnitude < 16384 →
    KeepsRupt (interrupted r p) q → resume_of q ≡ (q ▷ set_hand p.hand ▷ serve false ▷ jump (z_at p))
unfolding resume_of
comes_back r p q l n k =
    ap (λ (w : Number). q ▷ set_hand w ▷ serve false ▷ jump (pattern_of 15 (cell_of q.store 0 zrupt_cell))) (k.1 ∙ brupt_saved r p l n)
    ∙ ap (λ (z : ℕ). q ▷ set_hand p.hand ▷ serve false ▷ jump z) (ap (λ (x : Number). pattern_of 15 x) k.0 ∙ zrupt_saved r p l)
