use Rattle.std.proofs.Common.{◌≡◌, ℕ, ◌/◌, ◌%◌, ◌≤◌, ap, ◌∙◌, arith}
use Rattle.std.proofs.Math.Nat.{div-add-mod}
use Rattle.agc_word.specs.Arithmetic.{narrow_of}
use Rattle.agc_store.specs.Cells.{cell_of}
use Rattle.agc_store.specs.Memory.{Memory, cell_at}
use Rattle.agc_store.specs.Registers.{HoldsRegisters}
use Rattle.agc_store.proofs.Kept.{narrow_of-narrow}
use Rattle.agc_listing.proofs.cell.Cell.word.Goals as goal

in_bank : (m : Memory) (place : ℕ) → 0o1400 ≤ place → HoldsRegisters m.erasable → cell_of m (place / 256) (place % 256) ≡ cell_at place m.erasable
unfolding cell_of
in_bank m place h r =
    ap (λ (n : ℕ). narrow_of (cell_at n m.erasable)) (div-add-mod place 256)
    ∙ narrow_of-narrow (cell_at place m.erasable) (r.narrow place (λ e. omega (arith, e)) (λ e. omega (arith, e)))

pub returns-clause-word : goal.returns-clause-word
returns-clause-word c =
    c.widen.ensures.same ∙ c.cell.ensures ∙ in_bank _ _ c.if-number-lt-ERASABLE_WINDOW.false c.read-word.ensures.registers ∙ ap (λ (n : ℕ). cell_at n c.args.store.now.erasable) c.number-number.ensures.cell
