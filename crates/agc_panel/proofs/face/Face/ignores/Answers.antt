use Rattle.std.proofs.Common.{rules, ◌∙◌, ◌≤◌, ℕ, ap, arith, not, refl, sym}
use Rattle.std.proofs.Math.Bool.{not-not}
use Rattle.std.proofs.lemmas.Bool.{ltb-true}
use Rattle.agc_panel.proofs.Unnamed.{other_channel, other_row, unnamed}
use Rattle.agc_panel.proofs.face.Face.ignores.Goals as goal

pub returns-then-row-eq0 : goal.returns-then-row-eq0
returns-then-row-eq0 c =
    let other = λ (row : ℕ) (one : 1 ≤ row) (most : row ≤ 12).
    other_row c.args.write.now row _ c.row_of-row.ensures (λ same. omega (arith, same, one, c.if-row-eq0.true)) in
    λ is_zero. unnamed c.args.self.now c.args.write.now (search rules) other (rw (c.if-write-eq-OUT0.true) refl)

pub returns-else-row-eq0 : goal.returns-else-row-eq0
returns-else-row-eq0 c = λ is_past.
    let other = λ (row : ℕ) (one : 1 ≤ row) (most : row ≤ 12).
    other_row c.args.write.now row _ c.row_of-row.ensures (λ same. omega (arith, same, most, ltb-true _ _ is_past)) in
    unnamed c.args.self.now c.args.write.now (search rules) other (rw (c.if-write-eq-OUT0.true) refl)

pub returns-else-write-eq-OUT0 : goal.returns-else-write-eq-OUT0
returns-else-write-eq-OUT0 c = λ is_other.
    unnamed c.args.self.now c.args.write.now (search rules)
    (λ row one most. other_channel c.args.write.now row c.if-write-eq-OUT0.false)
    (sym (not-not _) ∙ ap not is_other)
