use Rattle.std.proofs.Common.{◌-◌, ◌∙◌, ◌++◌, ℕ, List, [], ◌∷◌, ap, sym, append_assoc, arith}
use Rattle.std.specs.List.{range_with_len}
use Rattle.agc_quantities.proofs.Cells.{next_cell}
use Rattle.agc_quantities.proofs.quantity.Quantity.push_cells.Goals as goal

pub loop-number-preserved : goal.loop-number-preserved
loop-number-preserved c =
    let more = next_cell c.args.self.now.cell c.loop-number.number (omega arith) in
    c.in_ok-push.ensures.items ∙ ap (λ (k : ℕ). c.loop-number.cells.items ++ k ∷ []) c.new.ensures ∙ ap (λ (l : List ℕ). l ++ c.loop-number.number ∷ []) c.loop-number.invariant
    ∙ append_assoc c.args.cells.now.items (range_with_len c.args.self.now.cell (c.loop-number.number - c.args.self.now.cell)) (c.loop-number.number ∷ []) ∙ ap (λ (l : List ℕ). c.args.cells.now.items ++ l) (sym more)
