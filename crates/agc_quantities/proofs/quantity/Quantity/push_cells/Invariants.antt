use Rattle.std.proofs.Common.{◌≡◌, ◌++◌, ◌-◌}
use Rattle.std.specs.List.{range_with_len}
use Rattle.agc_quantities.proofs.quantity.Quantity.push_cells.Given as goal

-- the cells so far
abbrev pub invariant-loop-number : goal.invariant-loop-number
invariant-loop-number l = l.cells.items ≡ l.initial.cells.items ++ range_with_len l.fn.self.cell (l.number - l.fn.self.cell)
