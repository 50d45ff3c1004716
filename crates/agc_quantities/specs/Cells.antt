-- The cells of a quantity.
use Rattle.std.specs.Prelude.{ℕ, List}
use Rattle.std.specs.List.{range_with_len}
use Rattle.agc_quantities.specs.Kind.{size_of}
use Rattle.agc_quantities.specs.declared.quantity.Quantity.{Quantity}

-- as many cells as it has words, from its first one on
abbrev pub cells_of : Quantity → List ℕ
cells_of quantity = range_with_len quantity.cell (size_of quantity.kind)
