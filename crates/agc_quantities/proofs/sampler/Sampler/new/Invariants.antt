use Rattle.std.proofs.Common.{◌≡◌, take}
use Rattle.std.specs.Prelude.{flat_map}
use Rattle.agc_quantities.specs.Cells.{cells_of}
use Rattle.agc_quantities.proofs.sampler.Sampler.new.Given as goal

-- the cells so far
abbrev pub invariant-loop-quantity : goal.invariant-loop-quantity
invariant-loop-quantity l = l.cells.items ≡ flat_map cells_of (take l.quantity-index l.quantities)
