-- How many words a quantity has.
use Rattle.std.specs.Prelude.{ℕ}
use Rattle.agc_quantities.specs.declared.quantity.Kind.{Kind}
use Rattle.agc_quantities.specs.declared.quantity.Kind.TheVariants as kind

abbrev pub size_of : Kind → ℕ
size_of (kind.Single scale) = 1
size_of (kind.Double scale) = 2
size_of (kind.Triple scale) = 3
size_of (kind.Vector scale) = 6
size_of (kind.Unsigned scale) = 1
size_of (kind.Bits high low) = 1
size_of (kind.Octal high low) = 1
