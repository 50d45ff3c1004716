use Rattle.std.proofs.Common.{arith}
use Rattle.agc_listing.proofs.Woven.{no_flags_are}
use Rattle.agc_listing.proofs.rope_builder.RopeBuilder.new.Goals as goal

pub invariant_of-result : goal.invariant_of-result
invariant_of-result c = (
  rw (c.in_ok-no_flags.ensures, c.new.ensures.items) (no_flags_are 36864),
  λ k d within. let none = rw c.new.ensures.items at within in absurd (omega (arith, none)),
)
