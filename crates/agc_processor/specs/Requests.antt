-- Which interrupt comes first, and what holds interrupts off.
use Rattle.std.specs.Prelude.{◌≡◌, ◌-◌, ◌≤◌, Bool, true, false, get_or}
use Rattle.agc_word.specs.Arithmetic.{over_of}
use Rattle.agc_word.specs.declared.wide.Over.TheVariants as over
use Rattle.agc_processor.specs.declared.interrupt.Rupt.{Rupt}
use Rattle.agc_processor.specs.declared.processor.Processor.{Processor}
use Rattle.agc_processor.specs.Interrupt.{rupt_number, vector_of}
use Rattle.agc_processor.specs.Processor.{a_of}

-- the interrupt is requested
abbrev pub is_waiting : Rupt → Processor → Bool
is_waiting r p = get_or p.requests (rupt_number r - 1) false

-- the interrupt is requested, and no requested one has a lower vector
pub record ComesFirst (r : Rupt) (p : Processor) : Type 0 where
  pub requested : is_waiting r p ≡ true
  pub lowest : (other : Rupt) → is_waiting other p ≡ true → vector_of r ≤ vector_of other

-- Nothing holds interrupts off: no service, no INHINT, no order that belongs to EXTEND or INDEX, and
-- no overflow in A.
pub record HoldsNoneOff (p : Processor) : Type 0 where
  pub no_service : p.serving ≡ false
  pub no_inhint : p.inhibited ≡ false
  pub no_order : p.uninterruptible ≡ false
  pub no_overflow : over_of (a_of p) ≡ over.None
