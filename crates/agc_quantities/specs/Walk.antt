-- A run from one state to another, boundary by boundary.
use Rattle.std.specs.Prelude.{◌≡◌, ℕ, ◌<◌, ◌≤◌, ◌⊎◌, Bool, true, false, nat_le, Option, Some, None, IsSome}
use Rattle.agc_machine.specs.Boundary.{boundary}
use Rattle.agc_machine.specs.Laws.{after}
use Rattle.agc_machine.specs.State.{State}
use Rattle.agc_quantities.specs.declared.sample.Sample.{Sample}

-- A run gets from one state to another, and no state before that one is due.
pub record IsFirst (due : State → Bool) (s t : State) : Type 0 where
  pub boundaries : ℕ
  pub reached : t ≡ after boundaries s
  pub none_before : (k : ℕ) → k < boundaries → due (after k s) ≡ false

-- a run gets to the first state that is due, at this cycle at the latest; or there is none, up to the first state past
-- this cycle, or to the stop
pub record Finds (due : State → Bool) (to : ℕ) (s t : State) (found : Bool) : Type 0 where
  pub first : IsFirst due s t
  pub holds : found ≡ true → due t ≡ true
  pub in_range : found ≡ true → t.cycle ≤ to
  pub none : found ≡ false → (to < t.cycle) ⊎ IsSome t.stopped

-- a state that has reached a cycle
abbrev pub has_reached : ℕ → State → Bool
has_reached cycle s = nat_le cycle s.cycle

-- the state from which the next sample is looked for: after a sample, one boundary later
abbrev pub resumed : Option Sample → State → State
resumed None s = s
resumed (Some last) s = (boundary None s).0
