-- Steps of a run, one after another: which refusals are allowed at them.
use Rattle.std.proofs.Common.{◌≡◌, ℕ, List, [], ◌∷◌, ◌++◌, refl, inl, inr}
use Rattle.std.specs.Prelude.{Option, None, Some, IfSome, IfOk, IfErr, Result, Ok, Err}
use Rattle.agc_load.specs.Steps.{ComesOf}
use Rattle.agc_load.specs.Steps.{Step, checks, requires_resource, asks_by_line, IsOutcome, refusal_in}
use Rattle.agc_load.specs.declared.fault.LoadFault.{LoadFault}

-- the refusals of the first steps
pub reported_first : (steps later : List Step) (r : LoadFault) → IsOutcome steps r → IsOutcome (steps ++ later) r
reported_first [] later r h = absurd h
reported_first (checks (Some found) ∷ steps) later r h = h
reported_first (checks None ∷ steps) later r h = reported_first steps later r h
reported_first (requires_resource other ∷ steps) later r (inl h) = inl h
reported_first (requires_resource other ∷ steps) later r (inr h) = inr (reported_first steps later r h)
reported_first (asks_by_line file ∷ steps) later r (inl h) = inl h
reported_first (asks_by_line file ∷ steps) later r (inr h) = inr (reported_first steps later r h)

-- the refusals of later steps, if none of the first applies
pub reported_later : (steps later : List Step) (r : LoadFault) → refusal_in steps ≡ None → IsOutcome later r → IsOutcome (steps ++ later) r
reported_later [] later r none h = h
reported_later (checks (Some found) ∷ steps) later r none h = cc
reported_later (checks None ∷ steps) later r none h = reported_later steps later r none h
reported_later (requires_resource other ∷ steps) later r none h = inr (reported_later steps later r none h)
reported_later (asks_by_line file ∷ steps) later r none h = inr (reported_later steps later r none h)

pub none_in_both : (steps later : List Step) → refusal_in steps ≡ None → refusal_in later ≡ None → refusal_in (steps ++ later) ≡ None
none_in_both [] later none h = h
none_in_both (checks (Some found) ∷ steps) later none h = cc
none_in_both (checks None ∷ steps) later none h = none_in_both steps later none h
none_in_both (requires_resource other ∷ steps) later none h = none_in_both steps later none h
none_in_both (asks_by_line file ∷ steps) later none h = none_in_both steps later none h

-- and if none of all applies, none of the first and none of the later does
pub none_first : (steps later : List Step) → refusal_in (steps ++ later) ≡ None → refusal_in steps ≡ None
none_first [] later none = refl
none_first (checks (Some found) ∷ steps) later none = cc
none_first (checks None ∷ steps) later none = none_first steps later none
none_first (requires_resource other ∷ steps) later none = none_first steps later none
none_first (asks_by_line file ∷ steps) later none = none_first steps later none

pub none_later : (steps later : List Step) → refusal_in (steps ++ later) ≡ None → refusal_in later ≡ None
none_later [] later none = none
none_later (checks (Some found) ∷ steps) later none = cc
none_later (checks None ∷ steps) later none = none_later steps later none
none_later (requires_resource other ∷ steps) later none = none_later steps later none
none_later (asks_by_line file ∷ steps) later none = none_later steps later none

-- the refusal that applies is allowed
pub reported_found : (steps : List Step) (r : LoadFault) → refusal_in steps ≡ Some r → IsOutcome steps r
reported_found [] r h = cc
reported_found (checks (Some found) ∷ steps) r h = cc
reported_found (checks None ∷ steps) r h = reported_found steps r h
reported_found (requires_resource other ∷ steps) r h = inr (reported_found steps r h)
reported_found (asks_by_line file ∷ steps) r h = inr (reported_found steps r h)

-- the result of steps

module _ {A : Type 0} (IsRight : A → Type 0) where
  pub comes_later : (steps later : List Step) (result : Result A LoadFault) → refusal_in steps ≡ None
      → ComesOf later IsRight result → ComesOf (steps ++ later) IsRight result
  comes_later steps later (Ok value) none h = (none_in_both steps later none h.0, h.1)
  comes_later steps later (Err r) none h = reported_later steps later r none h

  -- of steps that do not refuse, by the properties of a value and of a refusal
  pub comes_of : (steps : List Step) (result : Result A LoadFault) → refusal_in steps ≡ None
      → IfOk result IsRight → IfErr result (IsOutcome steps) → ComesOf steps IsRight result
  comes_of steps (Ok value) none right reported = (none, right)
  comes_of steps (Err r) none right reported = reported

pub known_any : (known : Option (List ℕ)) (P : Type 0) → P → IfSome known (λ _. P)
known_any None P h = tt
known_any (Some file) P h = h

-- of steps that depend on a file, if its bytes are known

module _ (steps : List ℕ → List Step) (later : List Step) where
  pub known_first : (known : Option (List ℕ)) (r : LoadFault) → IfSome known (λ file. IsOutcome (steps file) r) → IfSome known (λ file. IsOutcome (steps file ++ later) r)
  known_first None r h = tt
  known_first (Some file) r h = reported_first (steps file) later r h

  pub known_later : {A : Type 0} (known : Option (List ℕ)) (IsRight : List ℕ → A → Type 0) (result : Result A LoadFault)
      → IfSome known (λ file. refusal_in (steps file) ≡ None) → IfSome known (λ file. ComesOf later (IsRight file) result)
      → IfSome known (λ file. ComesOf (steps file ++ later) (IsRight file) result)
  known_later None IsRight result none h = tt
  known_later (Some file) IsRight result none h = comes_later (IsRight file) (steps file) later result none h
