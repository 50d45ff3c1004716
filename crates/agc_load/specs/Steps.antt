-- The steps of a run at which it may be refused, and the refusal that it reports.
use Rattle.std.specs.Prelude.{◌≡◌, ◌⊎◌, ℕ, if◌then◌else◌, Bool, List, [], ◌∷◌, Option, Some, None}
use Rattle.std.specs.Prelude.{Result, Ok, Err}
use Rattle.agc_script.specs.Parse.{IsSoundLine}
use Rattle.agc_script.specs.declared.fault.FaultKind.TheVariants as kind
use Rattle.agc_load.specs.declared.fault.LoadFault.{LoadFault}
use Rattle.agc_load.specs.declared.fault.LoadFault.TheVariants as refusal

-- A step of a run at which it may be refused.
pub data Step : Type 0 where
  -- an input is checked: the refusal that applies, if any
  checks : Option LoadFault → Step
  -- a read, memory or a thread is requested: the refusal if it is not available
  requires_resource : LoadFault → Step
  -- memory is requested at each line of a script
  asks_by_line : List ℕ → Step

-- memory ran out at a line that is not faulty, with none faulty before it
abbrev pub IsShortAtLine : List ℕ → LoadFault → Type 0
IsShortAtLine file (refusal.Script fault) = (fault.kind ≡ kind.Memory) × IsSoundLine file fault.line
IsShortAtLine file r = ⊥

-- What a run that goes through these steps may report: the refusal of the first check that applies,
-- or that of an earlier request that failed.
abbrev pub IsOutcome : List Step → LoadFault → Type 0
IsOutcome [] r = ⊥
IsOutcome (checks (Some found) ∷ steps) r = r ≡ found
IsOutcome (checks None ∷ steps) r = IsOutcome steps r
IsOutcome (requires_resource other ∷ steps) r = (r ≡ other) ⊎ IsOutcome steps r
IsOutcome (asks_by_line file ∷ steps) r = IsShortAtLine file r ⊎ IsOutcome steps r

-- the refusal of the first check that applies
abbrev pub refusal_in : List Step → Option LoadFault
refusal_in [] = None
refusal_in (checks (Some found) ∷ steps) = Some found
refusal_in (checks None ∷ steps) = refusal_in steps
refusal_in (requires_resource other ∷ steps) = refusal_in steps
refusal_in (asks_by_line file ∷ steps) = refusal_in steps

-- the refusal, if this is true
abbrev pub refused_if : Bool → LoadFault → Option LoadFault
refused_if applies r = if applies then Some r else None

-- The result of steps: a right value if no check refuses, or a refusal that they may report.
abbrev pub ComesOf : {A : Type 0} → List Step → (A → Type 0) → Result A LoadFault → Type 0
ComesOf steps IsRight (Ok value) = (refusal_in steps ≡ None) × IsRight value
ComesOf steps IsRight (Err r) = IsOutcome steps r
