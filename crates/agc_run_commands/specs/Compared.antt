-- The result of `compare` for the runs of two ropes and two scripts.
use Rattle.std.specs.Prelude.{◌≡◌, ◌↔◌, ℕ, Bool, List, Option, Some, None, IsTrue, string_bytes}
use Rattle.agc_machine.specs.State.{State}
use Rattle.agc_trace.specs.Trace.{trace_of}
use Rattle.agc_diff.specs.Compare.{cells_at_end}
use Rattle.agc_diff.specs.Observation.{looks_of, shown_by}
use Rattle.agc_study_args.specs.Started.{IsStarted, in_form}
use Rattle.agc_study_args.specs.declared.args.ObservedArgs.{ObservedArgs}
use Rattle.agc_study_args.specs.declared.args.CompareArgs.{CompareArgs}
use Rattle.agc_study_args.specs.declared.args.RunOptions.{RunOptions}
use Rattle.agc_run_commands.specs.declared.compares.DiffOutcome.{DiffOutcome}

-- The comparison of two machines at their start: the runs are the same exactly if both traces are and the erasable cells
-- at both stops are.
abbrev pub IsOutcomeOf : State → State → DiffOutcome → Type 0
IsOutcomeOf left right outcome =
    IsTrue outcome.is_same ↔ ((trace_of left ≡ trace_of right) × (cells_at_end left ≡ cells_at_end right))

-- The comparison of what two machines at their start show: the runs are the same exactly if all that they show is, apart
-- from the cycles.
abbrev pub IsShownOutcomeOf : ObservedArgs → State → State → DiffOutcome → Type 0
IsShownOutcomeOf args left right outcome =
    IsTrue outcome.is_same ↔ (looks_of (shown_by args.what left) ≡ looks_of (shown_by args.what right))

-- the comparison of two machines, boundary by boundary or by what they show
abbrev pub IsOutcomeAs : Option ObservedArgs → State → State → DiffOutcome → Type 0
IsOutcomeAs None left right outcome = IsOutcomeOf left right outcome
IsOutcomeAs (Some args) left right outcome = IsShownOutcomeOf args left right outcome

-- the options of the right run, whose rope has its own form
abbrev pub other_options : CompareArgs → RunOptions
other_options args = in_form args.other_form args.options

-- the same for the machines of two ropes and two scripts, for the bytes that their readers report
pub record IsCompared (args : CompareArgs)
    (left_rope left_script right_rope right_script : Option (List ℕ)) (outcome : DiffOutcome) : Type 0 where
  pub left : State
  pub right : State
  pub left_start : IsStarted args.options None left_rope left_script left
  pub right_start : IsStarted (other_options args) None right_rope right_script right
  pub reports : IsOutcomeAs args.shown left right outcome

-- the comparison was written, or a beginning of it, and the runs are the same or not
pub record IsOutcomeWritten (Writes : Option (List ℕ) → Option (List ℕ) → List ℕ → Type 0)
    (outcome : DiffOutcome) (is_same : Bool) (before after : Option (List ℕ)) : Type 0 where
  pub same : outcome.is_same ≡ is_same
  pub text : Writes before after (string_bytes outcome.text)

-- the comparison of the runs of four files was written, or a beginning of it, with the result that they are the same,
-- or not
pub record IsComparisonWritten (Writes : Option (List ℕ) → Option (List ℕ) → List ℕ → Type 0)
    (args : CompareArgs)
    (left_rope left_script right_rope right_script : Option (List ℕ)) (is_same : Bool)
    (before after : Option (List ℕ)) : Type 0 where
  pub outcome : DiffOutcome
  pub compared : IsCompared args left_rope left_script right_rope right_script outcome
  pub written : IsOutcomeWritten Writes outcome is_same before after
