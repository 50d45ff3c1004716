-- Each entry of a trace is that of its own boundary, and no entry is earlier than the one before it.
use Rattle.std.proofs.Common.{◌≡◌, ℕ, ◌≤◌, ◌<◌, suc, zero, List, [], ◌∷◌, length, Option, Some, None, Bool, true, false, refl, arith}
use Rattle.std.specs.Prelude.{if◌then◌else◌, slice_get}
use Rattle.agc_machine.specs.Boundary.{boundary, upcoming_of}
use Rattle.agc_machine.specs.Laws.{Falls, after}
use Rattle.agc_machine.specs.State.{State}
use Rattle.agc_machine.specs.declared.answer.Stepped.{Stepped}
use Rattle.agc_machine.specs.declared.answer.Stepped.TheVariants as stepped
use Rattle.agc_machine.proofs.Chain.{boundary_falls}
use Rattle.agc_trace.specs.Entry.{entry_of}
use Rattle.agc_trace.specs.Trace.{entries_left, is_stop, trace_of, trace_within}
use Rattle.agc_trace.specs.TraceLaws.{NeverGoBack}
use Rattle.agc_trace.specs.declared.entry.Entry.{Entry}

shorter_by : (b : Bool) (n : ℕ) (entry : Entry) (rest : List Entry) (reported : Option Entry) → suc n < length (entry ∷ (if b then [] else rest)) →
    (n < length rest → slice_get rest n ≡ reported) → slice_get (entry ∷ (if b then [] else rest)) (suc n) ≡ reported
shorter_by true n entry rest reported l h = absurd (omega arith)
shorter_by false n entry rest reported l h = h (omega arith)

entry_within : (fuel n : ℕ) (s : State) → n < length (trace_within fuel s) → slice_get (trace_within fuel s) n ≡ Some (entry_of (after n s))
unfolding trace_within after
entry_within zero n s l = absurd (omega arith)
entry_within (suc fuel) zero s l = refl
entry_within (suc fuel) (suc n) s l =
    shorter_by (is_stop (upcoming_of s)) n (entry_of s) (trace_within fuel (boundary None s).0) _ l (entry_within fuel n (boundary None s).0)

-- each entry is that of the boundary that comes after as many others
pub entry_is_reported : (n : ℕ) (s : State) → n < length (trace_of s) → slice_get (trace_of s) n ≡ Some (entry_of (after n s))
unfolding trace_of
entry_is_reported n s l = entry_within (entries_left s) n s l

from_earlier : (from later : ℕ) (entries : List Entry) → from ≤ later → NeverGoBack later entries → NeverGoBack from entries
from_earlier from later [] l h = tt
from_earlier from later (entry ∷ entries) l h = (omega arith, h.1)

forward_by : (b : Bool) (from later : ℕ) (rest : List Entry) → from ≤ later → NeverGoBack later rest → NeverGoBack from (if b then [] else rest)
forward_by true from later rest l h = tt
forward_by false from later rest l h = from_earlier from later rest l h

pub never_earlier : (s : State) (r : State × Stepped) → Falls s r → s.cycle ≤ r.0.cycle
never_earlier s (t, stepped.Quiet) f = f.1
never_earlier s (t, stepped.Wrote write) f = omega arith
never_earlier s (t, stepped.Stopped why) f = f.1

forward_within : (n : ℕ) (s : State) → NeverGoBack s.cycle (trace_within n s)
unfolding trace_within entry_of
forward_within zero s = tt
forward_within (suc n) s = (
  omega arith,
  forward_by (is_stop (upcoming_of s)) s.cycle (boundary None s).0.cycle (trace_within n (boundary None s).0)
      (never_earlier s (boundary None s) (boundary_falls s)) (forward_within n (boundary None s).0),
)

-- no entry is earlier than the one before it
pub trace_goes_forward : (s : State) → NeverGoBack s.cycle (trace_of s)
unfolding trace_of
trace_goes_forward s = forward_within (entries_left s) s
