-- The states of a run one by one.
use Rattle.std.proofs.Common.{◌≡◌, ℕ, ◌+◌, ◌≤◌, ◌<◌, suc, zero, List, [], ◌∷◌, Option, Some, None, Bool, true, false, refl, ap, ◌∙◌, arith}
use Rattle.std.specs.Prelude.{if◌then◌else◌, is_some}
use Rattle.agc_machine.specs.Boundary.{boundary}
use Rattle.agc_machine.specs.Laws.{Falls}
use Rattle.agc_machine.specs.Run.{boundaries_left}
use Rattle.agc_machine.specs.State.{State}
use Rattle.agc_machine.specs.declared.answer.Stepped.{Stepped}
use Rattle.agc_machine.specs.declared.answer.Stepped.TheVariants as stepped
use Rattle.agc_machine.specs.declared.answer.Stop.{Stop}
use Rattle.agc_machine.proofs.Chain.{boundary_falls, some_left}
use Rattle.agc_timeline.specs.States.{states_of, states_within}
use Rattle.agc_trace.specs.Trace.{entries_left, entries_unless}

at_most : (o : Option Stop) (t : State) → entries_unless o t ≤ boundaries_left t + 1
at_most (Some why) t = omega arith
at_most None t = omega arith

at_run : (o : Option Stop) (s : State) → o ≡ None → entries_unless o s ≡ boundaries_left s + 1
at_run (Some why) s e = cc
at_run None s e = refl

at_stop : (o : Option Stop) (s : State) (why : Stop) → o ≡ Some why → entries_unless o s ≡ 1
at_stop (Some other) s why e = refl
at_stop None s why e = cc

falls_fewer : (s : State) (r : State × Stepped) → s.stopped ≡ None → Falls s r → entries_left r.0 < entries_left s
unfolding entries_left
falls_fewer s (t, stepped.Quiet) e h = omega (arith, at_most t.stopped t, at_run s.stopped s e, h.0)
falls_fewer s (t, stepped.Wrote write) e h = omega (arith, at_most t.stopped t, at_run s.stopped s e, h.0)
falls_fewer s (t, stepped.Stopped why) e h = omega (arith, at_stop t.stopped t why h.0, at_run s.stopped s e, some_left s)

runs_by : (o : Option Stop) → is_some o ≡ false → o ≡ None
runs_by (Some why) e = cc
runs_by None e = refl

-- a boundary of a run that continues leaves fewer states
pub fewer_states : (s : State) → is_some s.stopped ≡ false → entries_left (boundary None s).0 < entries_left s
fewer_states s e = falls_fewer s (boundary None s) (runs_by s.stopped e) (boundary_falls s)

some_by : (o : Option Stop) (s : State) → 1 ≤ entries_unless o s
some_by (Some why) s = omega arith
some_by None s = omega arith

some_state : (s : State) → 1 ≤ entries_left s
unfolding entries_left
some_state s = some_by s.stopped s

same_rest : (b : Bool) (s : State) (xs ys : List State) → (b ≡ false → xs ≡ ys) →
    (s ∷ (if b then [] else xs)) ≡ (s ∷ (if b then [] else ys))
same_rest true s xs ys h = refl
same_rest false s xs ys h = ap (λ (zs : List State). s ∷ zs) (h refl)

-- with enough states, more make no difference
same_states : (n m : ℕ) (s : State) → entries_left s ≤ n → entries_left s ≤ m → states_within n s ≡ states_within m s
unfolding states_within
same_states zero m s h k = absurd (omega (arith, some_state s))
same_states (suc n) zero s h k = absurd (omega (arith, some_state s))
same_states (suc n) (suc m) s h k =
    same_rest (is_some s.stopped) s _ _
    (λ f. same_states n m (boundary None s).0 (omega (arith, fewer_states s f)) (omega (arith, fewer_states s f)))

-- the states of a run are its own, and those from the next one on unless it has stopped
pub states_by_first : (s : State) → states_of s ≡ s ∷ (if is_some s.stopped then [] else states_of (boundary None s).0)
unfolding states_of states_within
states_by_first s =
    same_states (entries_left s) (suc (entries_left s)) s (omega arith) (omega arith)
    ∙ same_rest (is_some s.stopped) s _ _
    (λ f. same_states (entries_left s) (entries_left (boundary None s).0) (boundary None s).0 (omega (arith, fewer_states s f)) (omega arith))

goes_on : (b : Bool) (s : State) (xs : List State) → b ≡ false → (s ∷ (if b then [] else xs)) ≡ s ∷ xs
goes_on true s xs e = cc
goes_on false s xs e = refl

ends : (b : Bool) (s : State) (xs : List State) → b ≡ true → (s ∷ (if b then [] else xs)) ≡ s ∷ []
ends true s xs e = refl
ends false s xs e = cc

pub states_go_on : (s : State) → is_some s.stopped ≡ false → states_of s ≡ s ∷ states_of (boundary None s).0
states_go_on s e = states_by_first s ∙ goes_on (is_some s.stopped) s (states_of (boundary None s).0) e

pub states_end : (s : State) → is_some s.stopped ≡ true → states_of s ≡ s ∷ []
states_end s e = states_by_first s ∙ ends (is_some s.stopped) s (states_of (boundary None s).0) e

-- states none of which comes before its predecessor
abbrev pub GoForward : ℕ → List State → Type 0
GoForward from [] = Unit {0}
GoForward from (s ∷ ss) = (from ≤ s.cycle) × GoForward s.cycle ss

pub forward_later : (from later : ℕ) (ss : List State) → from ≤ later → GoForward later ss → GoForward from ss
forward_later from later [] l h = tt
forward_later from later (s ∷ ss) l h = (omega (arith, h.0), h.1)

pub never_earlier : (s : State) (r : State × Stepped) → Falls s r → s.cycle ≤ r.0.cycle
never_earlier s (t, stepped.Quiet) f = f.1
never_earlier s (t, stepped.Wrote write) f = omega arith
never_earlier s (t, stepped.Stopped why) f = f.1

forward_by : (b : Bool) (from later : ℕ) (ss : List State) → from ≤ later → GoForward later ss → GoForward from (if b then [] else ss)
forward_by true from later ss l h = tt
forward_by false from later ss l h = forward_later from later ss l h

forward_within : (n : ℕ) (s : State) → GoForward s.cycle (states_within n s)
unfolding states_within
forward_within zero s = tt
forward_within (suc n) s = (
  omega arith,
  forward_by (is_some s.stopped) s.cycle (boundary None s).0.cycle (states_within n (boundary None s).0)
      (never_earlier s (boundary None s) (boundary_falls s)) (forward_within n (boundary None s).0),
)

pub states_go_forward : (s : State) → GoForward s.cycle (states_of s)
unfolding states_of
states_go_forward s = forward_within (entries_left s) s
