-- The trace boundary by boundary.
use Rattle.std.proofs.Common.{◌≡◌, ℕ, ◌+◌, ◌≤◌, ◌<◌, suc, zero, List, [], ◌∷◌, Option, Some, None, Bool, true, false, refl, ap, sym, ◌∙◌, subst, arith}
use Rattle.std.specs.Prelude.{if◌then◌else◌}
use Rattle.agc_machine.specs.Boundary.{boundary, upcoming_of}
use Rattle.agc_machine.specs.Laws.{Falls}
use Rattle.agc_machine.specs.Run.{boundaries_left}
use Rattle.agc_machine.specs.State.{State}
use Rattle.agc_machine.specs.declared.answer.Stepped.{Stepped}
use Rattle.agc_machine.specs.declared.answer.Stepped.TheVariants as stepped
use Rattle.agc_machine.specs.declared.answer.Stop.{Stop}
use Rattle.agc_machine.proofs.Cases.{upcoming_comes}
use Rattle.agc_machine.proofs.Chain.{boundary_falls, some_left}
use Rattle.agc_trace.specs.Entry.{entry_of}
use Rattle.agc_trace.specs.Trace.{entries_left, entries_unless, is_stop, trace_of, trace_within}
use Rattle.agc_trace.specs.declared.entry.Entry.{Entry}

at_most : (o : Option Stop) (t : State) → entries_unless o t ≤ boundaries_left t + 1
at_most (Some why) t = omega arith
at_most None t = omega arith

at_run : (o : Option Stop) (s : State) → o ≡ None → entries_unless o s ≡ boundaries_left s + 1
at_run (Some why) s e = cc
at_run None s e = refl

at_stop : (o : Option Stop) (s : State) (why : Stop) → o ≡ Some why → entries_unless o s ≡ 1
at_stop (Some other) s why e = refl
at_stop None s why e = cc

falls_fewer : (s : State) (r : State × Stepped) → s.stopped ≡ None → Falls s r → entries_left r.0 < entries_left s
unfolding entries_left
falls_fewer s (t, stepped.Quiet) e h = omega (arith, at_most t.stopped t, at_run s.stopped s e, h.0)
falls_fewer s (t, stepped.Wrote write) e h = omega (arith, at_most t.stopped t, at_run s.stopped s e, h.0)
falls_fewer s (t, stepped.Stopped why) e h = omega (arith, at_stop t.stopped t why h.0, at_run s.stopped s e, some_left s)

runs_by : (o : Option Stop) (s : State) → s.stopped ≡ o → is_stop (upcoming_of s) ≡ false → s.stopped ≡ None
runs_by (Some why) s f e = let stop : is_stop (upcoming_of s) ≡ true = ap is_stop ((upcoming_comes s).stays why f) in cc
runs_by None s f e = f

runs : (s : State) → is_stop (upcoming_of s) ≡ false → s.stopped ≡ None
runs s e = runs_by s.stopped s refl e

-- a boundary that is not a stop leaves fewer entries
pub fewer_entries : (s : State) → is_stop (upcoming_of s) ≡ false → entries_left (boundary None s).0 < entries_left s
fewer_entries s e = falls_fewer s (boundary None s) (runs s e) (boundary_falls s)

some_by : (o : Option Stop) (s : State) → 1 ≤ entries_unless o s
some_by (Some why) s = omega arith
some_by None s = omega arith

pub some_entry : (s : State) → 1 ≤ entries_left s
unfolding entries_left
some_entry s = some_by s.stopped s

same_rest : (b : Bool) (entry : Entry) (xs ys : List Entry) → (b ≡ false → xs ≡ ys) →
    (entry ∷ (if b then [] else xs)) ≡ (entry ∷ (if b then [] else ys))
same_rest true entry xs ys h = refl
same_rest false entry xs ys h = ap (λ (zs : List Entry). entry ∷ zs) (h refl)

-- if the bound is large enough, a larger one makes no difference
same_trace : (n m : ℕ) (s : State) → entries_left s ≤ n → entries_left s ≤ m → trace_within n s ≡ trace_within m s
unfolding trace_within
same_trace zero m s h k = absurd (omega (arith, some_entry s))
same_trace (suc n) zero s h k = absurd (omega (arith, some_entry s))
same_trace (suc n) (suc m) s h k =
    same_rest (is_stop (upcoming_of s)) (entry_of s) _ _
    (λ f. same_trace n m (boundary None s).0 (omega (arith, fewer_entries s f)) (omega (arith, fewer_entries s f)))

-- a trace is the entry of its first boundary, and the trace from there unless that is the stop
pub trace_by_entry : (s : State) → trace_of s ≡ entry_of s ∷ (if is_stop (upcoming_of s) then [] else trace_of (boundary None s).0)
unfolding trace_of trace_within
trace_by_entry s =
    same_trace (entries_left s) (suc (entries_left s)) s (omega arith) (omega arith)
    ∙ same_rest (is_stop (upcoming_of s)) (entry_of s) _ _
    (λ f. same_trace (entries_left s) (entries_left (boundary None s).0) (boundary None s).0 (omega (arith, fewer_entries s f)) (omega arith))

-- whether the trace goes on after its first boundary
pub rest_goes_on : (b : Bool) (xs : List Entry) → b ≡ false → (if b then [] else xs) ≡ xs
rest_goes_on true xs e = cc
rest_goes_on false xs e = refl

pub rest_ends : (b : Bool) (xs : List Entry) → b ≡ true → (if b then [] else xs) ≡ []
rest_ends true xs e = refl
rest_ends false xs e = cc

pub reports : (s : State) → (entry_of s).happening ≡ upcoming_of s
unfolding entry_of
reports s = refl

pub reported_by : (b : Bool) (s : State) (entry : Entry) → entry ≡ entry_of s → is_stop entry.happening ≡ b → is_stop (upcoming_of s) ≡ b
reported_by b s entry e f = ap is_stop (sym (reports s) ∙ ap (λ (x : Entry). x.happening) (sym e)) ∙ f

-- a boundary that was taken and is not a stop leaves fewer entries
pub fewer_after_entry : (s t : State) (entry : Entry) → entry ≡ entry_of s → t ≡ (boundary None s).0 → is_stop entry.happening ≡ false →
    entries_left t < entries_left s
fewer_after_entry s t entry e f h =
    subst (λ (u : State). entries_left u < entries_left s) (sym f) (fewer_entries s (reported_by false s entry e h))
