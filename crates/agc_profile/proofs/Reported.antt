-- The boundaries of a run one by one: their entries are those of the trace.
use Rattle.std.proofs.Common.{◌≡◌, ℕ, ◌≤◌, suc, zero, List, [], ◌∷◌, None, Bool, true, false, refl, ap, ◌∙◌, arith}
use Rattle.std.specs.Prelude.{if◌then◌else◌, map}
use Rattle.agc_machine.specs.Boundary.{boundary, upcoming_of}
use Rattle.agc_machine.specs.State.{State}
use Rattle.agc_trace.specs.Entry.{entry_of}
use Rattle.agc_trace.specs.Trace.{entries_left, is_stop, trace_of, trace_within}
use Rattle.agc_trace.specs.declared.entry.Entry.{Entry}
use Rattle.agc_trace.proofs.Steps.{fewer_entries, some_entry}
use Rattle.agc_profile.specs.Readers.{Reported, all_reported, all_within, reported_of}

-- the entries alone
abbrev pub entries_of : List Reported → List Entry
entries_of all = map (λ (reported : Reported). reported.entry) all

-- whether there are more after the first boundary
pub reported_on : (b : Bool) (xs : List Reported) → b ≡ false → (if b then [] else xs) ≡ xs
reported_on true xs e = cc
reported_on false xs e = refl

pub reported_ends : (b : Bool) (xs : List Reported) → b ≡ true → (if b then [] else xs) ≡ []
reported_ends true xs e = refl
reported_ends false xs e = cc

same_rest : (b : Bool) (reported : Reported) (xs ys : List Reported) → (b ≡ false → xs ≡ ys) →
    (reported ∷ (if b then [] else xs)) ≡ (reported ∷ (if b then [] else ys))
same_rest true reported xs ys h = refl
same_rest false reported xs ys h = ap (λ (zs : List Reported). reported ∷ zs) (h refl)

same_entries : (b : Bool) (reported : Reported) (entry : Entry) (xs : List Reported) (ys : List Entry) → reported.entry ≡ entry → entries_of xs ≡ ys →
    entries_of (reported ∷ (if b then [] else xs)) ≡ (entry ∷ (if b then [] else ys))
same_entries true reported entry xs ys e h = ap (λ (z : Entry). z ∷ []) e
same_entries false reported entry xs ys e h = ap (λ (z : Entry). z ∷ entries_of xs) e ∙ ap (λ (zs : List Entry). entry ∷ zs) h

pub reports : (s : State) → (reported_of s).entry ≡ entry_of s
unfolding reported_of
reports s = refl

-- if the bound is large enough, a larger one makes no difference
same_reported : (n m : ℕ) (s : State) → entries_left s ≤ n → entries_left s ≤ m → all_within n s ≡ all_within m s
unfolding all_within
same_reported zero m s h k = absurd (omega (arith, some_entry s))
same_reported (suc n) zero s h k = absurd (omega (arith, some_entry s))
same_reported (suc n) (suc m) s h k =
    same_rest (is_stop (upcoming_of s)) (reported_of s) _ _
    (λ f. same_reported n m (boundary None s).0 (omega (arith, fewer_entries s f)) (omega (arith, fewer_entries s f)))

-- the first boundary, and those from there on unless it is the stop
pub reported_by_one : (s : State) → all_reported s ≡ reported_of s ∷ (if is_stop (upcoming_of s) then [] else all_reported (boundary None s).0)
unfolding all_reported all_within
reported_by_one s =
    same_reported (entries_left s) (suc (entries_left s)) s (omega arith) (omega arith)
    ∙ same_rest (is_stop (upcoming_of s)) (reported_of s) _ _
    (λ f. same_reported (entries_left s) (entries_left (boundary None s).0) (boundary None s).0 (omega (arith, fewer_entries s f)) (omega arith))

reports_within : (n : ℕ) (s : State) → entries_of (all_within n s) ≡ trace_within n s
unfolding all_within trace_within
reports_within zero s = refl
reports_within (suc n) s =
    same_entries (is_stop (upcoming_of s)) (reported_of s) (entry_of s) (all_within n (boundary None s).0) (trace_within n (boundary None s).0)
    (reports s) (reports_within n (boundary None s).0)

-- their entries are the trace
pub reported_is_trace : (s : State) → entries_of (all_reported s) ≡ trace_of s
unfolding all_reported trace_of
reported_is_trace s = reports_within (entries_left s) s
