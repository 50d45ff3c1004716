-- The watch boundary by boundary: its entries are those of the trace.
use Rattle.std.proofs.Common.{◌≡◌, ℕ, ◌≤◌, suc, zero, List, [], ◌∷◌, None, Bool, true, false, refl, ap, ◌∙◌, arith}
use Rattle.std.specs.Prelude.{if◌then◌else◌, map}
use Rattle.agc_machine.specs.Boundary.{boundary, upcoming_of}
use Rattle.agc_machine.specs.State.{State}
use Rattle.agc_trace.specs.Entry.{entry_of}
use Rattle.agc_trace.specs.Trace.{entries_left, is_stop, trace_of, trace_within}
use Rattle.agc_trace.specs.Watch.{Watched, watch_of, watch_within, watched_of}
use Rattle.agc_trace.specs.declared.entry.Entry.{Entry}
use Rattle.agc_trace.proofs.Steps.{fewer_entries, some_entry, reported_by}

-- whether the watch goes on after its first boundary
pub watch_goes_on : (b : Bool) (xs : List Watched) → b ≡ false → (if b then [] else xs) ≡ xs
watch_goes_on true xs e = cc
watch_goes_on false xs e = refl

pub watch_ends : (b : Bool) (xs : List Watched) → b ≡ true → (if b then [] else xs) ≡ []
watch_ends true xs e = refl
watch_ends false xs e = cc

same_rest : (b : Bool) (entry : Watched) (xs ys : List Watched) → (b ≡ false → xs ≡ ys) →
    (entry ∷ (if b then [] else xs)) ≡ (entry ∷ (if b then [] else ys))
same_rest true entry xs ys h = refl
same_rest false entry xs ys h = ap (λ (zs : List Watched). entry ∷ zs) (h refl)

same_entries : (b : Bool) (x : Watched) (entry : Entry) (xs : List Watched) (ys : List Entry) → x.entry ≡ entry → map (λ (y : Watched). y.entry) xs ≡ ys →
    map (λ (y : Watched). y.entry) (x ∷ (if b then [] else xs)) ≡ (entry ∷ (if b then [] else ys))
same_entries true x entry xs ys e h = ap (λ (z : Entry). z ∷ []) e
same_entries false x entry xs ys e h = ap (λ (z : Entry). z ∷ map (λ (y : Watched). y.entry) xs) e ∙ ap (λ (zs : List Entry). entry ∷ zs) h

module _ (cells : List ℕ) where
  pub watches : (s : State) → (watched_of cells s).entry ≡ entry_of s
  unfolding watched_of
  watches s = refl

  pub watched_by : (b : Bool) (s : State) (entry : Watched) → entry ≡ watched_of cells s → is_stop entry.entry.happening ≡ b → is_stop (upcoming_of s) ≡ b
  watched_by b s entry e f = reported_by b s entry.entry (ap (λ (x : Watched). x.entry) e ∙ watches s) f

  -- if the bound is large enough, a larger one makes no difference
  same_watch : (n m : ℕ) (s : State) → entries_left s ≤ n → entries_left s ≤ m → watch_within cells n s ≡ watch_within cells m s
  unfolding watch_within
  same_watch zero m s h k = absurd (omega (arith, some_entry s))
  same_watch (suc n) zero s h k = absurd (omega (arith, some_entry s))
  same_watch (suc n) (suc m) s h k =
      same_rest (is_stop (upcoming_of s)) (watched_of cells s) _ _
      (λ f. same_watch n m (boundary None s).0 (omega (arith, fewer_entries s f)) (omega (arith, fewer_entries s f)))

  -- a watch is the entry of its first boundary, and the watch from there unless that is the stop
  pub watch_by_entry : (s : State) → watch_of cells s ≡ watched_of cells s ∷ (if is_stop (upcoming_of s) then [] else watch_of cells (boundary None s).0)
  unfolding watch_of watch_within
  watch_by_entry s =
      same_watch (entries_left s) (suc (entries_left s)) s (omega arith) (omega arith)
      ∙ same_rest (is_stop (upcoming_of s)) (watched_of cells s) _ _
      (λ f. same_watch (entries_left s) (entries_left (boundary None s).0) (boundary None s).0 (omega (arith, fewer_entries s f)) (omega arith))

  reports_within : (n : ℕ) (s : State) → map (λ (y : Watched). y.entry) (watch_within cells n s) ≡ trace_within n s
  unfolding watch_within trace_within
  reports_within zero s = refl
  reports_within (suc n) s =
      same_entries (is_stop (upcoming_of s)) (watched_of cells s) (entry_of s) (watch_within cells n (boundary None s).0) (trace_within n (boundary None s).0)
      (watches s) (reports_within n (boundary None s).0)

  -- the entries of a watch are the trace, whatever cells are watched
  pub watch_reports_trace : (s : State) → map (λ (y : Watched). y.entry) (watch_of cells s) ≡ trace_of s
  unfolding watch_of trace_of
  watch_reports_trace s = reports_within (entries_left s) s
