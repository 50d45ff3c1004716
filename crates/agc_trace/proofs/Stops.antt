-- What a stop changes, and that a trace ends with it.
use Rattle.std.proofs.Common.{◌≡◌, ℕ, ◌≤◌, suc, zero, List, [], ◌∷◌, Option, Some, None, Bool, true, false, refl, ap, sym, ◌∙◌, subst, arith}
use Rattle.std.specs.Prelude.{if◌then◌else◌}
use Rattle.agc_machine.specs.Boundary.{boundary, HappensNext, carried_out, upcoming_of}
use Rattle.agc_machine.specs.Laws.{Falls}
use Rattle.agc_machine.specs.Run.{run_of}
use Rattle.agc_machine.specs.State.{State}
use Rattle.agc_machine.specs.declared.answer.Stepped.{Stepped}
use Rattle.agc_machine.specs.declared.answer.Stepped.TheVariants as stepped
use Rattle.agc_machine.specs.declared.answer.Stop.{Stop}
use Rattle.agc_machine.specs.declared.upcoming.Upcoming.{Upcoming}
use Rattle.agc_machine.specs.declared.upcoming.Upcoming.TheVariants as upcoming
use Rattle.agc_machine.proofs.Chain.{boundary_falls, next_after_quiet, next_at_stop, next_at_write, next_of_stopped, run_at_stop, run_at_write, run_by_next, stopped_stays}
use Rattle.agc_machine.specs.Run.{Run, while_writing}
use Rattle.agc_machine.proofs.Cases.{upcoming_comes}
use Rattle.agc_trace.specs.Entry.{entry_of, write_shown}
use Rattle.agc_trace.specs.Trace.{entries_left, is_stop, trace_of, trace_within}
use Rattle.agc_trace.specs.TraceLaws.{EndsWithStop, ReportsStop}
use Rattle.agc_trace.specs.declared.entry.Entry.{Entry}
use Rattle.agc_trace.proofs.Steps.{fewer_entries, some_entry}

-- the entry is a stop, and the boundary changes nothing but that
pub record Stays (s : State) (reported : Upcoming) (r : State × Stepped) : Type 0 where
  pub why : Stop
  pub happening : reported ≡ upcoming.Stop why
  pub answer : r ≡ (r.0, stepped.Stopped why)
  pub stopped : r.0.stopped ≡ Some why
  pub cycle : r.0.cycle ≡ s.cycle

stop_done : (reported : Upcoming) (s : State) (r : State × Stepped) → r ≡ carried_out reported (record s { begun = true }) → is_stop reported ≡ true → Stays s reported r
stop_done (upcoming.Stop why) s r e f = rw e (record { why = why; happening = refl; answer = refl; stopped = refl; cycle = refl })
stop_done (upcoming.Event what) s r e f = cc
stop_done (upcoming.Timer t) s r e f = cc
stop_done (upcoming.Interrupt i) s r e f = cc
stop_done (upcoming.Order order) s r e f = cc

stays_by : (o : Option Stop) (s : State) (reported : Upcoming) (r : State × Stepped) → s.stopped ≡ o → r ≡ boundary None s → HappensNext s reported → is_stop reported ≡ true → Stays s reported r
stays_by (Some why) s reported r o e c f =
    rw (e ∙ stopped_stays s why o) (record { why = why; happening = c.stays why o; answer = refl; stopped = o; cycle = refl })
stays_by None s reported r o e c f = stop_done reported s r (e ∙ c.comes o) f

-- the boundary of a stop
pub stop_stays : (s : State) → is_stop (upcoming_of s) ≡ true → Stays s (upcoming_of s) (boundary None s)
stop_stays s f = stays_by s.stopped s (upcoming_of s) (boundary None s) refl refl (upcoming_comes s) f

-- a stopped machine returns its stop
pub stopped_reports : (s : State) (why : Stop) → s.stopped ≡ Some why → is_stop (upcoming_of s) ≡ true
stopped_reports s why e = ap is_stop ((upcoming_comes s).stays why e)

stopped_last : (s : State) (why : Stop) → s.stopped ≡ Some why → (run_of s).last ≡ s
stopped_last s why e = ap (λ (run : Run). run.last) (run_at_stop s s why (sym (next_of_stopped s why e)))

last_by : (s : State) (r : State × Stepped) → r ≡ boundary None s → Falls s r → (run_of s).last ≡ (run_of r.0).last
last_by s (t, stepped.Quiet) e f =
    ap (λ (run : Run). run.last) (run_by_next s ∙ ap (while_writing run_of) (sym (next_after_quiet s t e)) ∙ sym (run_by_next t))
last_by s (t, stepped.Wrote write) e f = ap (λ (run : Run). run.last) (run_at_write s t write (next_at_write s t write e))
last_by s (t, stepped.Stopped why) e f =
    ap (λ (run : Run). run.last) (run_at_stop s t why (next_at_stop s t why e)) ∙ sym (stopped_last t why f.0)

-- a run ends as it does from its next boundary on
last_goes_on : (s : State) → (run_of s).last ≡ (run_of (boundary None s).0).last
last_goes_on s = last_by s (boundary None s) refl (boundary_falls s)

reports_stop : (s : State) → is_stop (upcoming_of s) ≡ true → ReportsStop (boundary None s).0 (entry_of s)
unfolding entry_of
reports_stop s f =
    let stays = stop_stays s f in
    record {
      why = stays.why;
      stopped = stays.stopped;
      happening = stays.happening;
      cycle = sym stays.cycle;
      write = ap (λ (r : State × Stepped). write_shown r.1) stays.answer;
      registers = refl;
    }

last_at_stop : (s : State) → is_stop (upcoming_of s) ≡ true → (run_of s).last ≡ (boundary None s).0
last_at_stop s f =
    let stays = stop_stays s f in
    ap (λ (run : Run). run.last) (run_at_stop s (boundary None s).0 stays.why (next_at_stop s (boundary None s).0 stays.why (sym stays.answer)))

ends_later : (last : State) (entry : Entry) (rest : List Entry) → is_stop entry.happening ≡ false → EndsWithStop last rest → EndsWithStop last (entry ∷ rest)
ends_later last entry [] f h = absurd h
ends_later last entry (next ∷ rest) f h = (f, h)

happens : (s : State) → (entry_of s).happening ≡ upcoming_of s
unfolding entry_of
happens s = refl

ends_by : (b : Bool) (s : State) (rest : List Entry) → is_stop (upcoming_of s) ≡ b → (b ≡ false → EndsWithStop (run_of s).last rest) →
    EndsWithStop (run_of s).last (entry_of s ∷ (if b then [] else rest))
ends_by true s rest f h = subst (λ (last : State). ReportsStop last (entry_of s)) (sym (last_at_stop s f)) (reports_stop s f)
ends_by false s rest f h = ends_later (run_of s).last (entry_of s) rest (ap is_stop (happens s) ∙ f) (h refl)

ends_within : (n : ℕ) (s : State) → entries_left s ≤ n → EndsWithStop (run_of s).last (trace_within n s)
unfolding trace_within
ends_within zero s h = absurd (omega (arith, some_entry s))
ends_within (suc n) s h =
    ends_by (is_stop (upcoming_of s)) s (trace_within n (boundary None s).0) refl
    (λ f. subst (λ (last : State). EndsWithStop last (trace_within n (boundary None s).0)) (sym (last_goes_on s))
    (ends_within n (boundary None s).0 (omega (arith, fewer_entries s f))))

-- a trace ends with the stop of its run
pub trace_ends : (s : State) → EndsWithStop (run_of s).last (trace_of s)
unfolding trace_of
trace_ends s = ends_within (entries_left s) s (omega arith)
