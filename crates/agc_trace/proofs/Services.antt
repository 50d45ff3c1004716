-- The service in progress at the stop, boundary by boundary.
use Rattle.std.proofs.Common.{◌≡◌, ℕ, ◌≤◌, ◌<◌, List, [], ◌∷◌, Option, None, Bool, true, false, refl, ap, sym, ◌∙◌, arith}
use Rattle.std.specs.Prelude.{if◌then◌else◌, nat_le}
use Rattle.std.proofs.lemmas.Bool.Decides.{nat_tests}
use Rattle.agc_machine.specs.Boundary.{boundary, upcoming_of}
use Rattle.agc_machine.specs.Run.{next_before}
use Rattle.agc_machine.specs.State.{State}
use Rattle.agc_machine.specs.declared.answer.Stepped.{Stepped}
use Rattle.agc_trace.specs.Entry.{entry_of}
use Rattle.agc_trace.specs.Service.{service_after, service_at_stop, service_left}
use Rattle.agc_trace.specs.Trace.{is_stop, trace_of}
use Rattle.agc_trace.specs.declared.entry.Entry.{Entry}
use Rattle.agc_trace.specs.declared.selection.Selection.{Selection}
use Rattle.agc_trace.specs.declared.service.Service.{Service}
use Rattle.agc_trace.proofs.Range.{begins, stays_before}
use Rattle.agc_trace.proofs.Steps.{rest_goes_on, reports, reported_by, trace_by_entry}
use Rattle.agc_trace.proofs.Stops.{stop_stays, stopped_reports}
use Rattle.agc_trace.proofs.Forward.{never_earlier}
use Rattle.agc_machine.proofs.Chain.{boundary_falls}

module _ (w : Selection) where
  within : (before : Option Service) (entry : Entry) (entries : List Entry) (b c : Bool) → nat_le entry.cycle w.to ≡ b → is_stop entry.happening ≡ c →
      service_at_stop w before (entry ∷ entries)
      ≡ (if b then (if c then before else service_at_stop w (service_after w before entry) entries) else None)
  unfolding service_at_stop
  within before entry entries b c e f = rw (e, f) refl

  -- past the range there is none
  pub none_past : (before : Option Service) (s : State) → w.to < s.cycle → service_at_stop w before (trace_of s) ≡ None
  none_past before s l =
      let long : nat_le s.cycle w.to ≡ false = grind (arith, nat_tests) in
      ap (λ (xs : List Entry). service_at_stop w before xs) (trace_by_entry s)
      ∙ within before (entry_of s) _ false (is_stop (entry_of s).happening) (ap (λ (c : ℕ). nat_le c w.to) (begins s) ∙ long) refl

  -- at the stop it is the one before it
  pub left_at_stop : (before : Option Service) (s : State) (entry : Entry) → entry ≡ entry_of s → s.cycle ≤ w.to → is_stop entry.happening ≡ true →
      service_at_stop w before (trace_of s) ≡ before
  left_at_stop before s entry e l f =
      let within_range : nat_le s.cycle w.to ≡ true = grind (arith, nat_tests) in
      let short : nat_le entry.cycle w.to ≡ true =
      ap (λ (x : Entry). nat_le x.cycle w.to) e ∙ ap (λ (c : ℕ). nat_le c w.to) (begins s) ∙ within_range in
      ap (λ (xs : List Entry). service_at_stop w before xs) (trace_by_entry s)
      ∙ ap (λ (x : Entry). service_at_stop w before (x ∷ (if is_stop (upcoming_of s) then [] else trace_of (boundary None s).0))) (sym e)
      ∙ within before entry _ true true short f

  -- any other boundary leaves the rest of the trace to decide
  pub left_after : (before : Option Service) (s t : State) (entry : Entry) → entry ≡ entry_of s → t ≡ (boundary None s).0 → s.cycle ≤ w.to →
      is_stop entry.happening ≡ false → service_at_stop w (service_after w before entry) (trace_of t) ≡ service_at_stop w before (trace_of s)
  left_after before s t entry e next l f =
      let within_range : nat_le s.cycle w.to ≡ true = grind (arith, nat_tests) in
      let short : nat_le entry.cycle w.to ≡ true =
      ap (λ (x : Entry). nat_le x.cycle w.to) e ∙ ap (λ (c : ℕ). nat_le c w.to) (begins s) ∙ within_range in
      sym (ap (λ (xs : List Entry). service_at_stop w before xs) (trace_by_entry s)
      ∙ ap (λ (xs : List Entry). service_at_stop w before (entry_of s ∷ xs))
      (rest_goes_on (is_stop (upcoming_of s)) (trace_of (boundary None s).0) (reported_by false s entry e f))
      ∙ ap (λ (x : Entry). service_at_stop w before (x ∷ trace_of (boundary None s).0)) (sym e)
      ∙ within before entry (trace_of (boundary None s).0) true false short f
      ∙ ap (λ (u : State). service_at_stop w (service_after w before entry) (trace_of u)) (sym next))

  reported : (b : Bool) (s : State) → is_stop (upcoming_of s) ≡ b → is_stop (entry_of s).happening ≡ b
  reported b s f = ap is_stop (reports s) ∙ f

  late : (s : State) → nat_le s.cycle w.to ≡ false → w.to < s.cycle
  late s e = grind (arith, nat_tests)

  soon : (s : State) → nat_le s.cycle w.to ≡ true → s.cycle ≤ w.to
  soon s e = grind (arith, nat_tests)

  unseen : (s : State) → s.cycle < w.from → service_after w None (entry_of s) ≡ None
  unseen s l =
      let short : nat_le w.from s.cycle ≡ false = grind (arith, nat_tests) in
      let seen : nat_le w.from (entry_of s).cycle ≡ false = ap (λ (c : ℕ). nat_le w.from c) (begins s) ∙ short in
      rw seen refl

  early_by : (b c : Bool) (s : State) → nat_le s.cycle w.to ≡ b → is_stop (upcoming_of s) ≡ c → s.cycle < w.from →
      service_left w (trace_of (boundary None s).0) ≡ service_left w (trace_of s)
  early_by false c s e f l =
      none_past None (boundary None s).0 (omega (arith, never_earlier s (boundary None s) (boundary_falls s), late s e)) ∙ sym (none_past None s (late s e))
  early_by true true s e f l =
      let stays = stop_stays s f in
      left_at_stop None (boundary None s).0 (entry_of (boundary None s).0) refl (omega (arith, stays.cycle, soon s e))
      (reported true (boundary None s).0 (stopped_reports (boundary None s).0 stays.why stays.stopped))
      ∙ sym (left_at_stop None s (entry_of s) refl (soon s e) (reported true s f))
  early_by true false s e f l =
      ap (λ (o : Option Service). service_at_stop w o (trace_of (boundary None s).0)) (sym (unseen s l))
      ∙ left_after None s (boundary None s).0 (entry_of s) refl refl (soon s e) (reported false s f)

  -- before the range no service begins
  pub no_early_service : (s : State) → s.cycle < w.from → service_left w (trace_of (boundary None s).0) ≡ service_left w (trace_of s)
  no_early_service s l = early_by (nat_le s.cycle w.to) (is_stop (upcoming_of s)) s refl refl l

  pub no_service_before : (end : ℕ) (s t : State) (answer : Stepped) → end ≤ w.from → s.cycle < w.from → (t, answer) ≡ next_before end s →
      service_left w (trace_of t) ≡ service_left w (trace_of s)
  no_service_before = stays_before (λ (s : State). service_left w (trace_of s)) w.from no_early_service
