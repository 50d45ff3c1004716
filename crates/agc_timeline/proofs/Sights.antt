-- What the states of a run show in a span: state by state, and where they show nothing.
use Rattle.std.proofs.Common.{◌≡◌, ℕ, ◌≤◌, ◌<◌, List, [], ◌∷◌, ◌++◌, Option, Some, None, Bool, true, false, refl, ap, sym, ◌∙◌, arith}
use Rattle.std.specs.Prelude.{if◌then◌else◌, nat_le, ◌&&◌, filter, map, is_some}
use Rattle.std.proofs.lemmas.Bool.Decides.{nat_tests}
use Rattle.agc_machine.specs.Boundary.{boundary}
use Rattle.agc_machine.specs.Run.{next_before}
use Rattle.agc_machine.specs.State.{State}
use Rattle.agc_machine.specs.declared.answer.Stepped.{Stepped}
use Rattle.agc_machine.specs.declared.answer.Stop.{Stop}
use Rattle.agc_machine.proofs.Chain.{stopped_stays}
use Rattle.agc_panel.specs.declared.watch_spec.WatchSpec.{WatchSpec}
use Rattle.agc_trace.proofs.Range.{stays_before}
use Rattle.agc_timeline.specs.Changes.{Sight, is_in, sight_of, sights_in}
use Rattle.agc_timeline.specs.States.{states_of}
use Rattle.agc_trace.specs.declared.span.Span.{Span}
use Rattle.agc_timeline.proofs.States.{GoForward, states_end, states_go_forward, states_go_on}

none_of : (b : Bool) → (b && false) ≡ false
none_of true = refl
none_of false = refl

module _ (span : Span) (spec : WatchSpec) where
  one_by : (b : Bool) (s : State) (ss : List State) →
      map (sight_of spec) (if b then s ∷ ss else ss) ≡ map (sight_of spec) (if b then s ∷ [] else []) ++ map (sight_of spec) ss
  one_by true s ss = refl
  one_by false s ss = refl

  -- what a state shows, and what those after it do
  pub sights_by_first : (s : State) (ss : List State) → sights_in span spec (s ∷ ss) ≡ sights_in span spec (s ∷ []) ++ sights_in span spec ss
  unfolding sights_in
  sights_by_first s ss = one_by (is_in span s) s (filter (is_in span) ss)

  mapped_by : (b : Bool) (s : State) (ss : List State) →
      map (sight_of spec) (if b then s ∷ ss else ss) ≡ (if b then sight_of spec s ∷ map (sight_of spec) ss else map (sight_of spec) ss)
  mapped_by true s ss = refl
  mapped_by false s ss = refl

  seen_by : (b : Bool) (s : State) → b ≡ true → map (sight_of spec) (if b then s ∷ [] else []) ≡ sight_of spec s ∷ []
  seen_by true s e = refl
  seen_by false s e = cc

  unseen_by : (b : Bool) (s : State) → b ≡ false → map (sight_of spec) (if b then s ∷ [] else []) ≡ []
  unseen_by true s e = cc
  unseen_by false s e = refl

  -- what one state shows
  pub seen : (s : State) → is_in span s ≡ true → sights_in span spec (s ∷ []) ≡ sight_of spec s ∷ []
  unfolding sights_in
  seen s e = seen_by (is_in span s) s e

  pub unseen : (s : State) → is_in span s ≡ false → sights_in span spec (s ∷ []) ≡ []
  unfolding sights_in
  unseen s e = unseen_by (is_in span s) s e

  -- what the first state shows, and what the others do
  pub seen_first : (s : State) (ss : List State) →
      sights_in span spec (s ∷ ss) ≡ (if nat_le span.from s.cycle && nat_le s.cycle span.to then sight_of spec s ∷ sights_in span spec ss else sights_in span spec ss)
  unfolding sights_in
  seen_first s ss = mapped_by (is_in span s) s (filter (is_in span) ss)

  pub inside : (s : State) (ss : List State) → span.from ≤ s.cycle → s.cycle ≤ span.to → sights_in span spec (s ∷ ss) ≡ sight_of spec s ∷ sights_in span spec ss
  inside s ss l h =
      let here : nat_le span.from s.cycle ≡ true = grind (arith, nat_tests) in
      let soon : nat_le s.cycle span.to ≡ true = grind (arith, nat_tests) in
      sights_by_first s ss
      ∙ ap (λ (xs : List Sight). xs ++ sights_in span spec ss)
      (seen s (ap (λ (b : Bool). b && nat_le s.cycle span.to) here ∙ soon))

  pub early : (s : State) → s.cycle < span.from → is_in span s ≡ false
  early s l =
      let short : nat_le span.from s.cycle ≡ false = grind (arith, nat_tests) in
      ap (λ (b : Bool). b && nat_le s.cycle span.to) short

  late : (s : State) → span.to < s.cycle → is_in span s ≡ false
  late s l =
      let long : nat_le s.cycle span.to ≡ false = grind (arith, nat_tests) in
      ap (λ (b : Bool). nat_le span.from s.cycle && b) long ∙ none_of (nat_le span.from s.cycle)

  pub none_seen : (s : State) (ss : List State) → is_in span s ≡ false → sights_in span spec (s ∷ ss) ≡ sights_in span spec ss
  none_seen s ss e = sights_by_first s ss ∙ ap (λ (xs : List Sight). xs ++ sights_in span spec ss) (unseen s e)

  pub none_late : (from : ℕ) (ss : List State) → span.to < from → GoForward from ss → sights_in span spec ss ≡ []
  unfolding sights_in
  none_late from [] l h = refl
  none_late from (s ∷ ss) l h = none_seen s ss (late s (omega (arith, h.0))) ∙ none_late s.cycle ss (omega (arith, h.0)) h.1

  -- past the last cycle no state shows anything
  pub none_past : (s : State) → span.to < s.cycle → sights_in span spec (states_of s) ≡ []
  none_past s l = none_late s.cycle (states_of s) l (states_go_forward s)

  -- what a run shows if it continues, and if it has stopped
  pub sights_go_on : (s : State) → is_some s.stopped ≡ false →
      sights_in span spec (states_of s) ≡ sights_in span spec (s ∷ []) ++ sights_in span spec (states_of (boundary None s).0)
  sights_go_on s e = ap (λ (ss : List State). sights_in span spec ss) (states_go_on s e) ∙ sights_by_first s (states_of (boundary None s).0)

  pub sights_end : (s : State) → is_some s.stopped ≡ true → sights_in span spec (states_of s) ≡ sights_in span spec (s ∷ [])
  sights_end s e = ap (λ (ss : List State). sights_in span spec ss) (states_end s e)

  pub after_stop : (o : Option Stop) (s : State) → s.stopped ≡ o → is_some o ≡ true → (boundary None s).0 ≡ s
  after_stop (Some why) s e f = ap (λ (r : State × Stepped). r.0) (stopped_stays s why e)
  after_stop None s e f = cc

  early_by : (b : Bool) (s : State) → is_some s.stopped ≡ b → s.cycle < span.from →
      sights_in span spec (states_of (boundary None s).0) ≡ sights_in span spec (states_of s)
  early_by true s e l = ap (λ (t : State). sights_in span spec (states_of t)) (after_stop s.stopped s refl e)
  early_by false s e l =
      sym (sights_go_on s e
      ∙ ap (λ (xs : List Sight). xs ++ sights_in span spec (states_of (boundary None s).0)) (unseen s (early s l)))

  no_early_sight : (s : State) → s.cycle < span.from → sights_in span spec (states_of (boundary None s).0) ≡ sights_in span spec (states_of s)
  no_early_sight s l = early_by (is_some s.stopped) s refl l

  -- on the way to the first cycle no state shows anything
  pub none_before : (end : ℕ) (s t : State) (answer : Stepped) → end ≤ span.from → s.cycle < span.from → (t, answer) ≡ next_before end s →
      sights_in span spec (states_of t) ≡ sights_in span spec (states_of s)
  none_before = stays_before (λ (s : State). sights_in span spec (states_of s)) span.from no_early_sight
