-- What the changes of a run show at a cycle: what its tables show then.
use Rattle.std.proofs.Common.{◌≡◌, ◌⊎◌, inl, inr, ℕ, ◌≤◌, ◌<◌, suc, zero, List, [], ◌∷◌, Option, None, Some, Bool, true, false, refl, ap, sym, ◌∙◌, subst, arith}
use Rattle.std.specs.Prelude.{if◌then◌else◌, cond, nat_le, ◌&&◌, map, is_some}
use Rattle.std.specs.Str.{bytes_eq}
use Rattle.std.proofs.lemmas.Bool.Decides.{leb_tells, nat_tests, not_from_Decides}
use Rattle.std.proofs.lemmas.Slice.Eq.{bytes_eq-Decides}
use Rattle.agc_machine.specs.Boundary.{boundary}
use Rattle.agc_machine.specs.Laws.{after}
use Rattle.agc_machine.specs.State.{State}
use Rattle.agc_machine.specs.declared.answer.Stop.{Stop}
use Rattle.agc_machine.proofs.Chain.{boundary_falls, stopped_for_ever}
use Rattle.agc_panel.specs.declared.watch_spec.WatchSpec.{WatchSpec}
use Rattle.agc_timeline.specs.ChangeLaws.{AreChanges, shown_at, tables_at, up_to}
use Rattle.agc_timeline.specs.Changes.{Sight, changes, changes_in, shown_after, sight_of, sights_in}
use Rattle.agc_timeline.specs.States.{states_of}
use Rattle.agc_trace.specs.declared.span.Span.{Span}
use Rattle.agc_timeline.proofs.Sights.{early, inside, none_seen, seen_first}
use Rattle.agc_timeline.proofs.States.{GoForward, never_earlier, states_by_first, states_go_forward, states_go_on}

-- sights up to a cycle, none of which comes before its predecessor
abbrev pub NeverBack : ℕ → ℕ → List Sight → Type 0
NeverBack from to [] = Unit {0}
NeverBack from to (x ∷ xs) = (from ≤ x.cycle) × (x.cycle ≤ to) × NeverBack x.cycle to xs

pub back_later : (from later to : ℕ) (xs : List Sight) → from ≤ later → NeverBack later to xs → NeverBack from to xs
back_later from later to [] l h = tt
back_later from later to (x ∷ xs) l h = (omega (arith, h.0), h.1, h.2)

-- changes of such sights are such sights, and each is a change
change_by : (b : Bool) (from to : ℕ) (shown : List ℕ) (x : Sight) (rest others : List Sight) → bytes_eq shown x.text ≡ b → from ≤ x.cycle → x.cycle ≤ to →
    AreChanges x.cycle to shown others → AreChanges x.cycle to x.text rest → AreChanges from to shown (if b then others else x ∷ rest)
change_by true from to shown x rest [] e l m h k = tt
change_by true from to shown x rest (y ∷ others) e l m h k = (omega (arith, l, h.0), h.1, h.2, h.3)
change_by false from to shown x rest others e l m h k =
    (l, m, λ same. not_from_Decides _ (bytes_eq-Decides shown x.text) e (sym same), k)

pub are_changes : (from to : ℕ) (shown : List ℕ) (xs : List Sight) → NeverBack from to xs → AreChanges from to shown (changes shown xs)
unfolding changes
are_changes from to shown [] h = tt
are_changes from to shown (x ∷ xs) h =
    change_by (bytes_eq shown x.text) from to shown x (changes x.text xs) (changes shown xs) refl h.0 h.1
    (are_changes x.cycle to shown xs h.2) (are_changes x.cycle to x.text xs h.2)

-- sights in a span go forward
in_by : (a b : Bool) (span : Span) (spec : WatchSpec) (from : ℕ) (s : State) (xs : List Sight) → nat_le span.from s.cycle ≡ a → nat_le s.cycle span.to ≡ b → from ≤ s.cycle →
    NeverBack s.cycle span.to xs → NeverBack from span.to (if a && b then sight_of spec s ∷ xs else xs)
in_by true true span spec from s xs e f l h = (l, grind (arith, nat_tests), h)
in_by true false span spec from s xs e f l h = back_later from s.cycle span.to xs l h
in_by false b span spec from s xs e f l h = back_later from s.cycle span.to xs l h

pub no_sights : (span : Span) (spec : WatchSpec) → sights_in span spec [] ≡ []
unfolding sights_in
no_sights span spec = refl

pub sights_forward : (span : Span) (spec : WatchSpec) (from : ℕ) (ss : List State) → GoForward from ss → NeverBack from span.to (sights_in span spec ss)
sights_forward span spec from [] h = subst (λ (xs : List Sight). NeverBack from span.to xs) (sym (no_sights span spec)) tt
sights_forward span spec from (s ∷ ss) h =
    subst (λ (xs : List Sight). NeverBack from span.to xs) (sym (seen_first span spec s ss))
    (in_by (nat_le span.from s.cycle) (nat_le s.cycle span.to) span spec from s (sights_in span spec ss) refl refl h.0 (sights_forward span spec s.cycle ss h.1))

-- sights in a span are not before it
later_by : (a b : Bool) (span : Span) (spec : WatchSpec) (s : State) (xs : List Sight) → nat_le span.from s.cycle ≡ a → nat_le s.cycle span.to ≡ b →
    NeverBack s.cycle span.to xs → NeverBack span.from span.to xs → NeverBack span.from span.to (if a && b then sight_of spec s ∷ xs else xs)
later_by true true span spec s xs e f h k = (grind (arith, nat_tests), grind (arith, nat_tests), h)
later_by true false span spec s xs e f h k = k
later_by false b span spec s xs e f h k = k

pub sights_later : (span : Span) (spec : WatchSpec) (from : ℕ) (ss : List State) → GoForward from ss → NeverBack span.from span.to (sights_in span spec ss)
sights_later span spec from [] h = subst (λ (xs : List Sight). NeverBack span.from span.to xs) (sym (no_sights span spec)) tt
sights_later span spec from (s ∷ ss) h =
    subst (λ (xs : List Sight). NeverBack span.from span.to xs) (sym (seen_first span spec s ss))
    (later_by (nat_le span.from s.cycle) (nat_le s.cycle span.to) span spec s (sights_in span spec ss) refl refl
    (sights_forward span spec s.cycle ss h.1) (sights_later span spec s.cycle ss h.1))

pub each_is_a_change : (span : Span) (spec : WatchSpec) (s : State) → AreChanges span.from span.to [] (changes_in span spec s)
unfolding changes_in
each_is_a_change span spec s =
    are_changes span.from span.to [] (sights_in span spec (states_of s)) (sights_later span spec s.cycle (states_of s) (states_go_forward s))

-- What is shown at a cycle.
module _ (cycle : ℕ) where
  pub none_up_to : (from to : ℕ) (xs : List Sight) → cycle < from → NeverBack from to xs → up_to cycle xs ≡ []
  none_up_to from to [] l h = refl
  none_up_to from to (x ∷ xs) l h =
      let late : nat_le x.cycle cycle ≡ false = grind (arith, nat_tests, h.0) in
      let rest : List Sight = up_to cycle xs in
      ap (λ (b : Bool). cond b (x ∷ rest) rest) late ∙ none_up_to x.cycle to xs (omega (arith, h.0)) h.2

  back_of : (from to : ℕ) (shown : List ℕ) (xs : List Sight) → AreChanges from to shown xs → NeverBack from to xs
  back_of from to shown [] h = tt
  back_of from to shown (x ∷ xs) h = (h.0, h.1, back_of x.cycle to x.text xs h.3)

  abbrev pub after_up_to : List ℕ → List Sight → List ℕ
  after_up_to shown xs = shown_after shown (up_to cycle xs)

  pub first_in : (shown : List ℕ) (x : Sight) (xs : List Sight) → x.cycle ≤ cycle → after_up_to shown (x ∷ xs) ≡ after_up_to x.text xs
  first_in shown x xs l =
      let here : nat_le x.cycle cycle ≡ true = grind (arith, nat_tests) in
      let rest : List Sight = up_to cycle xs in
      ap (λ (b : Bool). shown_after shown (cond b (x ∷ rest) rest)) here

  first_out : (shown : List ℕ) (x : Sight) (xs : List Sight) → cycle < x.cycle → after_up_to shown (x ∷ xs) ≡ after_up_to shown xs
  first_out shown x xs l =
      let late : nat_le x.cycle cycle ≡ false = grind (arith, nat_tests) in
      let rest : List Sight = up_to cycle xs in
      ap (λ (b : Bool). shown_after shown (cond b (x ∷ rest) rest)) late

  same_by : (b : Bool) (to : ℕ) (shown : List ℕ) (x : Sight) (xs : List Sight) → bytes_eq shown x.text ≡ b → NeverBack x.cycle to xs →
      after_up_to shown (changes shown xs) ≡ after_up_to shown xs → after_up_to x.text (changes x.text xs) ≡ after_up_to x.text xs →
      (x.cycle ≤ cycle) ⊎ (cycle < x.cycle) →
      after_up_to shown (if b then changes shown xs else x ∷ changes x.text xs) ≡ after_up_to shown (x ∷ xs)
  same_by true to shown x xs e h k m (inl l) =
      k ∙ ap (λ (text : List ℕ). after_up_to text xs) ((bytes_eq-Decides shown x.text).0 e) ∙ sym (first_in shown x xs l)
  same_by true to shown x xs e h k m (inr l) = k ∙ sym (first_out shown x xs l)
  same_by false to shown x xs e h k m (inl l) = first_in shown x (changes x.text xs) l ∙ m ∙ sym (first_in shown x xs l)
  same_by false to shown x xs e h k m (inr l) =
      first_out shown x (changes x.text xs) l
      ∙ ap (λ (ys : List Sight). shown_after shown ys)
      (none_up_to x.cycle to (changes x.text xs) l (back_of x.cycle to x.text (changes x.text xs) (are_changes x.cycle to x.text xs h)) ∙ sym (none_up_to x.cycle to xs l h))
      ∙ sym (first_out shown x xs l)

  pub either : (n : ℕ) → (n ≤ cycle) ⊎ (cycle < n)
  either n = elim (leb_tells n cycle) [
    | inl early ↦ inl early.1
    | inr late ↦ inr (omega (arith, late.1))
  ]

  -- the changes of sights show what the sights do
  pub changes_show : (from to : ℕ) (shown : List ℕ) (xs : List Sight) → NeverBack from to xs → after_up_to shown (changes shown xs) ≡ after_up_to shown xs
  unfolding changes
  changes_show from to shown [] h = refl
  changes_show from to shown (x ∷ xs) h =
      same_by (bytes_eq shown x.text) to shown x xs refl h.2 (changes_show x.cycle to shown xs h.2) (changes_show x.cycle to x.text xs h.2) (either x.cycle)

  module _ (span : Span) (spec : WatchSpec) where
    abbrev pub in_span : List ℕ → List State → List ℕ
    in_span shown ss = after_up_to shown (sights_in span spec ss)

    abbrev pub in_all : List ℕ → List State → List ℕ
    in_all shown ss = after_up_to shown (map (sight_of spec) ss)

    all_back : (from : ℕ) (ss : List State) → cycle < from → GoForward from ss → up_to cycle (map (sight_of spec) ss) ≡ []
    all_back from [] l h = refl
    all_back from (s ∷ ss) l h =
        let late : nat_le s.cycle cycle ≡ false = grind (arith, nat_tests, h.0) in
        let rest : List Sight = up_to cycle (map (sight_of spec) ss) in
        ap (λ (b : Bool). cond b (sight_of spec s ∷ rest) rest) late ∙ all_back s.cycle ss (omega (arith, h.0)) h.1

    -- if no state is before the span, all show the same as those in it
    tail_by : (shown : List ℕ) (s : State) (ss : List State) → span.from ≤ s.cycle → cycle ≤ span.to → GoForward s.cycle ss →
        ((text : List ℕ) → in_span text ss ≡ in_all text ss) → (s.cycle ≤ cycle) ⊎ (cycle < s.cycle) → in_span shown (s ∷ ss) ≡ in_all shown (s ∷ ss)
    tail_by shown s ss l m h k (inl early) =
        ap (λ (xs : List Sight). after_up_to shown xs) (inside span spec s ss l (omega (arith, early, m)))
        ∙ first_in shown (sight_of spec s) (sights_in span spec ss) early ∙ k (sight_of spec s).text
        ∙ sym (first_in shown (sight_of spec s) (map (sight_of spec) ss) early)
    tail_by shown s ss l m h k (inr late) =
        ap (λ (xs : List Sight). shown_after shown xs)
        (none_up_to s.cycle span.to (sights_in span spec (s ∷ ss)) late (sights_forward span spec s.cycle (s ∷ ss) (omega arith, h)) ∙ sym (all_back s.cycle (s ∷ ss) late (omega arith, h)))

    pub tail_same : (from : ℕ) (shown : List ℕ) (ss : List State) → span.from ≤ from → cycle ≤ span.to → GoForward from ss → in_span shown ss ≡ in_all shown ss
    unfolding sights_in
    tail_same from shown [] l m h = refl
    tail_same from shown (s ∷ ss) l m h =
        tail_by shown s ss (omega (arith, l, h.0)) m h.1 (λ text. tail_same s.cycle text ss (omega (arith, l, h.0)) m h.1) (either s.cycle)

    at_once : (s : State) → (after zero s).cycle ≡ s.cycle
    unfolding after
    at_once s = refl

    next_from : (n : ℕ) (s : State) → span.from ≤ (after (suc n) s).cycle → span.from ≤ (after n (boundary None s).0).cycle
    unfolding after
    next_from n s l = l

    next_to : (n : ℕ) (s : State) → (after (suc n) s).cycle ≤ cycle → (after n (boundary None s).0).cycle ≤ cycle
    unfolding after
    next_to n s l = l

    after_later : (n : ℕ) (s : State) → s.cycle ≤ (after n s).cycle
    unfolding after
    after_later zero s = omega arith
    after_later (suc n) s = omega (arith, never_earlier s (boundary None s) (boundary_falls s), after_later n (boundary None s).0)

    stays_by : (o : Option Stop) (n : ℕ) (s : State) → s.stopped ≡ o → is_some o ≡ true → after n s ≡ s
    stays_by (Some why) n s e f = stopped_for_ever n s why e
    stays_by None n s e f = cc

    goes_by : (b : Bool) (n : ℕ) (shown before : List ℕ) (s : State) → is_some s.stopped ≡ b → s.cycle < span.from → span.from ≤ (after (suc n) s).cycle → s.cycle ≤ cycle →
        ((text : List ℕ) → in_span shown (states_of (boundary None s).0) ≡ in_all text (states_of (boundary None s).0)) →
        in_span shown (states_of s) ≡ in_all before (states_of s)
    goes_by true n shown before s e l m c h = absurd (omega (arith, l, m, ap (λ (t : State). t.cycle) (stays_by s.stopped (suc n) s refl e)))
    goes_by false n shown before s e l m c h =
        let t = (boundary None s).0 in
        ap (λ (ss : List State). in_span shown ss) (states_go_on s e)
        ∙ ap (λ (xs : List Sight). after_up_to shown xs) (none_seen span spec s (states_of t) (early span spec s l))
        ∙ h (sight_of spec s).text
        ∙ sym (first_in before (sight_of spec s) (map (sight_of spec) (states_of t)) c)
        ∙ sym (ap (λ (ss : List State). in_all before ss) (states_go_on s e))

    -- the first state of the span
    here_by : (shown before : List ℕ) (s : State) (ss : List State) → span.from ≤ s.cycle → s.cycle ≤ cycle → cycle ≤ span.to → GoForward s.cycle ss →
        in_span shown (s ∷ ss) ≡ in_all before (s ∷ ss)
    here_by shown before s ss l c m h =
        ap (λ (xs : List Sight). after_up_to shown xs) (inside span spec s ss l (omega (arith, c, m)))
        ∙ first_in shown (sight_of spec s) (sights_in span spec ss) c ∙ tail_same s.cycle (sight_of spec s).text ss l m h
        ∙ sym (first_in before (sight_of spec s) (map (sight_of spec) ss) c)

    begun : (n : ℕ) → (span.from ≤ n) ⊎ (n < span.from)
    begun n = elim (leb_tells span.from n) [
      | inl here ↦ inl here.1
      | inr early ↦ inr (omega (arith, early.1))
    ]

    -- from the first state of the span on, what is shown is what the tables show
    shown_by : (n : ℕ) (shown before : List ℕ) (s : State) → span.from ≤ (after n s).cycle → (after n s).cycle ≤ cycle → cycle ≤ span.to →
        (span.from ≤ s.cycle) ⊎ (s.cycle < span.from) → in_span shown (states_of s) ≡ in_all before (states_of s)
    shown_by n shown before s l m c (inl here) =
        let rest = if is_some s.stopped then [] else states_of (boundary None s).0 in
        ap (λ (ss : List State). in_span shown ss) (states_by_first s)
        ∙ here_by shown before s rest here (omega (arith, after_later n s, m)) c
        (subst (λ (ss : List State). GoForward s.cycle ss) (states_by_first s) (states_go_forward s)).1
        ∙ sym (ap (λ (ss : List State). in_all before ss) (states_by_first s))
    shown_by zero shown before s l m c (inr early) = absurd (omega (arith, at_once s, l, early))
    shown_by (suc n) shown before s l m c (inr early) =
        goes_by (is_some s.stopped) n shown before s refl early l (omega (arith, early, l, m))
        (λ text. shown_by n shown text (boundary None s).0 (next_from n s l) (next_to n s m) c (begun (boundary None s).0.cycle))

pub changes_are_the_tables : (span : Span) (spec : WatchSpec) (s : State) (n cycle : ℕ) → span.from ≤ (after n s).cycle →
    (after n s).cycle ≤ cycle → cycle ≤ span.to → shown_at (changes_in span spec s) cycle ≡ tables_at spec s cycle
unfolding shown_at tables_at changes_in
changes_are_the_tables span spec s n cycle l m c =
    changes_show cycle span.from span.to [] (sights_in span spec (states_of s)) (sights_later span spec s.cycle (states_of s) (states_go_forward s))
    ∙ shown_by cycle span spec n [] [] s l m c (begun cycle span spec s.cycle)
