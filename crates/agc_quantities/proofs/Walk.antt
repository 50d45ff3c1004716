-- A run over states that are not due: boundary by boundary, and to the next write or a cycle at once.
use Rattle.std.proofs.Common.{◌≡◌, ◌⊎◌, inl, inr, ℕ, ◌+◌, ◌≤◌, ◌<◌, suc, zero, Some, None, Bool, true, false, refl, ap, sym, ◌∙◌, subst, arith}
use Rattle.std.specs.Prelude.{if◌then◌else◌, nat_le, nat_lt, ◌&&◌, ◌-◌, Option, IsSome}
use Rattle.std.proofs.lemmas.Bool.Decides.{nat_tests}
use Rattle.agc_word.specs.declared.channel_write.ChannelWrite.{ChannelWrite}
use Rattle.agc_machine.specs.Boundary.{boundary}
use Rattle.agc_machine.specs.Laws.{Falls, after}
use Rattle.agc_machine.specs.Run.{boundaries_left, next_before, next_before_within, while_quiet_before}
use Rattle.agc_machine.specs.State.{State}
use Rattle.agc_machine.specs.declared.answer.Stepped.{Stepped}
use Rattle.agc_machine.specs.declared.answer.Stepped.TheVariants as stepped
use Rattle.agc_machine.specs.declared.answer.Stop.{Stop}
use Rattle.agc_machine.proofs.Before.{fewer_after_way, next_at_way_write}
use Rattle.agc_machine.proofs.Chain.{boundary_falls, fewer_after_write}
use Rattle.agc_quantities.specs.Due.{earliest, is_due, is_first}
use Rattle.agc_quantities.specs.Walk.{Finds, IsFirst, has_reached}
use Rattle.agc_quantities.specs.declared.sample.Sample.{Sample}
use Rattle.agc_quantities.specs.declared.sampler.Plan.{Plan}
use Rattle.agc_quantities.specs.declared.sampler.Schedule.{Schedule}
use Rattle.agc_quantities.specs.declared.sampler.Schedule.TheVariants as schedule

after_at : (a b : ℕ) (s : State) → a ≡ b → after a s ≡ after b s
after_at a b s e = ap (λ (n : ℕ). after n s) e

after_more : (a b : ℕ) (s : State) → after (a + b) s ≡ after b (after a s)
unfolding after
after_more zero b s = after_at (zero + b) b s (omega arith)
after_more (suc a) b s = after_at (suc a + b) (suc (a + b)) s (omega arith) ∙ after_more a b (boundary None s).0

module _ (due : State → Bool) where
  -- no boundary
  pub first_here : (s : State) → IsFirst due s s
  unfolding after
  first_here s = record { boundaries = zero; reached = refl; none_before = λ k l. absurd (omega arith) }

  none_at_start : (k : ℕ) (s : State) → due s ≡ false → k < suc zero → due (after k s) ≡ false
  unfolding after
  none_at_start zero s e l = e
  none_at_start (suc k) s e l = absurd (omega arith)

  -- one boundary
  pub first_step : (s : State) → due s ≡ false → IsFirst due s (boundary None s).0
  unfolding after
  first_step s e = record { boundaries = suc zero; reached = refl; none_before = λ k l. none_at_start k s e l }

  none_in_both : (a b k : ℕ) (s t : State) → t ≡ after a s → ((j : ℕ) → j < a → due (after j s) ≡ false) →
      ((j : ℕ) → j < b → due (after j t) ≡ false) → k < a + b → (is : Bool) → nat_lt k a ≡ is → due (after k s) ≡ false
  none_in_both a b k s t e f g l true is = f k (grind (arith, nat_tests))
  none_in_both a b k s t e f g l false is =
      let past : a ≤ k = grind (arith, nat_tests) in
      ap due (after_at k (a + (k - a)) s (omega arith) ∙ after_more a (k - a) s ∙ ap (after (k - a)) (sym e)) ∙ g (k - a) (omega arith)

  -- one way after another
  pub first_join : (s t u : State) → IsFirst due s t → IsFirst due t u → IsFirst due s u
  first_join s t u h m =
      record {
        boundaries = h.boundaries + m.boundaries;
        reached = m.reached ∙ ap (after m.boundaries) h.reached ∙ sym (after_more h.boundaries m.boundaries s);
        none_before = λ k l. none_in_both h.boundaries m.boundaries k s t h.reached h.none_before m.none_before l (nat_lt k h.boundaries) refl;
      }

-- where nothing is due for one reason, nothing is due for a narrower one
pub first_of_fewer : (due other : State → Bool) (s t : State) → ((u : State) → due u ≡ false → other u ≡ false) → IsFirst due s t → IsFirst other s t
first_of_fewer due other s t f h =
    record { boundaries = h.boundaries; reached = h.reached; none_before = λ k l. f (after k s) (h.none_before k l) }

not_reached : (cycle : ℕ) (s : State) → s.cycle < cycle → has_reached cycle s ≡ false
not_reached cycle s l = grind (arith, nat_tests)

-- the way to a write or to a cycle, which is before a later cycle
module _ (from : ℕ) where
  abbrev IsWay : State → State × Stepped → Type 0
  IsWay s r = IsFirst (has_reached from) s r.0

  either_way : (b : Bool) (s t : State) (way : State × Stepped) → IsWay s (t, stepped.Quiet) → (b ≡ false → IsWay t way) →
      IsWay s (if b then (t, stepped.Quiet) else way)
  either_way true s t way h f = h
  either_way false s t way h f = first_join (has_reached from) s t way.0 h (f refl)

  way_by : (n end : ℕ) (s : State) (r : State × Stepped) → end ≤ from → IsWay s r →
      ((t : State) → t.cycle < from → IsWay t (next_before_within n end t)) → IsWay s (while_quiet_before end (next_before_within n end) r)
  way_by n end s (t, stepped.Quiet) l h f =
      either_way (nat_le end t.cycle) s t (next_before_within n end t) h (λ e. f t (grind (arith, nat_tests)))
  way_by n end s (t, stepped.Wrote write) l h f = h
  way_by n end s (t, stepped.Stopped why) l h f = h

  way_within : (n end : ℕ) (s : State) → end ≤ from → s.cycle < from → IsWay s (next_before_within n end s)
  unfolding next_before_within
  way_within zero end s l k = first_here (has_reached from) s
  way_within (suc n) end s l k =
      way_by n end s (boundary None s) l (first_step (has_reached from) s (not_reached from s k)) (λ t m. way_within n end t l m)

  pub first_on_way : (end : ℕ) (s t : State) (answer : Stepped) → end ≤ from → s.cycle < from → (t, answer) ≡ next_before end s →
      IsFirst (has_reached from) s t
  unfolding next_before
  first_on_way end s t answer l k e =
      subst (λ (r : State × Stepped). IsWay s r) (sym e) (way_within (boundaries_left s) end s l k)

-- the way leaves fewer boundaries
pub fewer_on_way : (end : ℕ) (s t : State) (answer : Stepped) → (t, answer) ≡ next_before end s →
    (answer ≡ stepped.Quiet) ⊎ ((write : ChannelWrite) × (answer ≡ stepped.Wrote write)) → boundaries_left t < boundaries_left s
fewer_on_way end s t stepped.Quiet e goes = fewer_after_way end s t e
fewer_on_way end s t (stepped.Wrote write) e goes = fewer_after_write s t write (next_at_way_write end s t write e)
fewer_on_way end s t (stepped.Stopped why) e (inl quiet) = cc
fewer_on_way end s t (stepped.Stopped why) e (inr wrote) = let is = wrote.1 in cc

-- and so does a boundary
fewer_by : (s t : State) (answer : Stepped) → Falls s (t, answer) →
    (answer ≡ stepped.Quiet) ⊎ ((write : ChannelWrite) × (answer ≡ stepped.Wrote write)) → boundaries_left t < boundaries_left s
fewer_by s t stepped.Quiet h goes = h.0
fewer_by s t (stepped.Wrote write) h goes = h.0
fewer_by s t (stepped.Stopped why) h (inl quiet) = cc
fewer_by s t (stepped.Stopped why) h (inr wrote) = let is = wrote.1 in cc

pub fewer_after_boundary : (s t : State) (answer : Stepped) → (t, answer) ≡ boundary None s →
    (answer ≡ stepped.Quiet) ⊎ ((write : ChannelWrite) × (answer ≡ stepped.Wrote write)) → boundaries_left t < boundaries_left s
fewer_after_boundary s t answer e goes = fewer_by s t answer (subst (Falls s) (sym e) (boundary_falls s)) goes

pub stepped_to : (s t : State) (answer : Stepped) → (t, answer) ≡ boundary None s → t ≡ (boundary None s).0
stepped_to s t answer e = ap (λ (r : State × Stepped). r.0) e

-- a boundary that stops leaves a state that has stopped
pub stopped_after : (s t : State) (why : Stop) → (t, stepped.Stopped why) ≡ boundary None s → IsSome t.stopped
stopped_after s t why e =
    let h : Falls s (t, stepped.Stopped why) = subst (Falls s) (sym e) (boundary_falls s) in
    subst (λ (o : Option Stop). IsSome o) (sym h.0) refl

never_early : (n : ℕ) (b : Bool) → nat_le 0 n ≡ false → b ≡ false
never_early n b e = let l : n < 0 = grind (arith, nat_tests) in absurd (omega arith)

-- before the earliest cycle no state is due
none_after : (when : Schedule) (from to : ℕ) (last : Sample) (u : State) →
    has_reached (earliest (record { schedule = when; from = from; to = to }) (Some last)) u ≡ false →
    is_due (record { schedule = when; from = from; to = to }) (Some last) u ≡ false
none_after (schedule.Every period) from to last u e = e
none_after (schedule.At places) from to last u e = never_early u.cycle _ e
none_after schedule.Changes from to last u e = never_early u.cycle _ e

pub none_is_early : (plan : Plan) (last : Option Sample) (u : State) → has_reached (earliest plan last) u ≡ false → is_due plan last u ≡ false
none_is_early plan None u e = ap (λ (b : Bool). b && is_first plan.schedule u) e
none_is_early plan (Some last) u e = none_after plan.schedule plan.from plan.to last u e

-- a way of which no state is due before a state on it
pub first_after : (due : State → Bool) (s t u : State) (answer : Stepped) → IsFirst due s t → due t ≡ false → (u, answer) ≡ boundary None t → IsFirst due s u
first_after due s t u answer h e b =
    first_join due s t u h (subst (IsFirst due t) (sym (stepped_to t u answer b)) (first_step due t e))

pub first_early : (plan : Plan) (last : Option Sample) (s t : State) → IsFirst (has_reached (earliest plan last)) s t → IsFirst (is_due plan last) s t
first_early plan last s t h = first_of_fewer (has_reached (earliest plan last)) (is_due plan last) s t (none_is_early plan last) h

apart : (b : Bool) {P : Type 0} → b ≡ false → b ≡ true → P
apart b e h = let no : false ≡ true = sym e ∙ h in cc

-- the boundary that stops leads to a state that is due and in the range
pub found_at_stop : (due : State → Bool) (to : ℕ) (s t u : State) (why : Stop) (found : Bool) → IsFirst due s t → due t ≡ false →
    (u, stepped.Stopped why) ≡ boundary None t → found ≡ due u → u.cycle ≤ to → Finds due to s u found
found_at_stop due to s t u why found h e b f l =
    record {
      first = first_after due s t u (stepped.Stopped why) h e b;
      holds = λ is. sym f ∙ is;
      in_range = λ is. l;
      none = λ is. inr (stopped_after t u why b);
    }

-- or to one that is past the range
pub none_at_stop : (due : State → Bool) (to cycle : ℕ) (s t u : State) (why : Stop) → IsFirst due s t → due t ≡ false →
    (u, stepped.Stopped why) ≡ boundary None t → to < cycle → Finds due to s u (nat_le cycle to)
none_at_stop due to cycle s t u why h e b l =
    let past : nat_le cycle to ≡ false = grind (arith, nat_tests) in
    record {
      first = first_after due s t u (stepped.Stopped why) h e b;
      holds = λ is. apart (nat_le cycle to) past is;
      in_range = λ is. apart (nat_le cycle to) past is;
      none = λ is. inr (stopped_after t u why b);
    }
