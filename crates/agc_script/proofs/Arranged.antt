-- A stable sort by cycle gives the one arrangement.
use Rattle.std.specs.Prelude.{◌≡◌, ℕ, suc, ◌≤◌, ◌<◌, ◌==◌, Bool, true, false, List, [], ◌∷◌, filter, All}
use Rattle.std.specs.List.Sorted.{IsSortedByKey, IsStableByKey, IsNonDecreasingBy, ties}
use Rattle.std.specs.Ordering.{nat_cmp, is_lt}
use Rattle.std.proofs.Common.{refl, arith, ap, ◌∙◌, sym, cond, inl, inr}
use Rattle.std.proofs.lemmas.Bool.{eq-eqb, ne_eqb, eqb-true, cases_lt}
use Rattle.std.proofs.lemmas.Bool.Decides.{nat_tests, leb_tells}
use Rattle.std.proofs.lemmas.List.Elements.{filter_agree, All-tail, All-cons, All-nil}
use Rattle.std.proofs.lemmas.List.Sorted.{IsNonDecreasingBy-from_sort}
use Rattle.agc_script.specs.declared.event.Event.{Event}
use Rattle.agc_script.specs.declared.event.What.TheVariants as what
use Rattle.agc_script.specs.Script.{IsInOrder}
use Rattle.agc_script.specs.Parse.{put_in, arranged}

abbrev at_cycle : ℕ → Event → Bool
at_cycle c event = event.cycle == c

-- in order by places, in order by recursion
in_order_from : (ys : List Event) → IsNonDecreasingBy (λ e. e.cycle) ys → IsInOrder ys
unfolding IsInOrder
in_order_from [] h = tt
in_order_from (y ∷ ys) h =
    ((λ k d l. h 0 (suc k) d (omega arith) (omega arith)), in_order_from ys (λ i j d a b. h (suc i) (suc j) d (omega arith) (omega arith)))

-- if all come later, none is at the cycle
none_at : (c : ℕ) (zs : List Event) → All (λ e. c < e.cycle) zs → filter (at_cycle c) zs ≡ []
none_at c [] h = refl
none_at c (z ∷ zs) h =
    let later : c < z.cycle = h 0 z (omega arith) in
    let not_here : (z.cycle == c) ≡ false = ne_eqb z.cycle c (λ e. omega arith) in
    rw not_here (none_at c zs (All-tail (λ e. c < e.cycle) z zs h))

-- an event is found at its own cycle
keeps_at : (c : ℕ) (y : Event) (ys : List Event) → y.cycle ≡ c → filter (at_cycle c) (y ∷ ys) ≡ y ∷ filter (at_cycle c) ys
keeps_at c y ys h = rw (eq-eqb y.cycle c h)

keeps_first : (y : Event) (ys : List Event) → filter (at_cycle y.cycle) (y ∷ ys) ≡ y ∷ filter (at_cycle y.cycle) ys
keeps_first y ys = keeps_at y.cycle y ys refl

-- the first of a list in order is not later than the first that another such list has at some cycle
not_later : (y z : Event) (ys zs : List Event) → IsInOrder (z ∷ zs) → filter (at_cycle y.cycle) (y ∷ ys) ≡ filter (at_cycle y.cycle) (z ∷ zs) → z.cycle ≤ y.cycle
unfolding IsInOrder
not_later y z ys zs h e =
    elim (cases_lt y.cycle z.cycle) as (λ _. z.cycle ≤ y.cycle) [
      | inl l ↦
          let later : All (λ e. y.cycle < e.cycle) (z ∷ zs) = All-cons (λ e. y.cycle < e.cycle) z zs l (λ k d m. omega (arith, h.0 k d m)) in
          let none : y ∷ filter (at_cycle y.cycle) ys ≡ [] = sym (keeps_first y ys) ∙ e ∙ none_at y.cycle (z ∷ zs) later in
          cc
      | inr g ↦ g
    ]

tail_same : (y : Event) (b : Bool) (F G : List Event) → cond b (y ∷ F) F ≡ cond b (y ∷ G) G → F ≡ G
tail_same y true F G e = cc
tail_same y false F G e = e

-- two lists in order that agree at each cycle are one
same_list : (ys zs : List Event) → IsInOrder ys → IsInOrder zs → ((c : ℕ) → filter (at_cycle c) ys ≡ filter (at_cycle c) zs) → ys ≡ zs
unfolding IsInOrder
same_list [] [] a b e = refl
same_list [] (z ∷ zs) a b e =
    let none : [] ≡ z ∷ filter (at_cycle z.cycle) zs = e z.cycle ∙ keeps_first z zs in cc
same_list (y ∷ ys) [] a b e =
    let none : y ∷ filter (at_cycle y.cycle) ys ≡ [] = sym (keeps_first y ys) ∙ e y.cycle in cc
same_list (y ∷ ys) (z ∷ zs) a b e =
    let low : z.cycle ≤ y.cycle = not_later y z ys zs b (e y.cycle) in
    let high : y.cycle ≤ z.cycle = not_later z y zs ys a (sym (e z.cycle)) in
    let cycle : y.cycle ≡ z.cycle = omega arith in
    let here : filter (at_cycle y.cycle) (z ∷ zs) ≡ z ∷ filter (at_cycle y.cycle) zs = keeps_at y.cycle z zs (sym cycle) in
    let firsts : y ∷ filter (at_cycle y.cycle) ys ≡ z ∷ filter (at_cycle y.cycle) zs = sym (keeps_first y ys) ∙ e y.cycle ∙ here in
    let first : y ≡ z = cc in
    let rest : ys ≡ zs = same_list ys zs a.1 b.1 (λ c. tail_same y (at_cycle c y) _ _ (e c ∙ ap (λ (x : Event). filter (at_cycle c) (x ∷ zs)) (sym first))) in
    cc

-- what holds of all events and of one more
All-put_in : (P : Event → Type 0) (event : Event) (events : List Event) → P event → All P events → All P (put_in event events)
unfolding put_in
All-put_in P event [] p h = All-cons P event [] p h
All-put_in P event (first ∷ events) p h =
    elim (leb_tells event.cycle first.cycle) as (λ _. All P (put_in event (first ∷ events))) [
      | inl w ↦ rw w.0 (All-cons P event (first ∷ events) p h)
      | inr w ↦ rw w.0 (All-cons P first (put_in event events) (h 0 first (omega arith)) (All-put_in P event events p (All-tail P first events h)))
    ]

-- one more event in its place
put_in-in_order : (event : Event) (events : List Event) → IsInOrder events → IsInOrder (put_in event events)
unfolding IsInOrder put_in
put_in-in_order event [] h = (All-nil (λ e. event.cycle ≤ e.cycle), tt)
put_in-in_order event (first ∷ events) h =
    elim (leb_tells event.cycle first.cycle) as (λ _. IsInOrder (put_in event (first ∷ events))) [
      | inl w ↦ rw w.0 (All-cons (λ e. event.cycle ≤ e.cycle) first events w.1 (λ k d m. omega (arith, h.0 k d m)), h)
      | inr w ↦ rw w.0 (All-put_in (λ e. first.cycle ≤ e.cycle) event events (omega arith) h.0, put_in-in_order event events h.1)
    ]

-- two tests that do not both pass may be swapped
swap_apart : (b d : Bool) (x y : Event) (F : List Event) → (b ≡ true → d ≡ true → ⊥)
    → cond b (x ∷ cond d (y ∷ F) F) (cond d (y ∷ F) F) ≡ cond d (y ∷ cond b (x ∷ F) F) (cond b (x ∷ F) F)
swap_apart true true x y F h = absurd (h refl refl)
swap_apart true false x y F h = refl
swap_apart false true x y F h = refl
swap_apart false false x y F h = refl

filter-put_in : (c : ℕ) (event : Event) (events : List Event) → filter (at_cycle c) (put_in event events) ≡ filter (at_cycle c) (event ∷ events)
unfolding put_in
filter-put_in c event [] = refl
filter-put_in c event (first ∷ events) =
    elim (leb_tells event.cycle first.cycle) as (λ _. filter (at_cycle c) (put_in event (first ∷ events)) ≡ filter (at_cycle c) (event ∷ first ∷ events)) [
      | inl w ↦ rw w.0
      | inr w ↦
          rw (w.0, filter-put_in c event events)
          (swap_apart (at_cycle c first) (at_cycle c event) first event (filter (at_cycle c) events)
          (λ p q. let a : first.cycle ≡ c = eqb-true first.cycle c p in let b : event.cycle ≡ c = eqb-true event.cycle c q in omega arith))
    ]

-- the arrangement is in order, and has at each cycle what the list has there
pub arranged-in_order : (events : List Event) → IsInOrder (arranged events)
unfolding arranged IsInOrder
arranged-in_order [] = tt
arranged-in_order (event ∷ events) = put_in-in_order event (arranged events) (arranged-in_order events)

pub filter-arranged : (c : ℕ) (events : List Event) → filter (at_cycle c) (arranged events) ≡ filter (at_cycle c) events
unfolding arranged
filter-arranged c [] = refl
filter-arranged c (event ∷ events) =
    filter-put_in c event (arranged events) ∙ ap (λ (F : List Event). cond (at_cycle c event) (event ∷ F) F) (filter-arranged c events)

-- to be of one cycle, by the test of the sort
ties_at : (x e : Event) → ties (λ a b. is_lt (nat_cmp a.cycle b.cycle)) x e ≡ (e.cycle == x.cycle)
ties_at x e = grind (arith, nat_tests)

-- what a stable sort by cycle leaves
pub arranged_by_sort : (xs ys : List Event) → IsSortedByKey (λ e. e.cycle) nat_cmp ys → IsStableByKey (λ e. e.cycle) nat_cmp xs ys → ys ≡ arranged xs
arranged_by_sort xs ys sorted stable =
    same_list ys (arranged xs) (in_order_from ys (IsNonDecreasingBy-from_sort (λ e. e.cycle) ys sorted)) (arranged-in_order xs)
    (λ c.
    let x : Event = record { cycle = c; what = what.Pro true } in
    let agree = filter_agree (ties (λ a b. is_lt (nat_cmp a.cycle b.cycle)) x) (at_cycle c) (ties_at x) in
    sym (agree ys) ∙ stable x ∙ agree xs ∙ sym (filter-arranged c xs))
