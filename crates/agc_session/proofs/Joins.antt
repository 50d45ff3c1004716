-- Merges of more than two scripts, and a script cut at a cycle.
use Rattle.std.specs.Prelude.{◌≡◌, ℕ, ◌≤◌, ◌<◌, List, [], ◌∷◌, ◌++◌, take, drop, All}
use Rattle.std.proofs.Common.{refl, ap, sym, ◌∙◌, arith, inl, inr}
use Rattle.std.proofs.lemmas.Bool.Decides.{leb_tells}
use Rattle.std.proofs.lemmas.List.Elements.{All-tail}
use Rattle.agc_script.specs.Merge.{due_at, joined}
use Rattle.agc_script.specs.declared.event.Event.{Event}
use Rattle.agc_script.proofs.Merges.{due_before, joined_event_first, joined_given_first, joined_given_last, joined_none}

pub joined_to_none : (injected : List Event) → joined [] injected ≡ injected
joined_to_none [] = joined_none []
joined_to_none (one ∷ injected) = joined_given_last one injected ∙ ap (λ (rest : List Event). one ∷ rest) (joined_to_none injected)

-- an event that no injected one precedes, and an injected one that precedes all
event_next : (event : Event) (events injected : List Event) → All (λ one. event.cycle ≤ one.cycle) injected → joined (event ∷ events) injected ≡ event ∷ joined events injected
event_next event events [] h = joined_none (event ∷ events) ∙ ap (λ (rest : List Event). event ∷ rest) (sym (joined_none events))
event_next event events (one ∷ injected) h = joined_event_first event events one injected (h 0 one (omega arith))

pub injected_next : (one : Event) (events injected : List Event) → All (λ event. one.cycle < event.cycle) events → joined events (one ∷ injected) ≡ one ∷ joined events injected
injected_next one [] injected h = joined_given_last one injected
injected_next one (event ∷ events) injected h = joined_given_first event events one injected (h 0 event (omega arith))

-- events that no injected one precedes stay in front
pub front : (c : ℕ) (early events injected : List Event) → All (λ e. e.cycle ≤ c) early → All (λ e. c ≤ e.cycle) injected
    → joined (early ++ events) injected ≡ early ++ joined events injected
front c [] events injected h k = refl
front c (event ∷ early) events injected h k =
    let near : event.cycle ≤ c = h 0 event (omega arith) in
    event_next event (early ++ events) injected (λ i d l. omega (arith, near, k i d l))
    ∙ ap (λ (rest : List Event). event ∷ rest) (front c early events injected (All-tail (λ e. e.cycle ≤ c) event early h) k)

-- early injected events, then late ones
pub in_parts : (c : ℕ) (events early late : List Event) → All (λ e. e.cycle ≤ c) early → All (λ e. c ≤ e.cycle) late
    → joined events (early ++ late) ≡ joined (joined events early) late
unfolding joined
in_parts c events [] late h k = refl
in_parts c events (one ∷ early) late h k =
    let due = due_at one.cycle events in
    let near : one.cycle ≤ c = h 0 one (omega arith) in
    let later : All (λ e. one.cycle ≤ e.cycle) late = λ i d l. omega (arith, near, k i d l) in
    let rest = in_parts c (drop due events) early late (All-tail (λ e. e.cycle ≤ c) one early h) k in
    ap (λ (more : List Event). take due events ++ one ∷ more) rest
    ∙ sym
    (front one.cycle (take due events) (one ∷ joined (drop due events) early) late (due_before one.cycle events) later
    ∙ ap (λ (more : List Event). take due events ++ more) (event_next one (joined (drop due events) early) late later))

-- an event of the first script that no other precedes, one of the second, and one of the third
first_of_three : (x : Event) (a : List Event) (y : Event) (b : List Event) (z : Event) (c : List Event) → x.cycle ≤ y.cycle → x.cycle ≤ z.cycle
    → joined (joined a (y ∷ b)) (z ∷ c) ≡ joined a (joined (y ∷ b) (z ∷ c)) → joined (joined (x ∷ a) (y ∷ b)) (z ∷ c) ≡ joined (x ∷ a) (joined (y ∷ b) (z ∷ c))
first_of_three x a y b z c p q h =
    let last : joined (x ∷ a) (joined (y ∷ b) (z ∷ c)) ≡ x ∷ joined a (joined (y ∷ b) (z ∷ c)) =
    elim (leb_tells y.cycle z.cycle) as (λ _. joined (x ∷ a) (joined (y ∷ b) (z ∷ c)) ≡ x ∷ joined a (joined (y ∷ b) (z ∷ c))) [
      | inl w ↦ rw (joined_event_first y b z c (omega (arith, w.1))) (joined_event_first x a y (joined b (z ∷ c)) p)
      | inr w ↦ rw (joined_given_first y b z c (omega (arith, w.1))) (joined_event_first x a z (joined (y ∷ b) c) q)
    ] in
    ap (λ (m : List Event). joined m (z ∷ c)) (joined_event_first x a y b p) ∙ joined_event_first x (joined a (y ∷ b)) z c q
    ∙ ap (λ (m : List Event). x ∷ m) h ∙ sym last

second_of_three : (x : Event) (a : List Event) (y : Event) (b : List Event) (z : Event) (c : List Event) → y.cycle < x.cycle → y.cycle ≤ z.cycle
    → joined (joined (x ∷ a) b) (z ∷ c) ≡ joined (x ∷ a) (joined b (z ∷ c)) → joined (joined (x ∷ a) (y ∷ b)) (z ∷ c) ≡ joined (x ∷ a) (joined (y ∷ b) (z ∷ c))
second_of_three x a y b z c p q h =
    ap (λ (m : List Event). joined m (z ∷ c)) (joined_given_first x a y b p) ∙ joined_event_first y (joined (x ∷ a) b) z c q
    ∙ ap (λ (m : List Event). y ∷ m) h
    ∙ sym (ap (joined (x ∷ a)) (joined_event_first y b z c q) ∙ joined_given_first x a y (joined b (z ∷ c)) p)

third_of_three : (x : Event) (a : List Event) (y : Event) (b : List Event) (z : Event) (c : List Event) → z.cycle < x.cycle → z.cycle < y.cycle
    → joined (joined (x ∷ a) (y ∷ b)) c ≡ joined (x ∷ a) (joined (y ∷ b) c) → joined (joined (x ∷ a) (y ∷ b)) (z ∷ c) ≡ joined (x ∷ a) (joined (y ∷ b) (z ∷ c))
third_of_three x a y b z c p q h =
    let base : joined (joined (x ∷ a) (y ∷ b)) (z ∷ c) ≡ z ∷ joined (joined (x ∷ a) (y ∷ b)) c =
    elim (leb_tells x.cycle y.cycle) as (λ _. joined (joined (x ∷ a) (y ∷ b)) (z ∷ c) ≡ z ∷ joined (joined (x ∷ a) (y ∷ b)) c) [
      | inl w ↦ rw (joined_event_first x a y b (omega (arith, w.1))) (joined_given_first x (joined a (y ∷ b)) z c p)
      | inr w ↦ rw (joined_given_first x a y b (omega (arith, w.1))) (joined_given_first y (joined (x ∷ a) b) z c q)
    ] in
    base ∙ ap (λ (m : List Event). z ∷ m) h
    ∙ sym (ap (joined (x ∷ a)) (joined_given_first y b z c q) ∙ joined_given_first x a z (joined (y ∷ b) c) p)

-- the merge of three scripts does not depend on which two are joined first
pub joined_assoc : (a b c : List Event) → joined (joined a b) c ≡ joined a (joined b c)
joined_assoc [] b c = rw (joined_to_none b, joined_to_none (joined b c)) refl
joined_assoc (x ∷ a) [] c = rw (joined_none (x ∷ a), joined_to_none c) refl
joined_assoc (x ∷ a) (y ∷ b) [] = rw (joined_none (joined (x ∷ a) (y ∷ b)), joined_none (y ∷ b)) refl
joined_assoc (x ∷ a) (y ∷ b) (z ∷ c) =
    elim (leb_tells x.cycle y.cycle) as (λ _. joined (joined (x ∷ a) (y ∷ b)) (z ∷ c) ≡ joined (x ∷ a) (joined (y ∷ b) (z ∷ c))) [
      | inl u ↦ elim (leb_tells x.cycle z.cycle) as (λ _. joined (joined (x ∷ a) (y ∷ b)) (z ∷ c) ≡ joined (x ∷ a) (joined (y ∷ b) (z ∷ c))) [
        | inl v ↦ first_of_three x a y b z c (omega (arith, u.1)) (omega (arith, v.1)) (joined_assoc a (y ∷ b) (z ∷ c))
        | inr v ↦ third_of_three x a y b z c (omega (arith, v.1)) (omega (arith, u.1, v.1)) (joined_assoc (x ∷ a) (y ∷ b) c)
      ]
      | inr u ↦ elim (leb_tells y.cycle z.cycle) as (λ _. joined (joined (x ∷ a) (y ∷ b)) (z ∷ c) ≡ joined (x ∷ a) (joined (y ∷ b) (z ∷ c))) [
        | inl v ↦ second_of_three x a y b z c (omega (arith, u.1)) (omega (arith, v.1)) (joined_assoc (x ∷ a) b (z ∷ c))
        | inr v ↦ third_of_three x a y b z c (omega (arith, u.1, v.1)) (omega (arith, v.1)) (joined_assoc (x ∷ a) (y ∷ b) c)
      ]
    ]
