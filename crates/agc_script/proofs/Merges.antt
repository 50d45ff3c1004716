-- The merge, one injected event after another, and that it is a script.
use Rattle.std.specs.Prelude.{◌≡◌, ℕ, zero, suc, ◌+◌, ◌≤◌, ◌<◌, nat_lt, true, false, List, [], ◌∷◌, ◌++◌, length, take, drop, position, unwrap_or, Result, Ok, Err, is_ok, OnOk, All, if◌then◌else◌}
use Rattle.std.proofs.Common.{refl, arith, ◌∙◌, add-one, append_assoc, get_or, one-add, inl, inr}
use Rattle.std.proofs.Math.Seq.{drop-cons}
use Rattle.std.proofs.Math.ListN.{drop_of_length-le}
use Rattle.std.proofs.lemmas.Bool.Decides.{nat_tests, leb_tells}
use Rattle.std.proofs.lemmas.Bool.{leb-false, lt-leb, le-leb}
use Rattle.std.proofs.lemmas.List.{length-append, length-drop, length-take-le, get_or-take}
use Rattle.std.proofs.lemmas.List.Sums.{prefix_len-le-length, fails_before_first}
use Rattle.std.proofs.lemmas.List.Elements.{All-append, All-cons, All-drop, All-nil, All-tail, All-take}
use Rattle.agc_script.specs.declared.event.Event.{Event}
use Rattle.agc_script.specs.Event.{IsInRange}
use Rattle.agc_script.specs.Script.{IsInOrder, IsScript}
use Rattle.agc_script.specs.Merge.{due_at, joined}

-- the number of events that are due, as the search for the first later one gives it
pub due_found : (cycle : ℕ) (events : List Event) → unwrap_or (position (λ event. nat_lt cycle event.cycle) events) (length events) ≡ due_at cycle events
due_found cycle events =
    let bound : due_at cycle events ≤ length events = prefix_len-le-length _ events in
    grind (arith, nat_tests)

-- one more injected event
pub joined-next : (done rest more given : List Event) (i due : ℕ) (event other : Event) → i < length given → event ≡ get_or given i other
    → due ≡ due_at event.cycle rest → more ≡ (done ++ take due rest) ++ event ∷ []
    → more ++ joined (drop due rest) (drop (i + 1) given) ≡ done ++ joined rest (drop i given)
unfolding joined
joined-next done rest more given i due event other l e d m =
    let cut : drop i given ≡ event ∷ drop (i + 1) given = rw (e, add-one) (drop-cons given i other l) in
    rw (cut, m, d, append_assoc, append_assoc)

-- no injected event is left
pub joined-end : (rest given : List Event) (i : ℕ) → length given ≤ i → joined rest (drop i given) ≡ rest
unfolding joined
joined-end rest given i l = rw (drop_of_length-le given l)

-- a last step that may fail
pub on_ok_if : {T E : Type 0} (r : Result T E) (new now old all : List Event) → new ≡ (if is_ok r then now else old) → now ≡ all → OnOk r (new ≡ all)
on_ok_if (Ok x) new now old all e h = e ∙ h
on_ok_if (Err x) new now old all e h = tt

-- what holds of all events of both
joined-All : (P : Event → Type 0) (events given : List Event) → All P events → All P given → All P (joined events given)
unfolding joined
joined-All P events [] h k = h
joined-All P events (event ∷ given) h k =
    let due = due_at event.cycle events in
    let rest = joined-All P (drop due events) given (All-drop P due events h) (All-tail P event given k) in
    All-append P (take due events) (event ∷ joined (drop due events) given) (All-take P due events h)
    (All-cons P event (joined (drop due events) given) (k 0 event (omega arith)) rest)

-- parts of a list in order
pub take-in_order : (n : ℕ) (events : List Event) → IsInOrder events → IsInOrder (take n events)
unfolding IsInOrder
take-in_order zero events h = tt
take-in_order (suc n) [] h = tt
take-in_order (suc n) (event ∷ events) h = (All-take (λ later. event.cycle ≤ later.cycle) n events h.0, take-in_order n events h.1)

pub drop-in_order : (n : ℕ) (events : List Event) → IsInOrder events → IsInOrder (drop n events)
unfolding IsInOrder
drop-in_order zero events h = h
drop-in_order (suc n) [] h = tt
drop-in_order (suc n) (event ∷ events) h = drop-in_order n events h.1

-- two lists in order, one up to a cycle and one from it on
append-in_order : (c : ℕ) (xs ys : List Event) → IsInOrder xs → All (λ e. e.cycle ≤ c) xs → IsInOrder ys → All (λ e. c ≤ e.cycle) ys → IsInOrder (xs ++ ys)
unfolding IsInOrder
append-in_order c [] ys a b h k = h
append-in_order c (x ∷ xs) ys a b h k =
    let here : x.cycle ≤ c = b 0 x (omega arith) in (
      All-append (λ e. x.cycle ≤ e.cycle) xs ys a.0 (λ i d l. omega (arith, k i d l)),
      append-in_order c xs ys a.1 (All-tail (λ e. e.cycle ≤ c) x xs b) h k,
    )

-- the events before an injected one, and those after it
pub due_before : (c : ℕ) (events : List Event) → All (λ e. e.cycle ≤ c) (take (due_at c events) events)
due_before c events i d l =
    let bound : due_at c events ≤ length events = prefix_len-le-length _ events in
    let near : i < due_at c events = omega (arith, length-take-le (due_at c events) events bound) in
    let fails = fails_before_first (λ event. nat_lt c event.cycle) events i d near in
    let low : (get_or events i d).cycle < suc c = leb-false (suc c) (get_or events i d).cycle fails in
    rw (get_or-take (due_at c events) events i d near) (omega arith)

later_after : (c : ℕ) (events : List Event) → IsInOrder events → All (λ e. c ≤ e.cycle) (drop (due_at c events) events)
unfolding IsInOrder
later_after c [] h = All-nil (λ e. c ≤ e.cycle)
later_after c (event ∷ events) h =
    elim (leb_tells (suc c) event.cycle) as (λ _. All (λ e. c ≤ e.cycle) (drop (due_at c (event ∷ events)) (event ∷ events))) [
      | inl w ↦ rw w.0 (All-cons (λ e. c ≤ e.cycle) event events (omega arith) (λ i d l. omega (arith, h.0 i d l)))
      | inr w ↦ rw (w.0, one-add) (later_after c events h.1)
    ]

-- two merged scripts are in order
joined-in_order : (events given : List Event) → IsInOrder events → IsInOrder given → IsInOrder (joined events given)
unfolding joined IsInOrder
joined-in_order events [] h r = h
joined-in_order events (event ∷ given) h r =
    let due = due_at event.cycle events in
    let rest = joined-in_order (drop due events) given (drop-in_order due events h) r.1 in
    let later = joined-All (λ e. event.cycle ≤ e.cycle) (drop due events) given (later_after event.cycle events h) r.0 in
    append-in_order event.cycle (take due events) (event ∷ joined (drop due events) given) (take-in_order due events h) (due_before event.cycle events)
    (later, rest) (All-cons (λ e. event.cycle ≤ e.cycle) event (joined (drop due events) given) (omega arith) later)

length-joined : (events given : List Event) → length (joined events given) ≡ length events + length given
unfolding joined
length-joined events [] = omega arith
length-joined events (event ∷ given) =
    let due : ℕ = due_at event.cycle events in
    let bound : due ≤ length events = prefix_len-le-length _ events in
    omega (
      arith,
      length-append (take due events) (event ∷ joined (drop due events) given),
      length-take-le due events bound,
      length-drop due events,
      length-joined (drop due events) given,
    )

-- two merged scripts are a script, if it has room
pub joined_script : (events given : List Event) → IsScript events → IsScript given → length events + length given ≤ 65536 → IsScript (joined events given)
joined_script events given s t h = record {
  in_range = joined-All IsInRange events given s.in_range t.in_range;
  in_order = joined-in_order events given s.in_order t.in_order;
  few = omega (arith, length-joined events given);
}

-- laws for replaying a merged script: an event at the cycle of an injected one, or before, comes before it ..
pub joined_event_first : (event : Event) (events : List Event) (given : Event) (later : List Event) → event.cycle ≤ given.cycle
    → joined (event ∷ events) (given ∷ later) ≡ event ∷ joined events (given ∷ later)
unfolding joined
joined_event_first event events given later h =
    let due : nat_lt given.cycle event.cycle ≡ false = lt-leb (suc given.cycle) event.cycle (omega arith) in
    rw (due, one-add)

-- .. and if the first event comes later, or none is left, the injected one comes first
pub joined_given_first : (event : Event) (events : List Event) (given : Event) (later : List Event) → given.cycle < event.cycle
    → joined (event ∷ events) (given ∷ later) ≡ given ∷ joined (event ∷ events) later
unfolding joined
joined_given_first event events given later h =
    let above : nat_lt given.cycle event.cycle ≡ true = le-leb (suc given.cycle) event.cycle h in
    rw above

pub joined_given_last : (given : Event) (later : List Event) → joined [] (given ∷ later) ≡ given ∷ joined [] later
unfolding joined
joined_given_last given later = refl

pub joined_none : (events : List Event) → joined events [] ≡ events
unfolding joined
joined_none events = refl
