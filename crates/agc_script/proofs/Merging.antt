-- A merge has both lists in it, each in its order, and each injected event in its place.
use Rattle.std.specs.Prelude.{◌≡◌, ℕ, suc, ◌≤◌, ◌<◌, List, [], ◌∷◌, ◌++◌, take, drop, map, filter_map, slice_index_or, All}
use Rattle.std.proofs.Common.{refl, arith, sym, ap, inl, inr, one-add}
use Rattle.std.proofs.lemmas.Bool.Decides.{leb_tells}
use Rattle.std.proofs.lemmas.List.{append-nil, take-append-drop, map-append}
use Rattle.std.proofs.lemmas.List.Elements.{All-append, All-cons, All-drop, All-map, All-nil, All-tail, All-take, filter_map-append}
use Rattle.agc_script.specs.declared.event.Event.{Event}
use Rattle.agc_script.specs.Script.{IsInOrder}
use Rattle.agc_script.specs.Merge.{due_at, joined, Entry, event_of, scripted, given_of, ComesBefore, AreInPlace, IsMerge}
use Rattle.agc_script.proofs.Merges.{due_before, drop-in_order}

abbrev scripts : List Event → List Entry
scripts events = map (λ (event : Event). inl event) events

-- the entries of a merge
entries_of : List Event → List Event → List Entry
entries_of events [] = scripts events
entries_of events (one ∷ given) =
    scripts (take (due_at one.cycle events) events) ++ inr one ∷ entries_of (drop (due_at one.cycle events) events) given

scripts-events : (events : List Event) → map event_of (scripts events) ≡ events
scripts-events [] = refl
scripts-events (event ∷ events) = ap (λ (rest : List Event). event ∷ rest) (scripts-events events)

scripts-scripted : (events : List Event) → filter_map scripted (scripts events) ≡ events
scripts-scripted [] = refl
scripts-scripted (event ∷ events) = ap (λ (rest : List Event). event ∷ rest) (scripts-scripted events)

scripts-given : (events : List Event) → filter_map given_of (scripts events) ≡ []
scripts-given [] = refl
scripts-given (event ∷ events) = scripts-given events

joined_entries : (events given : List Event) → joined events given ≡ map event_of (entries_of events given)
unfolding joined entries_of
joined_entries events [] = sym (scripts-events events)
joined_entries events (one ∷ given) =
    rw (map-append event_of (scripts (take (due_at one.cycle events) events)) (inr one ∷ entries_of (drop (due_at one.cycle events) events) given), scripts-events (take (due_at one.cycle events) events))
    (ap (λ (rest : List Event). take (due_at one.cycle events) events ++ one ∷ rest) (joined_entries (drop (due_at one.cycle events) events) given))

events_kept : (events given : List Event) → filter_map scripted (entries_of events given) ≡ events
unfolding entries_of
events_kept events [] = scripts-scripted events
events_kept events (one ∷ given) =
    rw (
      filter_map-append scripted (scripts (take (due_at one.cycle events) events)) (inr one ∷ entries_of (drop (due_at one.cycle events) events) given),
      scripts-scripted (take (due_at one.cycle events) events),
      events_kept (drop (due_at one.cycle events) events) given,
    )
    (take-append-drop (due_at one.cycle events) events)

given_kept : (events given : List Event) → filter_map given_of (entries_of events given) ≡ given
unfolding entries_of
given_kept events [] = scripts-given events
given_kept events (one ∷ given) =
    rw (
      filter_map-append given_of (scripts (take (due_at one.cycle events) events)) (inr one ∷ entries_of (drop (due_at one.cycle events) events) given),
      scripts-given (take (due_at one.cycle events) events),
      given_kept (drop (due_at one.cycle events) events) given,
    )
    refl

-- what is true of the events of both lists
all_entries : (P : Entry → Type 0) (events given : List Event) → All (λ event. P (inl event)) events → All (λ event. P (inr event)) given
    → All P (entries_of events given)
unfolding entries_of
all_entries P events [] h k = All-map P (λ (event : Event). inl event) events h
all_entries P events (one ∷ given) h k =
    let due = due_at one.cycle events in
    let rest = all_entries P (drop due events) given (All-drop (λ event. P (inl event)) due events h) (All-tail (λ event. P (inr event)) one given k) in
    All-append P (scripts (take due events)) (inr one ∷ entries_of (drop due events) given)
    (All-map P (λ (event : Event). inl event) (take due events) (All-take (λ event. P (inl event)) due events h))
    (All-cons P (inr one) (entries_of (drop due events) given) (k 0 one (omega arith)) rest)

-- events before other entries
scripts_before : (events : List Event) (rest : List Entry) → All (λ event. All (ComesBefore (inl event)) rest) events → AreInPlace rest → AreInPlace (scripts events ++ rest)
unfolding AreInPlace
scripts_before [] rest h r = r
scripts_before (event ∷ events) rest h r = (
  All-append (ComesBefore (inl event)) (scripts events) rest (All-map (ComesBefore (inl event)) (λ (later : Event). inl later) events (λ i d l. tt)) (h 0 event (omega arith)),
  scripts_before events rest (All-tail (λ e. All (ComesBefore (inl e)) rest) event events h) r,
)

-- the events after an injected one all come later
later_strictly : (c : ℕ) (events : List Event) → IsInOrder events → All (λ e. c < e.cycle) (drop (due_at c events) events)
unfolding IsInOrder
later_strictly c [] h = All-nil (λ e. c < e.cycle)
later_strictly c (event ∷ events) h =
    elim (leb_tells (suc c) event.cycle) as (λ _. All (λ e. c < e.cycle) (drop (due_at c (event ∷ events)) (event ∷ events))) [
      | inl w ↦ rw w.0 (All-cons (λ e. c < e.cycle) event events (omega arith) (λ i d l. omega (arith, h.0 i d l)))
      | inr w ↦ rw (w.0, one-add) (later_strictly c events h.1)
    ]

event_before : (event one : Event) (events given : List Event) → event.cycle ≤ one.cycle → All (λ later. one.cycle ≤ later.cycle) given
    → All (ComesBefore (inl event)) (inr one ∷ entries_of events given)
event_before event one events given near r =
    All-cons (ComesBefore (inl event)) (inr one) (entries_of events given) near
    (all_entries (ComesBefore (inl event)) events given (λ j e m. tt) (λ j e m. omega (arith, near, r j e m)))

in_place : (events given : List Event) → IsInOrder events → IsInOrder given → AreInPlace (entries_of events given)
unfolding entries_of AreInPlace IsInOrder
in_place events [] h r =
    rw (append-nil (scripts events)) at (scripts_before events [] (λ i d l. All-nil (ComesBefore (inl (slice_index_or events i d)))) tt)
in_place events (one ∷ given) h r =
    let due = due_at one.cycle events in
    let rest = in_place (drop due events) given (drop-in_order due events h) r.1 in
    let after = all_entries (ComesBefore (inr one)) (drop due events) given (later_strictly one.cycle events h) (λ i d l. tt) in
    scripts_before (take due events) (inr one ∷ entries_of (drop due events) given)
    (λ i d l. event_before (slice_index_or (take due events) i d) one (drop due events) given (due_before one.cycle events i d l) r.0)
    (after, rest)

pub joined_is_merge : (events given : List Event) → IsInOrder events → IsInOrder given → IsMerge events given (joined events given)
joined_is_merge events given h r = record {
  entries = entries_of events given;
  all_are = joined_entries events given;
  events_are = events_kept events given;
  given_are = given_kept events given;
  in_place = in_place events given h r;
}
