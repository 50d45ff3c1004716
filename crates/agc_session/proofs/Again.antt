-- The events injected before a cycle, then those injected at it or later, are all the injected events.
use Rattle.std.specs.Prelude.{◌≡◌, ℕ, ◌≤◌, ◌<◌, nat_le, List, [], ◌∷◌, ◌++◌, length, All}
use Rattle.std.specs.List.{position_or_len}
use Rattle.std.proofs.Common.{refl, ap, sym, subst, ◌∙◌, arith, get_or, inl, inr, one-add}
use Rattle.std.proofs.lemmas.Bool.{leb-false}
use Rattle.std.proofs.lemmas.Bool.Decides.{leb_tells}
use Rattle.std.proofs.lemmas.List.{append-nil, get_or-take, length-take-le, take-append-drop}
use Rattle.std.proofs.lemmas.List.Elements.{All-cons, All-nil, All-tail}
use Rattle.std.proofs.lemmas.List.Sums.{fails_before_first, prefix_len-le-length}
use Rattle.agc_script.specs.Merge.{joined}
use Rattle.agc_script.specs.Script.{IsInOrder, before}
use Rattle.agc_script.specs.declared.event.Event.{Event}
use Rattle.agc_session.specs.Session.{SessionState, IsSession, discarded, since, script_of, script_before}
use Rattle.agc_session.proofs.Joins.{front, injected_next, in_parts, joined_assoc, joined_to_none}

-- a script cut at a cycle
pub before_is_early : (c : ℕ) (events : List Event) → All (λ e. e.cycle < c) (before c events)
before_is_early c events i d l =
    let count : ℕ = position_or_len (λ (event : Event). nat_le c event.cycle) events in
    let bound : count ≤ length events = prefix_len-le-length _ events in
    let near : i < count = omega (arith, length-take-le count events bound) in
    let fails = fails_before_first (λ (event : Event). nat_le c event.cycle) events i d near in
    let low : (get_or events i d).cycle < c = leb-false c (get_or events i d).cycle fails in
    rw (get_or-take count events i d near) low

pub since_is_late : (c : ℕ) (events : List Event) → IsInOrder events → All (λ e. c ≤ e.cycle) (since c events)
unfolding IsInOrder
since_is_late c [] h = All-nil (λ e. c ≤ e.cycle)
since_is_late c (event ∷ events) h =
    elim (leb_tells c event.cycle) as (λ _. All (λ e. c ≤ e.cycle) (since c (event ∷ events))) [
      | inl w ↦ rw w.0 (All-cons (λ e. c ≤ e.cycle) event events (omega (arith, w.1)) (λ i d l. omega (arith, w.1, h.0 i d l)))
      | inr w ↦ rw (w.0, one-add) (since_is_late c events h.1)
    ]

pub both_parts : (c : ℕ) (events : List Event) → before c events ++ since c events ≡ events
both_parts c events = take-append-drop (position_or_len (λ (event : Event). nat_le c event.cycle) events) events

weakly : (c : ℕ) (events : List Event) → All (λ e. e.cycle < c) events → All (λ e. e.cycle ≤ c) events
weakly c events h i d l = omega (arith, h i d l)

-- early events come first, whichever of the two scripts they are from
early_given : (c : ℕ) (early late : List Event) → All (λ e. e.cycle < c) early → All (λ e. c ≤ e.cycle) late → joined late early ≡ early ++ late
unfolding joined
early_given c [] late h k = refl
early_given c (one ∷ early) late h k =
    let near : one.cycle < c = h 0 one (omega arith) in
    injected_next one late early (λ i d l. omega (arith, near, k i d l))
    ∙ ap (λ (rest : List Event). one ∷ rest) (early_given c early late (All-tail (λ e. e.cycle < c) one early h) k)

pub late_given : (c : ℕ) (early late : List Event) → All (λ e. e.cycle < c) early → All (λ e. c ≤ e.cycle) late → joined early late ≡ early ++ late
late_given c early late h k =
    ap (λ (events : List Event). joined events late) (sym (append-nil early)) ∙ front c early [] late (weakly c early h) k
    ∙ ap (λ (rest : List Event). early ++ rest) (joined_to_none late)

pub either_first : (c : ℕ) (events early late : List Event) → All (λ e. e.cycle < c) early → All (λ e. c ≤ e.cycle) late
    → joined (joined events early) late ≡ joined (joined events late) early
either_first c events early late h k =
    joined_assoc events early late ∙ ap (joined events) (late_given c early late h k ∙ sym (early_given c early late h k)) ∙ sym (joined_assoc events late early)

all_parts : (c : ℕ) (events injected : List Event) → IsInOrder injected → joined (joined events (before c injected)) (since c injected) ≡ joined events injected
all_parts c events injected o =
    sym (in_parts c events (before c injected) (since c injected) (weakly c (before c injected) (before_is_early c injected)) (since_is_late c injected o))
    ∙ ap (joined events) (both_parts c injected)

-- with both retained and injected events cut at a cycle
injected_again : (c : ℕ) (base retained injected : List Event) → IsInOrder retained → IsInOrder injected
    → joined (joined base (joined (before c retained) (before c injected))) (joined (since c retained) (since c injected)) ≡ joined (joined base retained) injected
injected_again c base retained injected o p =
    let early = before c retained in
    let late = since c retained in
    let one = before c injected in
    let more = since c injected in
    sym (joined_assoc (joined base (joined early one)) late more)
    ∙ ap (λ (m : List Event). joined (joined m late) more) (sym (joined_assoc base early one))
    ∙ ap (λ (m : List Event). joined m more) (either_first c (joined base early) one late (before_is_early c injected) (since_is_late c retained o))
    ∙ ap (λ (m : List Event). joined (joined m one) more) (all_parts c base retained o)
    ∙ all_parts c (joined base retained) injected p

reported_again : (c : ℕ) (s : SessionState) → IsSession s → IsInOrder s.retained → IsInOrder s.injected → joined (script_before c s) (discarded c s) ≡ script_of s
reported_again c s h o p = injected_again c s.base s.retained s.injected o p ∙ ap (λ (script : List Event). joined script s.injected) (sym h.known)

pub injects_again : (c : ℕ) (inside now : SessionState) (script : List Event) → inside ≡ now → IsSession inside → IsInOrder inside.retained → IsInOrder inside.injected
    → script ≡ script_before c now → joined script (discarded c now) ≡ script_of now
injects_again c inside now script v h o p e =
    ap (λ (known : List Event). joined known (discarded c now)) e
    ∙ subst (λ (s : SessionState). joined (script_before c s) (discarded c s) ≡ script_of s) v (reported_again c inside h o p)
