-- The events left are the script from the position of the next one on.
use Rattle.std.proofs.Common.{◌≡◌, ℕ, ◌+◌, ◌<◌, ◌≤◌, suc, zero, List, [], ◌∷◌, length, drop, Some, None, true, false, refl, add-one, arith}
use Rattle.std.specs.Prelude.{slice_get, nat_le}
use Rattle.std.proofs.lemmas.Bool.Decides.{nat_tests}
use Rattle.std.proofs.lemmas.Grind.{common_steps}
use Rattle.agc_script.specs.declared.event.Event.{Event}
use Rattle.agc_machine.specs.Boundary.{due_event, later_events}

next_event : {X : Type 0} (xs : List X) (i : ℕ) (x : X) → slice_get xs i ≡ Some x → drop i xs ≡ x ∷ drop (suc i) xs
next_event [] i x h = cc
next_event (y ∷ xs) zero x h = cc
next_event (y ∷ xs) (suc i) x h = next_event xs i x h

-- with an event at the place, it comes first
pub events_from : {X : Type 0} (xs : List X) (i : ℕ) (x : X) → slice_get xs i ≡ Some x → drop i xs ≡ x ∷ drop (i + 1) xs
events_from xs i x h = rw add-one (next_event xs i x h)

-- past the last one there is none
pub no_events : {X : Type 0} (xs : List X) (i : ℕ) → length xs ≤ i → drop i xs ≡ []
no_events xs i h = grind (arith, common_steps)

later_drop : (events : List Event) (i : ℕ) → i < length events → later_events (drop i events) ≡ drop (suc i) events
later_drop [] i h = absurd (omega arith)
later_drop (event ∷ events) zero h = refl
later_drop (event ∷ events) (suc i) h = later_drop events i (omega arith)

-- after the one at the place come those from the next place on
pub later_from : (events : List Event) (i : ℕ) → i < length events → later_events (drop i events) ≡ drop (i + 1) events
later_from events i h = rw add-one (later_drop events i h)

-- the event at the place is due, or it is not
pub due_at_place : (script : List Event) (next cycle : ℕ) (event : Event) → slice_get script next ≡ Some event → event.cycle ≤ cycle →
    due_event cycle (drop next script) ≡ Some event.what
due_at_place script next cycle event e h =
    let t : nat_le event.cycle cycle ≡ true = grind (arith, nat_tests) in rw (events_from script next event e) (rw t refl)

pub undue_at_place : (script : List Event) (next cycle : ℕ) (event : Event) → slice_get script next ≡ Some event → cycle < event.cycle →
    due_event cycle (drop next script) ≡ None
undue_at_place script next cycle event e h =
    let t : nat_le event.cycle cycle ≡ false = grind (arith, nat_tests) in rw (events_from script next event e) (rw t refl)
