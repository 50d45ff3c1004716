-- The events that a session's machine has left are the last ones of its script.
use Rattle.std.specs.Prelude.{◌≡◌, ℕ, ◌-◌, ◌≤◌, List, ◌++◌, length, drop, None}
use Rattle.std.proofs.Common.{refl, ap, subst, ◌∙◌, ◌+◌, arith}
use Rattle.std.proofs.Math.Seq.{drop-append_seam}
use Rattle.std.proofs.lemmas.List.{length-append}
use Rattle.agc_word.specs.Number.{Number}
use Rattle.agc_script.specs.declared.event.Event.{Event}
use Rattle.agc_machine.specs.State.{State, start_state}
use Rattle.agc_machine.proofs.Taking.{IsLeft, chain_left}
use Rattle.agc_session.specs.Session.{IsReplay, SessionState, start_with}

events_at_start : (words : List Number) (events : List Event) (limit : ℕ) → (start_state words events limit None).events ≡ events
unfolding start_state
events_at_start words events limit = refl

left_in : (script left : List Event) → IsLeft script left → (length left ≤ length script) × (drop (length script - length left) script ≡ left)
left_in script left (taken, e) =
    let long : length script ≡ length taken + length left = ap length e ∙ length-append taken left in
    let count : length script - length left ≡ length taken = omega (arith, long) in
    (omega (arith, long), ap (λ (n : ℕ). drop n script) count ∙ ap (drop (length taken)) e ∙ drop-append_seam taken left)

-- the events left in the state that the plain run of a script reaches
pub replay_left : (script : List Event) (s : SessionState) → IsReplay script s
    → (length s.now.events ≤ length script) × (drop (length script - length s.now.events) script ≡ s.now.events)
replay_left script s h =
    let start : State = start_with script s.now in
    let left : IsLeft start.events s.now.events = subst (λ (t : State). IsLeft start.events t.events) h.state (chain_left h.boundaries start) in
    left_in script s.now.events
    (subst (λ (events : List Event). IsLeft events s.now.events) (events_at_start s.now.processor.store.fixed script s.now.limit) left)

-- how many they are, in the words of the machine
pub few_left : (script left : List Event) (s : SessionState) (now : State) → IsReplay script s → now ≡ s.now → left ≡ now.events → length left ≤ length script
few_left script left s now h e f =
    let few : length s.now.events ≤ length script = (replay_left script s h).0 in
    let same : length left ≡ length s.now.events = ap length (f ∙ ap (λ (x : State). x.events) e) in
    omega (arith, few, same)

-- a copy of the machine with the last events of the script is the machine
pub copied_now : (script left none : List Event) (taken : ℕ) (s : SessionState) (now copy whole : State) → IsReplay script s → now ≡ s.now → left ≡ now.events
    → taken ≡ length script - length left → copy ≡ record now { events = none } → whole ≡ record copy { events = drop taken script } → whole ≡ s.now
copied_now script left none taken s now copy whole h e f t c w =
    let last : drop (length script - length s.now.events) script ≡ s.now.events = (replay_left script s h).1 in
    let count : taken ≡ length script - length s.now.events =
    t ∙ ap (λ (xs : List Event). length script - length xs) (f ∙ ap (λ (x : State). x.events) e) in
    w ∙ ap (λ (x : State). record x { events = drop taken script }) c ∙ ap (λ (x : State). record x { events = drop taken script }) e
    ∙ ap (λ (n : ℕ). record s.now { events = drop n script }) count ∙ ap (λ (xs : List Event). record s.now { events = xs }) last
