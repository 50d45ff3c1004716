-- In a live run time does not go back, and all events were injected before the present cycle.
use Rattle.std.specs.Prelude.{◌≡◌, ◌≤◌, List, [], ◌∷◌, ◌++◌, Option, Some, None}
use Rattle.std.proofs.Common.{refl, subst, sym, ◌∙◌, arith, append-nil}
use Rattle.std.proofs.lemmas.List.Elements.{All-cons, All-nil}
use Rattle.agc_word.specs.declared.channel_write.ChannelWrite.{ChannelWrite}
use Rattle.agc_script.specs.Script.{IsNotBefore}
use Rattle.agc_script.specs.declared.event.Event.{Event}
use Rattle.agc_script.specs.declared.event.What.{What}
use Rattle.agc_machine.specs.Boundary.{boundary, WantsKey}
use Rattle.agc_machine.specs.Laws.{Falls, IsSameRun}
use Rattle.agc_machine.specs.Live.{IsLive}
use Rattle.agc_machine.specs.Replay.{AreWanted, chain, tape_of}
use Rattle.agc_machine.specs.State.{State, live_event}
use Rattle.agc_machine.specs.declared.answer.Stepped.{Stepped}
use Rattle.agc_machine.specs.declared.answer.Stepped.TheVariants as stepped
use Rattle.agc_machine.proofs.Chain.{boundary_falls}
use Rattle.agc_machine.proofs.Kept.{boundary_keeps}
use Rattle.agc_machine.proofs.Live.{goes_on, written}
use Rattle.agc_machine.proofs.Replay.{live_happens}

-- a boundary takes no time away
falls_later : (s : State) (r : State × Stepped) → Falls s r → s.cycle ≤ r.0.cycle
falls_later s (t, stepped.Quiet) h = h.1
falls_later s (t, stepped.Wrote write) h = omega (arith, h.2)
falls_later s (t, stepped.Stopped why) h = h.1

quiet_later : (s : State) → s.cycle ≤ (boundary None s).0.cycle
quiet_later s = falls_later s (boundary None s) (boundary_falls s)

live_later : (s : State) (what : What) → WantsKey s → s.cycle ≤ (boundary (Some what) s).0.cycle
live_later s what w = rw (live_happens s what w) (omega arith)

chain_later : (lives : List (Option What)) (s : State) → AreWanted lives s → s.cycle ≤ (chain lives s).last.cycle
unfolding chain AreWanted
chain_later [] s w = omega arith
chain_later (Some what ∷ lives) s w = omega (arith, live_later s what w.0, chain_later lives (boundary (Some what) s).0 w.1)
chain_later (None ∷ lives) s w = omega (arith, quiet_later s, chain_later lives (boundary None s).0 w)

tape_before : (lives : List (Option What)) (s : State) → AreWanted lives s → IsNotBefore (tape_of lives s) (chain lives s).last.cycle
unfolding chain tape_of AreWanted
tape_before [] s w = All-nil (λ event. event.cycle ≤ s.cycle)
tape_before (Some what ∷ lives) s w =
    let t = (boundary (Some what) s).0 in
    All-cons (λ event. event.cycle ≤ (chain lives t).last.cycle) (live_event s what) (tape_of lives t)
    (omega (arith, live_later s what w.0, chain_later lives t w.1)) (tape_before lives t w.1)
tape_before (None ∷ lives) s w = tape_before lives (boundary None s).0 w

-- all events were injected no later than now
pub live_is_not_before : (start now : State) (tape : List Event) (writes : List ChannelWrite) → IsLive start tape writes now → IsNotBefore tape now.cycle
live_is_not_before start now tape writes h =
    subst (λ (s : State). IsNotBefore tape s.cycle) (sym h.last)
    (subst (λ (t : List Event). IsNotBefore t (chain h.lives start).last.cycle) (sym h.taped) (tape_before h.lives start h.wanted))

-- the constants of a run stay
chain_same : (lives : List (Option What)) (s : State) → IsSameRun s (chain lives s).last
unfolding chain
chain_same [] s = (refl, refl, refl)
chain_same (live ∷ lives) s =
    let first = boundary_keeps live s in
    let rest = chain_same lives (boundary live s).0 in
    (rest.0 ∙ first.0, rest.1 ∙ first.1, rest.2 ∙ first.2)

pub live_is_same : (start now : State) (tape : List Event) (writes : List ChannelWrite) → IsLive start tape writes now → IsSameRun start now
live_is_same start now tape writes h = subst (IsSameRun start) (sym h.last) (chain_same h.lives start)

-- a boundary without a live event
pub live_steps : (start now later : State) (tape : List Event) (writes : List ChannelWrite) (answer : Stepped) →
    IsLive start tape writes now → (later, answer) ≡ boundary None now → IsLive start tape (writes ++ written answer) later
unfolding chain tape_of AreWanted
live_steps start now later tape writes answer h e =
    subst (λ (r : State × Stepped). IsLive start tape (writes ++ written r.1) r.0) (sym e)
    (subst (λ (t : List Event). IsLive start t (writes ++ written (boundary None now).1) (boundary None now).0) (append-nil tape)
    (goes_on start now tape writes (None ∷ []) h tt))
