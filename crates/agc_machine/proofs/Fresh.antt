-- A stop address that is set at the start is the start's own, and equal starts have equal runs.
use Rattle.std.proofs.Common.{◌≡◌, ℕ, ◌+◌, ◌<◌, ◌≤◌, List, Option, true, false, drop, length, ap, arith, subst, sym, ◌∙◌}
use Rattle.agc_word.specs.Number.{Number}
use Rattle.agc_script.specs.declared.event.Event.{Event}
use Rattle.agc_machine.specs.declared.engine.Engine.{Engine}
use Rattle.agc_machine.specs.declared.stop_address.StopAddress.{StopAddress}
use Rattle.agc_machine.specs.Engine.{IsInTime, IsSound, state_of}
use Rattle.agc_machine.specs.Laws.{IsSameRun}
use Rattle.agc_machine.specs.Run.{run_of}
use Rattle.agc_machine.specs.State.{IsAtStart, State, start_state}

true_is_not_false : true ≡ false → ⊥
true_is_not_false e = cc

started : (s : State) (words : List Number) (events : List Event) (limit : ℕ) (u v : Option StopAddress) →
    s ≡ start_state words events limit u → record s { until = v } ≡ start_state words events limit v
unfolding start_state
started s words events limit u v h = ap (λ (x : State). record x { until = v }) h

pub sound_until : (m : Engine) (v : Option StopAddress) → IsSound m → m.begun ≡ false → IsSound (record m { until = v })
sound_until m v h not_begun =
    record {
      quiet = λ l. absurd (true_is_not_false (sym (h.quiet l).going.begun ∙ not_begun));
      pace = λ l. absurd (true_is_not_false (sym (h.quiet l).going.begun ∙ not_begun));
      place = h.place;
      some = h.some;
      limit = h.limit;
      cycle = h.cycle;
      in_time = h.in_time;
      fresh = λ f. started (state_of m) _ _ _ m.until v (h.fresh f);
    }

-- with other events left it is as sound, and it is at its start if it was
fed_start : (s : State) (words : List Number) (old events : List Event) (limit : ℕ) (until : Option StopAddress) →
    s ≡ start_state words old limit until → record s { events = events } ≡ start_state words events limit until
unfolding start_state
fed_start s words old events limit until h = ap (λ (x : State). record x { events = events }) h

pub sound_resumed : (m n : Engine) → IsSound m → n.next ≤ length n.script → n.quiet_until ≡ 0 →
    state_of n ≡ record (state_of m) { events = drop n.next n.script } → IsSound n
sound_resumed m n h place quiet e =
    record {
      quiet = λ l. let no : ⊥ = omega (arith, quiet) in absurd no;
      pace = λ l. let no : ⊥ = omega (arith, quiet) in absurd no;
      place = place;
      some = subst (λ (x : State). 0 < x.limit) (sym e) h.some;
      limit = subst (λ (x : State). x.limit ≤ 1000000000000) (sym e) h.limit;
      cycle = subst (λ (x : State). x.cycle < x.limit + 6) (sym e) h.cycle;
      in_time = subst (λ (x : State). IsInTime x.cycle x.processor.timers) (sym e) h.in_time;
      fresh = λ f.
          subst IsAtStart (sym e)
          (fed_start (state_of m) _ _ (drop n.next n.script) _ _ (h.fresh (sym (ap (λ (x : State). x.begun) e) ∙ f)));
    }

-- a start is determined by its fixed words, its events, its limit and its stop address
same_start : (s t : State) → IsAtStart s → IsAtStart t → IsSameRun s t → s.events ≡ t.events → s ≡ t
same_start s t h k same e =
    h ∙ ap (λ (words : List Number). start_state words s.events s.limit s.until) (sym same.0)
    ∙ ap (λ (events : List Event). start_state t.processor.store.fixed events s.limit s.until) e
    ∙ ap (λ (limit : ℕ). start_state t.processor.store.fixed t.events limit s.until) (sym same.1)
    ∙ ap (λ (until : Option StopAddress). start_state t.processor.store.fixed t.events t.limit until) (sym same.2)
    ∙ sym k

pub same_run : (s t : State) → IsAtStart s → IsAtStart t → IsSameRun s t → s.events ≡ t.events → run_of s ≡ run_of t
same_run s t h k same e = ap run_of (same_start s t h k same e)
