use Rattle.std.proofs.Common.{◌≡◌, ℕ, List, None, false, ap, ◌∙◌, sym, subst, arith}
use Rattle.agc_word.specs.Number.{Number}
use Rattle.agc_script.specs.declared.event.Event.{Event}
use Rattle.agc_processor.specs.Start.{start_processor}
use Rattle.agc_machine.specs.State.{State, start_state}
use Rattle.agc_processor.specs.declared.processor.Processor.{Processor}
use Rattle.agc_machine.specs.Engine.{IsInTime}
use Rattle.agc_machine.proofs.InTime.{start_in_time}
use Rattle.agc_machine.proofs.engine.Engine.new.Goals as goal

-- the state with a processor, before any boundary
abbrev start_of : Processor → List Event → ℕ → State
start_of p events limit =
    record {
      processor = p;
      events = events;
      limit = limit;
      cycle = 0;
      begun = false;
      stopped = None;
      until = None;
    }

-- with the processor at its start it is the start of a run
fresh_start : (p : Processor) (words : List Number) (events : List Event) (limit : ℕ) → p ≡ start_processor words → p.store.fixed ≡ words →
    start_of p events limit ≡ start_state p.store.fixed events limit None
unfolding start_state
fresh_start p words events limit e f = ap (λ (q : Processor). start_of q events limit) (e ∙ ap start_processor (sym f))

pub returns-clause-sound : goal.returns-clause-sound
returns-clause-sound c =
    record {
      place = omega arith;
      some = c.requires.positive;
      limit = c.requires.limit;
      cycle = omega arith;
      in_time = subst (λ (p : Processor). IsInTime 0 p.timers) (sym c.new.ensures.start) (start_in_time _);
      quiet = λ l. let no : ⊥ = omega arith in absurd no;
      pace = λ l. let no : ⊥ = omega arith in absurd no;
      fresh = λ e. fresh_start _ _ _ _ c.new.ensures.start c.new.ensures.fixed;
    }
