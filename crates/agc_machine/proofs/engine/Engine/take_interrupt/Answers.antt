use Rattle.std.proofs.Common.{◌+◌, sym, subst, arith}
use Rattle.agc_processor.specs.declared.processor.Processor.{Processor}
use Rattle.agc_machine.specs.Quiet.{IsQuiet}
use Rattle.agc_machine.specs.Engine.{state_of}
use Rattle.agc_machine.proofs.InTime.{interrupt_in_time}
use Rattle.agc_machine.proofs.Stillness.{interrupted_kept}
use Rattle.agc_machine.proofs.engine.Engine.take_interrupt.Goals as goal

pub returns-clause-sound : goal.returns-clause-sound
returns-clause-sound c =
    record {
      place = c.requires.running.place;
      some = c.requires.running.some;
      limit = c.requires.running.limit;
      cycle = omega (arith, c.requires.running.cycle);
      in_time = interrupt_in_time _ c.args.rupt _ _ c.requires.running.in_time c.interrupt.ensures;
      quiet = λ l. subst (λ (p : Processor). IsQuiet c.args.self.now.quiet_until (record (state_of c.args.self.now) { processor = p; cycle = c.args.self.now.cycle + 3 })) (sym c.interrupt.ensures)
          (interrupted_kept c.args.self.now.quiet_until (state_of c.args.self.now) c.args.rupt (c.args.self.now.cycle + 3) (c.requires.quiet l));
      pace = λ l. c.pace_from_here-self.ensures.serves;
      fresh = λ e. cc;
    }
