use Rattle.std.proofs.Common.{◌≡◌, ap, arith, refl, rules}
use Rattle.agc_machine.specs.Engine.{state_of}
use Rattle.agc_machine.specs.State.{State}
use Rattle.agc_processor.specs.declared.processor.Processor.{Processor}
use Rattle.agc_machine.proofs.Fresh.{sound_resumed}
use Rattle.agc_machine.proofs.machine.Machine.copy_with.Goals as goal

pub invariant_of-result : goal.invariant_of-result
invariant_of-result c =
    let same : c.in_ok-processor.processor ≡ c.self.inside.engine.processor = search rules in
    let state : State = record (state_of c.self.inside.engine) { events = c.args.script } in
    sound_resumed c.self.inside.engine _ c.self.invariant (omega arith) refl (ap (λ (p : Processor). record state { processor = p }) same)
