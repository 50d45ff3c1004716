use Rattle.std.proofs.Common.{ℕ, List, ◌∷◌, ◌++◌, [], ap, sym, subst}
use Rattle.std.specs.Prelude.{map}
use Rattle.agc_script.specs.Merge.{key_event}
use Rattle.agc_script.specs.declared.event.What.TheVariants as what
use Rattle.agc_script.specs.declared.key.Key.{Key}
use Rattle.agc_machine.specs.Live.{IsLive}
use Rattle.agc_machine.specs.Replay.{writes_in}
use Rattle.agc_machine.proofs.Before.{before_keeps}
use Rattle.agc_machine.proofs.Live.{live_keeps, live_key, live_stretch}
use Rattle.agc_pipe.specs.Keys.{Taking}
use Rattle.agc_pipe.proofs.live_sending.go_on.Goals as goal

pub returns-in-Some-clause-live : goal.returns-in-Some-clause-live
returns-in-Some-clause-live c start writes h =
    subst (λ (tape : List (ℕ × Key)). IsLive start (map key_event tape) (writes ++ writes_in (c.step.result ∷ [])) c.step.new.self)
    (sym (ap (λ (t : Taking). t.tape) c.in-Some.ensures.some))
    (live_key start c.args.machine.now c.step.new.self c.args.taker.now.tape writes c.in-Some.key c.step.result h c.in-Some.ensures.wanted c.step.ensures.boundary)

pub returns-in-Some-clause-stop : goal.returns-in-Some-clause-stop
returns-in-Some-clause-stop c = live_keeps c.args.machine.now (what.Key c.in-Some.key) _ c.in-Some.ensures.wanted c.step.ensures.boundary

pub returns-in-None-clause-live : goal.returns-in-None-clause-live
returns-in-None-clause-live c start writes h =
    subst (λ (tape : List (ℕ × Key)). IsLive start (map key_event tape) (writes ++ writes_in (c.next_write_before.result ∷ [])) c.next_write_before.new.self)
    (sym (ap (λ (t : Taking). t.tape) c.in-None.ensures.none))
    (live_stretch start c.args.machine.now c.next_write_before.new.self (map key_event c.args.taker.now.tape) writes c.next_look.result c.next_write_before.result h c.next_write_before.ensures.next)

pub returns-in-None-clause-stop : goal.returns-in-None-clause-stop
returns-in-None-clause-stop c = before_keeps c.next_look.result c.args.machine.now _ c.next_write_before.ensures.next
