use Rattle.std.specs.Prelude.{Some}
use Rattle.std.proofs.lemmas.List.Elements.{All-pop}
use Rattle.agc_session.specs.Checkpoints.{IsCheckpoint}
use Rattle.agc_session.proofs.checkpoint.Checkpoints.take_newest.Goals as goal

pub returns-then-is_on_run_before-clause-right : goal.returns-then-is_on_run_before-clause-right
returns-then-is_on_run_before-clause-right c = λ words limit all.
    (All-pop (IsCheckpoint words limit) _ c.pop.new.self.items c.pop.result c.pop.ensures.items (c.loop-copy.invariant words limit all)).0

pub returns-then-is_on_run_before-clause-copy : goal.returns-then-is_on_run_before-clause-copy
returns-then-is_on_run_before-clause-copy c = λ words limit all.
    (All-pop (IsCheckpoint words limit) _ c.pop.new.self.items (Some c.in_ok-copy.copy) c.in_ok-copy.ensures.items (c.loop-copy.invariant words limit all)).1

pub loop-copy-preserved : goal.loop-copy-preserved
loop-copy-preserved c = λ words limit all.
    (All-pop (IsCheckpoint words limit) _ c.pop.new.self.items c.pop.result c.pop.ensures.items (c.loop-copy.invariant words limit all)).0
