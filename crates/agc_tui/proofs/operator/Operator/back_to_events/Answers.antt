use Rattle.std.specs.Prelude.{ℕ}
use Rattle.std.proofs.Common.{subst}
use Rattle.agc_tui.specs.Operator.{IsCutAt}
use Rattle.agc_tui.proofs.operator.Operator.back_to_events.Goals as goal

pub returns-clause-back : goal.returns-clause-back
returns-clause-back c e =
    let rerun = c.return_to.ensures.rerun e in
    record {
      cut = subst (λ (n : ℕ). IsCutAt n c.args.self.session c.return_to.result.0.session) c.saturating_add-after.ensures (c.return_to.ensures.cut e);
      goal = record { rerun = rerun.rerun; begun = rerun.begun; to = rerun.to; with_events = rerun.with_events };
    }
