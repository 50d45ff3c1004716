use Rattle.std.specs.Prelude.{◌≡◌, ℕ, IfOk}
use Rattle.std.proofs.Common.{subst}
use Rattle.agc_machine.specs.Laws.{after}
use Rattle.agc_machine.specs.State.{State}
use Rattle.agc_session.specs.Search.{HasCounted, IsAt, resumed}
use Rattle.agc_session.proofs.search.count_from.Goals as goal

pub returns : goal.returns
returns g c =
    let same : c.in_ok-machine.machine ≡ resumed c.args.script.now c.args.from.now = rw c.in_ok-machine.ensures.ok_part at c.resume_copy.ensures in
    subst (λ (s : State). IfOk c.count_hits.result
    (λ hits. (n : ℕ) → IsAt c.args.wanted.end (after n s) → HasCounted c.args.condition.now n c.args.wanted.number c.args.from.now.panel s hits))
    same c.count_hits.ensures
