use Rattle.agc_diff.proofs.Compared.{ends_reported}
use Rattle.agc_diff.proofs.runs.run_apart.Goals as goal

pub returns : goal.returns
returns g c =
    ends_reported c.args.common c.args.diverging _ _ _ _ _ _ _ _ _ _ _ _ _ c.held_writes.ensures.left c.held_writes.ensures.right c.in_ok-write.ensures c.finish.ensures c.finish-2.ensures
