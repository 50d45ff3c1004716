use Rattle.std.specs.Prelude.{length}
use Rattle.std.proofs.Common.{arith}
use Rattle.std.proofs.lemmas.List.{length-drop}
use Rattle.agc_session.specs.Search.{resumed}
use Rattle.agc_session.proofs.Boundaries.{short_enough}
use Rattle.agc_session.proofs.search.is_short.Goals as goal

pub returns : goal.returns
returns c =
    short_enough (resumed c.args.script.now c.args.from.now) c.wants_key-wanted.ensures.limit
    (omega (arith, length-drop (length c.args.from.now.taken) c.args.script.now, c.len-events.ensures.script.few))
