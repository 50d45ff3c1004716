use Rattle.std.proofs.lemmas.List.{take_rest}
use Rattle.agc_session.proofs.Written.{since_found}
use Rattle.agc_session.proofs.writing.events_since.Goals as goal

pub returns-clause-since : goal.returns-clause-since
returns-clause-since c =
    rw (take_rest, c.unwrap_or-place.ensures, c.first_since.ensures.place) (since_found c.args.cycle c.args.events.now)
