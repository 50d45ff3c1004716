use Rattle.agc_session.proofs.Begun.{when_copied}
use Rattle.agc_session.proofs.session.copied.Goals as goal

pub returns : goal.returns
returns c = when_copied c.join-2.result _ _ _ c.ok.ensures.value c.join-2.ensures.ok c.empty.ensures
