use Rattle.agc_profile.proofs.Flags.{contexts_tell}
use Rattle.agc_profile.proofs.laws.a_context_reports_the_flags.Goals as goal

pub returns : goal.returns
returns c =
    let flags = c.three_orders_change_the_flags.ensures in
    contexts_tell flags.inhibited flags.serving flags.extracode
