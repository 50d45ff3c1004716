use Rattle.agc_tui.proofs.Operators.{keeps_injected, keeps_same, keeps_then}
use Rattle.agc_tui.proofs.operator.Operator.inject.Goals as goal

pub returns-in_err-make_room : goal.returns-in_err-make_room
returns-in_err-make_room c = keeps_same _ _ c.make_room.ensures.same

pub returns-in_err-inject : goal.returns-in_err-inject
returns-in_err-inject c =
    keeps_then _ _ _ (keeps_same _ _ c.make_room.ensures.same) (keeps_then _ _ _ c.take_events.ensures (keeps_same _ _ c.in_err-inject.ensures.refused))

pub returns : goal.returns
returns c =
    keeps_then _ _ _ (keeps_same _ _ c.make_room.ensures.same) (keeps_then _ _ _ c.take_events.ensures (keeps_injected _ _ c.args.what c.in_ok-inject.ensures.injected))
