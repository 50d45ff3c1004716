use Rattle.agc_machine.specs.Boundary.{boundary}
use Rattle.std.specs.Prelude.{None}
use Rattle.agc_session.specs.Session.{HasGone}
use Rattle.agc_repl.proofs.Going.{advances_by_boundary, goes_by, reach_boundary, shows, shows_by_boundary}
use Rattle.agc_repl.proofs.repl.Repl.step.Goals as goal

pub returns-clause-shown : goal.returns-clause-shown
returns-clause-shown c =
    let gone : HasGone c.args.self.now.session (boundary None c.args.self.now.session.now) c.step-stepped.result c.note.new.self.session =
    rw c.note.ensures.session c.step-stepped.ensures.gone in
    rw c.note.ensures.same (shows c.args.self.now c.note.new.self _ c.step-stepped.result gone c.note.ensures.counted c.note.ensures.settings)

pub returns-clause-on : goal.returns-clause-on
returns-clause-on c =
    record { session = rw c.note.ensures.session (goes_by _ _ _ _ c.step-stepped.ensures.gone (reach_boundary _ _ _ c.step-stepped.ensures.gone.now)); settings = c.note.ensures.settings }

pub returns-clause-advances : goal.returns-clause-advances
returns-clause-advances c = rw c.note.ensures.session (advances_by_boundary _ _ _ c.step-stepped.ensures.gone.now)

pub returns-clause-channel : goal.returns-clause-channel
returns-clause-channel c = rw c.note.ensures.same (shows_by_boundary _ _ _ c.step-stepped.ensures.gone.now)
