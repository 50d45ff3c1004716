use Rattle.std.proofs.Common.{◌≡◌, ◌-◌}
use Rattle.agc_repl.specs.Repl.{GoesOn, after_due, due_within}
use Rattle.agc_repl.proofs.commands.take_due_events.Given as goal

abbrev pub invariant-loop-event : goal.invariant-loop-event
invariant-loop-event l =
    (record l.repl { session = due_within (65537 - l._event) l.repl.session } ≡ record l.initial.repl { session = after_due l.initial.repl.session })
    × GoesOn l.initial.repl.session l.repl.session
