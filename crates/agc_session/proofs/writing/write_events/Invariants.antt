use Rattle.std.specs.Prelude.{take}
use Rattle.std.specs.List.{flat_map}
use Rattle.std.specs.Io.KnownBytes.{Appends}
use Rattle.agc_script.specs.Written.{event_text}
use Rattle.agc_session.proofs.writing.write_events.Given as goal

abbrev pub invariant-loop-event : goal.invariant-loop-event
invariant-loop-event g l = Appends (g.W.Write.contents l.fn.out) (g.W.Write.contents l.out) (flat_map event_text (take l.event-index l.events))
