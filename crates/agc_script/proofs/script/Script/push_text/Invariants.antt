use Rattle.std.specs.Prelude.{◌≡◌, ◌++◌, take, string_bytes}
use Rattle.std.specs.List.{flat_map}
use Rattle.agc_script.specs.Written.{event_text}
use Rattle.agc_script.proofs.script.Script.push_text.Given as goal

abbrev pub invariant-loop-event : goal.invariant-loop-event
invariant-loop-event l = string_bytes l.text ≡ string_bytes l.initial.text ++ flat_map event_text (take l.event-index l.events)
