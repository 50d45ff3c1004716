use Rattle.std.specs.Prelude.{◌≡◌, ◌≤◌, ◌++◌, length, drop}
use Rattle.agc_script.specs.Merge.{joined}
use Rattle.agc_script.proofs.merge.push_joined.Given as goal

abbrev pub invariant-loop-event : goal.invariant-loop-event
invariant-loop-event l = record {
  same : l.events.items ++ joined l.rest (drop l.event-index l.given) ≡ l.initial.events.items ++ joined l.fn.script l.fn.given;
  few : length l.rest ≤ 65536;
}
