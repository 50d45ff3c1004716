use Rattle.std.specs.Prelude.{◌≡◌, ◌+◌, ◌++◌, length, map, All}
use Rattle.std.specs.List.{range_with_len}
use Rattle.agc_script.specs.Event.{IsInRange}
use Rattle.agc_script.specs.Parse.{event_at}
use Rattle.agc_script.proofs.parse.push_events.Given as goal

abbrev pub invariant-loop-i : goal.invariant-loop-i
invariant-loop-i l = record {
  pushed : l.events.items ≡ l.initial.events.items ++ map (event_at l.repeat) (range_with_len 0 l.i);
  len : length l.events.items ≡ length l.initial.events.items + l.i;
  in_range : All IsInRange l.events.items;
}
