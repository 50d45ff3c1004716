use Rattle.std.specs.Prelude.{◌≡◌, ◌≤◌, ◌+◌, ◌*◌, ◌++◌, length, string_bytes}
use Rattle.agc_script.specs.Event.{last_cycle}
use Rattle.agc_quantities.specs.Uplink.{keys_text}
use Rattle.agc_quantities.proofs.uplink.uplink_text.Given as goal

-- the lines so far, and those of the keys left, are all
abbrev pub invariant-loop-key : goal.invariant-loop-key
invariant-loop-key l = record {
  text : string_bytes l.text ++ keys_text l.cycle l.fn.times.every l.fn.times.bits l.rest
      ≡ string_bytes l.initial.text ++ keys_text l.fn.times.from l.fn.times.every l.fn.times.bits l.fn.keys;
  last : l.cycle + l.fn.times.every * length l.rest ≤ last_cycle;
}

abbrev pub decreases-loop-key : goal.decreases-loop-key
decreases-loop-key l = length l.rest
