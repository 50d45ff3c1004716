use Rattle.std.specs.Prelude.{◌≡◌, ◌≤◌, ◌+◌, ◌*◌, ◌++◌, length, string_bytes}
use Rattle.agc_script.specs.Event.{last_cycle}
use Rattle.agc_quantities.specs.Uplink.{bits_text}
use Rattle.agc_quantities.proofs.uplink.push_bits.Given as goal

-- the lines so far, and those of the pulses left, are all
abbrev pub invariant-loop-pulse : goal.invariant-loop-pulse
invariant-loop-pulse l = record {
  text : string_bytes l.text ++ bits_text l.cycle l.fn.bits l.rest
      ≡ string_bytes l.initial.text ++ bits_text l.fn.from l.fn.bits l.fn.pulses;
  last : l.cycle + l.fn.bits * length l.rest ≤ last_cycle;
}

abbrev pub decreases-loop-pulse : goal.decreases-loop-pulse
decreases-loop-pulse l = length l.rest
