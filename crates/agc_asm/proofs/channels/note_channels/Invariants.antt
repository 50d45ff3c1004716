use Rattle.std.specs.Prelude.{◌≡◌, ◌+◌, ◌≤◌, length, map}
use Rattle.agc_asm.specs.Channels.{channels_from}
use Rattle.agc_vocabulary.specs.Name.{naming_of}
use Rattle.agc_asm.proofs.channels.note_channels.Given as goal

abbrev pub invariant-loop-rest : goal.invariant-loop-rest
invariant-loop-rest l = record {
  same : channels_from (l.number + 1) (naming_of l.names) (map (λ line. line.text.now) l.rest) ≡ channels_from 1 (naming_of l.fn.known) (map (λ line. line.text.now) l.fn.lines);
  count : l.number + length l.rest ≤ length l.fn.lines;
}

abbrev pub decreases-loop-rest : goal.decreases-loop-rest
decreases-loop-rest l = length l.rest
