use Rattle.std.specs.Prelude.{◌≡◌, ◌++◌, length}
use Rattle.std.specs.List.{flat_map}
use Rattle.agc_word.specs.Text.{lines_of}
use Rattle.agc_symbols.specs.Channels.{channels_on}
use Rattle.agc_symbols.proofs.channel_table.ChannelTable.read.Given as goal

abbrev pub invariant-loop-line : goal.invariant-loop-line
invariant-loop-line l =
    l.names.items ++ flat_map channels_on (lines_of l.rest) ≡ flat_map channels_on (lines_of l.fn.text)

abbrev pub decreases-loop-line : goal.decreases-loop-line
decreases-loop-line l = length l.rest
