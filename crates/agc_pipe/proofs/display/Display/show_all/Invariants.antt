use Rattle.std.proofs.Common.{◌≡◌, false, List, ◌++◌, take}
use Rattle.agc_word.specs.declared.channel_write.ChannelWrite.{ChannelWrite}
use Rattle.agc_pipe.specs.Display.{IsShowing}
use Rattle.agc_ring.specs.Items.{has_end, shown_in}
use Rattle.agc_pipe.proofs.display.Display.show_all.Given as goal

abbrev pub invariant-loop-item : goal.invariant-loop-item
invariant-loop-item g l = record {
  endless : has_end (take l.item-index l.items) ≡ false;
  shown : (writes : List ChannelWrite) → IsShowing l.initial.self writes
      → IsShowing l.self (writes ++ shown_in (take l.item-index l.items));
}
