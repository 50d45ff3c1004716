use Rattle.std.specs.Prelude.{◌≡◌, List}
use Rattle.agc_word.specs.declared.channel_write.ChannelWrite.{ChannelWrite}
use Rattle.agc_machine.specs.Run.{boundaries_left}
use Rattle.agc_panel.specs.Face.{panel_of}
use Rattle.agc_timeline.proofs.RecordedFilm.{IsPassing}
use Rattle.agc_timeline.proofs.recording.open.Given as goal

-- the panel has taken the writes so far
abbrev pub invariant-loop-machine : goal.invariant-loop-machine
invariant-loop-machine g l =
    (taken : List ChannelWrite) × IsPassing l.initial.cycle l.initial.machine taken l.machine × (l.panel ≡ panel_of taken)

abbrev pub decreases-loop-machine : goal.decreases-loop-machine
decreases-loop-machine g l = boundaries_left l.machine
