use Rattle.std.specs.Prelude.{ℕ, List, []}
use Rattle.agc_word.specs.declared.channel_write.ChannelWrite.{ChannelWrite}
use Rattle.agc_machine.specs.Run.{boundaries_left}
use Rattle.agc_timeline.specs.Run.{HasTaken}
use Rattle.agc_timeline.proofs.RecordedFilm.{IsPassing}
use Rattle.agc_timeline.proofs.recording.record.Given as goal

-- the recorder has taken the writes so far
abbrev pub invariant-loop-machine : goal.invariant-loop-machine
invariant-loop-machine g l =
    (taken : List ChannelWrite) × IsPassing l.initial.cycle l.initial.machine taken l.machine
    × ((from : ℕ) (before : List ChannelWrite) → HasTaken from before [] l.initial.recorder → HasTaken from before taken l.recorder)

abbrev pub decreases-loop-machine : goal.decreases-loop-machine
decreases-loop-machine g l = boundaries_left l.machine
