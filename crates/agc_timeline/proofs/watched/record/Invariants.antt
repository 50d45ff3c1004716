use Rattle.std.specs.Prelude.{◌≡◌, ◌++◌, ℕ, List, [], None}
use Rattle.agc_word.specs.declared.channel_write.ChannelWrite.{ChannelWrite}
use Rattle.agc_machine.specs.Run.{boundaries_left}
use Rattle.agc_timeline.specs.Changes.{sights_in}
use Rattle.agc_timeline.specs.Film.{after_first}
use Rattle.agc_timeline.specs.Lines.{reported_of}
use Rattle.agc_timeline.specs.States.{states_of}
use Rattle.agc_timeline.specs.Run.{HasTaken}
use Rattle.agc_timeline.proofs.RecordedFilm.{IsPassing}
use Rattle.agc_timeline.proofs.watched.record.Given as goal

-- the recorder has taken the writes so far, and the lines so far and those left to be told are those of the whole
abbrev pub invariant-loop-alloc : goal.invariant-loop-alloc
invariant-loop-alloc g l =
    ((taken : List ChannelWrite) × IsPassing l.initial.span.to l.initial.machine taken l.machine
    × ((from : ℕ) (before : List ChannelWrite) → HasTaken from before [] l.initial.recorder → HasTaken from before taken l.recorder))
    × (l.tables.text ++ reported_of None l.tables.shown (sights_in (after_first l.span) l.spec (states_of l.machine))
    ≡ l.initial.tables.text ++ reported_of None l.initial.tables.shown (sights_in (after_first l.span) l.spec (states_of l.initial.machine)))

abbrev pub decreases-loop-alloc : goal.decreases-loop-alloc
decreases-loop-alloc g l = boundaries_left l.machine
