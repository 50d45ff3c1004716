use Rattle.std.specs.Prelude.{◌≡◌, ◌+◌, ℕ, List}
use Rattle.agc_word.specs.declared.channel_write.ChannelWrite.{ChannelWrite}
use Rattle.agc_machine.specs.Run.{boundaries_left}
use Rattle.agc_panel.specs.Face.{panel_of}
use Rattle.agc_timeline.specs.Changes.{shown_after, sights_in}
use Rattle.agc_timeline.specs.Film.{until}
use Rattle.agc_timeline.specs.States.{states_of}
use Rattle.agc_timeline.proofs.RecordedFilm.{IsPassing}
use Rattle.agc_timeline.proofs.watched.open.Given as goal

-- the panel has taken the writes so far, what is left will show the tables that the whole would, and no later state was met
abbrev pub invariant-loop-opening : goal.invariant-loop-opening
invariant-loop-opening g l =
    ((taken : List ChannelWrite) × IsPassing l.initial.cycle l.initial.machine taken l.machine × (l.panel ≡ panel_of taken))
    × (shown_after l.opening (sights_in (until l.cycle) l.spec (states_of l.machine))
    ≡ shown_after l.initial.opening (sights_in (until l.cycle) l.spec (states_of l.initial.machine)))
    × ((to : ℕ) → sights_in (record { from = l.cycle + 1; to = to }) l.spec (states_of l.machine)
    ≡ sights_in (record { from = l.cycle + 1; to = to }) l.spec (states_of l.initial.machine))

abbrev pub decreases-loop-opening : goal.decreases-loop-opening
decreases-loop-opening g l = boundaries_left l.machine
