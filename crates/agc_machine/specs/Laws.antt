-- What is true of every run, above the definitions: it goes forwards in time, it comes to its end,
-- and its writes rise.
use Rattle.std.specs.Prelude.{◌≡◌, ℕ, zero, suc, ◌+◌, ◌<◌, ◌≤◌, List, [], ◌∷◌, replicate, None, Some, false}
use Rattle.agc_word.specs.Channels.{IsIoChannel}
use Rattle.agc_word.specs.declared.channel_write.ChannelWrite.{ChannelWrite}
use Rattle.agc_processor.specs.Processor.{z_at}
use Rattle.agc_processor.specs.declared.processor.Processor.{Processor}
use Rattle.agc_machine.specs.declared.answer.Next.{Next}
use Rattle.agc_machine.specs.declared.answer.Next.TheVariants as next
use Rattle.agc_machine.specs.declared.answer.Stepped.{Stepped}
use Rattle.agc_machine.specs.declared.answer.Stepped.TheVariants as stepped
use Rattle.agc_script.specs.declared.event.Event.{Event}
use Rattle.agc_machine.specs.Boundary.{IsBefore, boundary}
use Rattle.agc_machine.specs.Replay.{chain}
use Rattle.agc_machine.specs.Run.{boundaries_left}
use Rattle.agc_machine.specs.State.{State}

-- The effect of a boundary without a live key on what is left and on the cycle: it never goes back,
-- and unless it stops fewer boundaries are left. A write shows the boundary's cycle and a channel
-- from 5 to 777 octal, and takes time; a stop is kept.
abbrev pub Falls : State → State × Stepped → Type 0
Falls s (t, stepped.Quiet) = (boundaries_left t < boundaries_left s) × (s.cycle ≤ t.cycle)
Falls s (t, stepped.Wrote write) =
    (boundaries_left t < boundaries_left s) × (write.cycle ≡ s.cycle) × (s.cycle < t.cycle)
    × IsIoChannel write.channel
Falls s (t, stepped.Stopped why) = (t.stopped ≡ Some why) × (s.cycle ≤ t.cycle)

-- The effect of the next write or stop: after a write fewer boundaries are left, the write is not
-- before the present cycle, and time has passed since; a stop is kept.
abbrev pub Comes : State → State × Next → Type 0
Comes s (t, next.Wrote write) =
    (boundaries_left t < boundaries_left s) × (s.cycle ≤ write.cycle) × (write.cycle < t.cycle)
    × IsIoChannel write.channel
Comes s (t, next.Stopped why) = (t.stopped ≡ Some why) × (s.cycle ≤ t.cycle)

-- The constants of a run are the same in a later state: the fixed words, the limit and the stop
-- address.
abbrev pub IsSameRun : State → State → Type 0
IsSameRun s t =
    (t.processor.store.fixed ≡ s.processor.store.fixed) × (t.limit ≡ s.limit) × (t.until ≡ s.until)

-- After this many boundaries without live keys a state has not stopped, has these events left, and some other events
-- all come after its cycle.
pub record LeavesEvents (n : ℕ) (rest other : List Event) (s : State) : Type 0 where
  pub left : (chain (replicate n None) s).last.events ≡ rest
  pub runs : (chain (replicate n None) s).last.stopped ≡ None
  pub later : IsBefore (chain (replicate n None) s).last.cycle other

-- a processor is back where it was interrupted: at the same Z, with the same order in hand, and no
-- interrupt being served
abbrev pub ComesBack : Processor → Processor → Type 0
ComesBack p q = (z_at q ≡ z_at p) × (q.hand ≡ p.hand) × (q.serving ≡ false)

-- a write that a boundary returns goes to a channel from 5 to 777 octal
abbrev pub HasChannel : Stepped → Type 0
HasChannel (stepped.Wrote write) = IsIoChannel write.channel
HasChannel stepped.Quiet = Unit {0}
HasChannel (stepped.Stopped why) = Unit {0}

-- and so does the next write of a run
abbrev pub HasNextChannel : Next → Type 0
HasNextChannel (next.Wrote write) = IsIoChannel write.channel
HasNextChannel (next.Stopped why) = Unit {0}

-- a stop that is returned is kept in the state
abbrev pub KeepsStop : State × Stepped → Type 0
KeepsStop (t, stepped.Stopped why) = t.stopped ≡ Some why
KeepsStop (t, stepped.Quiet) = Unit {0}
KeepsStop (t, stepped.Wrote write) = Unit {0}

-- the writes from a cycle on: each later than the one before, and each to a channel from 5 to 777
-- octal
abbrev pub AreRising : ℕ → List ChannelWrite → Type 0
AreRising from [] = Unit {0}
AreRising from (write ∷ writes) =
    (from ≤ write.cycle) × IsIoChannel write.channel × AreRising (write.cycle + 1) writes

-- the state after this many boundaries without live keys
unfoldable pub after : ℕ → State → State
after zero s = s
after (suc more) s = after more (boundary None s).0
