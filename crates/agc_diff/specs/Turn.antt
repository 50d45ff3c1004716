-- A machine at a boundary that it takes in two parts: an order that may run at once, and the entry.
use Rattle.std.specs.Prelude.{◌≡◌, Option, Some, None}
use Rattle.agc_machine.specs.Boundary.{HasPlace, boundary, upcoming_of}
use Rattle.agc_machine.specs.Laws.{HasChannel}
use Rattle.agc_machine.specs.State.{State}
use Rattle.agc_machine.specs.declared.answer.Stepped.{Stepped}
use Rattle.agc_machine.specs.declared.upcoming.InHand.{InHand}
use Rattle.agc_machine.specs.declared.upcoming.Upcoming.TheVariants as upcoming
use Rattle.agc_trace.specs.Entry.{FitsLine, entry_of}
use Rattle.agc_trace.specs.declared.entry.Entry.{Entry}
use Rattle.agc_diff.specs.declared.turn.Turn.{Turn}

-- the order in hand has run
pub record HasRun (s : State) (order : InHand) (stepped : Stepped) (t : State) : Type 0 where
  pub comes : upcoming_of s ≡ upcoming.Order order
  pub ran : (t, stepped) ≡ boundary None s
  pub place : HasPlace (upcoming.Order order)
  pub channel : HasChannel stepped

-- it has run, or nothing has changed
abbrev pub MayHaveRun : State → Option (InHand × Stepped) → State → Type 0
MayHaveRun s None t = t ≡ s
MayHaveRun s (Some (order, stepped)) t = HasRun s order stepped t

-- a machine has begun the boundary of a state
pub record HasBegun (s : State) (turn : Turn) (t : State) : Type 0 where
  pub cycle : turn.cycle ≡ s.cycle
  pub ran : MayHaveRun s turn.ran t

-- a machine has taken the boundary of a state, and this is its entry
pub record IsTaken (s : State) (entry : Entry) (t : State) : Type 0 where
  pub entered : entry ≡ entry_of s
  pub after : t ≡ (boundary None s).0
  pub fits : FitsLine entry
