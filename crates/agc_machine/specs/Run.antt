-- Whole runs: the chain of boundaries without live keys, up to the next channel write, and up to
-- the stop.
use Rattle.std.specs.Prelude.{ℕ, zero, suc, ◌+◌, ◌-◌, List, [], ◌∷◌, length, None, nat_le, if◌then◌else◌}
use Rattle.agc_word.specs.declared.channel_write.ChannelWrite.{ChannelWrite}
use Rattle.agc_machine.specs.declared.answer.Next.{Next}
use Rattle.agc_machine.specs.declared.answer.Next.TheVariants as next
use Rattle.agc_machine.specs.declared.answer.Stepped.{Stepped}
use Rattle.agc_machine.specs.declared.answer.Stepped.TheVariants as stepped
use Rattle.agc_machine.specs.declared.answer.Stop.TheVariants as stop
use Rattle.agc_machine.specs.Boundary.{boundary}
use Rattle.agc_machine.specs.State.{State}

-- No run has more boundaries than this before it stops: each begins below the limit, and takes an
-- event or at least one cycle.
unfoldable pub boundaries_left : State → ℕ
boundaries_left s = s.limit - s.cycle + length s.events + 1

-- the chain continues after a quiet boundary
abbrev pub while_quiet : (State → State × Next) → State × Stepped → State × Next
while_quiet go_on (s, stepped.Quiet) = go_on s
while_quiet go_on (s, stepped.Wrote write) = (s, next.Wrote write)
while_quiet go_on (s, stepped.Stopped why) = (s, next.Stopped why)

-- the first write or stop within this many boundaries, which are enough
unfoldable pub next_within : ℕ → State → State × Next
next_within zero s = (s, next.Stopped stop.Limit)
next_within (suc more) s = while_quiet (next_within more) (boundary None s)

-- the next channel write, or the stop if none comes before it, and the state just after
unfoldable pub next_of : State → State × Next
next_of s = next_within (boundaries_left s) s

-- the chain continues after a quiet boundary that is not yet at a cycle
abbrev pub while_quiet_before : ℕ → (State → State × Stepped) → State × Stepped → State × Stepped
while_quiet_before cycle go_on (s, stepped.Quiet) =
    if nat_le cycle s.cycle then (s, stepped.Quiet) else go_on s
while_quiet_before cycle go_on (s, stepped.Wrote write) = (s, stepped.Wrote write)
while_quiet_before cycle go_on (s, stepped.Stopped why) = (s, stepped.Stopped why)

-- the first write, stop or boundary that ends at a cycle or later, within this many boundaries,
-- which are enough
unfoldable pub next_before_within : ℕ → ℕ → State → State × Stepped
next_before_within zero cycle s = (s, stepped.Quiet)
next_before_within (suc more) cycle s =
    while_quiet_before cycle (next_before_within more cycle) (boundary None s)

-- the next channel write or stop, or the first quiet boundary that ends at a cycle or later if
-- neither comes before it
unfoldable pub next_before : ℕ → State → State × Stepped
next_before cycle s = next_before_within (boundaries_left s) cycle s

-- A run up to its stop: its channel writes in order, and its last state.
pub record Run : Type 0 where
  pub writes : List ChannelWrite
  pub last : State

-- the run continues after a write
abbrev pub while_writing : (State → Run) → State × Next → Run
while_writing go_on (s, next.Wrote write) =
    let rest = go_on s in record { writes = write ∷ rest.writes; last = rest.last }
while_writing go_on (s, next.Stopped why) = record { writes = []; last = s }

-- the run within this many writes, which are enough
unfoldable pub run_within : ℕ → State → Run
run_within zero s = record { writes = []; last = s }
run_within (suc more) s = while_writing (run_within more) (next_of s)

-- the whole run from a state
unfoldable pub run_of : State → Run
run_of s = run_within (boundaries_left s) s
