-- How the machine keeps its state: the script whole, with the position of the next event.
use Rattle.std.specs.Prelude.{◌≡◌, ℕ, ◌+◌, ◌<◌, ◌≤◌, ◌^◌, false, true, drop, length}
use Rattle.agc_processor.specs.Due.{time6_periods}
use Rattle.agc_processor.specs.Period.{pulses_at}
use Rattle.agc_processor.specs.declared.processor.Timers.{Timers}
use Rattle.agc_machine.specs.declared.answer.Stepped.{Stepped}
use Rattle.agc_machine.specs.declared.answer.Stepped.TheVariants as stepped
use Rattle.agc_machine.specs.declared.engine.Engine.{Engine}
use Rattle.agc_machine.specs.declared.engine.Paced.{Paced}
use Rattle.agc_machine.specs.declared.engine.Paced.TheVariants as paced
use Rattle.agc_script.specs.Event.{IsWhatInRange}
use Rattle.agc_machine.specs.declared.upcoming.Upcoming.{Upcoming}
use Rattle.agc_machine.specs.declared.upcoming.Upcoming.TheVariants as upcoming
use Rattle.agc_machine.specs.Quiet.{IsQuiet, Serves}
use Rattle.agc_machine.specs.State.{State, IsAtStart}

-- the state that a machine stands for
abbrev pub state_of : Engine → State
state_of m =
    record {
      processor = m.processor;
      events = drop m.next m.script;
      limit = m.limit;
      cycle = m.cycle;
      begun = m.begun;
      stopped = m.stopped;
      until = m.until;
    }

-- the engine at another cycle
abbrev pub engine_at : ℕ → Engine → Engine
engine_at cycle m = record m { cycle = cycle }

-- the engine after an order that ran at its own cycle, and the result of the boundary
abbrev pub paced_engine : Engine → Paced → Engine
paced_engine m (paced.Goes next) = engine_at next m
paced_engine m (paced.Ends what) = m

abbrev pub paced_state : Engine → Paced → State × Stepped
paced_state m (paced.Goes next) = (state_of (engine_at next m), stepped.Quiet)
paced_state m (paced.Ends what) = (state_of m, what)

-- No timer is ahead of a cycle: none has taken more steps than pulses have passed, and TIME6's mark
-- is at most the periods passed.
pub record IsInTime (cycle : ℕ) (t : Timers) : Type 0 where
  pub time1 : t.time1 ≤ pulses_at cycle
  pub time3 : t.time3 ≤ pulses_at cycle
  pub time4 : t.time4 ≤ pulses_at cycle
  pub time5 : t.time5 ≤ pulses_at cycle
  pub mark : t.mark ≤ time6_periods cycle

-- What is true of every machine between two boundaries. Before its first boundary a machine is at
-- its start.
pub record IsSound (m : Engine) : Type 0 where
  pub place : m.next ≤ length m.script
  pub some : 0 < m.limit
  pub limit : m.limit ≤ 1000000000000
  pub cycle : m.cycle < m.limit + 6
  pub in_time : IsInTime m.cycle m.processor.timers
  pub quiet : 0 < m.quiet_until → IsQuiet m.quiet_until (state_of m)
  pub pace : 0 < m.quiet_until → Serves m.pace (state_of m)
  pub fresh : m.begun ≡ false → IsAtStart (state_of m)

-- a machine below its limit that has begun
pub record IsRunning (m : Engine) : Type 0 where
  pub place : m.next ≤ length m.script
  pub some : 0 < m.limit
  pub limit : m.limit ≤ 1000000000000
  pub cycle : m.cycle < m.limit
  pub in_time : IsInTime m.cycle m.processor.timers
  pub begun : m.begun ≡ true

-- an event that comes next is at its position in the script, and it can happen
abbrev pub StandsInScript : Upcoming → Engine → Type 0
StandsInScript (upcoming.Event what) m =
    (m.next < length m.script) × (m.next < 2 ^ 16) × IsWhatInRange what
StandsInScript (upcoming.Stop why) m = Unit {0}
StandsInScript (upcoming.Timer t) m = Unit {0}
StandsInScript (upcoming.Interrupt r) m = Unit {0}
StandsInScript (upcoming.Order order) m = Unit {0}
