-- What holds for every trace: it never goes back in time, and it ends with the run's stop.
use Rattle.std.specs.Prelude.{◌≡◌, ℕ, ◌≤◌, false, List, [], ◌∷◌, Some, None}
use Rattle.agc_machine.specs.State.{State}
use Rattle.agc_machine.specs.declared.answer.Stop.{Stop}
use Rattle.agc_machine.specs.declared.upcoming.Upcoming.TheVariants as upcoming
use Rattle.agc_trace.specs.Entry.{registers_of}
use Rattle.agc_trace.specs.Trace.{is_stop}
use Rattle.agc_trace.specs.declared.entry.Entry.{Entry}

-- the entries from a cycle on: none begins before its predecessor
abbrev pub NeverGoBack : ℕ → List Entry → Type 0
NeverGoBack from [] = Unit {0}
NeverGoBack from (entry ∷ entries) = (from ≤ entry.cycle) × NeverGoBack entry.cycle entries

-- an entry is the stop of a run that has come to this state: its reason, at the state's cycle, with
-- the registers that the run leaves
pub record ReportsStop (last : State) (entry : Entry) : Type 0 where
  pub why : Stop
  pub stopped : last.stopped ≡ Some why
  pub happening : entry.happening ≡ upcoming.Stop why
  pub cycle : entry.cycle ≡ last.cycle
  pub write : entry.write ≡ None
  pub registers : entry.registers ≡ registers_of last.processor.store

-- the last entry is the stop of this state, and no entry before it is a stop
abbrev pub EndsWithStop : State → List Entry → Type 0
EndsWithStop last [] = ⊥
EndsWithStop last (entry ∷ []) = ReportsStop last entry
EndsWithStop last (entry ∷ next ∷ entries) =
    (is_stop entry.happening ≡ false) × EndsWithStop last (next ∷ entries)
