-- Idle loops: turns of still orders that come back to the same context, so that whole turns can be skipped.
use Rattle.std.specs.Prelude.{◌≡◌, ℕ, zero, suc, ◌+◌, ◌<◌, ◌≤◌, true, None}
use Rattle.agc_processor.specs.Idle.{context_of, is_still, rest_of}
use Rattle.agc_machine.specs.Boundary.{boundary}
use Rattle.agc_machine.specs.Laws.{after}
use Rattle.agc_machine.specs.Quiet.{IsQuiet, Serves}
use Rattle.agc_machine.specs.Run.{next_before}
use Rattle.agc_machine.specs.State.{State}
use Rattle.agc_machine.specs.declared.quiet.Pace.TheVariants as pace

-- the same state, this many cycles later
abbrev pub later : ℕ → State → State
later cycles s = record s { cycle = s.cycle + cycles }

-- the order in hand is still, and so is it before each of the next boundaries, this many in all
unfoldable pub AreStill : ℕ → State → Type 0
AreStill zero s = Unit {0}
AreStill (suc more) s = (is_still s.processor ≡ true) × AreStill more (boundary None s).0

-- A turn of an idle loop: below `end` the clock brings nothing, and nothing but orders can come; the next orders, this
-- many, are still; and after them, a period later, the context is the same.
pub record IsTurn (orders period end : ℕ) (s : State) : Type 0 where
  pub quiet : IsQuiet end s
  pub bare : Serves pace.Bare s
  pub still : AreStill orders s
  pub back : context_of (after orders s).processor ≡ context_of s.processor
  pub takes : (after orders s).cycle ≡ s.cycle + period

-- From the first state still orders led to the second: it has the same processor but for the context, and whatever
-- cycles are added to both, what comes up to `end` is the same from both.
pub record Leads (end : ℕ) (s t : State) : Type 0 where
  pub same : t ≡ record s { processor = t.processor; cycle = t.cycle }
  pub rest : rest_of t.processor ≡ rest_of s.processor
  pub rises : s.cycle ≤ t.cycle
  pub way : (d : ℕ) → t.cycle + d < end → next_before end (later d s) ≡ next_before end (later d t)
