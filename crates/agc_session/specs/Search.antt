-- The search back from now, stretch by stretch: the newest one first.
use Rattle.std.specs.Prelude.{◌≡◌, ◌⊎◌, ℕ, suc, ◌+◌, ◌<◌, ◌≤◌, List, [], ◌∷◌, ◌++◌, length, drop, Option, None, Some, is_some, IsTrue, if◌then◌else◌}
use Rattle.agc_script.specs.declared.event.Event.{Event}
use Rattle.agc_machine.specs.Boundary.{boundary}
use Rattle.agc_machine.specs.Laws.{after}
use Rattle.agc_machine.specs.OrderRun.{ArePassed, IsAtOrder}
use Rattle.agc_machine.specs.Run.{boundaries_left}
use Rattle.agc_machine.specs.State.{State}
use Rattle.agc_machine.specs.declared.order_run.Watch.{Watch}
use Rattle.agc_panel.specs.declared.face.Face.{Face}
use Rattle.agc_session.specs.Condition.{AreHits, is_on_write, panel_after, panel_at, panel_later}
use Rattle.agc_session.specs.Session.{BeginBefore}
use Rattle.agc_session.specs.declared.condition.Condition.{Condition}
use Rattle.agc_session.specs.declared.checkpoint.Checkpoint.{Checkpoint}
use Rattle.agc_session.specs.declared.search.Counted.{Counted}
use Rattle.agc_session.specs.declared.search.Found.{Found}
use Rattle.agc_session.specs.declared.search.Found.TheVariants as found
use Rattle.agc_session.specs.declared.search.Point.{Point}

-- a state is at a point of its run
pub record IsAt (point : Point) (s : State) : Type 0 where
  pub cycle : s.cycle ≡ point.cycle
  pub left : length s.events ≡ point.left
  pub stopped : is_some s.stopped ≡ point.stopped

-- the state from which the run of a script goes on from a copy
abbrev pub resumed : List Event → Checkpoint → State
resumed script copy = record copy.machine { events = drop (length copy.taken) script }

-- the most boundaries that a machine can still take: none after its stop
abbrev pub span : State → ℕ
span s = if is_some s.stopped then 0 else boundaries_left s

-- these are the number of some hits and the cycle of the last one
pub record IsCountOf (cycles : List ℕ) (hits : Counted) : Type 0 where
  pub number : hits.number ≡ length cycles
  pub last : 0 < length cycles → (front : List ℕ) × (cycles ≡ front ++ hits.last ∷ [])

-- Of this many boundaries from a state on, some lead to another state, and their hits are counted.
pub record IsCounting (condition : Condition) (n : ℕ) (panel shown : Face) (s t : State) (counted : Counted) : Type 0 where
  pub boundaries : ℕ
  pub left : ℕ
  pub parts : boundaries + left ≡ n
  pub now : after boundaries s ≡ t
  pub panel_now : panel_later boundaries panel s ≡ shown
  pub cycles : List ℕ
  pub hits : AreHits condition boundaries panel s cycles
  pub count : IsCountOf cycles counted

-- Of this many boundaries from a state on, the hits are counted: all, or those up to one with this number.
pub record HasCounted (condition : Condition) (n most : ℕ) (panel : Face) (s : State) (counted : Counted) : Type 0 where
  pub boundaries : ℕ
  pub left : ℕ
  pub parts : boundaries + left ≡ n
  pub cycles : List ℕ
  pub hits : AreHits condition boundaries panel s cycles
  pub count : IsCountOf cycles counted
  pub few : counted.number ≤ most
  pub done : (counted.number ≡ most) ⊎ AreHits condition left (panel_later boundaries panel s) (after boundaries s) []

-- a condition that only a channel write can hit
abbrev pub IsOnWrite : Condition → Type 0
IsOnWrite what = IsTrue (is_on_write what)

-- the cycle of one hit, if there is one
abbrev pub cycles_of : Option ℕ → List ℕ
cycles_of (Some cycle) = cycle ∷ []
cycles_of None = []

-- At least one boundary was taken. Those after the first begin before a cycle, and only the last may hit.
pub record HasAdvanced (condition : Condition) (cycle : ℕ) (panel shown : Face) (s t : State) (hit : Option ℕ) : Type 0 where
  pub more : ℕ
  pub now : after (suc more) s ≡ t
  pub panel_now : panel_later (suc more) panel s ≡ shown
  pub before : BeginBefore more cycle (boundary None s).0
  pub hits : AreHits condition (suc more) panel s (cycles_of hit)

-- Orders that trigger no watch were taken, and then one boundary, which is an order too unless it is the only one. It
-- began at this cycle.
pub record HasPassed (watch : Watch) (cycle : ℕ) (panel shown : Face) (s t : State) (began : ℕ) : Type 0 where
  pub more : ℕ
  pub passed : ArePassed watch cycle more s
  pub last : 0 < more → IsAtOrder (after more s)
  pub begins : began ≡ (after more s).cycle
  pub now : t ≡ (boundary None (after more s)).0
  pub panel_now : shown ≡ panel_after panel (after more s)

-- what a stretch with these hits says of the hit with a number, counted back from its end
abbrev pub IsFoundIn : ℕ → List ℕ → Found → Type 0
IsFoundIn wanted cycles (found.At cycle) =
    (front : List ℕ) × (back : List ℕ) × (cycles ≡ front ++ cycle ∷ back) × (length back + 1 ≡ wanted)
IsFoundIn wanted cycles (found.Fewer number) = (length cycles ≡ number) × (number < wanted)

-- a stretch with fewer hits than wanted has fewer
abbrev pub IsFewerThan : ℕ → Found → Type 0
IsFewerThan wanted (found.At cycle) = Unit {0}
IsFewerThan wanted (found.Fewer number) = number < wanted

-- a stretch of this many boundaries was searched
pub record HasSearched (condition : Condition) (wanted n : ℕ) (panel : Face) (s : State) (answer : Found) : Type 0 where
  pub cycles : List ℕ
  pub hits : AreHits condition n panel s cycles
  pub found : IsFoundIn wanted cycles answer

-- The search has come back to a point on the way from a start to now: so many hits are still wanted before it.
pub record IsSearching (condition : Condition) (count wanted : ℕ) (start now : State) (point : Point) : Type 0 where
  pub earlier : ℕ
  pub later : ℕ
  pub at : IsAt point (after earlier start)
  pub reaches_now : after later (after earlier start) ≡ now
  pub cycles : List ℕ
  pub hits : AreHits condition later (panel_at earlier start) (after earlier start) cycles
  pub rest : length cycles + wanted ≡ count
  pub some : 0 < wanted
