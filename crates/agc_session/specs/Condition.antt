-- The conditions that a run stops at, and which boundaries of a run hit one.
use Rattle.std.specs.Prelude.{◌≡◌, ◌⊎◌, ℕ, zero, suc, ◌+◌, ◌-◌, ◌<◌, ◌≤◌, ◌%◌, if◌then◌else◌, nat_eq, nat_le, nat_lt, Bool, true, false, not, ◌&&◌}
use Rattle.std.specs.Prelude.{List, [], ◌∷◌, ◌++◌, length, find, All, Option, None, Some, IsTrue, IsSome}
use Rattle.std.specs.List.{list_any}
use Rattle.agc_word.specs.Number.{Number}
use Rattle.agc_store.specs.Memory.{Memory}
use Rattle.agc_store.specs.Places.{erasable_cells}
use Rattle.agc_listing.specs.Location.{location_at}
use Rattle.agc_listing.specs.declared.location.Location.{Location}
use Rattle.agc_listing.specs.declared.location.Location.TheVariants as location
use Rattle.agc_processor.specs.Interrupt.{rupt_number}
use Rattle.agc_processor.specs.declared.interrupt.Rupt.{Rupt}
use Rattle.agc_machine.specs.Boundary.{boundary, upcoming_of}
use Rattle.agc_machine.specs.Laws.{after}
use Rattle.agc_machine.specs.Run.{next_before}
use Rattle.agc_machine.specs.State.{State}
use Rattle.agc_machine.specs.declared.answer.Stepped.{Stepped}
use Rattle.agc_machine.specs.declared.answer.Stepped.TheVariants as stepped
use Rattle.agc_machine.specs.declared.upcoming.Upcoming.{Upcoming}
use Rattle.agc_machine.specs.declared.upcoming.Upcoming.TheVariants as upcoming
use Rattle.agc_panel.specs.Face.{face_after, panel_of}
use Rattle.agc_panel.specs.PanelLine.{shows}
use Rattle.agc_panel.specs.Text.{shows_same}
use Rattle.agc_panel.specs.declared.face.Face.{Face}
use Rattle.agc_panel.specs.declared.panel_line.PanelLine.{PanelLine}
use Rattle.agc_session.specs.Comparison.{IsComparisonInRange, holds_in, same_word, word_at}
use Rattle.agc_session.specs.Session.{BeginBefore, SessionState, script_of, shown_after, start_with}
use Rattle.agc_session.specs.declared.comparison.Comparison.{Comparison}
use Rattle.agc_session.specs.declared.condition.Armed.{Armed}
use Rattle.agc_session.specs.declared.condition.Caller.{Caller}
use Rattle.agc_session.specs.declared.condition.Condition.{Condition}
use Rattle.agc_session.specs.declared.condition.Condition.TheVariants as condition

abbrev pub same_location : Location → Location → Bool
same_location (location.Fixed here) (location.Fixed there) = nat_eq here there
same_location (location.Erasable here) (location.Erasable there) = nat_eq here there
same_location (location.Fixed here) (location.Erasable there) = false
same_location (location.Erasable here) (location.Fixed there) = false

-- a location's number in its part of the memory
abbrev pub place_number : Location → ℕ
place_number (location.Fixed place) = place
place_number (location.Erasable cell) = cell

-- the address of a location in the window of its bank
abbrev pub window_address : Location → ℕ
window_address (location.Fixed place) = 0o2000 + place % 0o2000
window_address (location.Erasable cell) = 0o1400 + cell % 0o400

-- the order at a place comes next
abbrev pub is_order_at : Location → Upcoming → Bool
is_order_at place (upcoming.Order order) = same_location (location_at order.bank order.address) place
is_order_at place (upcoming.Stop why) = false
is_order_at place (upcoming.Event what) = false
is_order_at place (upcoming.Timer t) = false
is_order_at place (upcoming.Interrupt r) = false

-- the same in a state in which a comparison holds
abbrev pub is_order_if : Location → Comparison → State → Bool
is_order_if place comparison s = is_order_at place (upcoming_of s) && holds_in s.processor.store comparison

-- the order at one of this many places in a row comes next
abbrev pub is_among : Location → ℕ → Location → Bool
is_among (location.Fixed first) count (location.Fixed here) = nat_le first here && nat_lt (here - first) count
is_among (location.Erasable first) count (location.Erasable here) = nat_le first here && nat_lt (here - first) count
is_among (location.Fixed first) count (location.Erasable here) = false
is_among (location.Erasable first) count (location.Fixed here) = false

abbrev pub is_order_among : Location → ℕ → Upcoming → Bool
is_order_among first count (upcoming.Order order) = is_among first count (location_at order.bank order.address)
is_order_among first count (upcoming.Stop why) = false
is_order_among first count (upcoming.Event what) = false
is_order_among first count (upcoming.Timer t) = false
is_order_among first count (upcoming.Interrupt r) = false

-- a state is of a job, if one is known
abbrev pub is_of_job : Option Comparison → Memory → Bool
is_of_job (Some comparison) m = holds_in m comparison
is_of_job None m = true

-- An order of a caller comes next: in its job, and in a service of an interrupt if and only if the caller is.
abbrev pub is_caller : Caller → State → Bool
is_caller c s =
    is_order_among c.first c.count (upcoming_of s) && (if c.serving then s.processor.serving else not s.processor.serving)
    && is_of_job c.job s.processor.store

-- the service of an interrupt comes next: of this one, or of any
abbrev pub is_wanted : Option Rupt → Rupt → Bool
is_wanted None r = true
is_wanted (Some which) r = nat_eq (rupt_number r) (rupt_number which)

abbrev pub is_service_of : Option Rupt → Upcoming → Bool
is_service_of which (upcoming.Interrupt r) = is_wanted which r
is_service_of which (upcoming.Order order) = false
is_service_of which (upcoming.Stop why) = false
is_service_of which (upcoming.Event what) = false
is_service_of which (upcoming.Timer t) = false

-- a boundary returned a write: to this channel, or to any, and of this word, or of any
abbrev pub is_channel_of : Option ℕ → ℕ → Bool
is_channel_of None channel = true
is_channel_of (Some wanted) channel = nat_eq channel wanted

abbrev pub is_value_of : Option Number → Number → Bool
is_value_of None value = true
is_value_of (Some wanted) value = same_word value wanted

abbrev pub is_write_of : Option ℕ → Option Number → Stepped → Bool
is_write_of channel word (stepped.Wrote write) = is_channel_of channel write.channel && is_value_of word write.value
is_write_of channel word stepped.Quiet = false
is_write_of channel word (stepped.Stopped why) = false

-- a boundary changes what the panel shows, which only a write can
abbrev pub is_panel_change : Face → Stepped → Bool
is_panel_change panel (stepped.Wrote write) = not (shows_same panel (face_after panel (write ∷ [])))
is_panel_change panel stepped.Quiet = false
is_panel_change panel (stepped.Stopped why) = false

-- a boundary brings a line to the panel, which did not show it before; only a write can
abbrev pub is_line_new : PanelLine → Face → Stepped → Bool
is_line_new l panel (stepped.Wrote write) = not (shows l panel) && shows l (face_after panel (write ∷ []))
is_line_new l panel stepped.Quiet = false
is_line_new l panel (stepped.Stopped why) = false

-- a cell has another word after a change of the memory
abbrev pub is_changed : ℕ → Memory → Memory → Bool
is_changed cell before later = not (same_word (word_at cell later) (word_at cell before))

-- a cell of a condition exists
abbrev pub IsJobInRange : Option Comparison → Type 0
IsJobInRange (Some comparison) = IsComparisonInRange comparison
IsJobInRange None = Unit {0}

abbrev pub IsConditionInRange : Condition → Type 0
IsConditionInRange (condition.Cell cell) = cell < erasable_cells
IsConditionInRange (condition.OrderIf place comparison) = IsComparisonInRange comparison
IsConditionInRange (condition.Caller caller) = IsJobInRange caller.job
IsConditionInRange condition.Boundary = Unit {0}
IsConditionInRange (condition.Order place) = Unit {0}
IsConditionInRange (condition.Write channel word) = Unit {0}
IsConditionInRange (condition.Interrupt which) = Unit {0}
IsConditionInRange condition.Panel = Unit {0}
IsConditionInRange (condition.Shows line) = Unit {0}

-- a condition that only a channel write can hit, and whether this answer does
abbrev pub is_on_write : Condition → Bool
is_on_write (condition.Write channel word) = true
is_on_write condition.Panel = true
is_on_write (condition.Shows line) = true
is_on_write what = false

abbrev pub is_met_by : Condition → Face → Stepped → Bool
is_met_by (condition.Write channel word) panel answer = is_write_of channel word answer
is_met_by condition.Panel panel answer = is_panel_change panel answer
is_met_by (condition.Shows line) panel answer = is_line_new line panel answer
is_met_by what panel answer = false

-- The panel after the boundary that begins in this state.
abbrev pub panel_after : Face → State → Face
panel_after panel s = shown_after (boundary None s).1 panel

-- The boundary that begins in a state, before which the panel shows this, hits a condition: by what comes, by what it
-- writes, or by what it changes.
unfoldable pub Meets : Condition → Face → State → Type 0
Meets condition.Boundary panel s = Unit {0}
Meets (condition.Order place) panel s = IsTrue (is_order_at place (upcoming_of s))
Meets (condition.OrderIf place comparison) panel s = IsTrue (is_order_if place comparison s)
Meets (condition.Caller caller) panel s = IsTrue (is_caller caller s)
Meets (condition.Cell cell) panel s =
    IsTrue (is_changed cell s.processor.store (boundary None s).0.processor.store)
Meets (condition.Write channel word) panel s = IsTrue (is_write_of channel word (boundary None s).1)
Meets (condition.Interrupt which) panel s = IsTrue (is_service_of which (upcoming_of s))
Meets condition.Panel panel s = IsTrue (is_panel_change panel (boundary None s).1)
Meets (condition.Shows line) panel s = IsTrue (is_line_new line panel (boundary None s).1)

-- A stopped machine does not change, so its boundaries hit nothing.
pub record Hits (condition : Condition) (panel : Face) (s : State) : Type 0 where
  pub runs : s.stopped ≡ None
  pub meets : Meets condition panel s

-- the cycle of one boundary, if it hits
abbrev pub AreHitsOfOne : Condition → Face → State → List ℕ → Type 0
AreHitsOfOne condition panel s cycles =
    (Hits condition panel s × (cycles ≡ s.cycle ∷ [])) ⊎ ((Hits condition panel s → ⊥) × (cycles ≡ []))

-- The cycles at which those of this many boundaries began that hit, in order.
unfoldable pub AreHits : Condition → ℕ → Face → State → List ℕ → Type 0
AreHits condition zero panel s cycles = cycles ≡ []
AreHits condition (suc more) panel s cycles =
    (first : List ℕ) × (rest : List ℕ) × AreHitsOfOne condition panel s first
    × AreHits condition more (panel_after panel s) (boundary None s).0 rest × (cycles ≡ first ++ rest)

-- the panel after this many boundaries
unfoldable pub panel_later : ℕ → Face → State → Face
panel_later zero panel s = panel
panel_later (suc more) panel s = panel_later more (panel_after panel s) (boundary None s).0

-- The panel of the run from a start, after this many boundaries.
abbrev pub panel_at : ℕ → State → Face
panel_at boundaries start = panel_later boundaries (panel_of []) start

-- The boundary that began at this cycle is the hit with this number, counted back from now: from it on, itself
-- included, there are exactly so many hits. Boundaries lead from the start to it, and from it to now.
pub record IsLastHit (condition : Condition) (count : ℕ) (start now : State) (cycle : ℕ) : Type 0 where
  pub earlier : ℕ
  pub later : ℕ
  pub reaches_now : after later (after earlier start) ≡ now
  pub begins : (after earlier start).cycle ≡ cycle
  pub hits : Hits condition (panel_at earlier start) (after earlier start)
  pub cycles : List ℕ
  pub since : AreHits condition later (panel_at earlier start) (after earlier start) cycles
  pub number : length cycles ≡ count

-- There were fewer hits than this on the way from the start to now.
pub record HasFewerHits (condition : Condition) (count : ℕ) (start now : State) : Type 0 where
  pub boundaries : ℕ
  pub reaches_now : after boundaries start ≡ now
  pub cycles : List ℕ
  pub all : AreHits condition boundaries (panel_of []) start cycles
  pub fewer : length cycles < count

-- The cycle of the hit with this number, counted back from now, on the way from a start.
abbrev pub IsFoundFrom : Condition → ℕ → State → State → Option ℕ → Type 0
IsFoundFrom condition count start now (Some cycle) = IsLastHit condition count start now cycle
IsFoundFrom condition count start now None = HasFewerHits condition count start now

-- The same on the run of a session's script to its present state.
abbrev pub IsFoundBack : Condition → ℕ → SessionState → Option ℕ → Type 0
IsFoundBack condition count s found = IsFoundFrom condition count (start_with (script_of s) s.now) s.now found

-- A run forward ends with a boundary that hits a condition, but before the order at a place.
abbrev pub Ends : Condition → Face → State → Type 0
Ends (condition.Order place) panel s = IsTrue (is_order_at place (upcoming_of (boundary None s).0))
Ends (condition.OrderIf place comparison) panel s = IsTrue (is_order_if place comparison (boundary None s).0)
Ends (condition.Caller caller) panel s = IsTrue (is_caller caller (boundary None s).0)
Ends condition panel s = Meets condition panel s

-- none of this many boundaries ends a run forward
unfoldable pub NoneEnds : Condition → ℕ → Face → State → Type 0
NoneEnds condition zero panel s = Unit {0}
NoneEnds condition (suc more) panel s =
    (Ends condition panel s → ⊥) × NoneEnds condition more (panel_after panel s) (boundary None s).0

-- A session ran forward, by boundaries that begin before a cycle and before the stop. If it has hit, the last of them
-- is the only one that ends the run; otherwise none does, and the cycle or the stop is reached.
pub record HasRunTo (condition : Condition) (cycle : ℕ) (s t : SessionState) (hit : Bool) : Type 0 where
  pub boundaries : ℕ
  pub now : after boundaries s.now ≡ t.now
  pub before : BeginBefore boundaries cycle s.now
  pub none : hit ≡ false → NoneEnds condition boundaries s.panel s.now
  pub there : hit ≡ false → (cycle ≤ t.now.cycle) ⊎ IsSome t.now.stopped
  pub last : hit ≡ true → (earlier : ℕ) × (boundaries ≡ suc earlier)
      × NoneEnds condition earlier s.panel s.now
      × Ends condition (panel_later earlier s.panel s.now) (after earlier s.now)
      × ((after earlier s.now).stopped ≡ None)
  pub base : t.base ≡ s.base
  pub retained : t.retained ≡ s.retained
  pub script : t.script ≡ s.script
  pub injected : t.injected ≡ s.injected

-- a numbered condition that is armed in a state: a cell with its word
abbrev pub cell_before : Condition → State → Option Number
cell_before (condition.Cell cell) s = Some (word_at cell s.processor.store)
cell_before what s = None

abbrev pub armed_in : State → ℕ → Condition → Armed
armed_in s number what = record { number = number; condition = what; before = cell_before what s }

abbrev pub AreArmedInRange : List Armed → Type 0
AreArmedInRange armed = All (λ a. IsConditionInRange a.condition) armed

-- a cell has another word than one that is known
abbrev pub is_other_word : ℕ → Option Number → Memory → Bool
is_other_word cell (Some before) m = not (same_word (word_at cell m) before)
is_other_word cell None m = false

-- A boundary has hit a condition, by the panel before it, the state that it leads to and what it returned. A run ends
-- just before an order or the service of an interrupt, but just after all else.
abbrev pub is_hit_as : Condition → Option Number → Face → State → Stepped → Bool
is_hit_as condition.Boundary before panel s answer = true
is_hit_as (condition.Order place) before panel s answer = is_order_at place (upcoming_of s)
is_hit_as (condition.OrderIf place comparison) before panel s answer = is_order_if place comparison s
is_hit_as (condition.Caller caller) before panel s answer = is_caller caller s
is_hit_as (condition.Cell cell) before panel s answer = is_other_word cell before s.processor.store
is_hit_as (condition.Interrupt which) before panel s answer = is_service_of which (upcoming_of s)
is_hit_as (condition.Write channel word) before panel s answer = is_write_of channel word answer
is_hit_as condition.Panel before panel s answer = is_panel_change panel answer
is_hit_as (condition.Shows line) before panel s answer = is_line_new line panel answer

unfoldable pub is_hit : Armed → Face → State → Stepped → Bool
is_hit a panel s answer = is_hit_as a.condition a.before panel s answer

-- a condition on what comes next, just before which a run ends
abbrev pub is_on_next : Condition → Bool
is_on_next (condition.Order place) = true
is_on_next (condition.OrderIf place comparison) = true
is_on_next (condition.Caller caller) = true
is_on_next (condition.Interrupt which) = true
is_on_next what = false

-- the first of some conditions that a boundary has hit
unfoldable pub first_hit : List Armed → Face → State → Stepped → Option Armed
first_hit armed panel s answer = find (λ a. is_hit a panel s answer) armed

-- a run to the first of some conditions has to look at each boundary, unless only writes can hit them
unfoldable pub needs_each : List Armed → Bool
needs_each armed = list_any (λ a. not (is_on_write a.condition)) armed

-- how far a run goes on at a time: one boundary if it has to look at each, otherwise to the next write
abbrev pub next_stretch : List Armed → ℕ → State → State × Stepped
next_stretch armed cycle s = if needs_each armed then boundary None s else next_before cycle s
