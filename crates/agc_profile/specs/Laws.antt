-- How the profile of a run relates to its boundaries.
use Rattle.std.specs.Prelude.{◌≡◌, ◌==◌, ◌&&◌, Option, Some, None, is_some, ℕ, ◌+◌, Bool, false, List, [], ◌∷◌, filter, length}
use Rattle.std.specs.List.{sum_by}
use Rattle.agc_processor.specs.Interrupt.{rupt_number}
use Rattle.agc_processor.specs.declared.interrupt.Rupt.{Rupt}
use Rattle.agc_processor.specs.declared.processor.Processor.{Processor}
use Rattle.agc_machine.specs.Boundary.{boundary}
use Rattle.agc_machine.specs.State.{State}
use Rattle.agc_listing.specs.declared.location.Location.{Location}
use Rattle.agc_listing.specs.Ranges.{is_from_to}
use Rattle.agc_trace.specs.Selection.{runs_at}
use Rattle.agc_profile.specs.Profile.{is_entry}
use Rattle.agc_profile.specs.Step.{service_of}
use Rattle.agc_profile.specs.Tally.{cycles_in, plus, times_in}
use Rattle.agc_profile.specs.declared.context.Context.{Context}
use Rattle.agc_profile.specs.declared.profile.Profile.{Profile}
use Rattle.agc_profile.specs.declared.step.Step.{Step}
use Rattle.agc_profile.specs.declared.tally.Tally.{Tally}

-- the number of boundaries, and the cycles of all
abbrev pub tally_of : List Step → Tally
tally_of ps = record { times = length ps; cycles = sum_by (λ p. p.cycles) ps }

-- the order at a place ran, as a trace restricted to this place shows it
abbrev pub ran_at : Location → Step → Bool
ran_at here p = runs_at (record { first = here; last = here }) p.happening

-- a word is read as data, and at a place
abbrev pub is_read : Option Location → Location → Bool
is_read (Some place) here = is_from_to here here place
is_read None here = false

-- the order of a boundary reads the word at a place as data, by its address
abbrev pub read_at : Location → Step → Bool
read_at here p = is_read p.reads.at here

-- a double-word order reads it as the word before its address
abbrev pub read_before : Location → Step → Bool
read_before here p = is_read p.reads.before here

-- the sum of two sets of boundaries
abbrev pub tally_of_both : (Step → Bool) → (Step → Bool) → List Step → Tally
tally_of_both test other ps = plus (tally_of (filter test ps)) (tally_of (filter other ps))

-- the cycles of all kinds of boundaries
abbrev pub counted_cycles : Profile → ℕ
counted_cycles c = c.orders.cycles + c.timers.cycles + c.events.cycles + c.entries.cycles

-- two tables make up a whole
pub record MakeUp (table others : List Tally) (all : Tally) : Type 0 where
  pub times : times_in table + times_in others ≡ all.times
  pub cycles : cycles_in table + cycles_in others ≡ all.cycles

-- the orders at the places of both memories make up all orders, and so do those of all opcodes
abbrev pub OrdersAddUp : Profile → Type 0
OrdersAddUp c = MakeUp c.fixed c.erasable c.orders × MakeUp c.basics c.extracodes c.orders

-- two interrupts are the same
abbrev pub is_rupt : Rupt → Rupt → Bool
is_rupt r other = rupt_number r == rupt_number other

-- a boundary belongs to a service of an interrupt
abbrev pub is_served : Rupt → Option Rupt → Bool
is_served r (Some other) = is_rupt r other
is_served r None = false

abbrev pub serves : Rupt → Step → Bool
serves r p = is_served r (service_of p)

-- a boundary takes an interrupt
abbrev pub takes : Rupt → Step → Bool
takes r p = serves r p && is_entry p.happening

-- a context says what the flags of a processor do: whether INHINT is in force, and whether an interrupt is being served
pub record ReportsFlags (mode : Context) (p : Processor) : Type 0 where
  pub inhibited : mode.inhibited ≡ p.inhibited
  pub serving : is_some mode.service ≡ p.serving

-- each boundary, from that of a state on, begins in a context that says what the flags of its state do
abbrev pub TellFlags : State → List Step → Type 0
TellFlags s [] = Unit {0}
TellFlags s (p ∷ ps) = ReportsFlags p.mode s.processor × TellFlags (boundary None s).0 ps
