-- The sums by routine. A routine is from one name to the next in the same bank.
use Rattle.std.specs.Prelude.{◌≡◌, ℕ, zero, suc, ◌+◌, ◌%◌, ◌/◌, ◌≤◌, ◌<◌, ◌==◌, ◌||◌, Bool, true, false, List, map}
use Rattle.std.specs.Prelude.{Option, Some, None, if◌then◌else◌}
use Rattle.std.specs.List.{range_with_len}
use Rattle.agc_store.specs.Places.{erasable_bank_size, erasable_cells, fixed_bank_size, fixed_places}
use Rattle.agc_listing.specs.declared.location.Location.{Location}
use Rattle.agc_listing.specs.declared.location.Location.TheVariants as location
use Rattle.agc_symbols.specs.Nearest.{Nearby, nearest}
use Rattle.agc_symbols.specs.Symbols.{Symbol}
use Rattle.agc_profile.specs.Laws.{MakeUp, counted_cycles}
use Rattle.agc_profile.specs.Tally.{cycles_in, nothing, plus, tally_at}
use Rattle.agc_profile.specs.declared.profile.Profile.{Profile}
use Rattle.agc_profile.specs.declared.routine.MemoryKind.{MemoryKind}
use Rattle.agc_profile.specs.declared.routine.MemoryKind.TheVariants as memory
use Rattle.agc_profile.specs.declared.tally.Tally.{Tally}

-- the places of a memory, and of one of its banks
abbrev pub size_of : MemoryKind → ℕ
size_of memory.Fixed = fixed_places
size_of memory.Erasable = erasable_cells

abbrev pub bank_size : MemoryKind → ℕ
bank_size memory.Fixed = fixed_bank_size
bank_size memory.Erasable = erasable_bank_size

abbrev pub location_of : MemoryKind → ℕ → Location
location_of memory.Fixed place = location.Fixed place
location_of memory.Erasable cell = location.Erasable cell

-- the orders that ran in a memory, by their places
abbrev pub table_of : MemoryKind → Profile → List Tally
table_of memory.Fixed c = c.fixed
table_of memory.Erasable c = c.erasable

-- a place has a name of its own: the nearest name is no word away
abbrev pub is_here : Option Nearby → Bool
is_here (Some near) = near.offset == 0
is_here None = false

unfoldable pub is_named : List Symbol → Location → Bool
is_named names at = is_here (nearest names at)

-- a routine begins at each name, and what is before the first name of a bank begins with the bank
unfoldable pub begins : List Symbol → MemoryKind → ℕ → Bool
begins names memory place =
    (place % bank_size memory == 0) || is_named names (location_of memory place)

-- the greatest of the places below a number at which a routine begins
unfoldable pub last_below : (ℕ → Bool) → ℕ → ℕ
last_below starts zero = 0
last_below starts (suc place) = if starts place then place else last_below starts place

-- A place belongs to the routine that begins at the greatest place at or below it in the same bank that has a name; if
-- there is none, to that at the beginning of the bank.
unfoldable pub routine_of : List Symbol → MemoryKind → ℕ → ℕ
routine_of names memory place = last_below (begins names memory) (place + 1)

-- the sum of those of the first n places of a table that belong to the routine that begins at a place
unfoldable pub sum_below : (ℕ → ℕ) → ℕ → List Tally → ℕ → Tally
sum_below routine first table zero = nothing
sum_below routine first table (suc place) =
    if routine place == first
    then plus (sum_below routine first table place) (tally_at place table)
    else sum_below routine first table place

-- the sum of a routine over all places of a memory
unfoldable pub routine_tally : List Symbol → MemoryKind → List Tally → ℕ → Tally
routine_tally names memory table first =
    sum_below (routine_of names memory) first table (size_of memory)

-- the sums of all routines of a memory, each at the place where it begins
unfoldable pub routine_tallies : List Symbol → MemoryKind → List Tally → List Tally
routine_tallies names memory table =
    map (λ first. routine_tally names memory table first) (range_with_len 0 (size_of memory))

-- these are the sums of all routines
pub record AreSums (names : List Symbol) (memory : MemoryKind) (table sums : List Tally) : Type 0 where
  pub each : (first : ℕ) → first < size_of memory
      → tally_at first sums ≡ routine_tally names memory table first

-- where the routine of a place begins: at or below it in the same bank, at a name or with the bank, and no place between
-- has a name
pub record IsRoutineOf (names : List Symbol) (memory : MemoryKind) (place first : ℕ) : Type 0 where
  pub below : first ≤ place
  pub bank : first / bank_size memory ≡ place / bank_size memory
  pub start : begins names memory first ≡ true
  pub nearest : (at : ℕ) → first < at → at ≤ place → is_named names (location_of memory at) ≡ false

-- the routines of both memories make up all orders, and with timers, events and interrupts the cycles of a run
pub record RoutinesAddUp (names : List Symbol) (c : Profile) : Type 0 where
  pub orders : MakeUp (routine_tallies names memory.Fixed c.fixed)
      (routine_tallies names memory.Erasable c.erasable) c.orders
  pub cycles : cycles_in (routine_tallies names memory.Fixed c.fixed)
      + cycles_in (routine_tallies names memory.Erasable c.erasable) + c.timers.cycles + c.events.cycles
      + c.entries.cycles ≡ counted_cycles c
