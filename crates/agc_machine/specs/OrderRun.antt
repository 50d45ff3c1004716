-- Runs of orders: nothing but orders comes, and only after the last one a watch may end the run.
use Rattle.std.specs.Prelude.{◌≡◌, ℕ, zero, suc, ◌+◌, ◌<◌, ◌/◌, ◌%◌, ◌||◌, nat_eq, Bool, false, not, None}
use Rattle.agc_word.specs.Number.{pattern_of}
use Rattle.agc_store.specs.Cells.{cell_of}
use Rattle.agc_store.specs.Memory.{Memory}
use Rattle.agc_store.specs.Places.{erasable_bank_size, erasable_cells}
use Rattle.agc_store.specs.Registers.{z_of}
use Rattle.agc_machine.specs.Boundary.{boundary, in_hand, upcoming_of}
use Rattle.agc_machine.specs.Laws.{after}
use Rattle.agc_machine.specs.State.{State}
use Rattle.agc_machine.specs.declared.answer.Stepped.TheVariants as stepped
use Rattle.agc_machine.specs.declared.order_run.OrderRun.{OrderRun}
use Rattle.agc_machine.specs.declared.order_run.Watch.{Watch}
use Rattle.agc_machine.specs.declared.order_run.Watch.TheVariants as watch
use Rattle.agc_machine.specs.declared.upcoming.Upcoming.TheVariants as upcoming

-- A watch ends the run with this memory: a cell has another word, by its fifteen bits, or Z is one past an address.
abbrev pub is_triggered : Watch → Memory → Bool
is_triggered watch.Nothing m = false
is_triggered (watch.Change cell word) m =
    not (nat_eq (pattern_of 15 (cell_of m (cell / erasable_bank_size) (cell % erasable_bank_size))) (pattern_of 15 word))
is_triggered (watch.Next address window) m =
    nat_eq ((z_of m + 0o7777) % 0o10000) address || nat_eq ((z_of m + 0o7777) % 0o10000) window

-- a cell that is watched exists
abbrev pub IsWatchInRange : Watch → Type 0
IsWatchInRange watch.Nothing = Unit {0}
IsWatchInRange (watch.Change cell word) = cell < erasable_cells
IsWatchInRange (watch.Next address window) = Unit {0}

-- the order in hand comes next
pub record IsAtOrder (s : State) : Type 0 where
  pub runs : s.stopped ≡ None
  pub comes : upcoming_of s ≡ upcoming.Order (in_hand s.processor)

-- an order comes next after which the run goes on: it shows nothing, ends before a cycle, and triggers no watch
pub record IsPassed (watch : Watch) (cycle : ℕ) (s : State) : Type 0 where
  pub order : IsAtOrder s
  pub quiet : (boundary None s).1 ≡ stepped.Quiet
  pub before : (boundary None s).0.cycle < cycle
  pub unseen : is_triggered watch (boundary None s).0.processor.store ≡ false

-- this many such orders come next
unfoldable pub ArePassed : Watch → ℕ → ℕ → State → Type 0
ArePassed watch cycle zero s = Unit {0}
ArePassed watch cycle (suc more) s = IsPassed watch cycle s × ArePassed watch cycle more (boundary None s).0

-- Some orders have run: the run went on after each but the last one, whose beginning and result are known.
pub record HasRunOrders (watch : Watch) (cycle : ℕ) (s t : State) (run : OrderRun) : Type 0 where
  pub more : ℕ
  pub passed : ArePassed watch cycle more s
  pub last : IsAtOrder (after more s)
  pub began : run.began ≡ (after more s).cycle
  pub now : (t, run.stepped) ≡ boundary None (after more s)
