-- The watch of a run: its trace, with the operand of each order and the changes of some cells at each boundary.
use Rattle.std.specs.Prelude.{ℕ, zero, suc, List, [], ◌∷◌, None, if◌then◌else◌}
use Rattle.agc_machine.specs.Boundary.{boundary, upcoming_of}
use Rattle.agc_machine.specs.State.{State}
use Rattle.agc_trace.specs.Change.{changes_between}
use Rattle.agc_trace.specs.Entry.{FitsLine, entry_of}
use Rattle.agc_trace.specs.Operand.{operand_of}
use Rattle.agc_trace.specs.Trace.{entries_left, is_stop}
use Rattle.agc_trace.specs.declared.change.Change.{Change}
use Rattle.agc_trace.specs.declared.entry.Entry.{Entry}
use Rattle.agc_trace.specs.declared.operand.Operand.{Operand}

-- a boundary, the operand of its order, and its changes of the watched cells
pub record Watched : Type 0 where
  pub entry : Entry
  pub operand : Operand
  pub changes : List Change

-- the boundary that begins in a state: its changes follow from the states before and after it
unfoldable pub watched_of : List ℕ → State → Watched
watched_of cells s =
    record {
      entry = entry_of s;
      operand = operand_of s;
      changes = changes_between cells s.processor.store (boundary None s).0.processor.store;
    }

-- those of at most this many boundaries; the bound must be large enough
unfoldable pub watch_within : List ℕ → ℕ → State → List Watched
watch_within cells zero s = []
watch_within cells (suc more) s =
    watched_of cells s
    ∷ (if is_stop (upcoming_of s) then [] else watch_within cells more (boundary None s).0)

-- the watch from a state on: the last entry is the stop
unfoldable pub watch_of : List ℕ → State → List Watched
watch_of cells s = watch_within cells (entries_left s) s

-- each number of the entry fits its digits in the line
abbrev pub FitsWatched : Watched → Type 0
FitsWatched watched = FitsLine watched.entry
