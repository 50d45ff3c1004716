-- The contents of a comparison of two runs.
use Rattle.std.specs.Prelude.{◌≡◌, ℕ, ◌+◌, ◌≤◌, ◌<◌, ◌==◌, ◌&&◌, Bool, true, false}
use Rattle.std.specs.Prelude.{All, List, length, take, Option, Some, None}
use Rattle.circular_buffer.specs.Buffer.{keep_last}
use Rattle.agc_word.specs.Number.{Number}
use Rattle.agc_store.specs.Places.{erasable_cells}
use Rattle.agc_machine.specs.Run.{run_of}
use Rattle.agc_machine.specs.State.{State}
use Rattle.agc_panel.specs.Face.{panel_of}
use Rattle.agc_trace.specs.Entry.{FitsLine, FitsWrite}
use Rattle.agc_trace.specs.declared.entry.Entry.{Entry}
use Rattle.agc_diff.specs.ObservedPrefix.{kept}
use Rattle.agc_diff.specs.CommonPrefix.{entry_writes}
use Rattle.agc_diff.specs.Cursor.{PartAfter}
use Rattle.agc_diff.specs.declared.comparison.Comparison.{Comparison}
use Rattle.agc_diff.specs.declared.comparison.DivergencePoint.{DivergencePoint}
use Rattle.agc_diff.specs.declared.cells.CellPair.{CellPair}
use Rattle.agc_diff.specs.declared.cursor.End.{End}
use Rattle.agc_diff.specs.declared.cursor.WriteDivergence.{WriteDivergence}

-- there is no divergence
abbrev pub is_nowhere : Option DivergencePoint → Bool
is_nowhere None = true
is_nowhere (Some divergence) = false

-- no boundary differs, and no cell at the stops
abbrev pub is_same : Comparison → Bool
is_same c = is_nowhere c.divergence && (length c.cells.items == 0)

-- the last state of a run, and its erasable cells
abbrev pub end_of : State → State
end_of s = (run_of s).last

abbrev pub cells_at_end : State → List Number
cells_at_end s = (end_of s).processor.store.erasable

-- What two traces have in common: this many entries from the start, their writes, and the last five.
pub record SummarizesCommon (xs ys : List Entry) (c : Comparison) : Type 0 where
  pub same : take c.boundaries xs ≡ take c.boundaries ys
  pub within : c.boundaries ≤ length xs
  pub writes : c.writes ≡ length (entry_writes (take c.boundaries xs))
  pub before : c.before.items ≡ keep_last kept (take c.boundaries xs)

-- Where two traces diverge: nowhere, so that all is common, or after this many entries, in these two.
abbrev pub TracesPart : ℕ → List Entry → List Entry → Option DivergencePoint → Type 0
TracesPart count xs ys None = (xs ≡ ys) × (count ≡ length xs)
TracesPart count xs ys (Some divergence) =
    (divergence.number ≡ count + 1) × PartAfter count xs ys (Some divergence.left) (Some divergence.right)

-- a machine has reached the end of its run, which is recorded: the stop, its cycle, and the panel of all writes
pub record ShowsEnd (s : State) (end : End) (t : State) : Type 0 where
  pub last : t ≡ end_of s
  pub stopped : (end_of s).stopped ≡ Some end.stop
  pub cycle : (end_of s).cycle ≡ end.cycle
  pub panel : end.panel ≡ panel_of (run_of s).writes

-- each number in the report fits its digits
abbrev pub FitsDivergence : Option DivergencePoint → Type 0
FitsDivergence None = Unit {0}
FitsDivergence (Some divergence) = FitsLine divergence.left × FitsLine divergence.right

abbrev pub FitsWriteDivergence : Option WriteDivergence → Type 0
FitsWriteDivergence None = Unit {0}
FitsWriteDivergence (Some divergence) = FitsWrite divergence.left × FitsWrite divergence.right

abbrev pub IsCell : CellPair → Type 0
IsCell cell = cell.place < erasable_cells

pub record FitsLines (c : Comparison) : Type 0 where
  pub before : All FitsLine c.before.items
  pub divergence : FitsDivergence c.divergence
  pub write : FitsWriteDivergence c.write
  pub cells : All IsCell c.cells.items
