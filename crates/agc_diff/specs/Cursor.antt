-- The writes of two runs after their common boundaries, up to their stops.
use Rattle.std.specs.Prelude.{◌≡◌, ◌≢◌, ℕ, ◌+◌, List, ◌++◌, take, slice_get, Option, Some, None}
use Rattle.agc_word.specs.declared.channel_write.ChannelWrite.{ChannelWrite}
use Rattle.agc_machine.specs.Run.{Run, run_of}
use Rattle.agc_machine.specs.State.{State}
use Rattle.agc_panel.specs.Face.{panel_of}
use Rattle.agc_panel.specs.declared.face.Face.{Face}
use Rattle.agc_diff.specs.CommonPrefix.{one_write, run_after}
use Rattle.agc_diff.specs.declared.cursor.End.{End}
use Rattle.agc_diff.specs.declared.cursor.Cursor.{Cursor}
use Rattle.agc_diff.specs.declared.cursor.WriteDivergence.{WriteDivergence}

-- a run from a state, with a write before it that is held back
abbrev pub run_with : Option ChannelWrite → State → Run
run_with held s = run_after (one_write held) (run_of s)

-- A cursor has returned these writes of a run between two states, and its panel shows them.
pub record HasAdvanced (before : Cursor) (s : State) (writes : List ChannelWrite) (after : Cursor)
    (t : State) : Type 0 where
  pub run : run_with before.held s ≡ run_after writes (run_with after.held t)
  pub panel : (taken : List ChannelWrite) → before.panel ≡ panel_of taken
      → after.panel ≡ panel_of (taken ++ writes)

-- A run at its stop: the state, the reason and the cycle, and the panel of all its writes.
pub record IsEnd (panel : Face) (run : Run) (end : End) (t : State) : Type 0 where
  pub last : t ≡ run.last
  pub stopped : t.stopped ≡ Some end.stop
  pub cycle : t.cycle ≡ end.cycle
  pub shown : (taken : List ChannelWrite) → panel ≡ panel_of taken
      → end.panel ≡ panel_of (taken ++ run.writes)

-- Two lists are the same for this many items, and then differ: these come next, where `None` means no further item.
pub record PartAfter {A : Type 0} (count : ℕ) (xs ys : List A) (x y : Option A) : Type 0 where
  pub same : take count xs ≡ take count ys
  pub left : slice_get xs count ≡ x
  pub right : slice_get ys count ≡ y
  pub differ : x ≢ y

-- The first write that differs, counted from 1 after this many earlier writes, or none if all are the same.
abbrev pub WritesPart : ℕ → List ChannelWrite → List ChannelWrite → Option WriteDivergence → Type 0
WritesPart before xs ys None = xs ≡ ys
WritesPart before xs ys (Some divergence) =
    (count : ℕ) × (divergence.number ≡ before + count + 1)
    × PartAfter count xs ys divergence.left divergence.right

-- The comparison of the writes of two runs: the first that differs, if one does, and how far both have run.
pub record FindsWriteDivergence (before : ℕ) (left right : Cursor) (s t : State)
    (divergence : Option WriteDivergence) (left_now right_now : Cursor) (u v : State) : Type 0 where
  pub writes : WritesPart before (run_with left.held s).writes (run_with right.held t).writes
      divergence
  pub left_writes : List ChannelWrite
  pub left_advanced : HasAdvanced left s left_writes left_now u
  pub right_writes : List ChannelWrite
  pub right_advanced : HasAdvanced right t right_writes right_now v
