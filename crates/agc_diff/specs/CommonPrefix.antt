-- What two runs have in common from their starts, and where they diverge.
use Rattle.std.specs.Prelude.{◌≡◌, ◌≢◌, ◌≤◌, List, [], ◌∷◌, ◌++◌, All, flat_map, length, Option, Some, None}
use Rattle.circular_buffer.specs.Buffer.{Buffer, buffer, keep_last}
use Rattle.agc_word.specs.declared.channel_write.ChannelWrite.{ChannelWrite}
use Rattle.agc_machine.specs.Run.{Run, run_of}
use Rattle.agc_machine.specs.State.{State}
use Rattle.agc_panel.specs.Face.{panel_of}
use Rattle.agc_diff.specs.ObservedPrefix.{kept}
use Rattle.agc_trace.specs.Entry.{FitsLine}
use Rattle.agc_trace.specs.Trace.{entries_left, trace_of}
use Rattle.agc_trace.specs.declared.entry.Entry.{Entry}
use Rattle.agc_diff.specs.Turn.{HasBegun}
use Rattle.agc_diff.specs.declared.turn.Turn.{Turn}
use Rattle.agc_diff.specs.declared.common_prefix.CommonPrefix.{CommonPrefix}
use Rattle.agc_diff.specs.declared.common_prefix.Divergence.{Divergence}

-- a write, if there is one
abbrev pub one_write : Option ChannelWrite → List ChannelWrite
one_write (Some write) = write ∷ []
one_write None = []

-- the channel writes that entries show
unfoldable pub entry_writes : List Entry → List ChannelWrite
entry_writes entries = flat_map (λ entry. one_write entry.write) entries

-- a run with these writes before its own
abbrev pub run_after : List ChannelWrite → Run → Run
run_after writes run = record { writes = writes ++ run.writes; last = run.last }

-- the summary of the entries that two runs have in common
pub record SummarizesEntries (entries : List Entry) (common : CommonPrefix)
    (last : Buffer Entry) : Type 0 where
  pub boundaries : common.boundaries ≡ length entries
  pub writes : common.writes ≡ length (entry_writes entries)
  pub panel : common.panel ≡ panel_of (entry_writes entries)
  pub last_ones : last ≡ buffer (keep_last kept entries) kept
  pub fits : All FitsLine entries

-- the boundaries between two states of a run are these entries
pub record HasPassed (s : State) (entries : List Entry) (t : State) : Type 0 where
  pub trace : trace_of s ≡ entries ++ trace_of t
  pub run : run_of s ≡ run_after (entry_writes entries) (run_of t)

-- what two runs have in common up to a state of each
pub record Shares (s t : State) (common : CommonPrefix) (last : Buffer Entry) (u v : State) : Type 0 where
  pub entries : List Entry
  pub reports : SummarizesEntries entries common last
  pub left : HasPassed s entries u
  pub right : HasPassed t entries v

-- Two machines, at states p and q after what two runs have in common, have passed more common boundaries, and have begun
-- the next ones.
pub record HaveBegun (c : CommonPrefix) (last : Buffer Entry) (p q : State) (d : CommonPrefix) (more : Buffer Entry)
    (left right : Turn) (x y : State) : Type 0 where
  pub u : State
  pub v : State
  pub shared : (s t : State) → Shares s t c last p q → Shares s t d more u v
  pub left_begun : HasBegun u left x
  pub right_begun : HasBegun v right y
  pub fewer : entries_left u ≤ entries_left p

-- these entries are the rest of the trace of a run that has reached its stop
pub record HasEnded (s : State) (entries : List Entry) (t : State) : Type 0 where
  pub trace : trace_of s ≡ entries
  pub run : run_of s ≡ run_after (entry_writes entries) (run_of t)

-- a run has passed these entries, and then one more
pub record HasDiverged (s : State) (entries : List Entry) (entry : Entry) (t : State) : Type 0 where
  pub rest : List Entry
  pub trace : trace_of s ≡ entries ++ entry ∷ rest
  pub run : run_of s ≡ run_after (entry_writes entries ++ one_write entry.write) (run_of t)
  pub fits : FitsLine entry

-- Two runs have reached a divergence after their common entries, or their stops if they have all entries in common.
abbrev pub ComesApart : State → State → CommonPrefix → Buffer Entry → Option Divergence → State → State → Type 0
ComesApart s t common last None u v =
    (entries : List Entry) × SummarizesEntries entries common last × HasEnded s entries u
    × HasEnded t entries v
ComesApart s t common last (Some diverging) u v =
    (entries : List Entry) × SummarizesEntries entries common last × HasDiverged s entries diverging.left u
    × HasDiverged t entries diverging.right v × (diverging.left ≢ diverging.right)

-- the writes of the boundaries at a divergence
abbrev pub held_left : Option Divergence → Option ChannelWrite
held_left None = None
held_left (Some diverging) = diverging.left.write

abbrev pub held_right : Option Divergence → Option ChannelWrite
held_right None = None
held_right (Some diverging) = diverging.right.write
