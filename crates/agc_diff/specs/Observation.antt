-- What an observer sees of a run: its writes, the words of one channel, or its panels.
use Rattle.std.specs.Prelude.{ℕ, ◌<◌, ◌==◌, if◌then◌else◌, List, [], ◌∷◌, map, Option, Some, None}
use Rattle.std.specs.List.{cons_option}
use Rattle.agc_word.specs.Number.{Number}
use Rattle.agc_word.specs.declared.channel_write.ChannelWrite.{ChannelWrite}
use Rattle.agc_machine.specs.Run.{run_of}
use Rattle.agc_machine.specs.State.{State}
use Rattle.agc_panel.specs.Face.{face_after, panel_of}
use Rattle.agc_panel.specs.Text.{panel_text, shows_same}
use Rattle.agc_panel.specs.declared.face.Face.{Face}
use Rattle.agc_trace.specs.declared.diff_by.DiffBy.{DiffBy}
use Rattle.agc_trace.specs.declared.diff_by.DiffBy.TheVariants as kind
use Rattle.agc_diff.specs.declared.observed.observation.Observation.{Observation}
use Rattle.agc_diff.specs.declared.observed.observation.Observed.{Observed}
use Rattle.agc_diff.specs.declared.observed.observation.Observed.TheVariants as seen

-- a write's word on its channel
abbrev pub word_of : ChannelWrite → Observation
word_of write = record { cycle = write.cycle; sight = seen.Word write.channel write.value }

-- the panel after a write, if it shows something else than before
abbrev pub changed_panel : Face → Face → ℕ → Option Observation
changed_panel before after cycle =
    if shows_same before after then None
    else Some (record { cycle = cycle; sight = seen.Panel after })

-- what a write lets an observer see, after this panel
unfoldable pub shown_at : DiffBy → Face → ChannelWrite → Option Observation
shown_at kind.Writes panel write = Some (word_of write)
shown_at (kind.Channel channel) panel write =
    if write.channel == channel then Some (word_of write) else None
shown_at kind.Panels panel write = changed_panel panel (face_after panel (write ∷ [])) write.cycle

-- what an observer sees at a write that shows something; the panel is the one after it
abbrev pub seen_at : DiffBy → Face → ChannelWrite → Observation
seen_at kind.Writes panel write = word_of write
seen_at (kind.Channel channel) panel write = word_of write
seen_at kind.Panels panel write = record { cycle = write.cycle; sight = seen.Panel panel }

-- what writes let an observer see, after this panel
unfoldable pub shown_after : DiffBy → Face → List ChannelWrite → List Observation
shown_after what panel [] = []
shown_after what panel (write ∷ writes) =
    cons_option (shown_at what panel write) (shown_after what (face_after panel (write ∷ [])) writes)

-- what an observer sees of the run from a state
abbrev pub shown_by : DiffBy → State → List Observation
shown_by what s = shown_after what (panel_of []) (run_of s).writes

-- what a person sees, without the cycle: a word on a channel, or the panel in print
pub data Look : Type 0 where
  OnChannel : ℕ → Number → Look
  InPrint : List ℕ → Look

abbrev pub look_of : Observed → Look
look_of (seen.Word channel word) = OnChannel channel word
look_of (seen.Panel panel) = InPrint (panel_text panel)

-- what a person sees in sequence, without the cycles
abbrev pub looks_of : List Observation → List Look
looks_of shown = map (λ one. look_of one.sight) shown

-- a channel has three digits in print
abbrev pub FitsSight : Observed → Type 0
FitsSight (seen.Word channel word) = channel < 0o1000
FitsSight (seen.Panel panel) = Unit {0}

abbrev pub FitsShown : Observation → Type 0
FitsShown shown = FitsSight shown.sight
