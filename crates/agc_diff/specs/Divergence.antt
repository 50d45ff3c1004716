-- What two runs do after their common boundaries.
use Rattle.std.specs.Prelude.{◌≡◌, ℕ, ◌+◌, Option, Some, None}
use Rattle.agc_word.specs.declared.channel_write.ChannelWrite.{ChannelWrite}
use Rattle.agc_machine.specs.State.{State}
use Rattle.agc_diff.specs.CommonPrefix.{held_left, held_right}
use Rattle.agc_diff.specs.Cursor.{IsEnd, WritesPart, run_with}
use Rattle.agc_diff.specs.declared.common_prefix.CommonPrefix.{CommonPrefix}
use Rattle.agc_diff.specs.declared.common_prefix.Divergence.{Divergence}
use Rattle.agc_diff.specs.declared.comparison.DivergencePoint.{DivergencePoint}
use Rattle.agc_diff.specs.declared.runs.Ends.{Ends}

-- the divergence, as the boundary after this many
abbrev pub IsDivergencePoint : ℕ → Option Divergence → Option DivergencePoint → Type 0
IsDivergencePoint count None None = Unit {0}
IsDivergencePoint count None (Some divergence) = ⊥
IsDivergencePoint count (Some diverging) None = ⊥
IsDivergencePoint count (Some diverging) (Some divergence) =
    (divergence.number ≡ count + 1) × (divergence.left ≡ diverging.left) × (divergence.right ≡ diverging.right)

-- both machines have reached their stops, from states with these writes held back: the first write that differs, and
-- both ends
pub record EndsWith (common : CommonPrefix) (left_held right_held : Option ChannelWrite) (s t : State)
    (ends : Ends) (u v : State) : Type 0 where
  pub write : WritesPart common.writes (run_with left_held s).writes (run_with right_held t).writes
      ends.write
  pub left : IsEnd common.panel (run_with left_held s) ends.left u
  pub right : IsEnd common.panel (run_with right_held t) ends.right v

-- both machines have reached their stops from a divergence
abbrev pub HasEnds : CommonPrefix → Option Divergence → State → State → Ends → State → State → Type 0
HasEnds common diverging s t ends u v = EndsWith common (held_left diverging) (held_right diverging) s t ends u v
