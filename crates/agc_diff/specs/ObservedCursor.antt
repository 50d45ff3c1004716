-- A run observation by observation.
use Rattle.std.specs.Prelude.{◌≡◌, List, [], Option, None}
use Rattle.std.specs.List.{cons_option}
use Rattle.agc_machine.specs.Run.{run_of}
use Rattle.agc_machine.specs.State.{State}
use Rattle.agc_panel.specs.declared.face.Face.{Face}
use Rattle.agc_diff.specs.Observation.{shown_after}
use Rattle.agc_trace.specs.declared.diff_by.DiffBy.{DiffBy}
use Rattle.agc_diff.specs.declared.observed.observation.Observation.{Observation}

-- what an observer still sees of a run from a state, at which its panel is this one
abbrev pub shown_left : DiffBy → Face → State → List Observation
shown_left what panel s = shown_after what panel (run_of s).writes

-- A run has advanced to its next observation, and its panel with it; without one there is nothing more to observe.
pub record HasShown (what : DiffBy) (panel : Face) (s : State) (shown : Option Observation)
    (panel_now : Face) (t : State) : Type 0 where
  pub next : shown_left what panel s ≡ cons_option shown (shown_left what panel_now t)
  pub none : shown ≡ None → shown_left what panel_now t ≡ []
