-- The cycle at which two films first show different panels.
use Rattle.std.specs.Prelude.{◌≡◌, ◌≢◌, ℕ, ◌==◌, ◌<◌, ◌&&◌, Bool, min, if◌then◌else◌}
use Rattle.std.specs.Prelude.{List, [], ◌∷◌, Option, Some, None}
use Rattle.agc_panel.specs.Text.{shows_same}
use Rattle.agc_timeline.specs.Frames.{shown_at}
use Rattle.agc_timeline.specs.declared.frame.Frame.{Frame}

-- two frames begin at the same cycle and show the same
abbrev pub is_same_frame : Frame → Frame → Bool
is_same_frame left right = (left.cycle == right.cycle) && shows_same left.panel right.panel

-- the cycle of the first frame that only one of two films has, if there is one
unfoldable pub first_difference : List Frame → List Frame → Option ℕ
first_difference [] [] = None
first_difference [] (right ∷ rights) = Some right.cycle
first_difference (left ∷ lefts) [] = Some left.cycle
first_difference (left ∷ lefts) (right ∷ rights) =
    if is_same_frame left right then first_difference lefts rights
    else Some (min left.cycle right.cycle)

-- Two films first show different panels at a cycle: before it they show the same at each cycle. Without a cycle they
-- always show the same.
abbrev pub PartAt : List Frame → List Frame → Option ℕ → Type 0
PartAt lefts rights (Some cycle) =
    (shown_at lefts cycle ≢ shown_at rights cycle)
    × ((n : ℕ) → n < cycle → shown_at lefts n ≡ shown_at rights n)
PartAt lefts rights None = (n : ℕ) → shown_at lefts n ≡ shown_at rights n
