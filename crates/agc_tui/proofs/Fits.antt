-- The lines of a history fit their digits.
use Rattle.std.specs.Prelude.{ℕ, List, [], ◌∷◌, ◌++◌, All, length, take, ◌-◌}
use Rattle.std.proofs.lemmas.List.Elements.{All-drop, All-push, All-take}
use Rattle.circular_buffer.specs.Buffer.{keep_last}
use Rattle.agc_tui.specs.Fold.{Fits, but_last}
use Rattle.agc_tui.specs.declared.fold.Line.{Line}

-- with a line more
pub kept_fit : (most : ℕ) (lines : List Line) (line : Line) → All Fits lines → Fits line → All Fits (keep_last most (lines ++ line ∷ []))
kept_fit most lines line h k = All-drop Fits (length (lines ++ line ∷ []) - most) (lines ++ line ∷ []) (All-push Fits lines line h k)

-- with another last line
pub replaced_fit : (most : ℕ) (lines : List Line) (line : Line) → All Fits lines → Fits line → All Fits (keep_last most (but_last lines ++ line ∷ []))
replaced_fit most lines line h k = kept_fit most (but_last lines) line (All-take Fits (length lines - 1) lines h) k
