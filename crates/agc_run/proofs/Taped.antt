-- The lines of a tape, one after another.
use Rattle.std.proofs.Common.{◌≡◌, ◌+◌, ◌∙◌, ℕ, List, ◌++◌, take, ap}
use Rattle.std.specs.Prelude.{Some, slice_get}
use Rattle.std.specs.List.{flat_map}
use Rattle.std.proofs.lemmas.List.{flat_map_more, take_more}
use Rattle.std.proofs.lemmas.Option.{get_or_from_slice_get, slice_get_within}
use Rattle.agc_script.specs.declared.key.Key.{Key}
use Rattle.agc_run.specs.Text.{tape_line}

-- one more line
pub taped_more : (tape : List (ℕ × Key)) (place : ℕ) (entry : ℕ × Key) (before text after : List ℕ) → slice_get tape place ≡ Some entry
    → text ≡ before ++ flat_map tape_line (take place tape) → after ≡ text ++ tape_line entry → after ≡ before ++ flat_map tape_line (take (place + 1) tape)
taped_more tape place entry before text after at so_far more =
    let first = more ∙ ap (λ (bytes : List ℕ). bytes ++ tape_line entry) so_far in
    let lines = flat_map_more tape_line before (take place tape) entry in
    rw (take_more tape place entry (slice_get_within tape place entry at), get_or_from_slice_get tape place entry entry at) (first ∙ lines)
