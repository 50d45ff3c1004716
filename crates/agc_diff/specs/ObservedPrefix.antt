-- The observations that two runs have in common from their starts, pair by pair, and where they diverge.
use Rattle.std.specs.Prelude.{◌≡◌, ◌≢◌, ℕ, ◌+◌, max, List, [], ◌∷◌, ◌++◌, All, length, map, Option, Some, None}
use Rattle.std.specs.Prelude.{IfSome, slice_get}
use Rattle.std.specs.Int.{abs_diff}
use Rattle.circular_buffer.specs.Buffer.{Buffer, buffer, keep_last}
use Rattle.agc_machine.specs.State.{State}
use Rattle.agc_diff.specs.Observation.{FitsShown, Look, look_of, looks_of, shown_by}
use Rattle.agc_trace.specs.declared.diff_by.DiffBy.{DiffBy}
use Rattle.agc_diff.specs.declared.observed.common_prefix.CommonPrefix.{CommonPrefix}
use Rattle.agc_diff.specs.declared.observed.comparison.Pair.{Pair}
use Rattle.agc_diff.specs.declared.observed.comparison.ObservedDivergence.{ObservedDivergence}
use Rattle.agc_diff.specs.declared.observed.pairing.Pairing.{Pairing}
use Rattle.agc_diff.specs.declared.observed.pairing.Pairing.TheVariants as pairing
use Rattle.agc_diff.specs.declared.observed.observation.Observation.{Observation}

-- the number of last pairs kept
abbrev pub kept : ℕ
kept = 5

-- the observations on the left of these pairs, and those on the right
abbrev pub lefts : List Pair → List Observation
lefts pairs = map (λ pair. pair.left) pairs

abbrev pub rights : List Pair → List Observation
rights pairs = map (λ pair. pair.right) pairs

-- the difference between the cycles of a pair
abbrev pub apart : Pair → ℕ
apart pair = abs_diff pair.left.cycle pair.right.cycle

-- the largest difference between the cycles of a pair
unfoldable pub skew_of : List Pair → ℕ
skew_of [] = 0
skew_of (pair ∷ pairs) = max (apart pair) (skew_of pairs)

-- the observations of two runs side by side, as far as both have them
unfoldable pub pairs_of : List Observation → List Observation → List Pair
pairs_of [] ys = []
pairs_of (x ∷ xs) [] = []
pairs_of (x ∷ xs) (y ∷ ys) = record { left = x; right = y } ∷ pairs_of xs ys

-- what a person sees of an observation, or that there is no further one
abbrev pub seen : Option Observation → Option Look
seen (Some shown) = Some (look_of shown.sight)
seen None = None

-- the next observations of two runs, compared
abbrev pub IsPairing : Option Observation → Option Observation → Pairing → Type 0
IsPairing x y (pairing.Alike pair) =
    (x ≡ Some pair.left) × (y ≡ Some pair.right)
    × (look_of pair.left.sight ≡ look_of pair.right.sight)
IsPairing x y pairing.Apart = seen x ≢ seen y
IsPairing x y pairing.Over = (x ≡ None) × (y ≡ None)

abbrev pub FitsPair : Pair → Type 0
FitsPair pair = FitsShown pair.left × FitsShown pair.right

-- Where two lists diverge after this many items: nowhere, because both end there, or in these, one of which may be
-- missing.
abbrev pub ShownPart : ℕ → List Observation → List Observation → Option ObservedDivergence → Type 0
ShownPart count xs ys None = (count ≡ length xs) × (count ≡ length ys)
ShownPart count xs ys (Some divergence) =
    (divergence.number ≡ count + 1) × (slice_get xs count ≡ divergence.left)
    × (slice_get ys count ≡ divergence.right) × (seen divergence.left ≢ seen divergence.right)

abbrev pub FitsDivergence : Option ObservedDivergence → Type 0
FitsDivergence None = Unit {0}
FitsDivergence (Some divergence) = IfSome divergence.left FitsShown × IfSome divergence.right FitsShown

-- Two runs have shown these pairs, which are alike, and have diverged or reached their stops.
pub record GoTogether (what : DiffBy) (s t : State) (common : CommonPrefix) (last : Buffer Pair)
    (divergence : Option ObservedDivergence) : Type 0 where
  pub pairs : List Pair
  pub left_rest : List Observation
  pub left : shown_by what s ≡ lefts pairs ++ left_rest
  pub right_rest : List Observation
  pub right : shown_by what t ≡ rights pairs ++ right_rest
  pub alike : looks_of (lefts pairs) ≡ looks_of (rights pairs)
  pub count : common.count ≡ length pairs
  pub skew : common.skew ≡ skew_of pairs
  pub last_ones : last ≡ buffer (keep_last kept pairs) kept
  pub fits : All FitsPair pairs
  pub part : ShownPart (length pairs) (shown_by what s) (shown_by what t) divergence
  pub part_fits : FitsDivergence divergence
