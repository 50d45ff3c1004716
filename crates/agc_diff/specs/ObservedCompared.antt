-- The contents of a comparison of two runs by their observations.
use Rattle.std.specs.Prelude.{◌≡◌, Bool, true, false, All, List, take, Option, Some, None}
use Rattle.circular_buffer.specs.Buffer.{keep_last}
use Rattle.agc_diff.specs.ObservedPrefix.{FitsPair, FitsDivergence, skew_of, kept, pairs_of}
use Rattle.agc_diff.specs.Observation.{looks_of}
use Rattle.agc_diff.specs.declared.observed.comparison.Pair.{Pair}
use Rattle.agc_diff.specs.declared.observed.comparison.ObservedComparison.{ObservedComparison}
use Rattle.agc_diff.specs.declared.observed.comparison.ObservedDivergence.{ObservedDivergence}
use Rattle.agc_diff.specs.declared.observed.observation.Observation.{Observation}

-- there is no divergence
abbrev pub is_nowhere : Option ObservedDivergence → Bool
is_nowhere None = true
is_nowhere (Some divergence) = false

abbrev pub is_same : ObservedComparison → Bool
is_same c = is_nowhere c.divergence

-- the pairs in a comparison
abbrev pub common_pairs : List Observation → List Observation → ObservedComparison → List Pair
common_pairs xs ys c = pairs_of (take c.count xs) (take c.count ys)

-- What two lists have in common: this many look alike from the start, and these are the last five pairs and the
-- largest difference between the cycles of a pair.
pub record SummarizesPairs (xs ys : List Observation) (c : ObservedComparison) : Type 0 where
  pub alike : looks_of (take c.count xs) ≡ looks_of (take c.count ys)
  pub before : c.before.items ≡ keep_last kept (common_pairs xs ys c)
  pub skew : c.skew ≡ skew_of (common_pairs xs ys c)

-- each number in the report fits its digits
pub record FitsLines (c : ObservedComparison) : Type 0 where
  pub before : All FitsPair c.before.items
  pub divergence : FitsDivergence c.divergence
