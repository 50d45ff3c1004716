-- What the calls of scripts guarantee, stated independently.
use Rattle.std.specs.Prelude.{◌≡◌, ℕ, ◌==◌, Bool, List, [], ◌∷◌, Option, Some, None, filter}
use Rattle.std.specs.List.Sorted.{IsPermutation}
use Rattle.agc_script.specs.declared.event.Event.{Event}
use Rattle.agc_word.specs.Numeral.{octal_number}
use Rattle.agc_script.specs.Fault.{Numeral, numeral}
use Rattle.agc_script.specs.Script.{IsInOrder}
use Rattle.agc_script.specs.declared.grammar.NumberRange.{NumberRange}

abbrev pub is_at : ℕ → Event → Bool
is_at cycle event = event.cycle == cycle

-- A script has exactly the events of its lines, its cycles never fall, and events of one cycle keep
-- the order of their lines.
pub record IsArrangement (events script : List Event) : Type 0 where
  pub same : IsPermutation events script
  pub in_order : IsInOrder script
  pub stable : (cycle : ℕ) → filter (is_at cycle) script ≡ filter (is_at cycle) events

-- the value of the first word as an octal number, if it is one
abbrev pub first_number : List (List ℕ) → Option ℕ
first_number [] = None
first_number (word ∷ words) = octal_number 6 word

-- the words that have a range, each with it
unfoldable pub with_ranges : List (List ℕ) → List (Option NumberRange) → List Numeral
with_ranges (word ∷ words) (Some range ∷ ranges) = numeral word range ∷ with_ranges words ranges
with_ranges (word ∷ words) (None ∷ ranges) = with_ranges words ranges
with_ranges words ranges = []
