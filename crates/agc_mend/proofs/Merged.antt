-- Choices of one place more; and what is true of the words of a place is true of the chosen one.
use Rattle.std.specs.Prelude.{◌≡◌, ℕ, ◌+◌, ◌/◌, ◌&&◌, Bool, true, false, not, List, [], ◌∷◌, ◌++◌, All, filter, map, if◌then◌else◌}
use Rattle.std.specs.List.{range_with_len}
use Rattle.std.proofs.Common.{refl, ap, ◌∙◌, add-one, zero-add}
use Rattle.std.proofs.lemmas.List.{map-append}
use Rattle.std.proofs.lemmas.List.Elements.{All-filter, All-head, All-nil, filter_passes}
use Rattle.std.specs.List.{list_any}
use Rattle.agc_word.specs.Number.{Number}
use Rattle.agc_listing.proofs.RopeLines.{range_more}
use Rattle.agc_store.specs.Cells.{narrow_number}
use Rattle.agc_mend.specs.Merge.{are_same, candidates, choice_among, choice_by_words, choice_of, choices_by_words, fitting, in_most, is_only_undecided, is_sound, is_undecided_by, is_wrong, settled, settled_at, settled_choices, shown_by_sum, words_at}
use Rattle.agc_mend.specs.Repair.{makes_sum_fit}
use Rattle.agc_mend.specs.declared.merging.Choice.{Choice}
use Rattle.agc_mend.specs.declared.merging.Dump.{Dump}
use Rattle.agc_mend.specs.declared.merging.DumpWord.{DumpWord}

map_more : (choose : ℕ → Choice) (count : ℕ)
    → map choose (range_with_len 0 (count + 1)) ≡ map choose (range_with_len 0 count) ++ choose count ∷ []
map_more choose count =
    rw add-one
    (ap (map choose) (range_more 0 count)
    ∙ map-append choose (range_with_len 0 count) ((0 + count) ∷ [])
    ∙ ap (λ (k : ℕ). map choose (range_with_len 0 count) ++ choose k ∷ []) (zero-add count))

pub choices_none : (dumps : List Dump) → choices_by_words dumps 0 ≡ []
unfolding choices_by_words
choices_none dumps = refl

pub choices_more : (count : ℕ) (dumps : List Dump)
    → choices_by_words dumps (count + 1) ≡ choices_by_words dumps count ++ choice_by_words (words_at dumps count) ∷ []
unfolding choices_by_words
choices_more count dumps = map_more (λ place. choice_by_words (words_at dumps place)) count

pub settled_none : (dumps : List Dump) (choices : List Choice) (rope : List Number) → settled_choices dumps choices rope 0 ≡ []
unfolding settled_choices
settled_none dumps choices rope = refl

pub settled_more : (count : ℕ) (dumps : List Dump) (choices : List Choice) (rope : List Number)
    → settled_choices dumps choices rope (count + 1) ≡ settled_choices dumps choices rope count ++ settled_at dumps choices rope count ∷ []
unfolding settled_choices
settled_more count dumps choices rope = map_more (settled_at dumps choices rope) count

-- both of two lists, and so the one of them that is taken
either : (P : DumpWord → Type 0) (b : Bool) (xs ys : List DumpWord) → All P xs → All P ys → All P (if b then xs else ys)
either P true xs ys hx hy = hx
either P false xs ys hx hy = hy

module _ (Holds : ℕ → Type 0) where
  abbrev HoldsOf : DumpWord → Type 0
  HoldsOf word = Holds word.bits

  of_candidates : (words : List DumpWord) → All HoldsOf words → All HoldsOf (candidates words)
  unfolding candidates
  of_candidates words h =
      either HoldsOf (list_any (λ word. is_sound word) words) (filter (λ word. is_sound word) words) (filter (λ word. not (is_wrong word)) words)
      (All-filter (λ word. is_sound word) HoldsOf words h) (All-filter (λ word. not (is_wrong word)) HoldsOf words h)

  among : (word : DumpWord) (words chosen : List DumpWord) → All HoldsOf (word ∷ words) → All HoldsOf chosen
      → Holds (choice_among (word ∷ words) chosen).bits
  among word words [] h c = All-head HoldsOf word words h
  among word words (first ∷ rest) h c = All-head HoldsOf first rest c

  by_words : (word : DumpWord) (words : List DumpWord) → All HoldsOf (word ∷ words) → Holds (choice_by_words (word ∷ words)).bits
  unfolding choice_by_words
  by_words word words h = among word words (candidates (word ∷ words)) h (of_candidates (word ∷ words) h)

  of_choice : (shown most : List DumpWord) (choice : Choice) → All HoldsOf shown → All HoldsOf most → Holds choice.bits
      → Holds (choice_of shown most choice).bits
  of_choice [] [] choice s m h = h
  of_choice [] (word ∷ words) choice s m h = All-head HoldsOf word words m
  of_choice (word ∷ words) most choice s m h = All-head HoldsOf word words s

  of_shown : (choices : List Choice) (rope : List Number) (place : ℕ) (words : List DumpWord) → All HoldsOf words
      → All HoldsOf (shown_by_sum choices rope place words)
  unfolding shown_by_sum fitting
  of_shown choices rope place words h =
      either HoldsOf (is_only_undecided choices place && are_same (fitting rope place words)) (fitting rope place words) []
      (All-filter (λ word. makes_sum_fit rope place (narrow_number (word.bits / 2))) HoldsOf (candidates words) (of_candidates words h))
      (All-nil HoldsOf)

  of_most : (words : List DumpWord) → All HoldsOf words → All HoldsOf (in_most words)
  unfolding in_most
  of_most words h = All-filter _ HoldsOf (candidates words) (of_candidates words h)

  by_two : (b : Bool) (x y : Choice) → Holds x.bits → Holds y.bits → Holds (if b then x else y).bits
  by_two true x y hx hy = hx
  by_two false x y hx hy = hy

  pub of_settled : (choices : List Choice) (rope : List Number) (place : ℕ) (word : DumpWord) (words : List DumpWord)
      → All HoldsOf (word ∷ words)
      → Holds (settled choices rope place (word ∷ words) (choice_by_words (word ∷ words))).bits
  unfolding settled
  of_settled choices rope place word words h =
      let all = word ∷ words in
      let choice = choice_by_words all in
      let first = by_words word words h in
      by_two (is_undecided_by choice.decision)
      (choice_of (shown_by_sum choices rope place all) (in_most all) choice) choice
      (of_choice (shown_by_sum choices rope place all) (in_most all) choice (of_shown choices rope place all h) (of_most all h) first)
      first

pub shown_fit : (choices : List Choice) (rope : List Number) (place : ℕ) (words : List DumpWord)
    → All (λ word. makes_sum_fit rope place (narrow_number (word.bits / 2)) ≡ true) (shown_by_sum choices rope place words)
unfolding shown_by_sum fitting
shown_fit choices rope place words =
    either (λ word. makes_sum_fit rope place (narrow_number (word.bits / 2)) ≡ true)
    (is_only_undecided choices place && are_same (fitting rope place words)) (fitting rope place words) []
    (filter_passes (λ word. makes_sum_fit rope place (narrow_number (word.bits / 2))) (candidates words))
    (All-nil (λ word. makes_sum_fit rope place (narrow_number (word.bits / 2)) ≡ true))
