-- The numbers between the commas of a text, taken off one by one from the front.
use Rattle.std.proofs.Common.{◌≡◌, ◌∙◌, ◌<◌, ◌≤◌, ℕ, suc, false, List, [], ◌∷◌, length, refl, arith}
use Rattle.std.specs.Prelude.{Option, None, Some, IfSome, MatchOption, option_and_then, get_or}
use Rattle.std.specs.List.{slice_split, position_or_len, before_first, after_first, All}
use Rattle.std.proofs.Math.Logic.{⊎_elim}
use Rattle.std.proofs.lemmas.Bool.{cases_lt}
use Rattle.std.proofs.lemmas.Bool.Decides.{nat_tests}
use Rattle.std.proofs.lemmas.List.Folds.{list_all_at}
use Rattle.std.proofs.lemmas.List.Splits.{slice_split_first, slice_split_none, length-slice_split}
use Rattle.std.proofs.lemmas.List.Sums.{fails_before_first, passes_at_first}
use Rattle.agc_word.specs.Numeral.{octal_number, number_of, is_digit}
use Rattle.agc_panel.specs.WatchSpec.{is_separator, with_number, numbers_in_pieces, numbers_in, spec_from, spec_of, HasFewer, HasMore}

-- a text with a comma: the number before it, and those after it
first_then_rest : (text : List ℕ) → position_or_len is_separator text < length text
    → numbers_in text ≡ option_and_then (λ number. with_number number (numbers_in (after_first is_separator text))) (octal_number 6 (before_first is_separator text))
unfolding numbers_in
first_then_rest text h = rw (slice_split_first is_separator text 0 h) refl

-- a text without a comma: one number
alone : (text : List ℕ) → length text ≤ position_or_len is_separator text → numbers_in text ≡ option_and_then (λ number. Some (number ∷ [])) (octal_number 6 text)
unfolding numbers_in
alone text h =
    let none : All (λ b. is_separator b ≡ false) text = λ k d l. fails_before_first is_separator text k d (omega arith) in
    rw (slice_split_none is_separator text none) refl

-- a comma is no octal digit
number_without_comma : (text : List ℕ) → position_or_len is_separator text < length text → octal_number 6 text ≡ None
unfolding number_of
number_without_comma text h =
    let comma = passes_at_first is_separator text 0 h in
    let no_digit : is_digit 8 (get_or text (position_or_len is_separator text) 0) ≡ false = grind (arith, nat_tests) in
    let none = list_all_at (is_digit 8) text _ 0 h no_digit in
    grind (arith, nat_tests)

-- the number before the first comma, if there is one; otherwise fewer than two numbers
pub first_number : (text : List ℕ) (n : ℕ) → position_or_len is_separator text < length text → octal_number 6 (before_first is_separator text) ≡ Some n
    → numbers_in text ≡ with_number n (numbers_in (after_first is_separator text))
first_number text n h e = first_then_rest text h ∙ rw e refl

pub fewer_without_number : (text : List ℕ) → position_or_len is_separator text < length text → octal_number 6 (before_first is_separator text) ≡ None → HasFewer 2 text
fewer_without_number text h e = record { fewer = rw (first_then_rest text h, e) tt }

pub fewer_without_comma : (text : List ℕ) → position_or_len is_separator text ≡ length text → HasFewer 2 text
fewer_without_comma text h = record { fewer = rw (alone text (omega arith)) (at_most_one (octal_number 6 text)) }
  where
    at_most_one : (o : Option ℕ) → IfSome (option_and_then (λ number. Some (number ∷ [])) o) (λ numbers. length numbers < 2)
    at_most_one None = tt
    at_most_one (Some n) = omega arith

-- as many numbers as pieces
length-numbers_in_pieces : (pieces : List (List ℕ)) → IfSome (numbers_in_pieces pieces) (λ numbers. length numbers ≡ length pieces)
length-numbers_in_pieces [] = refl
length-numbers_in_pieces (piece ∷ pieces) = onto (octal_number 6 piece) (numbers_in_pieces pieces) (length pieces) (length-numbers_in_pieces pieces)
  where
    onto : (o : Option ℕ) (rest : Option (List ℕ)) (k : ℕ) → IfSome rest (λ numbers. length numbers ≡ k) → IfSome (option_and_then (λ number. with_number number rest) o) (λ numbers. length numbers ≡ suc k)
    onto None rest k h = tt
    onto (Some n) None k h = tt
    onto (Some n) (Some numbers) k h = omega arith

-- some number is in each text, if each piece is one
some_number : (text : List ℕ) → IfSome (numbers_in text) (λ numbers. 0 < length numbers)
unfolding numbers_in
some_number text = counted (numbers_in_pieces (slice_split is_separator text)) (length-numbers_in_pieces (slice_split is_separator text))
  where
    counted : (o : Option (List ℕ)) → IfSome o (λ numbers. length numbers ≡ length (slice_split is_separator text)) → IfSome o (λ numbers. 0 < length numbers)
    counted None h = tt
    counted (Some numbers) h = omega (arith, length-slice_split is_separator text, h)

-- one more number in front
fewer_onto : (count n : ℕ) (o : Option (List ℕ)) → IfSome o (λ numbers. length numbers < count) → IfSome (with_number n o) (λ numbers. length numbers < suc count)
fewer_onto count n None h = tt
fewer_onto count n (Some numbers) h = omega arith

more_onto : (count n : ℕ) (o : Option (List ℕ)) → IfSome o (λ numbers. count < length numbers) → IfSome (with_number n o) (λ numbers. suc count < length numbers)
more_onto count n None h = tt
more_onto count n (Some numbers) h = omega arith

pub fewer_after : (count n : ℕ) (text rest : List ℕ) → numbers_in text ≡ with_number n (numbers_in rest) → HasFewer count rest → HasFewer (suc count) text
fewer_after count n text rest e h = record { fewer = rw e (fewer_onto count n (numbers_in rest) h.fewer) }

pub more_after : (count n : ℕ) (text rest : List ℕ) → numbers_in text ≡ with_number n (numbers_in rest) → HasMore count rest → HasMore (suc count) text
more_after count n text rest e h = record { more = rw e (more_onto count n (numbers_in rest) h.more) }

-- a text with a comma has more than one number
more_with_comma : (text : List ℕ) → position_or_len is_separator text < length text → HasMore 1 text
more_with_comma text h = record { more = rw (first_then_rest text h) (onto (octal_number 6 (before_first is_separator text))) }
  where
    onto : (o : Option ℕ) → IfSome (option_and_then (λ number. with_number number (numbers_in (after_first is_separator text))) o) (λ numbers. 1 < length numbers)
    onto None = tt
    onto (Some n) = more_onto 0 n (numbers_in (after_first is_separator text)) (some_number (after_first is_separator text))

-- the last number is the whole text
pub last_number : (text : List ℕ) → MatchOption (octal_number 6 text) (HasMore 1 text) (λ number. numbers_in text ≡ Some (number ∷ []))
last_number text = ⊎_elim
    (λ h. rw (number_without_comma text h) (more_with_comma text h))
    (λ h. by_alone (octal_number 6 text) (alone text h))
    (cases_lt (position_or_len is_separator text) (length text))
  where
    by_alone : (o : Option ℕ) → numbers_in text ≡ option_and_then (λ number. Some (number ∷ [])) o → MatchOption o (HasMore 1 text) (λ number. numbers_in text ≡ Some (number ∷ []))
    by_alone None e = record { more = rw e tt }
    by_alone (Some n) e = e

-- a spec has seven numbers
none_from_fewer : (numbers : List ℕ) → length numbers < 7 → spec_from numbers ≡ None
none_from_fewer [] h = refl
none_from_fewer (a ∷ []) h = refl
none_from_fewer (a ∷ b ∷ []) h = refl
none_from_fewer (a ∷ b ∷ c ∷ []) h = refl
none_from_fewer (a ∷ b ∷ c ∷ d ∷ []) h = refl
none_from_fewer (a ∷ b ∷ c ∷ d ∷ e ∷ []) h = refl
none_from_fewer (a ∷ b ∷ c ∷ d ∷ e ∷ f ∷ []) h = refl
none_from_fewer (a ∷ b ∷ c ∷ d ∷ e ∷ f ∷ g ∷ more) h = absurd (omega arith)

none_from_more : (numbers : List ℕ) → 7 < length numbers → spec_from numbers ≡ None
none_from_more (a ∷ b ∷ c ∷ d ∷ e ∷ f ∷ g ∷ h ∷ more) l = refl
none_from_more (a ∷ b ∷ c ∷ d ∷ e ∷ f ∷ g ∷ []) l = absurd (omega arith)
none_from_more (a ∷ b ∷ c ∷ d ∷ e ∷ f ∷ []) l = absurd (omega arith)
none_from_more (a ∷ b ∷ c ∷ d ∷ e ∷ []) l = absurd (omega arith)
none_from_more (a ∷ b ∷ c ∷ d ∷ []) l = absurd (omega arith)
none_from_more (a ∷ b ∷ c ∷ []) l = absurd (omega arith)
none_from_more (a ∷ b ∷ []) l = absurd (omega arith)
none_from_more (a ∷ []) l = absurd (omega arith)
none_from_more [] l = absurd (omega arith)

pub no_spec_from_fewer : (count : ℕ) (text : List ℕ) → HasFewer count text → count ≤ 7 → spec_of text ≡ None
unfolding spec_of
no_spec_from_fewer count text h few = none (numbers_in text) h.fewer
  where
    none : (o : Option (List ℕ)) → IfSome o (λ numbers. length numbers < count) → option_and_then spec_from o ≡ None
    none None h = refl
    none (Some numbers) h = none_from_fewer numbers (omega (arith, few))

pub no_spec_from_more : (text : List ℕ) → HasMore 7 text → spec_of text ≡ None
unfolding spec_of
no_spec_from_more text h = none (numbers_in text) h.more
  where
    none : (o : Option (List ℕ)) → IfSome o (λ numbers. 7 < length numbers) → option_and_then spec_from o ≡ None
    none None h = refl
    none (Some numbers) h = none_from_more numbers h

-- too few or too many numbers make no spec
pub ruleset numbers = (fewer_after, more_after, no_spec_from_fewer, no_spec_from_more)
