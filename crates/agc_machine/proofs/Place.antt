-- The position of the first comma, from the result of `split_once`.
use Rattle.std.proofs.Common.{◌≡◌, ◌<◌, ℕ, List, length, arith}
use Rattle.std.specs.Prelude.{Option, None, Some, MatchOption}
use Rattle.std.specs.Borrow.{Bor}
use Rattle.std.specs.List.{position_or_len, before_first, after_first}
use Rattle.std.proofs.lemmas.Bool.Decides.{nat_tests}
use Rattle.agc_word.specs.Numeral.{octal_number}
use Rattle.agc_machine.specs.StopAddress.{is_bank_comma, place_in_range, stop_address_of}

pub cut_at_comma : (text : List ℕ) (r : Option (Bor (List ℕ) × Bor (List ℕ)))
    → MatchOption r (position_or_len is_bank_comma text ≡ length text) (λ x. (position_or_len is_bank_comma text < length text) × (x.0.now ≡ before_first is_bank_comma text) × (x.1.now ≡ after_first is_bank_comma text))
    → MatchOption r (stop_address_of text ≡ None) (λ x. stop_address_of text ≡ place_in_range (octal_number 6 x.0.now) (octal_number 6 x.1.now))
unfolding stop_address_of
cut_at_comma text None h = grind (arith, nat_tests)
cut_at_comma text (Some x) h = grind (arith, nat_tests)
