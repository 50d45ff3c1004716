-- The word that makes the sum of a bank its number, at the place of the bank's last word.
use Rattle.std.specs.Prelude.{ℕ, ◌+◌, ◌*◌, List, Option, Some, None}
use Rattle.agc_word.specs.Number.{Number}
use Rattle.agc_store.specs.Places.{fixed_bank_size}
use Rattle.agc_listing.specs.declared.line.PlacedWord.{PlacedWord}
use Rattle.agc_mend.specs.BankSum.{sum_of_bank}
use Rattle.agc_mend.specs.declared.bank_sum.BankSum.{BankSum}

abbrev pub placed_check_word : Option BankSum → Option PlacedWord
placed_check_word None = None
placed_check_word (Some sum) =
    Some (record { place = fixed_bank_size * sum.bank + sum.last; word = sum.for_number })

-- a bank's check word, if a word of the bank is not +0
unfoldable pub check_word : List Number → ℕ → Option PlacedWord
check_word words bank = placed_check_word (sum_of_bank words bank)
