-- The sum of a bank's words, as the flight programs check it.
use Rattle.std.specs.Prelude.{ℕ, zero, suc, ◌+◌, ◌*◌, ◌==◌, Bool, true, false, not, ◌&&◌, List}
use Rattle.std.specs.Prelude.{ℤ, pos, negsuc, ◌+ℤ◌, ◌-ℤ◌, int_lt, Option, Some, None, if◌then◌else◌}
use Rattle.agc_word.specs.Number.{Number, value}
use Rattle.agc_word.specs.Arithmetic.{complement_of, is_plus_zero, signed_number}
use Rattle.agc_store.specs.Memory.{nothing, fixed_at}
use Rattle.agc_store.specs.Places.{fixed_bank_size}
use Rattle.agc_mend.specs.declared.bank_sum.BankSum.{BankSum}
use Rattle.agc_mend.specs.declared.bank_sum.SumFit.{SumFit}
use Rattle.agc_mend.specs.declared.bank_sum.SumFit.TheVariants as fit

-- A sum beyond fifteen digits: the carry out of the top digit is added again at the bottom, which subtracts 77777
-- octal.
abbrev pub carried_around : ℤ → ℤ
carried_around s =
    if int_lt (pos 0o37777) s
    then s -ℤ pos 0o77777
    else (if int_lt s (negsuc 16382) then s +ℤ pos 0o77777 else s)

-- The ones' complement sum of two words. It is +0 only if both are +0: every other zero sum is -0, all ones.
unfoldable pub word_sum : Number → Number → Number
word_sum x y =
    signed_number (not (is_plus_zero x && is_plus_zero y)) (carried_around (value x +ℤ value y))

-- the word at an offset of a bank
abbrev pub bank_word : List Number → ℕ → ℕ → Number
bank_word words bank offset = fixed_at (fixed_bank_size * bank + offset) words

-- the sum of the first words of a bank
unfoldable pub sum_of_first : ℕ → List Number → ℕ → Number
sum_of_first zero words bank = nothing
sum_of_first (suc count) words bank =
    word_sum (sum_of_first count words bank) (bank_word words bank count)

-- the sum of all words of a bank
unfoldable pub bank_sum : List Number → ℕ → Number
bank_sum words bank = sum_of_first fixed_bank_size words bank

-- the offset of the last word that is not +0, among the first words of a bank
unfoldable pub last_used : ℕ → List Number → ℕ → Option ℕ
last_used zero words bank = None
last_used (suc count) words bank =
    if is_plus_zero (bank_word words bank count) then last_used count words bank else Some count

-- How a sum fits a bank: it is the bank's number, or its complement. For bank 00 either zero is the number.
abbrev pub fit_of : ℕ → Number → SumFit
fit_of bank sum =
    if sum.magnitude == bank
    then (if sum.minus && not (bank == 0) then fit.Complement else fit.Number)
    else fit.Neither

-- a bank's number, and its complement
abbrev pub bank_number : Bool → ℕ → Number
bank_number minus bank = record { minus = minus; magnitude = bank }

-- the word that, added to a sum, makes it a wanted number
unfoldable pub word_missing : Number → Number → Number
word_missing sum wanted = word_sum wanted (complement_of sum)

-- what is known of a bank whose last word is at an offset
unfoldable pub sum_at : List Number → ℕ → ℕ → BankSum
sum_at words bank last =
    let before = sum_of_first last words bank in
    let sum = bank_sum words bank in
    record {
      bank = bank;
      sum = sum;
      fit = fit_of bank sum;
      last = last;
      for_number = word_missing before (bank_number false bank);
      for_complement = word_missing before (bank_number true bank);
    }

abbrev pub sum_if_used : List Number → ℕ → Option ℕ → Option BankSum
sum_if_used words bank None = None
sum_if_used words bank (Some last) = Some (sum_at words bank last)

-- the sum of a bank, if a word of it is not +0
unfoldable pub sum_of_bank : List Number → ℕ → Option BankSum
sum_of_bank words bank = sum_if_used words bank (last_used fixed_bank_size words bank)
