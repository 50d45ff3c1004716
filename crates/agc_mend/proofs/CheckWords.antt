-- With the word that is missing at the place of a bank's last word, the sum of the bank is right.
use Rattle.std.specs.Prelude.{◌≡◌, ℕ, zero, suc, ◌+◌, ◌*◌, ◌/◌, ◌%◌, ◌^◌, ◌<◌, ◌≤◌, ◌==◌, Bool, true, false, not, ◌&&◌, List, IfSome, Option, Some, None, unwrap_or, if◌then◌else◌}
use Rattle.std.specs.Prelude.{ℤ, pos, negsuc, neg_ℤ, ◌+ℤ◌, ◌<ℤ◌}
use Rattle.std.proofs.Common.{refl, ap, sym, ◌∙◌, arith, inl, inr, eq-eqb, eqb-true, ne_eqb}
use Rattle.std.proofs.lemmas.Bool.{cases_Bool, cases_lt, false≢true}
use Rattle.std.proofs.lemmas.Int.{ints}
use Rattle.std.proofs.lemmas.Option.{none-some}
use Rattle.agc_word.specs.Number.{Number, value}
use Rattle.agc_word.specs.Arithmetic.{is_plus_zero, signed_number}
use Rattle.agc_store.specs.Memory.{nothing, fixed_at}
use Rattle.agc_store.specs.Places.{fixed_bank_size, fixed_banks}
use Rattle.agc_mend.specs.BankSum.{bank_number, bank_word, carried_around, fit_of, last_used, sum_at, sum_if_used, sum_of_bank, sum_of_first, word_missing, word_sum}
use Rattle.agc_mend.specs.Repair.{fits, makes_sum_fit, sum_with}
use Rattle.agc_mend.specs.declared.bank_sum.BankSum.{BankSum}
use Rattle.agc_mend.specs.declared.bank_sum.SumFit.{SumFit}
use Rattle.agc_mend.specs.declared.bank_sum.SumFit.TheVariants as fit
use Rattle.agc_mend.proofs.Repaired.{sum_more}
use Rattle.agc_mend.proofs.Sums.{high_value, low_value, missing, sum_value}

-- a sum of two words has fifteen digits again
carried_low : (s w : ℤ) → negsuc 16383 <ℤ s → s <ℤ pos 16384 → negsuc 16383 <ℤ w → w <ℤ pos 16384 → negsuc 16383 <ℤ carried_around (s +ℤ w)
carried_low s w a b c d = grind (arith, ints)

carried_high : (s w : ℤ) → negsuc 16383 <ℤ s → s <ℤ pos 16384 → negsuc 16383 <ℤ w → w <ℤ pos 16384 → carried_around (s +ℤ w) <ℤ pos 16384
carried_high s w a b c d = grind (arith, ints)

narrow_number : (sign : Bool) (z : ℤ) → negsuc 16383 <ℤ z → z <ℤ pos 16384 → (signed_number sign z).magnitude < 2 ^ 14
narrow_number sign (pos zero) a b = omega arith
narrow_number sign (pos (suc n)) a b = first_of (omega (arith, ints), grind (arith, ints))
narrow_number sign (negsuc n) a b = first_of (omega (arith, ints), grind (arith, ints))

narrow_sum : (x y : Number) → x.magnitude < 2 ^ 14 → y.magnitude < 2 ^ 14 → (word_sum x y).magnitude < 2 ^ 14
unfolding word_sum
narrow_sum x y a b =
    let xl = low_value x.minus x.magnitude a in
    let xh = high_value x.minus x.magnitude a in
    let yl = low_value y.minus y.magnitude b in
    let yh = high_value y.minus y.magnitude b in
    narrow_number (not (is_plus_zero x && is_plus_zero y)) (carried_around (value x +ℤ value y))
    (carried_low (value x) (value y) xl xh yl yh) (carried_high (value x) (value y) xl xh yl yh)

abbrev AreNarrow : List Number → Type 0
AreNarrow words = (place : ℕ) → (fixed_at place words).magnitude < 2 ^ 14

narrow_first : (count : ℕ) (words : List Number) (bank : ℕ) → AreNarrow words → (sum_of_first count words bank).magnitude < 2 ^ 14
unfolding sum_of_first
narrow_first zero words bank narrow = omega arith
narrow_first (suc count) words bank narrow =
    narrow_sum (sum_of_first count words bank) (bank_word words bank count)
    (narrow_first count words bank narrow) (narrow (fixed_bank_size * bank + count))

-- the words after the last used one are +0
some_same : (x y : ℕ) → Some x ≡ Some y → x ≡ y
some_same x y same = ap (λ (o : Option ℕ). unwrap_or o x) same

last_below : (count : ℕ) (words : List Number) (bank last : ℕ) → last_used count words bank ≡ Some last → last < count
unfolding last_used
last_below zero words bank last found = absurd (none-some last found)
last_below (suc count) words bank last found =
    elim (cases_Bool (is_plus_zero (bank_word words bank count))) [
      | inl unused ↦
          let before : last_used count words bank ≡ Some last = ap (λ (b : Bool). if b then last_used count words bank else Some count) (sym unused) ∙ found in
          let below = last_below count words bank last before in omega arith
      | inr used ↦
          let same = some_same count last (ap (λ (b : Bool). if b then last_used count words bank else Some count) (sym used) ∙ found) in omega arith
    ]

zeros_after : (count : ℕ) (words : List Number) (bank last at : ℕ) → last_used count words bank ≡ Some last → last < at → at < count → is_plus_zero (bank_word words bank at) ≡ true
unfolding last_used
zeros_after zero words bank last at found after below = absurd (none-some last found)
zeros_after (suc count) words bank last at found after below =
    elim (cases_Bool (is_plus_zero (bank_word words bank count))) [
      | inl unused ↦
          let before : last_used count words bank ≡ Some last = ap (λ (b : Bool). if b then last_used count words bank else Some count) (sym unused) ∙ found in
          elim (cases_lt at count) [
            | inl within ↦ zeros_after count words bank last at before after within
            | inr past ↦
                let here : at ≡ count = omega arith in
                ap (λ (k : ℕ). is_plus_zero (bank_word words bank k)) here ∙ unused
          ]
      | inr used ↦
          let same = some_same count last (ap (λ (b : Bool). if b then last_used count words bank else Some count) (sym used) ∙ found) in
          absurd (omega arith)
    ]

-- the sum with another word at an offset: before it, there, and after it
sum_before : (count : ℕ) (words : List Number) (bank offset : ℕ) (word : Number) → count ≤ offset → sum_with count words bank offset word ≡ sum_of_first count words bank
unfolding sum_with sum_of_first
sum_before zero words bank offset word below = refl
sum_before (suc count) words bank offset word below =
    let other : (count == offset) ≡ false = ne_eqb count offset (λ same. omega arith) in
    ap (λ (sum : Number). word_sum sum (if count == offset then word else bank_word words bank count)) (sum_before count words bank offset word (omega arith))
    ∙ ap (λ (b : Bool). word_sum (sum_of_first count words bank) (if b then word else bank_word words bank count)) other

sum_there : (words : List Number) (bank offset : ℕ) (word : Number) → sum_with (offset + 1) words bank offset word ≡ word_sum (sum_of_first offset words bank) word
sum_there words bank offset word =
    sum_more offset words bank offset word
    ∙ ap (λ (b : Bool). word_sum (sum_with offset words bank offset word) (if b then word else bank_word words bank offset)) (eq-eqb offset offset refl)
    ∙ ap (λ (sum : Number). word_sum sum word) (sum_before offset words bank offset word (omega arith))

zero_value : (minus : Bool) (magnitude : ℕ) → is_plus_zero (record { minus = minus; magnitude = magnitude }) ≡ true → value (record { minus = minus; magnitude = magnitude }) ≡ pos 0
zero_value true magnitude h = absurd (false≢true h)
zero_value false zero h = refl
zero_value false (suc n) h = let bad = eqb-true (suc n) 0 h in absurd (omega arith)

stays : (w : ℤ) → negsuc 16383 <ℤ w → w <ℤ pos 16384 → carried_around (w +ℤ pos 0) ≡ w
stays w a b = grind (arith, ints)

sum_goes_on : (x y wanted : Number) → wanted.magnitude < 2 ^ 14 → value x ≡ value wanted → is_plus_zero y ≡ true → value (word_sum x y) ≡ value wanted
sum_goes_on x y wanted narrow same none =
    sum_value x y
    ∙ ap (λ (z : ℤ). carried_around (value x +ℤ z)) (zero_value y.minus y.magnitude none)
    ∙ ap (λ (z : ℤ). carried_around (z +ℤ pos 0)) same
    ∙ stays (value wanted) (low_value wanted.minus wanted.magnitude narrow) (high_value wanted.minus wanted.magnitude narrow)

module _ (words : List Number) (bank last : ℕ) (wanted : Number) (narrow : AreNarrow words) (small : wanted.magnitude < 2 ^ 14) where
  abbrev the_word : Number
  the_word = word_missing (sum_of_first last words bank) wanted

  there : value (sum_with (last + 1) words bank last the_word) ≡ value wanted
  there =
      ap (λ (x : Number). value x) (sum_there words bank last the_word)
      ∙ missing (sum_of_first last words bank) wanted (narrow_first last words bank narrow) small

  beyond : (count : ℕ) → last < count → ((at : ℕ) → last < at → at < count → is_plus_zero (bank_word words bank at) ≡ true)
      → value (sum_with count words bank last the_word) ≡ value wanted
  beyond zero below zeros = absurd (omega arith)
  beyond (suc count) below zeros =
      elim (cases_lt last count) [
        | inl after ↦
            let before = beyond count after (λ at past within. zeros at past (omega arith)) in
            let one : suc count ≡ count + 1 = omega arith in
            let more : sum_with (suc count) words bank last the_word ≡ word_sum (sum_with count words bank last the_word) (bank_word words bank count) =
            ap (λ (k : ℕ). sum_with k words bank last the_word) one
            ∙ sum_more count words bank last the_word
            ∙ ap (λ (b : Bool). word_sum (sum_with count words bank last the_word) (if b then the_word else bank_word words bank count)) (ne_eqb count last (λ same. omega arith)) in
            ap (λ (x : Number). value x) more
            ∙ sum_goes_on (sum_with count words bank last the_word) (bank_word words bank count) wanted small before (zeros count after (omega arith))
        | inr here ↦
            let same : suc count ≡ last + 1 = omega arith in
            ap (λ (k : ℕ). value (sum_with k words bank last the_word)) same ∙ there
      ]

-- a sum that stands for a bank's number or its complement fits
same_magnitude : (a b : Bool) (m n : ℕ) → value (record { minus = a; magnitude = m }) ≡ value (record { minus = b; magnitude = n }) → m ≡ n
same_magnitude true true m n h = first_of (omega (arith, ints), grind (arith, ints))
same_magnitude true false m n h = first_of (omega (arith, ints), grind (arith, ints))
same_magnitude false true m n h = first_of (omega (arith, ints), grind (arith, ints))
same_magnitude false false m n h = first_of (omega (arith, ints), grind (arith, ints))

some_fit : (b : Bool) → fits (if b then fit.Complement else fit.Number) ≡ true
some_fit true = refl
some_fit false = refl

it_fits : (bank : ℕ) (minus : Bool) (sum : Number) → value sum ≡ value (bank_number minus bank) → fits (fit_of bank sum) ≡ true
it_fits bank minus sum same =
    let found = eq-eqb sum.magnitude bank (same_magnitude sum.minus minus sum.magnitude bank same) in
    ap (λ (b : Bool). fits (if b then (if sum.minus && not (bank == 0) then fit.Complement else fit.Number) else fit.Neither)) found
    ∙ some_fit (sum.minus && not (bank == 0))

word_fits : (words : List Number) (bank last : ℕ) (minus : Bool) → AreNarrow words → bank < fixed_banks → last_used fixed_bank_size words bank ≡ Some last
    → makes_sum_fit words (fixed_bank_size * bank + last) (word_missing (sum_of_first last words bank) (bank_number minus bank)) ≡ true
unfolding makes_sum_fit
word_fits words bank last minus narrow small found =
    let below : last < fixed_bank_size = last_below fixed_bank_size words bank last found in
    let word = word_missing (sum_of_first last words bank) (bank_number minus bank) in
    let bank_back : (fixed_bank_size * bank + last) / fixed_bank_size ≡ bank = omega arith in
    let last_back : (fixed_bank_size * bank + last) % fixed_bank_size ≡ last = omega arith in
    let sum = beyond words bank last (bank_number minus bank) narrow (omega arith) fixed_bank_size below
    (λ at after within. zeros_after fixed_bank_size words bank last at found after within) in
    ap (λ (b : ℕ). fits (fit_of b (sum_with fixed_bank_size words b ((fixed_bank_size * bank + last) % fixed_bank_size) word))) bank_back
    ∙ ap (λ (o : ℕ). fits (fit_of bank (sum_with fixed_bank_size words bank o word))) last_back
    ∙ it_fits bank minus (sum_with fixed_bank_size words bank last word) sum

both : (words : List Number) (bank : ℕ) (last : Option ℕ) → AreNarrow words → bank < fixed_banks → last_used fixed_bank_size words bank ≡ last
    → IfSome (sum_if_used words bank last) (λ sum.
    (makes_sum_fit words (fixed_bank_size * bank + sum.last) sum.for_number ≡ true)
    × (makes_sum_fit words (fixed_bank_size * bank + sum.last) sum.for_complement ≡ true))
unfolding sum_at
both words bank None narrow small found = tt
both words bank (Some last) narrow small found =
    (word_fits words bank last false narrow small found, word_fits words bank last true narrow small found)

pub both_fit : (words : List Number) (bank : ℕ) → bank < fixed_banks → AreNarrow words
    → IfSome (sum_of_bank words bank) (λ sum.
    (makes_sum_fit words (fixed_bank_size * bank + sum.last) sum.for_number ≡ true)
    × (makes_sum_fit words (fixed_bank_size * bank + sum.last) sum.for_complement ≡ true))
unfolding sum_of_bank
both_fit words bank small narrow = both words bank (last_used fixed_bank_size words bank) narrow small refl
