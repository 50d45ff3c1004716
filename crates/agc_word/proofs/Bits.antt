-- Laws of single bits and of runs of bits, counted from 1 on the right: what the bank registers and the channels keep.
use Rattle.std.proofs.Common.{◌≡◌, ℕ, ◌+◌, ◌-◌, ◌*◌, ◌/◌, ◌%◌, ◌^◌, ◌<◌, ◌≤◌, List, get_or, refl, arith, sym, ap, add-zero, ◌∙◌}
use Rattle.std.specs.Prelude.{if◌then◌else◌}
use Rattle.std.proofs.lemmas.Nat.{pow_pos, shr_split, shr-shr, mod_below}
use Rattle.std.proofs.lemmas.Nat.Bits.{bit_at_cat_low, bit_at_cat_high, bit_at-zero, bit_at_above}
use Rattle.std.specs.Int.{bit_at}
use Rattle.std.proofs.lemmas.Bool.Decides.{nat_tests}
use Rattle.agc_word.specs.Number.{Number, number_from_pattern, pattern_of, bit_of}
use Rattle.agc_word.specs.Digits.{digits}
use Rattle.agc_word.specs.Patterns.{pattern_back}
use Rattle.agc_word.proofs.Digits.{get_or-binary, digits-pattern_of}

-- a bit is 0 or 1
pub bit_of-lt : (i : ℕ) (x : Number) → bit_of i x < 2
unfolding bit_of
bit_of-lt i x = omega arith

-- a bit of the number that a pattern stands for is the pattern's
pub bit_of-number_from_pattern : (i p : ℕ) → p < 2 ^ 15 → bit_of i (number_from_pattern 15 p) ≡ p / 2 ^ (i - 1) % 2
unfolding bit_of
bit_of-number_from_pattern i p h = rw (pattern_back 15 p h) refl

-- bit 15 is the sign
pub bit_of-sign : (x : Number) → x.magnitude < 2 ^ 14 → bit_of 15 x ≡ (if x.minus then 1 else 0)
unfolding bit_of
bit_of-sign x h = grind (arith, nat_tests)

-- bit i is the i-th digit from the right
pub bit_of-digit : (i : ℕ) (x : Number) → 1 ≤ i → i ≤ 15 → x.magnitude < 2 ^ 14 → bit_of i x ≡ get_or (digits 15 x) (15 - i) 0
unfolding bit_of
bit_of-digit i x low high narrow =
    sym (get_or-binary 15 (i - 1) (15 - i) (pattern_of 15 x) (omega arith)) ∙ ap (λ (ds : List ℕ). get_or ds (15 - i) 0) (sym (digits-pattern_of x narrow))

-- EB keeps bits 11 to 9: a bank number that is written there reads back
pub eb-bank : (bank : ℕ) → bank < 8 → pattern_of 15 (number_from_pattern 15 (256 * bank)) / 256 % 8 ≡ bank
eb-bank bank h = grind (arith, nat_tests)

-- FB keeps bits 15 to 11
pub fb-bank : (bank : ℕ) → bank < 32 → pattern_of 15 (number_from_pattern 15 (1024 * bank)) / 1024 ≡ bank
fb-bank bank h = grind (arith, nat_tests)

-- BB shows FB's bank in bits 15 to 11 and EB's in bits 3 to 1
pub bb-fixed_bank : (fixed erasable : ℕ) → fixed < 32 → erasable < 8 → pattern_of 15 (number_from_pattern 15 (1024 * fixed + erasable)) / 1024 ≡ fixed
bb-fixed_bank fixed erasable f e = grind (arith, nat_tests)

pub bb-erasable_bank : (fixed erasable : ℕ) → fixed < 32 → erasable < 8 → pattern_of 15 (number_from_pattern 15 (1024 * fixed + erasable)) % 8 ≡ erasable
bb-erasable_bank fixed erasable f e = grind (arith, nat_tests)

-- Z keeps bits 12 to 1
pub z-address : (address : ℕ) → address < 4096 → pattern_of 15 (number_from_pattern 15 address) % 4096 ≡ address
z-address address h = grind (arith, nat_tests)

-- the low k bits of a pattern are its bits, and those above the kept field are 0
bit_at-mod : (p k i : ℕ) → i < k → bit_at (p % 2 ^ k) i ≡ bit_at p i
bit_at-mod p k i h = sym (bit_at_cat_low (p / 2 ^ k) k (p % 2 ^ k) i h) ∙ ap (λ (q : ℕ). bit_at q i) (shr_split p k)

bit_at-shl_high : (m k i : ℕ) → k ≤ i → bit_at (m * 2 ^ k) i ≡ bit_at m (i - k)
bit_at-shl_high m k i h = ap (λ (q : ℕ). bit_at q i) (sym (add-zero (m * 2 ^ k))) ∙ bit_at_cat_high m k 0 i (pow_pos k) h

bit_at-shl_low : (m k i : ℕ) → i < k → bit_at (m * 2 ^ k) i ≡ 0
bit_at-shl_low m k i h = ap (λ (q : ℕ). bit_at q i) (sym (add-zero (m * 2 ^ k))) ∙ bit_at_cat_low m k 0 i h ∙ bit_at-zero i

bit_at-shr : (p k i : ℕ) → bit_at (p / 2 ^ k) i ≡ bit_at p (k + i)
bit_at-shr p k i = ap (λ (q : ℕ). q % 2) (shr-shr p k i)

-- a field that is kept in place has its bits
bit_at-field : (p k j i : ℕ) → k ≤ i → i < k + j → bit_at (p / 2 ^ k % 2 ^ j * 2 ^ k) i ≡ bit_at p i
bit_at-field p k j i low high =
    let place : k + (i - k) ≡ i = omega arith in
    bit_at-shl_high (p / 2 ^ k % 2 ^ j) k i low ∙ bit_at-mod (p / 2 ^ k) j (i - k) (omega arith) ∙ bit_at-shr p k (i - k) ∙ ap (bit_at p) place

bit_at-above_field : (p k j i : ℕ) → k + j ≤ i → bit_at (p / 2 ^ k % 2 ^ j * 2 ^ k) i ≡ 0
bit_at-above_field p k j i high =
    bit_at-shl_high (p / 2 ^ k % 2 ^ j) k i (omega arith) ∙ bit_at_above (p / 2 ^ k % 2 ^ j) j (i - k) (mod_below (p / 2 ^ k) (2 ^ j) (pow_pos j)) (omega arith)

-- channel 7 keeps bits 7 to 5 where they are
pub bits_7_to_5-kept : (p i : ℕ) → 5 ≤ i → i ≤ 7 → bit_of i (number_from_pattern 15 (p / 16 % 8 * 16)) ≡ p / 2 ^ (i - 1) % 2
bits_7_to_5-kept p i low high =
    bit_of-number_from_pattern i (p / 16 % 8 * 16) (omega arith) ∙ bit_at-field p 4 3 (i - 1) (omega arith) (omega arith)

-- and no other bit
pub bits_7_to_5-above : (p i : ℕ) → 7 < i → bit_of i (number_from_pattern 15 (p / 16 % 8 * 16)) ≡ 0
bits_7_to_5-above p i out =
    bit_of-number_from_pattern i (p / 16 % 8 * 16) (omega arith) ∙ bit_at-above_field p 4 3 (i - 1) (omega arith)

pub bits_7_to_5-below : (p i : ℕ) → i < 5 → bit_of i (number_from_pattern 15 (p / 16 % 8 * 16)) ≡ 0
bits_7_to_5-below p i out =
    bit_of-number_from_pattern i (p / 16 % 8 * 16) (omega arith) ∙ bit_at-shl_low (p / 16 % 8) 4 (i - 1) (omega arith)

-- channel 13 octal with TIME6's switch off: bit 15 is 0, and the others stay
pub bit_15-off : (p : ℕ) → bit_of 15 (number_from_pattern 15 (p % 16384)) ≡ 0
bit_15-off p = bit_of-number_from_pattern 15 (p % 16384) (omega arith) ∙ omega arith

pub bit_15-others : (p i : ℕ) → 1 ≤ i → i < 15 → bit_of i (number_from_pattern 15 (p % 16384)) ≡ p / 2 ^ (i - 1) % 2
bit_15-others p i low high = bit_of-number_from_pattern i (p % 16384) (omega arith) ∙ bit_at-mod p 14 (i - 1) (omega arith)

-- channel 32 octal with the PRO key up or down: bit 14 is b, and the others stay
abbrev pub with_bit_14 : ℕ → ℕ → ℕ
with_bit_14 b p = p / 16384 * 16384 + b * 8192 + p % 8192

pub bit_14-set : (p b : ℕ) → p < 2 ^ 15 → b < 2 → bit_of 14 (number_from_pattern 15 (with_bit_14 b p)) ≡ b
bit_14-set p b h on = bit_of-number_from_pattern 14 (with_bit_14 b p) (omega arith) ∙ omega arith

pub bit_14-below : (p b i : ℕ) → p < 2 ^ 15 → b < 2 → 1 ≤ i → i < 14 → bit_of i (number_from_pattern 15 (with_bit_14 b p)) ≡ p / 2 ^ (i - 1) % 2
bit_14-below p b i h on low high =
    let cut : with_bit_14 b p ≡ (p / 16384 * 2 + b) * 2 ^ 13 + p % 8192 = omega arith in
    bit_of-number_from_pattern i (with_bit_14 b p) (omega arith)
    ∙ ap (λ (q : ℕ). bit_at q (i - 1)) cut
    ∙ bit_at_cat_low (p / 16384 * 2 + b) 13 (p % 8192) (i - 1) (omega arith)
    ∙ bit_at-mod p 13 (i - 1) (omega arith)

pub bit_14-above : (p b : ℕ) → p < 2 ^ 15 → b < 2 → bit_of 15 (number_from_pattern 15 (with_bit_14 b p)) ≡ p / 2 ^ 14 % 2
bit_14-above p b h on = bit_of-number_from_pattern 15 (with_bit_14 b p) (omega arith) ∙ omega arith
