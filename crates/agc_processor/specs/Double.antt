-- The double-word orders. f is the address of the lower word, which comes first, and u that of the
-- upper.
use Rattle.std.specs.Prelude.{ℕ, ◌+◌, ◌%◌, ◌==◌, if◌then◌else◌}
use Rattle.agc_word.specs.Number.{Number, plus_one, minus_one}
use Rattle.agc_word.specs.Arithmetic.{sum_of, narrow_of, over_of, complement_of}
use Rattle.agc_word.specs.declared.wide.Over.{Over}
use Rattle.agc_word.specs.declared.wide.Over.TheVariants as over
use Rattle.agc_processor.specs.declared.processor.Processor.{Processor}
use Rattle.agc_processor.specs.Processor.{◌▷◌, a_of, l_of, set_a, set_l, content, put, edit_again}
use Rattle.agc_processor.specs.Signs.{plus_zero, overflow_word}

-- the address before one of ten bits, or of twelve, which wraps inside its field
abbrev pub before_in_ten : ℕ → ℕ
before_in_ten f = (f + 0o1777) % 0o2000

abbrev pub before_in_twelve : ℕ → ℕ
before_in_twelve f = (f + 0o7777) % 0o10000

-- a sum plus the carry from the lower word's overflow
abbrev pub with_carry : Over → Number → Number
with_carry over.Plus t = sum_of t plus_one
with_carry over.Minus t = sum_of t minus_one
with_carry over.None t = t

-- DAS once the lower word is written: the upper word takes the sum t, L is +0 and A has t's
-- overflow. At address 1 exactly, where the words are L and A themselves, A takes t whole and
-- nothing else happens.
abbrev pub das_upper : ℕ → Number → Processor → Processor
das_upper f t p =
    if f == 1 then p ▷ set_a t
    else
    (p ▷ put (before_in_ten f) (narrow_of t) ▷ set_l plus_zero
    ▷ set_a (overflow_word (over_of t)))

-- DAS F: A and L are added to the double word.
unfoldable pub das_of : ℕ → Processor → Processor
das_of f p =
    let s = sum_of (l_of p) (content f p) in
    let low = p ▷ put f (narrow_of s) in
    let upper = sum_of (a_of low) (content (before_in_ten f) low) in
    low ▷ das_upper f (with_carry (over_of s) upper)

-- DXCH F: exchanges A and L with the double word.
unfoldable pub dxch_of : ℕ → Processor → Processor
dxch_of f p =
    let u = before_in_ten f in
    let low = p ▷ put f (l_of p) ▷ set_l (narrow_of (content f p)) in
    low ▷ put u (a_of low) ▷ set_a (content u low)

-- DCA F: A and L take the double word.
unfoldable pub dca_of : ℕ → Processor → Processor
dca_of f p =
    let u = before_in_twelve f in
    let low = p ▷ edit_again f ▷ set_l (narrow_of (content f p)) in
    low ▷ edit_again u ▷ set_a (content u low)

-- DCS F: A and L take its complement.
unfoldable pub dcs_of : ℕ → Processor → Processor
dcs_of f p =
    let u = before_in_twelve f in
    let low = p ▷ edit_again f ▷ set_l (narrow_of (complement_of (content f p))) in
    low ▷ edit_again u ▷ set_a (complement_of (content u low))
