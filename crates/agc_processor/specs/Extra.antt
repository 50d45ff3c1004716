-- The extracodes on A, L, Q and a memory word, each from processor to processor, up to the fetch of
-- the next order. k is the order's address.
use Rattle.std.specs.Prelude.{ℕ, Option, option_map, if◌then◌else◌}
use Rattle.agc_word.specs.Number.{Number, plus_one, minus_one}
use Rattle.agc_word.specs.Arithmetic.{sum_of, narrow_of, complement_of}
use Rattle.agc_word.specs.Angles.{modular_difference_of}
use Rattle.agc_word.specs.Products.{product_of, quotient_of}
use Rattle.agc_processor.specs.declared.processor.Processor.{Processor}
use Rattle.agc_processor.specs.Processor.{◌▷◌, a_of, l_of, q_of, set_a, set_l}
use Rattle.agc_processor.specs.Processor.{set_q, content, put, edit_again}
use Rattle.agc_processor.specs.Signs.{is_zero}

-- A and L take the two words of a quotient and a remainder, or of a product.
abbrev pub in_a_and_l : Processor → Number × Number → Processor
in_a_and_l p words = p ▷ set_a words.0 ▷ set_l words.1

-- DV K: divides A and L by K, if the quotient is defined
unfoldable pub dv_of : ℕ → Processor → Option Processor
dv_of k p =
    quotient_of (narrow_of (a_of p)) (l_of p) (narrow_of (content k p)) ▷ option_map (in_a_and_l p)

-- MSU K: the difference of two angles, each a fraction of a turn
unfoldable pub msu_of : ℕ → Processor → Processor
msu_of k p =
    let read = p ▷ edit_again k in
    read ▷ set_a (modular_difference_of (narrow_of (a_of read)) (narrow_of (content k p)))

-- QXCH K: exchanges Q and K.
unfoldable pub qxch_of : ℕ → Processor → Processor
qxch_of k p = p ▷ put k (q_of p) ▷ set_q (content k p)

-- AUG K: the magnitude grows by one.
unfoldable pub aug_of : ℕ → Processor → Processor
aug_of k p =
    let x = content k p in p ▷ put k (sum_of x (if x.minus then minus_one else plus_one))

-- DIM K: the magnitude shrinks by one. A zero is not written again, so that an editing register
-- keeps its word.
unfoldable pub dim_of : ℕ → Processor → Processor
dim_of k p =
    let x = content k p in
    if is_zero x then p
    else (p ▷ put k (sum_of x (if x.minus then plus_one else minus_one)))

-- SU K: A takes the difference.
unfoldable pub su_of : ℕ → Processor → Processor
su_of k p =
    let read = p ▷ edit_again k in
    read ▷ set_a (sum_of (a_of read) (complement_of (content k p)))

-- MP K: A and L take the product's two words.
unfoldable pub mp_of : ℕ → Processor → Processor
mp_of k p = product_of (narrow_of (a_of p)) (narrow_of (content k p)) ▷ in_a_and_l p
