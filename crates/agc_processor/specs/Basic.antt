-- The basic orders, each from processor to processor, up to the fetch of the next order. k is the
-- order's address.
use Rattle.std.specs.Prelude.{ℕ, ◌+◌, false, if◌then◌else◌}
use Rattle.agc_word.specs.Number.{pattern_of, plus_one}
use Rattle.agc_word.specs.Arithmetic.{sum_of, narrow_of, over_of, complement_of, dabs_of}
use Rattle.agc_word.specs.declared.wide.Over.{Over}
use Rattle.agc_word.specs.declared.wide.Over.TheVariants as over
use Rattle.agc_store.specs.Cells.{narrow_number, fetch_of, cell_of}
use Rattle.agc_store.specs.Places.{a_cell, zrupt_cell, brupt_cell}
use Rattle.agc_processor.specs.declared.processor.Processor.{Processor}
use Rattle.agc_processor.specs.Processor.{◌▷◌, a_of, l_of, z_at, set_a, set_l}
use Rattle.agc_processor.specs.Processor.{set_q, set_hand, serve, jump, skip}
use Rattle.agc_processor.specs.Processor.{content, put, edit_again, names, names_wide}
use Rattle.agc_processor.specs.Signs.{overflow_word, ccs_skip}
use Rattle.agc_processor.specs.Logic.{and_words_of}

-- TC K: the word at K is fetched before Q takes the return address in Z, and Z continues after K.
unfoldable pub tc_of : ℕ → Processor → Processor
tc_of k p = p ▷ set_hand (fetch_of p.store k) ▷ set_q (narrow_number (z_at p)) ▷ jump (k + 1)

-- CCS K: A is the diminished absolute value, and the word's sign and zero decide how far to skip.
unfoldable pub ccs_of : ℕ → Processor → Processor
ccs_of k p = let x = content k p in p ▷ edit_again k ▷ set_a (dabs_of x) ▷ skip (ccs_skip x)

-- TCF K: jump to K
unfoldable pub tcf_of : ℕ → Processor → Processor
tcf_of k p = p ▷ jump k

-- LXCH K: exchanges L and K; L takes a corrected word.
unfoldable pub lxch_of : ℕ → Processor → Processor
lxch_of k p = p ▷ put k (l_of p) ▷ set_l (narrow_of (content k p))

-- INCR K: adds one.
unfoldable pub incr_of : ℕ → Processor → Processor
incr_of k p = p ▷ put k (sum_of (content k p) plus_one)

-- ADS K: the sum goes to K and to A.
unfoldable pub ads_of : ℕ → Processor → Processor
ads_of k p = let s = sum_of (a_of p) (content k p) in p ▷ put k s ▷ set_a s

-- CA K: A is the word at K.
unfoldable pub ca_of : ℕ → Processor → Processor
ca_of k p = p ▷ edit_again k ▷ set_a (content k p)

-- CS K: A is its complement.
unfoldable pub cs_of : ℕ → Processor → Processor
cs_of k p = p ▷ edit_again k ▷ set_a (complement_of (content k p))

-- INDEX K: the word at K is added to the next order as it is fetched.
unfoldable pub index_of : ℕ → Processor → Processor
index_of k p =
    let read = p ▷ edit_again k in
    let next = sum_of (fetch_of read.store (z_at read)) (content k p) in
    read ▷ set_hand (narrow_of next) ▷ skip 1

-- RESUME: Z and the order in hand are restored from ZRUPT and BRUPT, and the service ends.
unfoldable pub resume_of : Processor → Processor
resume_of p =
    p ▷ set_hand (cell_of p.store 0 brupt_cell) ▷ serve false
    ▷ jump (pattern_of 15 (cell_of p.store 0 zrupt_cell))

-- TS K with overflow in A: one order is skipped. A stays if K names A; otherwise K takes A, and A
-- is +1 or -1. The skip comes first, so that a K that names Z replaces the Z that the skip made.
abbrev pub ts_with_overflow : ℕ → Processor → Processor
ts_with_overflow k p =
    if names a_cell k p then p ▷ skip 1
    else (p ▷ skip 1 ▷ put k (a_of p) ▷ set_a (overflow_word (over_of (a_of p))))

-- TS K by A's overflow: without one K takes A, and nothing else changes.
abbrev pub ts_by : Over → ℕ → Processor → Processor
ts_by over.None k p = p ▷ put k (a_of p)
ts_by over.Plus k p = p ▷ ts_with_overflow k
ts_by over.Minus k p = p ▷ ts_with_overflow k

-- TS K: K takes A, and with overflow A keeps nothing of the sum.
unfoldable pub ts_of : ℕ → Processor → Processor
ts_of k p = p ▷ ts_by (over_of (a_of p)) k

-- XCH K: exchanges A and K.
unfoldable pub xch_of : ℕ → Processor → Processor
xch_of k p = p ▷ put k (a_of p) ▷ set_a (content k p)

-- AD K: A takes the sum.
unfoldable pub ad_of : ℕ → Processor → Processor
ad_of k p = let read = p ▷ edit_again k in read ▷ set_a (sum_of (a_of read) (content k p))

-- MASK K: A and K digit by digit, both narrow unless K names A or Q
unfoldable pub mask_of : ℕ → Processor → Processor
mask_of k p = p ▷ set_a (and_words_of (names_wide k p) (a_of p) (content k p))
