-- The double-word orders that write: the cells of both words.
use Rattle.std.proofs.Common.{◌≡◌, ◌≢◌, ℕ, ◌<◌, ◌≤◌, Bool, true, false, List, length, refl, sym, ap, subst, ◌∙◌, inl, inr, arith}
use Rattle.std.specs.Prelude.{◌==◌, ◌||◌, if◌then◌else◌}
use Rattle.std.proofs.lemmas.Bool.Decides.{nat_tests}
use Rattle.std.proofs.lemmas.Bool.{cases_eq, cases_lt}
use Rattle.std.proofs.lemmas.Grind.{common_steps}
use Rattle.std.proofs.lemmas.List.{get_or_past}
use Rattle.agc_word.specs.Number.{Number}
use Rattle.agc_word.specs.Arithmetic.{narrow_of, sum_of}
use Rattle.agc_store.specs.Places.{a_cell, l_cell, eb_cell, fb_cell, z_cell, bb_cell}
use Rattle.agc_store.specs.Memory.{Memory, nothing, cell_at, erasable_bank, erasable_place}
use Rattle.agc_store.specs.Cells.{cells_with, put_of, write_of, with_banks}
use Rattle.agc_store.proofs.Kept.{length-banks}
use Rattle.agc_processor.specs.declared.processor.Processor.{Processor}
use Rattle.agc_processor.specs.Double.{das_of, das_upper, dxch_of, before_in_ten}
use Rattle.agc_processor.specs.Processor.{◌▷◌, l_of, content, put, plain, fetched}
use Rattle.agc_processor.specs.Row.{IsElsewhere, below, upper_place, place_of, ten_bits}
use Rattle.agc_processor.proofs.Steps.{Kept, start, put_step, a_step, l_step, z_step, write_step, either, kept_bank, same_bank}

-- EB reads back as it was set
eb_back : (cells : List Number) (eb fb : ℕ) → 3 < length cells → eb < 8 → erasable_bank (with_banks cells eb fb) ≡ eb
unfolding erasable_bank cell_at with_banks
eb_back cells eb fb h e = grind (arith, common_steps, nat_tests)

eb_below : (cells : List Number) → erasable_bank cells < 8
unfolding erasable_bank
eb_below cells = omega arith

eb_missing : (cells : List Number) → length cells ≤ 3 → cell_at eb_cell cells ≡ nothing
unfolding cell_at
eb_missing cells h = get_or_past cells eb_cell nothing h

eb_none : (cells others : List Number) → cell_at eb_cell cells ≡ nothing → cell_at eb_cell others ≡ nothing → erasable_bank others ≡ erasable_bank cells
unfolding erasable_bank
eb_none cells others h k = rw (h, k) refl

-- a new bank in FB leaves EB's bank
fb_leaves_eb : (cells : List Number) (fb : ℕ) → erasable_bank (with_banks cells (erasable_bank cells) fb) ≡ erasable_bank cells
fb_leaves_eb cells fb =
    elim (cases_lt 3 (length cells)) [
      | inl there ↦ eb_back cells (erasable_bank cells) fb there (eb_below cells)
      | inr missing ↦
          eb_none cells (with_banks cells (erasable_bank cells) fb) (eb_missing cells missing)
          (eb_missing (with_banks cells (erasable_bank cells) fb) (omega (arith, length-banks cells (erasable_bank cells) fb)))
    ]

fb_write : (cells : List Number) (w : Number) → erasable_bank (cells_with cells fb_cell w) ≡ erasable_bank cells
unfolding cells_with
fb_write cells w = fb_leaves_eb cells _

-- a write to a place other than EB and BB leaves EB's bank
write_leaves_eb : (m : Memory) (place : ℕ) (w : Number) → (place == eb_cell || place == bb_cell) ≡ false → erasable_bank (put_of m place w).erasable ≡ erasable_bank m.erasable
unfolding put_of
write_leaves_eb m place w h =
    elim (cases_eq place fb_cell) [
      | inl is ↦ rw is (fb_write m.erasable w)
      | inr other ↦
          let away : IsElsewhere place eb_cell = (grind (arith, nat_tests), λ bank. grind (arith, nat_tests)) in
          let kept : Kept eb_cell m (put_of m place w) = put_step w away start in kept_bank kept
    ]

-- if the lower word's cell is EB or BB, the upper word's is no bank register
before_bank : (cells others : List Number) (f : ℕ) → f < 0o2000 → (erasable_place cells f == eb_cell || erasable_place cells f == bb_cell) ≡ true → IsElsewhere (erasable_place others (before_in_ten f)) eb_cell
unfolding erasable_place
before_bank cells others f inside h = (grind (arith, nat_tests), λ bank. grind (arith, nat_tests))

below_same : (f : ℕ) → f < 0o2000 → below 0o1777 f ≡ before_in_ten f
below_same f inside = grind (arith, nat_tests)

by_bank : (b : Bool) (p q : Processor) (m : Memory) (k : ℕ)
    → (b ≡ false → erasable_bank m.erasable ≡ erasable_bank p.store.erasable) → (b ≡ true → Kept eb_cell m q.store)
    → erasable_place (if b then q else p).store.erasable k ≡ erasable_place m.erasable k
by_bank true p q m k h g = same_bank m.erasable q.store.erasable k (kept_bank (g refl))
by_bank false p q m k h g = same_bank m.erasable p.store.erasable k (sym (h refl))

-- the upper word's place, in the memory m where the lower word is written
upper_elsewhere : (c : ℕ) (p q : Processor) (m : Memory)
    → ((place_of (ten_bits p) p == eb_cell || place_of (ten_bits p) p == bb_cell) ≡ false → erasable_bank m.erasable ≡ erasable_bank p.store.erasable)
    → ((place_of (ten_bits p) p == eb_cell || place_of (ten_bits p) p == bb_cell) ≡ true → Kept eb_cell m q.store)
    → IsElsewhere (upper_place p q) c → IsElsewhere (erasable_place m.erasable (before_in_ten (ten_bits p))) c
upper_elsewhere c p q m h g away =
    let f = ten_bits p in
    let low = place_of f p in
    subst (λ (place : ℕ). IsElsewhere place c)
    (by_bank (low == eb_cell || low == bb_cell) p q m (below 0o1777 f) h g
    ∙ ap (λ (k : ℕ). erasable_place m.erasable k) (below_same f (omega arith)))
    away

low_bank : (m : Memory) (f : ℕ) (w : Number) → (erasable_place m.erasable f == eb_cell || erasable_place m.erasable f == bb_cell) ≡ false → erasable_bank (write_of m f w).erasable ≡ erasable_bank m.erasable
unfolding write_of
low_bank m f w h = write_leaves_eb m (erasable_place m.erasable f) w h

pub dxch_kept : (p : Processor) (c : ℕ) → c ≢ z_cell → c ≢ a_cell → c ≢ l_cell
    → IsElsewhere (place_of (ten_bits p) p) c → IsElsewhere (upper_place p (fetched (plain (dxch_of (ten_bits p) p)))) c
    → Kept c p.store (fetched (plain (dxch_of (ten_bits p) p))).store
unfolding dxch_of fetched
dxch_kept p c z a l low_away up_away =
    let f = ten_bits p in
    let q = fetched (plain (dxch_of f p)) in
    let written = write_of p.store f (l_of p) in
    let low = put_of written l_cell (narrow_of (content f p)) in
    let l_kept : Kept eb_cell written low = l_step _ (omega arith) start in
    let u =
    upper_elsewhere c p q low (λ no. kept_bank l_kept ∙ low_bank p.store f _ no)
    (λ is. z_step _ (omega arith) (a_step _ (omega arith) (write_step _ _ (before_bank p.store.erasable low.erasable f (omega arith) is) start)))
    up_away in
    z_step _ z (a_step _ a (write_step _ _ u (l_step _ l (write_step _ _ low_away start))))

das_upper_kept : {c : ℕ} {m : Memory} (f : ℕ) (t : Number) (p : Processor) → c ≢ a_cell → c ≢ l_cell
    → IsElsewhere (erasable_place p.store.erasable (before_in_ten f)) c → Kept c m p.store → Kept c m (das_upper f t p).store
das_upper_kept f t p a l u k =
    either (f == 1) _ _ (λ one. a_step _ a k) (λ other. a_step _ a (l_step _ l (write_step _ _ u k)))

pub das_kept : (p : Processor) (c : ℕ) → c ≢ z_cell → c ≢ a_cell → c ≢ l_cell
    → IsElsewhere (place_of (ten_bits p) p) c → IsElsewhere (upper_place p (fetched (plain (das_of (ten_bits p) p)))) c
    → Kept c p.store (fetched (plain (das_of (ten_bits p) p))).store
unfolding das_of fetched
das_kept p c z a l low_away up_away =
    let f = ten_bits p in
    let q = fetched (plain (das_of f p)) in
    let low : Processor = p ▷ put f (narrow_of (sum_of (l_of p) (content f p))) in
    let u =
    upper_elsewhere c p q low.store (λ no. low_bank p.store f _ no)
    (λ is. z_step _ (omega arith) (das_upper_kept f _ low (omega arith) (omega arith) (before_bank p.store.erasable low.store.erasable f (omega arith) is) start))
    up_away in
    z_step _ z (das_upper_kept f _ low a l u (write_step _ _ low_away start))
