-- A cell through the steps that make up orders.
use Rattle.std.proofs.Common.{◌≡◌, ◌≢◌, ℕ, Bool, true, false, List, refl, ◌∙◌, inl, inr, arith}
use Rattle.std.specs.Prelude.{◌&&◌, if◌then◌else◌}
use Rattle.std.proofs.lemmas.List.{get_or-set_other}
use Rattle.std.proofs.lemmas.Bool.Decides.{nat_tests}
use Rattle.std.proofs.lemmas.Bool.{cases_Bool}
use Rattle.agc_word.specs.Number.{Number}
use Rattle.agc_store.specs.Places.{a_cell, l_cell, q_cell, eb_cell, fb_cell, z_cell, bb_cell}
use Rattle.agc_store.specs.Memory.{Memory, cell_at, erasable_bank, erasable_place, is_erasable}
use Rattle.agc_store.specs.Cells.{cells_with, put_of, write_of, reedit_of, superbank_set, is_editing}
use Rattle.agc_store.proofs.Laws.{cell_at-cells_with}
use Rattle.agc_processor.specs.declared.processor.Processor.{Processor}
use Rattle.agc_processor.specs.Row.{IsElsewhere, is_bank_register}

-- a cell has the word that it had
pub record Kept (c : ℕ) (m n : Memory) : Type 0 where
  pub same : cell_at c n.erasable ≡ cell_at c m.erasable

pub start : {c : ℕ} {m : Memory} → Kept c m m
start = record { same = refl }

-- a write to a place that selects no bank
cell_at-plain_place : (cells : List Number) (place k : ℕ) (w : Number) → k ≢ place → place ≢ eb_cell → place ≢ fb_cell → place ≢ bb_cell → cell_at k (cells_with cells place w) ≡ cell_at k cells
unfolding cells_with cell_at
cell_at-plain_place cells place k w other no_eb no_fb no_bb = grind (arith, nat_tests, get_or-set_other)

cell_at-elsewhere : (cells : List Number) (place k : ℕ) (w : Number) → IsElsewhere place k → cell_at k (cells_with cells place w) ≡ cell_at k cells
cell_at-elsewhere cells place k w h =
    elim (cases_Bool (is_bank_register place)) [
      | inl bank ↦
          let other = h.1 bank in
          cell_at-cells_with cells place k w h.0 (grind (arith, nat_tests)) (grind (arith, nat_tests)) (grind (arith, nat_tests))
      | inr plain ↦ cell_at-plain_place cells place k w h.0 (grind (arith, nat_tests)) (grind (arith, nat_tests)) (grind (arith, nat_tests))
    ]

pub put_step : {c place : ℕ} {m n : Memory} (w : Number) → IsElsewhere place c → Kept c m n → Kept c m (put_of n place w)
unfolding put_of
put_step {c} {place} {m} {n} w h k = record { same = cell_at-elsewhere n.erasable place c w h ∙ k.same }

pub a_step : {c : ℕ} {m n : Memory} (w : Number) → c ≢ a_cell → Kept c m n → Kept c m (put_of n a_cell w)
a_step w h k = put_step w (h, λ is. grind arith) k

pub l_step : {c : ℕ} {m n : Memory} (w : Number) → c ≢ l_cell → Kept c m n → Kept c m (put_of n l_cell w)
l_step w h k = put_step w (h, λ is. grind arith) k

pub q_step : {c : ℕ} {m n : Memory} (w : Number) → c ≢ q_cell → Kept c m n → Kept c m (put_of n q_cell w)
q_step w h k = put_step w (h, λ is. grind arith) k

pub z_step : {c : ℕ} {m n : Memory} (w : Number) → c ≢ z_cell → Kept c m n → Kept c m (put_of n z_cell w)
z_step w h k = put_step w (h, λ is. grind arith) k

pub write_step : {c : ℕ} {m n : Memory} (k : ℕ) (w : Number) → IsElsewhere (erasable_place n.erasable k) c → Kept c m n → Kept c m (write_of n k w)
unfolding write_of
write_step k w h kept = put_step w h kept

either_memory : {c : ℕ} {m : Memory} (b : Bool) (n o : Memory) → (b ≡ true → Kept c m n) → (b ≡ false → Kept c m o) → Kept c m (if b then n else o)
either_memory true n o h k = h refl
either_memory false n o h k = k refl

pub either : {c : ℕ} {m : Memory} (b : Bool) (p q : Processor) → (b ≡ true → Kept c m p.store) → (b ≡ false → Kept c m q.store) → Kept c m (if b then p else q).store
either true p q h k = h refl
either false p q h k = k refl

-- an editing register is no bank register
edited_elsewhere : (place c : ℕ) → is_editing place ≡ true → c ≢ place → IsElsewhere place c
edited_elsewhere place c editing other = (other, λ is. grind (arith, nat_tests))

pub again_step : {c : ℕ} {m n : Memory} (k : ℕ)
    → (is_erasable k ≡ true → is_editing (erasable_place n.erasable k) ≡ true → c ≢ erasable_place n.erasable k)
    → Kept c m n → Kept c m (reedit_of n k)
unfolding reedit_of
again_step {c} {m} {n} k h kept =
    either_memory (is_erasable k && is_editing (erasable_place n.erasable k)) _ n
    (λ both. let e : is_erasable k ≡ true = grind (arith, nat_tests) in
    let i : is_editing (erasable_place n.erasable k) ≡ true = grind (arith, nat_tests) in
    write_step k _ (edited_elsewhere (erasable_place n.erasable k) c i (h e i)) kept)
    (λ none. kept)

pub superbank_step : {c : ℕ} {m n : Memory} (on : Bool) → Kept c m n → Kept c m (superbank_set n on)
unfolding superbank_set
superbank_step on k = record { same = k.same }

-- an address names the same cell as long as EB is the same
pub same_bank : (cells others : List Number) (k : ℕ) → erasable_bank others ≡ erasable_bank cells → erasable_place others k ≡ erasable_place cells k
unfolding erasable_place
same_bank cells others k h = rw h refl

pub kept_bank : {m n : Memory} → Kept eb_cell m n → erasable_bank n.erasable ≡ erasable_bank m.erasable
unfolding erasable_bank
kept_bank h = rw h.same refl

pub same_place : {m n : Memory} (k : ℕ) → Kept eb_cell m n → erasable_place n.erasable k ≡ erasable_place m.erasable k
same_place {m} {n} k h = same_bank m.erasable n.erasable k (kept_bank h)
