-- The cells of two memories.
use Rattle.std.proofs.Common.{◌≡◌, ℕ, ◌+◌, ◌≤◌, ◌<◌, suc, zero, List, [], ◌∷◌, ◌++◌, Bool, true, false, refl, ap, sym, ◌∙◌, subst, inl, inr, arith, add-one}
use Rattle.std.specs.Prelude.{◌↔◌, All, IsTrue, if◌then◌else◌}
use Rattle.circular_buffer.proofs.Places.{below_or_not}
use Rattle.std.proofs.lemmas.List.{ext_get_or}
use Rattle.std.proofs.lemmas.List.Elements.{All-append, All-cons, All-nil}
use Rattle.agc_store.specs.Registers.{HoldsRegisters}
use Rattle.agc_word.specs.Number.{Number}
use Rattle.agc_store.specs.Memory.{Memory, cell_at, nothing}
use Rattle.agc_listing.proofs.SameWord.{same_word-refl, same_word-same}
use Rattle.agc_listing.specs.Cell.{same_word}
use Rattle.agc_diff.specs.Cells.{differing_cell, cells_that_differ, differing_below}
use Rattle.agc_diff.specs.declared.cells.CellPair.{CellPair}

test_is : (b s : Bool) (x y : Number) → (IsTrue b → x ≡ y) → (x ≡ y → IsTrue b) → same_word x y ≡ s → s ≡ b
test_is true true x y f g e = refl
test_is false false x y f g e = refl
test_is true false x y f g e = let k = f refl in let h : same_word x x ≡ false = ap (same_word x) k ∙ e in let j = same_word-refl x in cc
test_is false true x y f g e = let k = g (same_word-same x y e) in cc

-- the cells listed, whichever way the words were compared
reported_if : (b : Bool) (place : ℕ) (x y : Number) → (IsTrue b → x ≡ y) → (x ≡ y → IsTrue b) →
    differing_cell place x y ≡ (if b then [] else record { place = place; left = x; right = y } ∷ [])
reported_if b place x y f g =
    ap (λ (s : Bool). if s then [] else record { place = place; left = x; right = y } ∷ []) (test_is b (same_word x y) x y f g refl)

differing_more : (cells more : List CellPair) (place : ℕ) (xs ys : List Number) (x y : Number) → x ≡ cell_at place xs → y ≡ cell_at place ys → (b : Bool) →
    (IsTrue b → x ≡ y) → (x ≡ y → IsTrue b) → more ≡ cells ++ (if b then [] else record { place = place; left = x; right = y } ∷ []) →
    cells ≡ differing_below place xs ys → more ≡ differing_below (place + 1) xs ys
unfolding differing_below
differing_more cells more place xs ys x y d e b f g m h =
    m ∙ ap (λ (cs : List CellPair). cells ++ cs) (sym (reported_if b place x y f g)) ∙ ap (λ (cs : List CellPair). cs ++ differing_cell place x y) h
    ∙ ap (λ (z : Number). differing_below place xs ys ++ differing_cell place z y) d
    ∙ ap (λ (z : Number). differing_below place xs ys ++ differing_cell place (cell_at place xs) z) e
    ∙ ap (λ (n : ℕ). differing_below n xs ys) (sym (add-one place))

-- The cells below this one are listed. That the memories hold their registers is known once a cell was read.
pub record ReportedBelow (place : ℕ) (cells : List CellPair) (m n : Memory) : Type 0 where
  pub reported : cells ≡ differing_below place m.erasable n.erasable
  pub left : 0 < place → HoldsRegisters m.erasable
  pub right : 0 < place → HoldsRegisters n.erasable

pub reported_none : (cells : List CellPair) (m n : Memory) → cells ≡ [] → ReportedBelow 0 cells m n
unfolding differing_below
reported_none cells m n e = record { reported = e; left = λ l. absurd (omega (arith, l)); right = λ l. absurd (omega (arith, l)) }

-- another cell
pub reported_one : (place : ℕ) (cells more : List CellPair) (m n : Memory) (x y : Number) → x ≡ cell_at place m.erasable → y ≡ cell_at place n.erasable →
    HoldsRegisters m.erasable → HoldsRegisters n.erasable → (b : Bool) → (IsTrue b → x ≡ y) → (x ≡ y → IsTrue b) →
    more ≡ cells ++ (if b then [] else record { place = place; left = x; right = y } ∷ []) → ReportedBelow place cells m n → ReportedBelow (place + 1) more m n
reported_one place cells more m n x y d e g h b f k r t =
    record { reported = differing_more cells more place m.erasable n.erasable x y d e b f k r t.reported; left = λ l. g; right = λ l. h }

-- all cells
pub reported_all : (place : ℕ) (cells : List CellPair) (m n : Memory) → place ≡ 2048 → ReportedBelow place cells m n → cells ≡ cells_that_differ m.erasable n.erasable
unfolding cells_that_differ
reported_all place cells m n e t = t.reported ∙ ap (λ (k : ℕ). differing_below k m.erasable n.erasable) e

-- a cell that is not listed has the same words
untold : (s : Bool) (place : ℕ) (x y : Number) → same_word x y ≡ s → differing_cell place x y ≡ [] → x ≡ y
untold true place x y e h = same_word-same x y e
untold false place x y e h =
    let cell : CellPair = record { place = place; left = x; right = y } in
    let reported : cell ∷ [] ≡ [] = ap (λ (b : Bool). if b then [] else cell ∷ []) (sym e) ∙ h in cc

no_more : (xs ys : List CellPair) → xs ++ ys ≡ [] → (xs ≡ []) × (ys ≡ [])
no_more [] ys h = (refl, h)
no_more (x ∷ xs) ys h = cc

same_below : (n : ℕ) (xs ys : List Number) → differing_below n xs ys ≡ [] → (k : ℕ) → k < n → cell_at k xs ≡ cell_at k ys
unfolding differing_below
same_below zero xs ys h k l = absurd (omega (arith, l))
same_below (suc n) xs ys h k l =
    let none = no_more (differing_below n xs ys) (differing_cell n (cell_at n xs) (cell_at n ys)) h in
    let last : cell_at n xs ≡ cell_at n ys = untold (same_word (cell_at n xs) (cell_at n ys)) n (cell_at n xs) (cell_at n ys) refl none.1 in
    elim (below_or_not k n) [
      | inl less ↦ same_below n xs ys none.0 k less
      | inr more ↦ let here : k ≡ n = omega arith in ap (λ (i : ℕ). cell_at i xs) here ∙ last ∙ ap (λ (i : ℕ). cell_at i ys) (sym here)
    ]

-- memories without a listed cell are the same
memories_same : (xs ys : List Number) → HoldsRegisters xs → HoldsRegisters ys → cells_that_differ xs ys ≡ [] → xs ≡ ys
unfolding cells_that_differ cell_at
memories_same xs ys g h e =
    ext_get_or nothing xs ys (g.count ∙ sym h.count) (λ i l. same_below 2048 xs ys e i (subst (λ (n : ℕ). i < n) g.count l))

none_below : (n : ℕ) (xs : List Number) → differing_below n xs xs ≡ []
unfolding differing_below
none_below zero xs = refl
none_below (suc n) xs = rw (none_below n xs, same_word-refl (cell_at n xs)) refl

-- no cell of equal memories is listed
none_differ : (xs ys : List Number) → xs ≡ ys → cells_that_differ xs ys ≡ []
unfolding cells_that_differ
none_differ xs ys e = ap (λ (zs : List Number). differing_below 2048 xs zs) (sym e) ∙ none_below 2048 xs

-- if all cells are listed, the list is empty exactly when the memories are the same
pub reported_none_same : (place : ℕ) (cells : List CellPair) (m n : Memory) → place ≡ 2048 → ReportedBelow place cells m n → cells ≡ [] ↔ (m.erasable ≡ n.erasable)
reported_none_same place cells m n e t =
    let some : 0 < place = omega (arith, e) in
    let all = reported_all place cells m n e t in
    (λ h. memories_same m.erasable n.erasable (t.left some) (t.right some) (sym all ∙ h), λ h. all ∙ none_differ m.erasable n.erasable h)

reported_place : (bound place : ℕ) (x y : Number) → place < bound → (s : Bool) → All (λ (cell : CellPair). cell.place < bound) (if s then [] else record { place = place; left = x; right = y } ∷ [])
reported_place bound place x y l true = All-nil (λ (cell : CellPair). cell.place < bound)
reported_place bound place x y l false = All-cons (λ (cell : CellPair). cell.place < bound) (record { place = place; left = x; right = y }) [] l (All-nil (λ (cell : CellPair). cell.place < bound))

places_below : (bound n : ℕ) (xs ys : List Number) → n ≤ bound → All (λ (cell : CellPair). cell.place < bound) (differing_below n xs ys)
unfolding differing_below
places_below bound zero xs ys l = All-nil (λ (cell : CellPair). cell.place < bound)
places_below bound (suc n) xs ys l =
    All-append (λ (cell : CellPair). cell.place < bound) (differing_below n xs ys) (differing_cell n (cell_at n xs) (cell_at n ys)) (places_below bound n xs ys (omega (arith, l)))
    (reported_place bound n (cell_at n xs) (cell_at n ys) (omega (arith, l)) (same_word (cell_at n xs) (cell_at n ys)))

-- the listed cells have valid numbers
pub places_reported : (cells : List CellPair) (xs ys : List Number) → cells ≡ cells_that_differ xs ys → All (λ (cell : CellPair). cell.place < 2048) cells
unfolding cells_that_differ
places_reported cells xs ys e = subst (All (λ (cell : CellPair). cell.place < 2048)) (sym e) (places_below 2048 2048 xs ys (omega arith))
