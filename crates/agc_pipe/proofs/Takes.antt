-- Items that were taken block by block: the writes before the first end.
use Rattle.std.proofs.Common.{◌≡◌, ◌<◌, ℕ, zero, suc, List, [], ◌∷◌, ◌++◌, length, take, get_or, true, false, refl, ap, sym, ◌∙◌, subst, arith}
use Rattle.agc_word.specs.declared.channel_write.ChannelWrite.{ChannelWrite}
use Rattle.agc_pipe.specs.Display.{IsShowing}
use Rattle.agc_ring.specs.Items.{has_end, shown_in, items_of}
use Rattle.agc_pipe.specs.declared.display.Display.{Display}
use Rattle.agc_ring.specs.declared.item.Item.{Item}
use Rattle.agc_ring.specs.declared.item.Item.TheVariants as item

pub end_after : (taken items : List Item) → has_end taken ≡ false → has_end (taken ++ items) ≡ has_end items
unfolding has_end
end_after [] items h = refl
end_after (item.Write write ∷ taken) items h = end_after taken items h
end_after (item.End ∷ taken) items h = cc

pub shown_after : (taken items : List Item) → has_end taken ≡ false → shown_in (taken ++ items) ≡ shown_in taken ++ shown_in items
unfolding has_end shown_in
shown_after [] items h = refl
shown_after (item.Write write ∷ taken) items h = ap (λ (writes : List ChannelWrite). write ∷ writes) (shown_after taken items h)
shown_after (item.End ∷ taken) items h = cc

-- the writes before the end of a list of items, if the first end is at this position
pub at_end : (items : List Item) (i : ℕ) → i < length items → item.End ≡ get_or items i item.End → has_end (take i items) ≡ false
    → (has_end items ≡ true) × (shown_in items ≡ shown_in (take i items))
unfolding has_end shown_in
at_end [] i lt e h = absurd (omega arith)
at_end (item.End ∷ items) zero lt e h = (refl, refl)
at_end (item.Write write ∷ items) zero lt e h = cc
at_end (item.End ∷ items) (suc i) lt e h = cc
at_end (item.Write write ∷ items) (suc i) lt e h =
    let later = at_end items i (omega arith) e h in
    (later.0, ap (λ (writes : List ChannelWrite). write ∷ writes) later.1)

-- one more write after those before a place
pub at_write : (items : List Item) (i : ℕ) (write : ChannelWrite) → i < length items → item.Write write ≡ get_or items i (item.Write write)
    → has_end (take i items) ≡ false
    → (has_end (take (suc i) items) ≡ false) × (shown_in (take (suc i) items) ≡ shown_in (take i items) ++ write ∷ [])
unfolding has_end shown_in
at_write [] i write lt e h = absurd (omega arith)
at_write (item.End ∷ items) zero write lt e h = cc
at_write (item.Write first ∷ items) zero write lt e h = (refl, cc)
at_write (item.End ∷ items) (suc i) write lt e h = cc
at_write (item.Write first ∷ items) (suc i) write lt e h =
    let later = at_write items i write (omega arith) e h in
    (later.0, ap (λ (writes : List ChannelWrite). first ∷ writes) later.1)

-- a block after what was taken, which had no end
pub showing_all : (display : Display) (taken items all : List Item) → all ≡ taken ++ items → has_end taken ≡ false →
    IsShowing display (shown_in taken ++ shown_in items) → IsShowing display (shown_in all)
showing_all display taken items all e n h =
    subst (λ (writes : List ChannelWrite). IsShowing display writes) (sym (shown_after taken items n) ∙ sym (ap shown_in e)) h

pub end_all : (taken items all : List Item) → all ≡ taken ++ items → has_end taken ≡ false → has_end items ≡ has_end all
end_all taken items all e n = sym (end_after taken items n) ∙ sym (ap has_end e)

cons_parts : {A : Type 0} (x y : A) (xs ys : List A) → x ∷ xs ≡ y ∷ ys → (x ≡ y) × (xs ≡ ys)
cons_parts x y xs ys e = (cc, cc)

-- what was taken up to an end, of a run's items, is all of its writes
pub whole_shown : (taken rest : List Item) (writes : List ChannelWrite) → has_end taken ≡ true → taken ++ rest ≡ items_of writes → shown_in taken ≡ writes
unfolding has_end shown_in items_of
whole_shown [] rest writes h e = cc
whole_shown (item.End ∷ taken) rest [] h e = refl
whole_shown (item.End ∷ taken) rest (write ∷ writes) h e = cc
whole_shown (item.Write write ∷ taken) rest [] h e = cc
whole_shown (item.Write write ∷ taken) rest (other ∷ writes) h e =
    let parts = cons_parts (item.Write write) (item.Write other) (taken ++ rest) (items_of writes) e in
    let same : write ≡ other = cc in
    rw (same, whole_shown taken rest writes h parts.1) refl
