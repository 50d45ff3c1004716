-- The two ends of one ring, and what comes out of it.
use Rattle.std.proofs.Common.{◌≡◌, List, [], ◌∷◌, ◌++◌, ap, sym, All}
use Rattle.std.proofs.lemmas.List.Elements.{All-cons, All-nil}
use Rattle.rtrb.specs.Ends.{SameRing}
use Rattle.rtrb.specs.Fifo.{Allowed}
use Rattle.rtrb.specs.declared.end.End.{End}
use Rattle.agc_ring.specs.declared.item.Item.{Item}
use Rattle.agc_ring.specs.Item.{IsOutside}
use Rattle.agc_ring.specs.Ring.{ring_of}

-- ends that name the same ring are a pair
pub same_ring : {T A P : Type 0} → (a b : End T A P) → ring_of a ≡ ring_of b → SameRing a b
same_ring {T} {A} {P} a b e = (
  ap (λ (r : End T A P). r.words) (sym e),
  ap (λ (r : End T A P). r.slots) (sym e),
  ap (λ (r : End T A P). r.names) (sym e),
  ap (λ (r : End T A P). r.heap) (sym e),
)

-- items that follow the protocol are all visible outside
pub all_outside : (before items : List Item) → Allowed (λ _ item. IsOutside item) before items → All IsOutside items
all_outside before [] a = All-nil IsOutside
all_outside before (item ∷ items) a = All-cons IsOutside item items a.0 (all_outside (before ++ item ∷ []) items a.1)
