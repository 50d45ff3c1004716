-- What each end of a ring shows: which ring it belongs to, and the items that went through it.
use Rattle.std.specs.Prelude.{ℕ, List, []}
use Rattle.std.specs.declared.alloc.Global.{Global}
use Rattle.rtrb.specs.declared.end.End.{End}
use Rattle.agc_ring.specs.declared.item.Item.{Item}
use Rattle.agc_ring.specs.declared.item.IoWrites.{IoWrites}

-- A ring, as both its ends name it; the private state of each end is left out.
abbrev pub ring_of : {T A P : Type 0} → End T A P → End T A P
ring_of end = record end { role = 0; past = []; ahead = []; limit = 0 }

-- the ring of a run's items
abbrev pub Ring : Type 0
Ring = End Item Global IoWrites

-- The sending end: its ring, the most items that the ring holds, and every item sent, oldest first.
pub record Sending : Type 0 where
  pub ring : Ring
  pub slots : ℕ
  pub sent : List Item

-- The receiving end: its ring, and every item received, oldest first.
pub record Receiving : Type 0 where
  pub ring : Ring
  pub received : List Item
