-- What each end of the key ring shows: which ring it belongs to, and the keys fed or taken.
use Rattle.std.specs.Prelude.{ℕ, Bool, List}
use Rattle.std.specs.declared.alloc.Global.{Global}
use Rattle.rtrb.specs.declared.end.End.{End}
use Rattle.rtrb.specs.declared.AnyItems.{AnyItems}
use Rattle.agc_script.specs.declared.key.Key.{Key}

-- the key of a tape's entry
abbrev pub key_in : ℕ × Key → Key
key_in entry = entry.1

-- The feeding end: its ring, and all keys of the caller.
pub record Feeding : Type 0 where
  pub ring : End Key Global AnyItems
  pub keys : List Key

-- The taking end: its ring, the least number of cycles between two keys, the tape of the keys
-- taken, and whether the tape ran out of memory.
pub record Taking : Type 0 where
  pub ring : End Key Global AnyItems
  pub spacing : ℕ
  pub tape : List (ℕ × Key)
  pub refused : Bool
