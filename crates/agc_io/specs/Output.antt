-- What a write that failed has written.
use Rattle.std.specs.Prelude.{◌≡◌, ℕ, List, ◌++◌, Option}
use Rattle.std.specs.Io.KnownBytes.{Appends}

-- a beginning of a text was written: nothing, a part of it, or the whole
pub record IsBegun (before after : Option (List ℕ)) (text : List ℕ) : Type 0 where
  pub written : List ℕ
  pub left : List ℕ
  pub appends : Appends before after written
  pub whole : written ++ left ≡ text
