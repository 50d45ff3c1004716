use Rattle.std.specs.Prelude.{ℕ, List, All}
use Rattle.agc_word.specs.Number.{Number}
use Rattle.agc_session.specs.Checkpoints.{IsCheckpoint}
use Rattle.agc_session.proofs.checkpoint.Checkpoints.take_newest.Given as goal

abbrev pub invariant-loop-copy : goal.invariant-loop-copy
invariant-loop-copy l = (words : List Number) (limit : ℕ) → All (IsCheckpoint words limit) l.initial.self.copies.items → All (IsCheckpoint words limit) l.self.copies.items
