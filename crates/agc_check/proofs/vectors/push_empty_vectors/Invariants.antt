use Rattle.std.specs.Prelude.{◌≡◌, ◌++◌, string_bytes}
use Rattle.agc_check.specs.Vectors.{first_vectors_text}
use Rattle.agc_check.proofs.vectors.push_empty_vectors.Given as goal

-- the vectors so far
abbrev pub invariant-loop-index : goal.invariant-loop-index
invariant-loop-index l = string_bytes l.text ≡ string_bytes l.initial.text ++ first_vectors_text l.index l.store.fixed
