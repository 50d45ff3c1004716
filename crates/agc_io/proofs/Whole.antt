-- A file that was read to its end is its bytes.
use Rattle.std.proofs.Common.{◌≡◌, ℕ, List, ◌++◌, sym, ◌∙◌, ap, subst, append-nil}
use Rattle.std.specs.Prelude.{Option, None, Some, IfSome}
use Rattle.std.specs.Io.KnownBytes.{Consumes, IsAtEnd}

pub all_read : (before after : Option (List ℕ)) (read : List ℕ) → Consumes before after read → IsAtEnd after → IfSome before (λ bytes. read ≡ bytes)
all_read None after read c end = tt
all_read (Some xs) None read c end = absurd c
all_read (Some xs) (Some ys) read c end = sym (c ∙ ap (λ (rest : List ℕ). read ++ rest) end ∙ append-nil read)

-- what holds of the bytes that were read holds of the file's
pub of_all : (before after : Option (List ℕ)) (read : List ℕ) (P : List ℕ → Type 0) → Consumes before after read → IsAtEnd after → P read → IfSome before P
of_all None after read P c end holds = tt
of_all (Some xs) after read P c end holds = subst P (all_read (Some xs) after read c end) holds
