-- The options of a run: the meaning of their texts.
use Rattle.std.specs.Prelude.{ℕ, Bool, true, false, List, Option, Some, None, option_and_then}
use Rattle.std.specs.Prelude.{string_bytes}
use Rattle.std.specs.declared.string.String.{String}
use Rattle.std.specs.declared.alloc.Global.{Global}

-- a text that is given and has no meaning
abbrev pub says_nothing : {A : Type 0} → (List ℕ → Option A) → Option (String Global) → Bool
says_nothing meaning None = false
says_nothing meaning (Some text) =
    elim (meaning (string_bytes text)) [ None ↦ true | Some spec ↦ false ]

-- the meaning of a text that is given
abbrev pub parsed_by : {A : Type 0} → (List ℕ → Option A) → Option (String Global) → Option A
parsed_by meaning given = option_and_then (λ text. meaning (string_bytes text)) given
