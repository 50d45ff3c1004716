-- The Executive's tables over the part of a run that is filmed.
use Rattle.std.specs.Prelude.{◌≡◌, ℕ, List, Option, Some, None, string_bytes}
use Rattle.std.specs.declared.alloc.Global.{Global}
use Rattle.std.specs.declared.string.String.{String}
use Rattle.agc_trace.specs.declared.span.Span.{Span}
use Rattle.agc_timeline.specs.Frames.{last_of}

-- the cycles of a part
abbrev pub span_of : Span → Span
span_of part = record { from = part.from; to = last_of part }

-- a recording has tables, with these lines
abbrev pub HasLines : Option (String Global) → List ℕ → Type 0
HasLines (Some reported) lines = string_bytes reported ≡ lines
HasLines None lines = ⊥
