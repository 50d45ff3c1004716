-- What a table of quantities leaves unwritten.
use Rattle.std.specs.Prelude.{ℕ, List, Option}
use Rattle.std.specs.Io.KnownBytes.{Keeps}
use Rattle.agc_run_commands.specs.declared.traces.TraceError.{TraceError}
use Rattle.agc_run_commands.specs.declared.traces.TraceError.TheVariants as error

-- a run that was refused has written nothing
abbrev pub KeepsIfRefused : Option (List ℕ) → Option (List ℕ) → TraceError → Type 0
KeepsIfRefused before after (error.Refused r) = Keeps before after
KeepsIfRefused before after (error.Cut why) = Unit {0}
