-- How a program ends whose command line asks for help or cannot be used.
use Rattle.std.specs.Prelude.{◌≡◌, ◌⊎◌, ℕ, List, ◌++◌, Option, codes, string_bytes}
use Rattle.std.specs.Io.KnownBytes.{Appends, Keeps}
use Rattle.agc_cli.specs.declared.fault.ArgsFault.{ArgsFault}
use Rattle.agc_cli.specs.declared.fault.ArgsFault.TheVariants as fault

-- a text goes to one stream alone, with this status; if the write fails the status is 3
pub record EndsTelling (text : List ℕ) (status ended : ℕ)
    (old new other other_new : Option (List ℕ)) : Type 0 where
  pub ends : (ended ≡ status) ⊎ (ended ≡ 3)
  pub reported : ended ≡ status → Appends old new text
  pub untold : Keeps other other_new

-- help goes to standard output with status 0, a mistake to standard error with status 2, and out of
-- memory to standard error with the program's own status for it
abbrev pub ExitsWithUsage : List ℕ → ℕ → ArgsFault → ℕ → Option (List ℕ) → Option (List ℕ)
    → Option (List ℕ) → Option (List ℕ) → Type 0
ExitsWithUsage program without_memory (fault.Help text) ended out out_new err err_new =
    EndsTelling (string_bytes text) 0 ended out out_new err err_new
ExitsWithUsage program without_memory (fault.Command text) ended out out_new err err_new =
    EndsTelling (string_bytes text) 2 ended err err_new out out_new
ExitsWithUsage program without_memory fault.Memory ended out out_new err err_new =
    EndsTelling (program ++ codes ": memory\n") without_memory ended err err_new out out_new
