-- The messages for a command line that cannot be used.
use Rattle.std.specs.Prelude.{◌≡◌, ◌≢◌, ℕ, ◌++◌, codes}
use Rattle.std.specs.Fmt.{decimal}
use Rattle.clap.specs.Words.{Text}
use Rattle.clap.specs.declared.error.kind.ErrorKind.{ErrorKind}
use Rattle.clap.specs.declared.error.kind.ErrorKind.TheVariants.{DisplayHelp, OutOfMemory}
use Rattle.agc_cli.specs.declared.fault.ArgsFault.{ArgsFault}
use Rattle.agc_cli.specs.declared.fault.ArgsFault.TheVariants as fault

-- the fault for a kind of error: help as its text, all others as a mistake
abbrev pub Outputs : ErrorKind → ArgsFault → Type 0
Outputs kind (fault.Help text) = kind ≡ DisplayHelp
Outputs kind (fault.Command text) = (kind ≢ DisplayHelp) × (kind ≢ OutOfMemory)
Outputs kind fault.Memory = Unit {0}

-- the message for a word that is not text: which one it is, and the program's usage
abbrev pub not_text_reported : ℕ → Text → Text
not_text_reported number usage =
    ((codes "error: word " ++ decimal number ++ codes " is not text\n\n") ++ usage)
    ++ codes "\n\nFor more information, try '--help'.\n"
