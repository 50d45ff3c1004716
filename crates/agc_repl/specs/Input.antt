-- What is read from an input whose bytes are known.
use Rattle.std.specs.Prelude.{◌≡◌, ℕ, List, [], ◌∷◌, map, Option, None, Some, IfSome}
use Rattle.std.specs.Io.KnownBytes.{Consumes, IsAtEnd}
use Rattle.agc_command.specs.Command.{request_of}
use Rattle.agc_word.specs.Text.{lines_of}
use Rattle.agc_repl.specs.Answered.{Request}
use Rattle.agc_repl.specs.Transcript.{requests_in}
use Rattle.agc_symbols.specs.Symbols.{Symbol}

-- the next byte, or none at the end
abbrev pub ReadsByte : Option (List ℕ) → Option (List ℕ) → Option ℕ → Type 0
ReadsByte old new None = Consumes old new [] × IsAtEnd new
ReadsByte old new (Some byte) = Consumes old new (byte ∷ [])

-- the requests of all lines of an input
abbrev pub all_requests : Option (List Symbol) → List ℕ → List Request
all_requests names input = map (request_of names) (lines_of input)

-- The next line, or none at the end: its request is that of the first line, and the lines after it remain.
abbrev pub IsNextLine : Option (List Symbol) → List ℕ → Option (List ℕ) → Option (List ℕ) → Type 0
IsNextLine names input new None = all_requests names input ≡ []
IsNextLine names input new (Some line) =
    (rest : List ℕ) × (new ≡ Some rest) × (all_requests names input ≡ request_of names line ∷ all_requests names rest)

abbrev pub ReadsLine : Option (List Symbol) → Option (List ℕ) → Option (List ℕ) → Option (List ℕ) → Type 0
ReadsLine names old new line = IfSome old (λ input. IsNextLine names input new line)

-- The next request, or none at the end and at `quit`.
abbrev pub IsNextRequest : Option (List Symbol) → List ℕ → Option (List ℕ) → Option Request → Type 0
IsNextRequest names input new None = requests_in names input ≡ []
IsNextRequest names input new (Some request) =
    (rest : List ℕ) × (new ≡ Some rest) × (requests_in names input ≡ request ∷ requests_in names rest)

abbrev pub ReadsRequest : Option (List Symbol) → Option (List ℕ) → Option (List ℕ) → Option Request → Type 0
ReadsRequest names old new request = IfSome old (λ input. IsNextRequest names input new request)
