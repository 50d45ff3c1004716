-- The text of a session: the requests of an input, answered in turn.
use Rattle.std.specs.Prelude.{◌≡◌, ◌⊎◌, ℕ, Bool, true, false, if◌then◌else◌, List, [], ◌∷◌, ◌++◌, map, Option, Some, Ok, codes}
use Rattle.std.specs.Io.KnownBytes.{Appends, Keeps}
use Rattle.agc_command.specs.Command.{request_of}
use Rattle.agc_command.specs.declared.command.Command.TheVariants as command
use Rattle.agc_word.specs.Text.{lines_of}
use Rattle.agc_repl.specs.Answered.{IsHandled, Means, Request, answer_to}
use Rattle.agc_repl.specs.declared.repl.Repl.{Repl}
use Rattle.agc_symbols.specs.Symbols.{Symbol}

abbrev pub is_quit : Request → Bool
is_quit (Ok (Some command.Quit)) = true
is_quit request = false

-- the requests up to the first `quit`
unfoldable pub up_to_quit : List Request → List Request
up_to_quit [] = []
up_to_quit (request ∷ requests) = if is_quit request then [] else request ∷ up_to_quit requests

-- the requests of an input, whose lines are divided like those of a script
unfoldable pub requests_in : Option (List Symbol) → List ℕ → List Request
requests_in names input = up_to_quit (map (request_of names) (lines_of input))

-- The text of a session: the answer to each request, in the state that the answers before it left.
unfoldable pub session_text : Option (List Symbol) → List Request → Repl → List ℕ
session_text names [] t = []
session_text names (request ∷ requests) t =
    let answer = answer_to names request t in answer.1 ++ session_text names requests answer.0

-- the state that the answers to some requests leave
unfoldable pub after_answers : Option (List Symbol) → List Request → Repl → Repl
after_answers names [] t = t
after_answers names (request ∷ requests) t = after_answers names requests (answer_to names request t).0

-- What requests mean, each in the state that the answers before it left. Without a search back they mean themselves.
unfoldable pub AllMean : Option (List Symbol) → List Request → Repl → List Request → Type 0
AllMean names [] t meant = meant ≡ []
AllMean names (request ∷ requests) t meant =
    (first : Request) × (rest : List Request) × Means request t first
    × AllMean names requests (answer_to names first t).0 rest × (meant ≡ first ∷ rest)

-- The output has grown by the text of the session of what some requests mean.
abbrev pub IsSessionOf : Option (List Symbol) → List Request → Repl → Option (List ℕ) → Option (List ℕ) → Type 0
IsSessionOf names requests t old new =
    (meant : List Request) × AllMean names requests t meant × Appends old new (session_text names meant t)

-- Each request was answered, or memory ran out at it; the next one started from the resulting state.
unfoldable pub AreAnswered : Option (List Symbol) → List Request → Repl → Option (List ℕ) → Option (List ℕ) → Type 0
AreAnswered names [] t old new = Keeps old new
AreAnswered names (request ∷ requests) t old new =
    (left : Repl) × (mid : Option (List ℕ)) × IsHandled names request t left old mid
    × AreAnswered names requests left mid new

-- Memory ran out at some request: up to it the text is that of the session of what the requests mean. Then comes a
-- beginning of the answer to what it means, or nothing if memory ran out in its search back, and then that memory ran
-- out.
pub record RanOut (names : Option (List Symbol)) (requests : List Request) (t : Repl) (old new : Option (List ℕ)) : Type 0 where
  pub earlier : List Request
  pub request : Request
  pub later : List Request
  pub requests_are : requests ≡ earlier ++ (request ∷ later)
  pub meant : List Request
  pub all : AllMean names earlier t meant
  pub last : Request
  pub means : Means request (after_answers names meant t) last ⊎ (last ≡ request)
  pub parsed : List ℕ
  pub rest : List ℕ
  pub begins : session_text names (meant ++ (last ∷ [])) t ≡ session_text names meant t ++ (parsed ++ rest)
  pub more : List ℕ
  pub text : Appends old new (session_text names meant t ++ (parsed ++ (codes "error: memory\n" ++ more)))
