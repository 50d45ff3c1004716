-- Both passes over a source, line by line.
use Rattle.agc_vocabulary.specs.Body.{line_label, plain_line}
use Rattle.std.specs.Prelude.{◌≡◌, ℕ, ◌+◌, List, ◌∷◌, Ok}
use Rattle.agc_listing.specs.declared.line.PlacedWord.{PlacedWord}
use Rattle.agc_vocabulary.specs.Name.{Naming}
use Rattle.agc_asm.specs.Source.{define_label, assemble_line, due_from, names_from, naming_after, two_added, words_from}
use Rattle.agc_encode.specs.declared.location_counter.LocationCounter.{LocationCounter}
use Rattle.agc_asm.specs.declared.pass1.Labelled.{Labelled}
use Rattle.agc_asm.specs.declared.pass2.State.{State}
use Rattle.agc_asm.specs.declared.pass2.Step.{Step}

-- a line without a fault
pub next_named : (n : ℕ) (naming : Naming) (counter : LocationCounter) (line : List ℕ) (lines : List (List ℕ)) (next : Labelled) → define_label naming counter (plain_line line) ≡ Ok next
    → names_from n naming counter (line ∷ lines) ≡ names_from (n + 1) (naming_after naming (line_label (plain_line line)) next.place) next.counter lines
unfolding names_from
next_named n naming counter line lines next e = rw (e, names_from)

-- the same in the second pass
pub next_woven : (n : ℕ) (naming : Naming) (state : State) (parsed more : List PlacedWord) (line : List ℕ) (lines : List (List ℕ)) (step : Step) → assemble_line naming state (plain_line line) ≡ Ok step
    → two_added parsed step.first step.second ≡ Ok more → words_from n naming state parsed (line ∷ lines) ≡ words_from (n + 1) naming step.state more lines
unfolding words_from
next_woven n naming state parsed more line lines step e f = rw (e, words_from) (rw f)

-- what is due behind the lines
pub next_due : (naming : Naming) (state : State) (line : List ℕ) (lines : List (List ℕ)) (step : Step) → assemble_line naming state (plain_line line) ≡ Ok step
    → due_from naming state (line ∷ lines) ≡ due_from naming step.state lines
unfolding due_from
next_due naming state line lines step e = rw (e, due_from)
