-- A pass over a source reports the fault of its first faulty line, whatever lines follow it.
use Rattle.agc_vocabulary.specs.Body.{line_label, plain_line}
use Rattle.std.specs.Prelude.{◌≡◌, ℕ, zero, suc, ◌+◌, List, [], ◌∷◌, take, Result, Ok, Err}
use Rattle.std.proofs.Common.{refl, sym, ◌∙◌}
use Rattle.agc_listing.specs.declared.line.PlacedWord.{PlacedWord}
use Rattle.agc_asm.specs.Source.{two_added, define_label, assemble_line, names_from, naming_after, words_from}
use Rattle.agc_encode.specs.declared.location_counter.LocationCounter.{LocationCounter}
use Rattle.agc_asm.specs.declared.pass1.Labelled.{Labelled}
use Rattle.agc_asm.specs.declared.pass2.State.{State}
use Rattle.agc_asm.specs.declared.pass2.Step.{Step}
use Rattle.agc_vocabulary.specs.Name.{Naming}
use Rattle.agc_vocabulary.specs.declared.source_fault.SourceFault.{SourceFault}
use Rattle.agc_asm.specs.declared.fault.AssemblyFault.{AssemblyFault}
use Rattle.agc_asm.specs.declared.fault.AssemblyFault.TheVariants as trouble
use Rattle.agc_asm.proofs.Passes.{next_named, next_woven}

-- a faulty line before others
pub faulty_name : (n : ℕ) (naming : Naming) (counter : LocationCounter) (line : List ℕ) (why : SourceFault) → define_label naming counter (plain_line line) ≡ Err why
    → (lines : List (List ℕ)) → names_from n naming counter (line ∷ lines) ≡ Err (trouble.Line n why)
unfolding names_from
faulty_name n naming counter line why e lines = rw (e, names_from) refl

pub faulty_line : (n : ℕ) (naming : Naming) (state : State) (parsed : List PlacedWord) (line : List ℕ) (why : SourceFault) → assemble_line naming state (plain_line line) ≡ Err why
    → (lines : List (List ℕ)) → words_from n naming state parsed (line ∷ lines) ≡ Err (trouble.Line n why)
unfolding words_from
faulty_line n naming state parsed line why e lines = rw (e, words_from) refl

pub wrong_word : (n : ℕ) (naming : Naming) (state : State) (parsed : List PlacedWord) (line : List ℕ) (step : Step) (why : SourceFault) → assemble_line naming state (plain_line line) ≡ Ok step
    → two_added parsed step.first step.second ≡ Err why → (lines : List (List ℕ)) → words_from n naming state parsed (line ∷ lines) ≡ Err (trouble.Line n why)
unfolding words_from
wrong_word n naming state parsed line step why e f lines = rw (e, words_from) (rw f refl)

-- a fault of the first lines is a fault of all
abbrev NamesStay : List (List ℕ) → Type 0
NamesStay lines = (upto n : ℕ) (naming : Naming) (counter : LocationCounter) (why : AssemblyFault) → names_from n naming counter (take upto lines) ≡ Err why → names_from n naming counter lines ≡ Err why

names_stay_by : (upto n : ℕ) (naming : Naming) (counter : LocationCounter) (why : AssemblyFault) (line : List ℕ) (lines : List (List ℕ)) (next : Result Labelled SourceFault) → define_label naming counter (plain_line line) ≡ next
    → NamesStay lines → names_from n naming counter (line ∷ take upto lines) ≡ Err why → names_from n naming counter (line ∷ lines) ≡ Err why
names_stay_by upto n naming counter why line lines (Err mine) e rest is =
    faulty_name n naming counter line mine e lines ∙ sym (faulty_name n naming counter line mine e (take upto lines)) ∙ is
names_stay_by upto n naming counter why line lines (Ok next) e rest is =
    next_named n naming counter line lines next e
    ∙ rest upto (n + 1) (naming_after naming (line_label (plain_line line)) next.place) next.counter why (sym (next_named n naming counter line (take upto lines) next e) ∙ is)

pub names_stay : (lines : List (List ℕ)) → NamesStay lines
unfolding names_from
names_stay [] zero n naming counter why is = is
names_stay [] (suc upto) n naming counter why is = is
names_stay (line ∷ lines) zero n naming counter why is = absurd cc
names_stay (line ∷ lines) (suc upto) n naming counter why is = names_stay_by upto n naming counter why line lines (define_label naming counter (plain_line line)) refl (names_stay lines) is

abbrev WordsStay : Naming → List (List ℕ) → Type 0
WordsStay naming lines = (upto n : ℕ) (state : State) (parsed : List PlacedWord) (why : AssemblyFault) → words_from n naming state parsed (take upto lines) ≡ Err why → words_from n naming state parsed lines ≡ Err why

words_stay_both : (upto n : ℕ) (naming : Naming) (state : State) (parsed : List PlacedWord) (why : AssemblyFault) (line : List ℕ) (lines : List (List ℕ)) (step : Step) (both : Result (List PlacedWord) SourceFault)
    → assemble_line naming state (plain_line line) ≡ Ok step → two_added parsed step.first step.second ≡ both → WordsStay naming lines
    → words_from n naming state parsed (line ∷ take upto lines) ≡ Err why → words_from n naming state parsed (line ∷ lines) ≡ Err why
words_stay_both upto n naming state parsed why line lines step (Err mine) e f rest is =
    wrong_word n naming state parsed line step mine e f lines ∙ sym (wrong_word n naming state parsed line step mine e f (take upto lines)) ∙ is
words_stay_both upto n naming state parsed why line lines step (Ok more) e f rest is =
    next_woven n naming state parsed more line lines step e f
    ∙ rest upto (n + 1) step.state more why (sym (next_woven n naming state parsed more line (take upto lines) step e f) ∙ is)

words_stay_by : (upto n : ℕ) (naming : Naming) (state : State) (parsed : List PlacedWord) (why : AssemblyFault) (line : List ℕ) (lines : List (List ℕ)) (woven : Result Step SourceFault) → assemble_line naming state (plain_line line) ≡ woven
    → WordsStay naming lines → words_from n naming state parsed (line ∷ take upto lines) ≡ Err why → words_from n naming state parsed (line ∷ lines) ≡ Err why
words_stay_by upto n naming state parsed why line lines (Err mine) e rest is =
    faulty_line n naming state parsed line mine e lines ∙ sym (faulty_line n naming state parsed line mine e (take upto lines)) ∙ is
words_stay_by upto n naming state parsed why line lines (Ok step) e rest is =
    words_stay_both upto n naming state parsed why line lines step (two_added parsed step.first step.second) e refl rest is

pub words_stay : (naming : Naming) (lines : List (List ℕ)) → WordsStay naming lines
unfolding words_from
words_stay naming [] zero n state parsed why is = is
words_stay naming [] (suc upto) n state parsed why is = is
words_stay naming (line ∷ lines) zero n state parsed why is = absurd cc
words_stay naming (line ∷ lines) (suc upto) n state parsed why is = words_stay_by upto n naming state parsed why line lines (assemble_line naming state (plain_line line)) refl (words_stay naming lines) is
