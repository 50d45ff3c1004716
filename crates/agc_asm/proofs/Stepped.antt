-- A text whose second pass yields words: each line adds its own, after those of the lines before it.
use Rattle.agc_vocabulary.specs.Body.{plain_line}
use Rattle.std.specs.Prelude.{◌≡◌, ℕ, ◌+◌, Bool, true, false, All, List, [], ◌∷◌, ◌++◌, Option, Some, None, Result, Ok, Err, IfSome}
use Rattle.std.proofs.Common.{refl, sym, ◌∙◌}
use Rattle.std.proofs.lemmas.List.Elements.{All-cons, All-head, All-nil, All-tail}
use Rattle.agc_listing.specs.Weave.{is_named}
use Rattle.agc_listing.specs.declared.fault.LineFault.TheVariants as line_fault
use Rattle.agc_listing.specs.declared.line.PlacedWord.{PlacedWord}
use Rattle.agc_asm.specs.Source.{also_added, two_added, assemble_line, word_added, words_from}
use Rattle.agc_asm.specs.declared.pass2.State.{State}
use Rattle.agc_asm.specs.declared.pass2.Step.{Step}
use Rattle.agc_vocabulary.specs.Name.{Naming}
use Rattle.agc_vocabulary.specs.declared.source_fault.SourceFault.{SourceFault}
use Rattle.agc_vocabulary.specs.declared.source_fault.SourceFault.TheVariants as fault
use Rattle.agc_asm.proofs.FaultsStay.{faulty_line, wrong_word}
use Rattle.agc_asm.proofs.Passes.{next_woven}

-- a line before others, without a fault
pub record Stepped (n : ℕ) (naming : Naming) (state : State) (parsed final : List PlacedWord) (line : List ℕ) (lines : List (List ℕ)) : Type 0 where
  pub step : Step
  pub more : List PlacedWord
  pub woven : assemble_line naming state (plain_line line) ≡ Ok step
  pub both : two_added parsed step.first step.second ≡ Ok more
  pub rest : words_from (n + 1) naming step.state more lines ≡ Ok final

stepped_both : (n : ℕ) (naming : Naming) (state : State) (parsed final : List PlacedWord) (line : List ℕ) (lines : List (List ℕ)) (step : Step) (both : Result (List PlacedWord) SourceFault)
    → assemble_line naming state (plain_line line) ≡ Ok step → two_added parsed step.first step.second ≡ both → words_from n naming state parsed (line ∷ lines) ≡ Ok final → Stepped n naming state parsed final line lines
stepped_both n naming state parsed final line lines step (Err why) e f is =
    let faulty = wrong_word n naming state parsed line step why e f lines in
    absurd cc
stepped_both n naming state parsed final line lines step (Ok more) e f is =
    record { step = step; more = more; woven = e; both = f; rest = sym (next_woven n naming state parsed more line lines step e f) ∙ is }

stepped_by : (n : ℕ) (naming : Naming) (state : State) (parsed final : List PlacedWord) (line : List ℕ) (lines : List (List ℕ)) (woven : Result Step SourceFault)
    → assemble_line naming state (plain_line line) ≡ woven → words_from n naming state parsed (line ∷ lines) ≡ Ok final → Stepped n naming state parsed final line lines
stepped_by n naming state parsed final line lines (Err why) e is =
    let faulty = faulty_line n naming state parsed line why e lines in
    absurd cc
stepped_by n naming state parsed final line lines (Ok step) e is =
    stepped_both n naming state parsed final line lines step (two_added parsed step.first step.second) e refl is

pub stepped : (n : ℕ) (naming : Naming) (state : State) (parsed final : List PlacedWord) (line : List ℕ) (lines : List (List ℕ))
    → words_from n naming state parsed (line ∷ lines) ≡ Ok final → Stepped n naming state parsed final line lines
stepped n naming state parsed final line lines is = stepped_by n naming state parsed final line lines (assemble_line naming state (plain_line line)) refl is

pub none_left : (n : ℕ) (naming : Naming) (state : State) (parsed final : List PlacedWord) → words_from n naming state parsed [] ≡ Ok final → parsed ≡ final
unfolding words_from
none_left n naming state parsed final is = cc

-- a line that adds one word, or none
pub record Added (parsed : List PlacedWord) (word : PlacedWord) (more : List PlacedWord) : Type 0 where
  pub free : is_named word.place parsed ≡ false
  pub same : parsed ++ word ∷ [] ≡ more

added_by : (parsed more : List PlacedWord) (word : PlacedWord) (twice : Bool) → is_named word.place parsed ≡ twice → word_added parsed (Some word) ≡ Ok more → Added parsed word more
added_by parsed more word true e is =
    let faulty : word_added parsed (Some word) ≡ Err (fault.Listed line_fault.NamedTwice) = rw e refl in
    absurd cc
added_by parsed more word false e is =
    let added : word_added parsed (Some word) ≡ Ok (parsed ++ word ∷ []) = rw e refl in
    record { free = e; same = cc }

pub added : (parsed more : List PlacedWord) (word : PlacedWord) → word_added parsed (Some word) ≡ Ok more → Added parsed word more
added parsed more word is = added_by parsed more word (is_named word.place parsed) refl is

pub none_added : (parsed more : List PlacedWord) → word_added parsed None ≡ Ok more → parsed ≡ more
none_added parsed more is = cc

-- the two words of a line, one after the other
pub record Both (parsed more : List PlacedWord) (first second : Option PlacedWord) : Type 0 where
  pub between : List PlacedWord
  pub one : word_added parsed first ≡ Ok between
  pub other : word_added between second ≡ Ok more

both_by : (parsed more : List PlacedWord) (first second : Option PlacedWord) (one : Result (List PlacedWord) SourceFault) → word_added parsed first ≡ one → also_added one second ≡ Ok more → Both parsed more first second
both_by parsed more first second (Err why) e is = absurd cc
both_by parsed more first second (Ok between) e is = record { between = between; one = e; other = is }

pub both : (parsed more : List PlacedWord) (first second : Option PlacedWord) → two_added parsed first second ≡ Ok more → Both parsed more first second
both parsed more first second is = both_by parsed more first second (word_added parsed first) refl is

-- what holds of all words at the end holds of those so far, and of each line's
front : (P : PlacedWord → Type 0) (parsed : List PlacedWord) (word : PlacedWord) → All P (parsed ++ word ∷ []) → All P parsed
front P [] word h = All-nil P
front P (w ∷ parsed) word h = All-cons P w parsed (All-head P w (parsed ++ word ∷ []) h) (front P parsed word (All-tail P w (parsed ++ word ∷ []) h))

back : (P : PlacedWord → Type 0) (parsed : List PlacedWord) (word : PlacedWord) → All P (parsed ++ word ∷ []) → P word
back P [] word h = All-head P word [] h
back P (w ∷ parsed) word h = back P parsed word (All-tail P w (parsed ++ word ∷ []) h)

pub record Holds (P : PlacedWord → Type 0) (parsed : List PlacedWord) (word : Option PlacedWord) : Type 0 where
  pub before : All P parsed
  pub here : IfSome word P

pub holds : (P : PlacedWord → Type 0) (parsed more : List PlacedWord) (word : Option PlacedWord) → word_added parsed word ≡ Ok more → All P more → Holds P parsed word
holds P parsed more None is h =
    let same : more ≡ parsed = sym (none_added parsed more is) in
    record { before = rw same at h; here = tt }
holds P parsed more (Some word) is h =
    let a = added parsed more word is in
    let all : All P (parsed ++ word ∷ []) = rw a.same h in
    record { before = front P parsed word all; here = back P parsed word all }

pub all_before : (P : PlacedWord → Type 0) (lines : List (List ℕ)) (n : ℕ) (naming : Naming) (state : State) (parsed final : List PlacedWord)
    → words_from n naming state parsed lines ≡ Ok final → All P final → All P parsed
all_before P [] n naming state parsed final is h =
    let same : final ≡ parsed = sym (none_left n naming state parsed final is) in
    rw same at h
all_before P (line ∷ lines) n naming state parsed final is h =
    let s = stepped n naming state parsed final line lines is in
    let b = both parsed s.more s.step.first s.step.second s.both in
    let more = all_before P lines (n + 1) naming s.step.state s.more final s.rest h in
    (holds P parsed b.between s.step.first b.one (holds P b.between s.more s.step.second b.other more).before).before
