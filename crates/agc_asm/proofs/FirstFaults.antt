-- The fault that a pass over a source reports is the first in it.
use Rattle.agc_vocabulary.specs.Body.{line_label, plain_line}
use Rattle.std.specs.Prelude.{◌≡◌, ℕ, suc, ◌+◌, ◌-◌, ◌<◌, true, false, List, [], ◌∷◌, length, take, Option, Some, None, option_map, Result, Ok, Err, IsOk, ◌⊎◌}
use Rattle.std.proofs.Common.{refl, ap, sym, ◌∙◌, arith, inl, inr}
use Rattle.agc_word.specs.Text.{lines_of}
use Rattle.agc_listing.specs.Weave.{parsed_in}
use Rattle.agc_listing.specs.declared.line.PlacedWord.{PlacedWord}
use Rattle.agc_encode.specs.LocationCounter.{first_counter}
use Rattle.agc_asm.specs.FirstFault.{IsAtEnd, IsFirstFault, IsFirstOn, Pass, names_pass, words_pass}
use Rattle.agc_asm.specs.Source.{as_source, two_added, first_names, first_state, is_listing, define_label, assemble_line, names_from, names_in, naming_after, source_in, words_after_names, words_from, words_in, closed, due_from, ended}
use Rattle.agc_encode.specs.declared.location_counter.LocationCounter.{LocationCounter}
use Rattle.agc_asm.specs.declared.pass1.Labelled.{Labelled}
use Rattle.agc_asm.specs.declared.pass2.State.{State}
use Rattle.agc_asm.specs.declared.pass2.Step.{Step}
use Rattle.agc_vocabulary.specs.Name.{Naming, own_names}
use Rattle.agc_vocabulary.specs.declared.source_fault.SourceFault.{SourceFault}
use Rattle.agc_vocabulary.specs.declared.source_fault.SourceFault.TheVariants as fault
use Rattle.agc_asm.specs.declared.fault.AssemblyFault.{AssemblyFault}
use Rattle.agc_interpretive.specs.Pending.{fault_at_end}
use Rattle.agc_interpretive.specs.declared.fault.Fault.{Fault}
use Rattle.agc_asm.specs.declared.fault.AssemblyFault.TheVariants as trouble
use Rattle.agc_asm.proofs.Back.{agree_on}
use Rattle.agc_asm.proofs.FaultsStay.{faulty_line, faulty_name, names_stay, words_stay, wrong_word}
use Rattle.agc_asm.proofs.Passes.{next_named, next_woven}

-- the lines of a pass before a fault; the first line has the number n
record Cut {A : Type 0} (pass : List (List ℕ) → Result A AssemblyFault) (n : ℕ) (lines : List (List ℕ)) (at : ℕ) (why : SourceFault) : Type 0 where
  before : ℕ
  number : at ≡ n + before
  inside : before < length lines
  plain : IsOk (pass (take before lines))
  faulty : pass (take (suc before) lines) ≡ Err (trouble.Line at why)

-- a fault of the first line
cut_here : {A : Type 0} (pass : List (List ℕ) → Result A AssemblyFault) (n : ℕ) (line : List ℕ) (lines : List (List ℕ)) (at : ℕ) (why mine : SourceFault) → IsOk (pass [])
    → ((others : List (List ℕ)) → pass (line ∷ others) ≡ Err (trouble.Line n mine)) → pass (line ∷ lines) ≡ Err (trouble.Line at why) → Cut pass n (line ∷ lines) at why
cut_here pass n line lines at why mine none faulty is =
    let reported : Err (trouble.Line at why) ≡ Err (trouble.Line n mine) = sym is ∙ faulty lines in
    let number : at ≡ n = cc in
    let same : mine ≡ why = cc in
    record {
      before = 0;
      number = omega arith;
      inside = omega arith;
      plain = none;
      faulty = faulty [] ∙ sym reported;
    }

-- a fault of a later line
cut_later : {A : Type 0} (pass rest : List (List ℕ) → Result A AssemblyFault) (n : ℕ) (line : List ℕ) (lines : List (List ℕ)) (at : ℕ) (why : SourceFault)
    → ((others : List (List ℕ)) → pass (line ∷ others) ≡ rest others) → Cut rest (n + 1) lines at why → Cut pass n (line ∷ lines) at why
cut_later pass rest n line lines at why goes c =
    record {
      before = suc c.before;
      number = omega (arith, c.number);
      inside = omega (arith, c.inside);
      plain = rw (goes (take c.before lines)) c.plain;
      faulty = goes (take (suc c.before) lines) ∙ c.faulty;
    }

-- the pass for the names
no_names : (n : ℕ) (naming : Naming) (counter : LocationCounter) → IsOk (names_from n naming counter [])
unfolding names_from
no_names n naming counter = refl

abbrev NamesCut : List (List ℕ) → ℕ → SourceFault → Type 0
NamesCut lines at why = (n : ℕ) (naming : Naming) (counter : LocationCounter) → names_from n naming counter lines ≡ Err (trouble.Line at why) → Cut (names_from n naming counter) n lines at why

names_by : (at : ℕ) (why : SourceFault) (n : ℕ) (naming : Naming) (counter : LocationCounter) (line : List ℕ) (lines : List (List ℕ)) (next : Result Labelled SourceFault) → define_label naming counter (plain_line line) ≡ next
    → NamesCut lines at why → names_from n naming counter (line ∷ lines) ≡ Err (trouble.Line at why) → Cut (names_from n naming counter) n (line ∷ lines) at why
names_by at why n naming counter line lines (Err mine) e rest is =
    cut_here (names_from n naming counter) n line lines at why mine (no_names n naming counter) (faulty_name n naming counter line mine e) is
names_by at why n naming counter line lines (Ok next) e rest is =
    let later = naming_after naming (line_label (plain_line line)) next.place in
    let goes : (others : List (List ℕ)) → names_from n naming counter (line ∷ others) ≡ names_from (n + 1) later next.counter others
    = λ others. next_named n naming counter line others next e in
    cut_later (names_from n naming counter) (names_from (n + 1) later next.counter) n line lines at why goes
    (rest (n + 1) later next.counter (sym (goes lines) ∙ is))

names_cut : (lines : List (List ℕ)) (at : ℕ) (why : SourceFault) → NamesCut lines at why
unfolding names_from
names_cut [] at why n naming counter is = absurd cc
names_cut (line ∷ lines) at why n naming counter is = names_by at why n naming counter line lines (define_label naming counter (plain_line line)) refl (names_cut lines at why) is

-- the pass for the words
no_words : (n : ℕ) (naming : Naming) (state : State) (parsed : List PlacedWord) → IsOk (words_from n naming state parsed [])
unfolding words_from
no_words n naming state parsed = refl

abbrev WordsCut : Naming → List (List ℕ) → ℕ → SourceFault → Type 0
WordsCut naming lines at why = (n : ℕ) (state : State) (parsed : List PlacedWord) → words_from n naming state parsed lines ≡ Err (trouble.Line at why) → Cut (words_from n naming state parsed) n lines at why

words_both : (at : ℕ) (why : SourceFault) (n : ℕ) (naming : Naming) (state : State) (parsed : List PlacedWord) (line : List ℕ) (lines : List (List ℕ)) (step : Step) (both : Result (List PlacedWord) SourceFault)
    → assemble_line naming state (plain_line line) ≡ Ok step → two_added parsed step.first step.second ≡ both → WordsCut naming lines at why
    → words_from n naming state parsed (line ∷ lines) ≡ Err (trouble.Line at why) → Cut (words_from n naming state parsed) n (line ∷ lines) at why
words_both at why n naming state parsed line lines step (Err mine) e f rest is =
    cut_here (words_from n naming state parsed) n line lines at why mine (no_words n naming state parsed) (wrong_word n naming state parsed line step mine e f) is
words_both at why n naming state parsed line lines step (Ok more) e f rest is =
    let goes : (others : List (List ℕ)) → words_from n naming state parsed (line ∷ others) ≡ words_from (n + 1) naming step.state more others
    = λ others. next_woven n naming state parsed more line others step e f in
    cut_later (words_from n naming state parsed) (words_from (n + 1) naming step.state more) n line lines at why goes
    (rest (n + 1) step.state more (sym (goes lines) ∙ is))

words_by : (at : ℕ) (why : SourceFault) (n : ℕ) (naming : Naming) (state : State) (parsed : List PlacedWord) (line : List ℕ) (lines : List (List ℕ)) (woven : Result Step SourceFault) → assemble_line naming state (plain_line line) ≡ woven
    → WordsCut naming lines at why → words_from n naming state parsed (line ∷ lines) ≡ Err (trouble.Line at why) → Cut (words_from n naming state parsed) n (line ∷ lines) at why
words_by at why n naming state parsed line lines (Err mine) e rest is =
    cut_here (words_from n naming state parsed) n line lines at why mine (no_words n naming state parsed) (faulty_line n naming state parsed line mine e) is
words_by at why n naming state parsed line lines (Ok step) e rest is =
    words_both at why n naming state parsed line lines step (two_added parsed step.first step.second) e refl rest is

words_cut : (naming : Naming) (lines : List (List ℕ)) (at : ℕ) (why : SourceFault) → WordsCut naming lines at why
unfolding words_from
words_cut naming [] at why n state parsed is = absurd cc
words_cut naming (line ∷ lines) at why n state parsed is = words_by at why n naming state parsed line lines (assemble_line naming state (plain_line line)) refl (words_cut naming lines at why) is

-- with the first line's number 1
from_one : {A : Type 0} (pass : Pass A) (lines : List (List ℕ)) (at : ℕ) (why : SourceFault) → Cut pass 1 lines at why → IsFirstOn pass lines at why
from_one pass lines at why c =
    let before : at - 1 ≡ c.before = omega (arith, c.number) in
    let upto : at ≡ suc c.before = omega (arith, c.number) in
    record {
      first = omega (arith, c.number);
      last = omega (arith, c.number, c.inside);
      before = rw before c.plain;
      here = ap (λ (n : ℕ). pass (take n lines)) upto ∙ c.faulty;
    }

names_first : (text : List ℕ) (n : ℕ) (why : SourceFault) → names_in (lines_of text) ≡ Err (trouble.Line n why) → IsFirstOn (names_pass text) (lines_of text) n why
unfolding names_in
names_first text n why is = from_one (names_pass text) (lines_of text) n why (names_cut (lines_of text) n why 1 (first_names (lines_of text)) first_counter is)

words_first : (naming : Naming) (text : List ℕ) (n : ℕ) (why : SourceFault) → words_from 1 naming first_state [] (lines_of text) ≡ Err (trouble.Line n why) → IsFirstOn (words_pass naming) (lines_of text) n why
words_first naming text n why is = from_one (words_pass naming) (lines_of text) n why (words_cut naming (lines_of text) n why 1 first_state [] is)

missing_by : (naming : Naming) (text : List ℕ) (n : ℕ) (why : SourceFault) (parsed : List PlacedWord) (short : Option Fault) → words_from 1 naming first_state [] (lines_of text) ≡ Ok parsed
    → fault_at_end (due_from naming first_state (lines_of text)) false ≡ short → ended (length (lines_of text)) short parsed ≡ Err (trouble.Line n why) → IsAtEnd naming (lines_of text) n why
missing_by naming text n why parsed None e s is = absurd cc
missing_by naming text n why parsed (Some given) e s is =
    let last : n ≡ length (lines_of text) = cc in
    let same : fault.Interpretive given ≡ why = cc in
    record { plain = rw e refl; last = last; missing = rw s (ap (λ (w : SourceFault). Some w) same) }

closed_by : (naming : Naming) (text : List ℕ) (n : ℕ) (why : SourceFault) (pass : Result (List PlacedWord) AssemblyFault) → words_from 1 naming first_state [] (lines_of text) ≡ pass
    → closed (length (lines_of text)) (due_from naming first_state (lines_of text)) pass ≡ Err (trouble.Line n why)
    → IsFirstOn (words_pass naming) (lines_of text) n why ⊎ IsAtEnd naming (lines_of text) n why
closed_by naming text n why (Err reported) e is = let same : reported ≡ trouble.Line n why = cc in inl (words_first naming text n why (rw same at e))
closed_by naming text n why (Ok parsed) e is = inr (missing_by naming text n why parsed (fault_at_end (due_from naming first_state (lines_of text)) false) e refl is)

second_by : (naming : Naming) (text : List ℕ) (n : ℕ) (why : SourceFault) → words_in naming (lines_of text) ≡ Err (trouble.Line n why)
    → IsFirstOn (words_pass naming) (lines_of text) n why ⊎ IsAtEnd naming (lines_of text) n why
unfolding words_in
second_by naming text n why is = closed_by naming text n why (words_from 1 naming first_state [] (lines_of text)) refl is

either_by : (text : List ℕ) (n : ℕ) (why : SourceFault) (names : Result Naming AssemblyFault) → names_in (lines_of text) ≡ names → words_after_names (lines_of text) names ≡ Err (trouble.Line n why) → IsFirstFault text n why
either_by text n why (Err reported) e is =
    let same : reported ≡ trouble.Line n why = cc in
    inl (names_first text n why (rw same at e))
either_by text n why (Ok naming) e is = inr (naming, e, second_by naming text n why is)

-- the clauses of the law
pub source_first : (text : List ℕ) (n : ℕ) (why : SourceFault) → is_listing text ≡ false → source_in text ≡ Err (trouble.Line n why) → IsFirstFault text n why
unfolding source_in
source_first text n why listing is =
    let pass : words_after_names (lines_of text) (names_in (lines_of text)) ≡ Err (trouble.Line n why) = rw listing at is in
    either_by text n why (names_in (lines_of text)) refl pass

pub listing_first : (text : List ℕ) (n : ℕ) (why : SourceFault) → is_listing text ≡ true → source_in text ≡ Err (trouble.Line n why) → IsFirstOn (words_pass own_names) (lines_of text) n why
unfolding source_in is_listing parsed_in
listing_first text n why listing is =
    let reported : as_source (parsed_in text) ≡ Err (trouble.Line n why) = rw listing at is in
    words_first own_names text n why (agree_on own_names first_state (lines_of text) refl listing 1 [] ∙ reported)

ok_at_end : (naming : Naming) (lines : List (List ℕ)) (n : ℕ) (why : SourceFault) (pass : Result (List PlacedWord) AssemblyFault) (short : Option Fault) → IsOk pass → n ≡ length lines
    → option_map (λ given. fault.Interpretive given) short ≡ Some why → fault_at_end (due_from naming first_state lines) false ≡ short
    → closed (length lines) (due_from naming first_state lines) pass ≡ Err (trouble.Line n why)
ok_at_end naming lines n why (Err reported) short ok last missing s = absurd cc
ok_at_end naming lines n why (Ok parsed) None ok last missing s = absurd cc
ok_at_end naming lines n why (Ok parsed) (Some given) ok last missing s =
    let same : fault.Interpretive given ≡ why = cc in
    rw (s, last, same) refl

words_reported : (naming : Naming) (lines : List (List ℕ)) (n : ℕ) (why : SourceFault) → IsFirstOn (words_pass naming) lines n why ⊎ IsAtEnd naming lines n why → words_in naming lines ≡ Err (trouble.Line n why)
unfolding words_in
words_reported naming lines n why (inl first) =
    let words : words_from 1 naming first_state [] lines ≡ Err (trouble.Line n why) = words_stay naming lines n 1 first_state [] (trouble.Line n why) first.here in
    rw words refl
words_reported naming lines n why (inr end) =
    ok_at_end naming lines n why (words_from 1 naming first_state [] lines) (fault_at_end (due_from naming first_state lines) false) end.plain end.last end.missing refl

pub first_reported : (text : List ℕ) (n : ℕ) (why : SourceFault) → is_listing text ≡ false → IsFirstFault text n why → source_in text ≡ Err (trouble.Line n why)
unfolding source_in names_in
first_reported text n why listing (inl first) =
    let names : names_in (lines_of text) ≡ Err (trouble.Line n why) = names_stay (lines_of text) n 1 (first_names (lines_of text)) first_counter (trouble.Line n why) first.here in
    rw (listing, names) refl
first_reported text n why listing (inr second) = rw (listing, second.1) (words_reported second.0 (lines_of text) n why second.2)
