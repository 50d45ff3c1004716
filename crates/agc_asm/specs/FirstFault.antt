-- The fault reported for a source is the first of its pass.
use Rattle.std.specs.Prelude.{◌≡◌, ◌⊎◌, ℕ, ◌-◌, ◌≤◌, List, [], length, take, Some, option_map, Result, Ok, Err, IsOk, false}
use Rattle.agc_listing.specs.declared.line.PlacedWord.{PlacedWord}
use Rattle.agc_word.specs.Text.{lines_of}
use Rattle.agc_vocabulary.specs.Name.{Naming}
use Rattle.agc_vocabulary.specs.declared.source_fault.SourceFault.{SourceFault}
use Rattle.agc_asm.specs.declared.fault.AssemblyFault.{AssemblyFault}
use Rattle.agc_asm.specs.declared.fault.AssemblyFault.TheVariants as trouble
use Rattle.agc_encode.specs.LocationCounter.{first_counter}
use Rattle.agc_asm.specs.Source.{due_from, first_names, first_state, names_from, names_in, words_from}
use Rattle.agc_vocabulary.specs.declared.source_fault.SourceFault.TheVariants as fault
use Rattle.agc_interpretive.specs.Pending.{fault_at_end}

-- a pass over lines: its result, or a fault
abbrev pub Pass : Type 0 → Type 0
Pass A = List (List ℕ) → Result A AssemblyFault

-- the pass for the names, after earlier readings of the text, and with these names the pass for the words
abbrev pub names_pass : List ℕ → Pass Naming
names_pass text lines = names_from 1 (first_names (lines_of text)) first_counter lines

abbrev pub words_pass : Naming → Pass (List PlacedWord)
words_pass naming lines = words_from 1 naming first_state [] lines

-- the lines before the n-th have no fault in a pass, and those up to it have this one
pub record IsFirstOn {A : Type 0} (pass : Pass A) (lines : List (List ℕ)) (n : ℕ) (why : SourceFault) : Type 0 where
  pub first : 1 ≤ n
  pub last : n ≤ length lines
  pub before : IsOk (pass (take (n - 1) lines))
  pub here : pass (take n lines) ≡ Err (trouble.Line n why)

-- no line has a fault in the pass for the words, but an operand is missing behind the last one
pub record IsAtEnd (naming : Naming) (lines : List (List ℕ)) (n : ℕ) (why : SourceFault) : Type 0 where
  pub plain : IsOk (words_pass naming lines)
  pub last : n ≡ length lines
  pub missing : option_map (λ short. fault.Interpretive short) (fault_at_end (due_from naming first_state lines) false) ≡ Some why

-- A fault of a source: the first in the pass for the names, or, if that has none, the first in the pass for the words, or,
-- if that has none, an operand that is missing at the end.
abbrev pub IsFirstFault : List ℕ → ℕ → SourceFault → Type 0
IsFirstFault text n why =
    IsFirstOn (names_pass text) (lines_of text) n why
    ⊎ ((naming : Naming) × (names_in (lines_of text) ≡ Ok naming)
    × (IsFirstOn (words_pass naming) (lines_of text) n why ⊎ IsAtEnd naming (lines_of text) n why))
