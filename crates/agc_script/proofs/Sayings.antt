-- The meaning of a faultless line: its start, and its events.
use Rattle.std.specs.Prelude.{◌≡◌, ℕ, ◌+◌, nat_lt, Bool, true, false, List, [], ◌∷◌, length, Option, Some, None, Result, Ok, Err, if◌then◌else◌, option_map, option_and_then, codes}
use Rattle.std.specs.List.{list_any}
use Rattle.std.specs.Str.{bytes_eq}
use Rattle.std.proofs.Common.{refl}
use Rattle.agc_script.specs.declared.line.Repeat.{Repeat}
use Rattle.agc_script.specs.declared.fault.FaultKind.{FaultKind}
use Rattle.agc_script.specs.declared.fault.FaultKind.TheVariants.{LineTooLong, NotAscii, TooMany}
use Rattle.agc_script.specs.Event.{most_events}
use Rattle.agc_word.specs.Text.{words_of}
use Rattle.agc_script.specs.Command.{and_then}
use Rattle.agc_script.specs.Line.{every_of, within_bound, begins_comment, longest_line, is_beyond_ascii, words_meaning, meaning_of}
use Rattle.agc_script.specs.Parse.{events_parsed}
use Rattle.agc_script.specs.Injection.{spelt_out, cycle_at, events_spelt}
use Rattle.agc_script.proofs.Faults.{once_every}
use Rattle.agc_script.proofs.EveryLine.{every_says}

-- the meaning of a line, and its start
pub record LineSays (words : Option (List (List ℕ))) (parsed : Option Repeat) : Type 0 where
  pub start : option_and_then (cycle_at 1) words ≡ option_map (λ repeat. repeat.start) parsed
  pub events : events_parsed parsed ≡ events_spelt words

nothing_parsed : (parsed : Option Repeat) → ◌≡◌ {A = Result (Option Repeat) FaultKind} (Ok None) (Ok parsed) → LineSays None parsed
nothing_parsed None h = record { start = refl; events = refl }
nothing_parsed (Some repeat) h = cc

in_bound : (m : Bool) (last : ℕ) (words : List (List ℕ)) (repeat : Repeat) (parsed : Option Repeat) → every_of last words ≡ Ok repeat
    → ◌≡◌ {A = Result (Option Repeat) FaultKind} (if m then Err TooMany else Ok (Some repeat)) (Ok parsed) → LineSays (Some words) parsed
in_bound true last words repeat parsed e h = cc
in_bound false last words repeat None e h = cc
in_bound false last words repeat (Some other) e h =
    let same : repeat ≡ other = cc in
    let w = every_says last words repeat e in
    rw (← same) (record { start = w.start; events = w.events })

bound_says : (last before : ℕ) (words : List (List ℕ)) (r : Result Repeat FaultKind) (parsed : Option Repeat) → every_of last words ≡ r
    → and_then r (within_bound before) ≡ Ok parsed → LineSays (Some words) parsed
unfolding within_bound
bound_says last before words (Err kind) parsed e h = cc
bound_says last before words (Ok repeat) parsed e h = in_bound (nat_lt most_events (before + repeat.times)) last words repeat parsed e h

kind_says : (last before : ℕ) (first : List ℕ) (words : List (List ℕ)) (parsed : Option Repeat) (comment every : Bool) → begins_comment first ≡ comment
    → bytes_eq first (codes "every") ≡ every → words_meaning last before (first ∷ words) ≡ Ok parsed → LineSays (spelt_out (first ∷ words)) parsed
unfolding words_meaning spelt_out
kind_says last before first words parsed true every p q h = let k = rw p at h in rw p (nothing_parsed parsed k)
kind_says last before first words parsed false true p q h =
    let k = rw (p, q) at h in rw (p, q) (bound_says last before words (every_of last words) parsed refl k)
kind_says last before first words parsed false false p q h =
    let k = rw (p, q, once_every last first words) at h in
    rw (p, q)
    (bound_says last before (codes "1" ∷ first ∷ first ∷ words) (every_of last (codes "1" ∷ first ∷ first ∷ words)) parsed refl k)

words_say : (last before : ℕ) (words : List (List ℕ)) (parsed : Option Repeat) → words_meaning last before words ≡ Ok parsed → LineSays (spelt_out words) parsed
unfolding words_meaning spelt_out
words_say last before [] parsed h = nothing_parsed parsed h
words_say last before (first ∷ words) parsed h =
    kind_says last before first words parsed (begins_comment first) (bytes_eq first (codes "every")) refl refl h

measured : (l a : Bool) (r : Result (Option Repeat) FaultKind) (parsed : Option Repeat)
    → (if l then Err LineTooLong else (if a then Err NotAscii else r)) ≡ Ok parsed → r ≡ Ok parsed
measured true a r parsed h = cc
measured false true r parsed h = cc
measured false false r parsed h = h

pub line_says : (last before : ℕ) (line : List ℕ) (parsed : Option Repeat) → meaning_of last before line ≡ Ok parsed → LineSays (spelt_out (words_of line)) parsed
unfolding meaning_of
line_says last before line parsed h =
    words_say last before (words_of line) parsed
    (measured (nat_lt longest_line (length line)) (list_any is_beyond_ascii line) (words_meaning last before (words_of line)) parsed h)
