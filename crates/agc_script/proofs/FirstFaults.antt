-- The fault of a file is the first of its lines' faults, and its events are those of its lines.
use Rattle.std.specs.Prelude.{◌≡◌, ℕ, ◌+◌, ◌-◌, Bool, false, List, [], ◌∷◌, ◌++◌, length, Option, Some, None, Result, Ok, Err, MatchResult}
use Rattle.std.specs.Result.{result_err}
use Rattle.std.proofs.Common.{refl, arith, ap, ◌∙◌, append_assoc}
use Rattle.std.proofs.lemmas.List.{append-nil, length-append, length_push}
use Rattle.agc_script.specs.declared.event.Event.{Event}
use Rattle.agc_script.specs.declared.line.Repeat.{Repeat}
use Rattle.agc_script.specs.declared.fault.FaultKind.{FaultKind}
use Rattle.agc_script.specs.declared.fault.FaultKind.TheVariants.{Memory}
use Rattle.agc_script.specs.declared.fault.ScriptFault.{ScriptFault}
use Rattle.agc_word.specs.Text.{words_of}
use Rattle.agc_script.specs.Line.{meaning_of}
use Rattle.agc_script.specs.Parse.{events_parsed, start_parsed, taken, reading}
use Rattle.agc_script.specs.Injection.{spelt_out, start_of, last_start, events_of_line, events_of_lines}
use Rattle.agc_script.specs.Fault.{known_and, words_have, has_fault, AreFaultless, IsFirstFault}
use Rattle.agc_script.proofs.Faults.{line_judged}
use Rattle.agc_script.proofs.Lines.{next_lines}
use Rattle.agc_script.proofs.Lowest.{Judges, lowest_judges}
use Rattle.agc_script.proofs.Sayings.{line_says}
use Rattle.agc_script.proofs.After.{at_line, more_faultless, next_start, next_events}

-- the result of reading lines: all their events, or their first fault
abbrev pub Reads : List (List ℕ) → Result (List Event) ScriptFault → Type 0
Reads lines read =
    MatchResult read (λ events. AreFaultless lines (length lines) × (events ≡ events_of_lines lines)) (λ fault. IsFirstFault lines fault)

-- how a line's meaning relates to its faults
abbrev has_after : List (List ℕ) → List ℕ → FaultKind → Bool
has_after done line kind = has_fault kind (last_start done) (length (events_of_lines done)) line

never : (last before : ℕ) (words : Option (List (List ℕ))) → known_and (words_have Memory last before) words ≡ false
unfolding words_have
never last before None = refl
never last before (Some words) = refl

no_memory_fault : (last before : ℕ) (line : List ℕ) → has_fault Memory last before line ≡ false
unfolding has_fault
no_memory_fault last before line = never last before (spelt_out (words_of line))

judged_by : (done : List (List ℕ)) (line : List ℕ) (found : Option FaultKind)
    → result_err (meaning_of (last_start done) (length (events_of_lines done)) line) ≡ found → Judges (has_after done line) found
judged_by done line found e =
    rw (← e, line_judged (last_start done) (length (events_of_lines done)) line)
    (lowest_judges (has_after done line) (no_memory_fault (last_start done) (length (events_of_lines done)) line))

fault_read : (done rest : List (List ℕ)) (line : List ℕ) (n : ℕ) (kind : FaultKind) → n ≡ length done + 1 → AreFaultless (done ++ line ∷ rest) (length done)
    → meaning_of (last_start done) (length (events_of_lines done)) line ≡ Err kind → IsFirstFault (done ++ line ∷ rest) (record { line = n; kind = kind })
fault_read done rest line n kind e h m =
    let judged = judged_by done line (Some kind) (ap (λ (r : Result (Option Repeat) FaultKind). result_err r) m) in
    let before : n - 1 ≡ length done = omega arith in
    record {
      has = at_line done rest line n kind e ∙ judged.0;
      lowest = λ lower l. at_line done rest line n lower e ∙ judged.1 lower l;
      before = rw before h;
      first = omega arith;
      last = omega (arith, length-append done (line ∷ rest));
    }

-- the lines up to one more, which is not faulty
one_more : (done rest : List (List ℕ)) (line : List ℕ) (parsed : Option Repeat) → AreFaultless (done ++ line ∷ rest) (length done)
    → meaning_of (last_start done) (length (events_of_lines done)) line ≡ Ok parsed
    → AreFaultless ((done ++ line ∷ []) ++ rest) (length (done ++ line ∷ []))
one_more done rest line parsed h m =
    let judged = judged_by done line None (ap (λ (r : Result (Option Repeat) FaultKind). result_err r) m) in
    rw (append_assoc done (line ∷ []) rest, length_push done line)
    (more_faultless (done ++ line ∷ rest) (length done) h (λ kind. at_line done rest line (length done + 1) kind refl ∙ judged kind))

-- a line as it is taken in
taken_parsed : (last : ℕ) (events : List Event) (line : List ℕ) (parsed : Option Repeat) → meaning_of last (length events) line ≡ Ok parsed
    → taken last events line ≡ Ok (start_parsed last parsed, events ++ events_parsed parsed)
unfolding taken
taken_parsed last events line parsed m = rw m

fault_taken : (n last : ℕ) (events : List Event) (line : List ℕ) (lines : List (List ℕ)) (kind : FaultKind) → meaning_of last (length events) line ≡ Err kind
    → reading n last events (line ∷ lines) ≡ Err (record { line = n; kind = kind })
unfolding reading taken
fault_taken n last events line lines kind m =
    let t : taken last events line ≡ Err kind = rw m in
    rw (t, reading)

line_read : (done rest : List (List ℕ)) (line : List ℕ) (n : ℕ) (m : Result (Option Repeat) FaultKind)
    → meaning_of (last_start done) (length (events_of_lines done)) line ≡ m → n ≡ length done + 1 → AreFaultless (done ++ line ∷ rest) (length done)
    → (n + 1 ≡ length (done ++ line ∷ []) + 1 → AreFaultless ((done ++ line ∷ []) ++ rest) (length (done ++ line ∷ []))
    → Reads ((done ++ line ∷ []) ++ rest) (reading (n + 1) (last_start (done ++ line ∷ [])) (events_of_lines (done ++ line ∷ [])) rest))
    → Reads (done ++ line ∷ rest) (reading n (last_start done) (events_of_lines done) (line ∷ rest))
unfolding start_of events_of_line
line_read done rest line n (Err kind) m e h go =
    rw (fault_taken n (last_start done) (events_of_lines done) line rest kind m) (fault_read done rest line n kind e h m)
line_read done rest line n (Ok parsed) m e h go =
    let says = line_says (last_start done) (length (events_of_lines done)) line parsed m in
    let next = go (omega (arith, length_push done line)) (one_more done rest line parsed h m) in
    let whole = rw (append_assoc done (line ∷ []) rest) at next in
    let read = next_lines n _ _ _ _ line rest (taken_parsed (last_start done) (events_of_lines done) line parsed m) in
    rw (read, next_start done line parsed says.start, next_events done line parsed says.events) whole

reads : (rest done : List (List ℕ)) (n : ℕ) → n ≡ length done + 1 → AreFaultless (done ++ rest) (length done)
    → Reads (done ++ rest) (reading n (last_start done) (events_of_lines done) rest)
unfolding reading
reads [] done n e h = let all = rw (append-nil done) at h in rw (append-nil done) (all, refl)
reads (line ∷ rest) done n e h =
    line_read done rest line n (meaning_of (last_start done) (length (events_of_lines done)) line) refl e h (reads rest (done ++ line ∷ []) (n + 1))

pub all_read : (lines : List (List ℕ)) → Reads lines (reading 1 0 [] lines)
all_read lines = reads lines [] 1 (omega arith) (record { none = λ n kind a b. absurd (omega arith) })
