-- One line after another, and what an error at a line means for the file.
use Rattle.std.specs.Prelude.{◌≡◌, ℕ, ◌+◌, ◌≤◌, ◌<◌, List, [], ◌∷◌, length, Result, Ok, Err, IsOk, IfErr}
use Rattle.std.proofs.Common.{refl, arith, rules, sym, ◌∙◌, ap}
use Rattle.std.proofs.lemmas.Result.{IfErr-weaker}
use Rattle.agc_script.specs.declared.event.Event.{Event}
use Rattle.agc_script.specs.declared.fault.FaultKind.{FaultKind}
use Rattle.agc_word.specs.Text.{lines_of}
use Rattle.agc_script.specs.Parse.{taken, reading, in_order_of, arranged, script_of, IsSoundLine}

-- a line that is taken
pub next_lines : (n last start : ℕ) (events after : List Event) (line : List ℕ) (lines : List (List ℕ)) → taken last events line ≡ Ok (start, after)
    → reading n last events (line ∷ lines) ≡ reading (n + 1) start after lines
unfolding reading
next_lines n last start events after line lines e = rw (e, reading)

-- a line that is faulty
pub faulty_line : (file : List ℕ) (n last : ℕ) (events : List Event) (line : List ℕ) (lines : List (List ℕ)) (kind : FaultKind)
    → reading n last events (line ∷ lines) ≡ reading 1 0 [] (lines_of file) → taken last events line ≡ Err kind
    → script_of file ≡ Err (record { line = n; kind = kind })
unfolding reading script_of
faulty_line file n last events line lines kind same e = rw (← same, e, reading)

-- a fault is at one of the lines that are read
fault_from : (n last : ℕ) (events : List Event) (lines : List (List ℕ)) → IfErr (in_order_of (reading n last events lines)) (λ fault. n ≤ fault.line)
unfolding reading
fault_from n last events [] = tt
fault_from n last events (line ∷ lines) =
    elim (taken last events line) as (λ r. IfErr (in_order_of (elim r [ Ok after ↦ reading (n + 1) after.0 after.1 lines | Err kind ↦ Err (record { line = n; kind = kind }) ])) (λ fault. n ≤ fault.line)) [
      | Ok after ↦ IfErr-weaker _ (λ fault. n + 1 ≤ fault.line) (λ fault. n ≤ fault.line) (λ fault h. omega arith) (fault_from (n + 1) after.0 after.1 lines)
      | Err kind ↦ omega arith
    ]

-- a line that is taken, if all lines before it are
sound_line : (file : List ℕ) (n last start : ℕ) (events after : List Event) (line : List ℕ) (lines : List (List ℕ))
    → reading n last events (line ∷ lines) ≡ reading 1 0 [] (lines_of file) → taken last events line ≡ Ok (start, after)
    → IfErr (script_of file) (λ fault. n < fault.line)
unfolding script_of
sound_line file n last start events after line lines same e =
    rw (← same, next_lines n last start events after line lines e)
    (IfErr-weaker _ (λ fault. n + 1 ≤ fault.line) (λ fault. n < fault.line) (λ fault h. omega arith) (fault_from (n + 1) start after lines))

sound_at : (file : List ℕ) (n last : ℕ) (events : List Event) (line : List ℕ) (lines : List (List ℕ)) (r : Result (ℕ × List Event) FaultKind)
    → reading n last events (line ∷ lines) ≡ reading 1 0 [] (lines_of file) → taken last events line ≡ r → IsOk r
    → IfErr (script_of file) (λ fault. n < fault.line)
sound_at file n last events line lines (Ok after) same e ok = sound_line file n last after.0 events after.1 line lines same e
sound_at file n last events line lines (Err kind) same e ok = absurd (search rules)

-- a line that could be taken, if all lines before it were
pub takable_line : (file : List ℕ) (n last : ℕ) (events : List Event) (line : List ℕ) (lines : List (List ℕ))
    → reading n last events (line ∷ lines) ≡ reading 1 0 [] (lines_of file) → IsOk (taken last events line)
    → IfErr (script_of file) (λ fault. n < fault.line)
takable_line file n last events line lines same ok = sound_at file n last events line lines (taken last events line) same refl ok

-- no line is left
pub all_lines : (n last : ℕ) (events : List Event) → reading n last events [] ≡ Ok events
unfolding reading
all_lines n last events = refl

-- all lines are taken
pub whole_file : (file : List ℕ) (events : List Event) → reading 1 0 [] (lines_of file) ≡ Ok events → script_of file ≡ Ok (arranged events)
unfolding script_of
whole_file file events e = rw e

-- events come from lines
some_line : (lines : List (List ℕ)) (events : List Event) → reading 1 0 [] lines ≡ Ok events → 0 < length events → 1 ≤ length lines
some_line [] events e h =
    let none = sym (all_lines 1 0 []) ∙ e in
    let nothing : [] ≡ events = cc in
    absurd (omega (arith, ap length nothing))
some_line (line ∷ lines) events e h = omega arith

-- the last line of a file that brings events and is not faulty
pub last_line : (file : List ℕ) (events : List Event) (n : ℕ) → reading 1 0 [] (lines_of file) ≡ Ok events → 0 < length events → n ≡ length (lines_of file)
    → IsSoundLine file n
last_line file events n e h l =
    let some : 1 ≤ length (lines_of file) = some_line (lines_of file) events e h in
    record { first = omega arith; last = omega arith; sound = rw (whole_file file events e) tt }
