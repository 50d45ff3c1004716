-- What an error means for a file, and what a success does.
use Rattle.std.specs.Prelude.{◌≡◌, ℕ, ◌≤◌, ◌<◌, List, [], length, Result, Ok, Err, IfErr}
use Rattle.std.specs.List.Sorted.{IsPermutation}
use Rattle.std.proofs.Common.{arith}
use Rattle.agc_script.specs.declared.event.Event.{Event}
use Rattle.agc_script.specs.declared.fault.ScriptFault.{ScriptFault}
use Rattle.agc_word.specs.Text.{lines_of}
use Rattle.agc_script.specs.Parse.{reading, in_order_of, script_of, IsSoundLine}
use Rattle.agc_script.specs.Injection.{events_of_lines}
use Rattle.agc_script.specs.Fault.{AreFaultless, IsFirstFault}
use Rattle.agc_script.specs.Parse.{arranged}
use Rattle.agc_script.specs.Laws.{IsArrangement}
use Rattle.agc_script.proofs.Arranged.{arranged-in_order, filter-arranged}
use Rattle.agc_script.proofs.FirstFaults.{Reads, all_read}

pub faultless_file : (lines : List (List ℕ)) (events : List Event) → reading 1 0 [] lines ≡ Ok events → AreFaultless lines (length lines)
faultless_file lines events e = let all = rw e at (all_read lines) in all.0

pub events_read : (lines : List (List ℕ)) (events : List Event) → reading 1 0 [] lines ≡ Ok events → events ≡ events_of_lines lines
events_read lines events e = let all = rw e at (all_read lines) in all.1

fault_of_reading : (lines : List (List ℕ)) (read : Result (List Event) ScriptFault) (fault : ScriptFault) → Reads lines read → in_order_of read ≡ Err fault
    → IsFirstFault lines fault
fault_of_reading lines (Ok events) fault h e = cc
fault_of_reading lines (Err other) fault h e = let same : other ≡ fault = cc in rw (← same) h

pub first_fault : (file : List ℕ) (fault : ScriptFault) → script_of file ≡ Err fault → IsFirstFault (lines_of file) fault
unfolding script_of
first_fault file fault e = fault_of_reading (lines_of file) (reading 1 0 [] (lines_of file)) fault (all_read (lines_of file)) e

sound_of_reading : (lines : List (List ℕ)) (read : Result (List Event) ScriptFault) (line : ℕ) → Reads lines read → line ≤ length lines
    → IfErr (in_order_of read) (λ fault. line < fault.line) → AreFaultless lines line
sound_of_reading lines (Ok events) line h l s = record { none = λ n kind a b. h.0.none n kind a (omega arith) }
sound_of_reading lines (Err fault) line h l s = record { none = λ n kind a b. h.before.none n kind a (omega arith) }

pub sound_line : (file : List ℕ) (line : ℕ) → IsSoundLine file line → AreFaultless (lines_of file) line
unfolding script_of
sound_line file line s = sound_of_reading (lines_of file) (reading 1 0 [] (lines_of file)) line (all_read (lines_of file)) s.last s.sound

-- the arrangement of a file's events
pub arranged_file : (lines : List (List ℕ)) (events script : List Event) → reading 1 0 [] lines ≡ Ok events → IsPermutation events script → script ≡ arranged events
    → IsArrangement (events_of_lines lines) script
arranged_file lines events script r p a =
    let e : events ≡ events_of_lines lines = events_read lines events r in
    record { same = rw (← e) p; in_order = rw a (arranged-in_order events); stable = λ c. rw (a, ← e) (filter-arranged c events) }
