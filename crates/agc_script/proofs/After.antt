-- A line after others: its faults, and the events before the next one.
use Rattle.std.specs.Prelude.{◌≡◌, ℕ, ◌+◌, ◌-◌, false, List, [], ◌∷◌, ◌++◌, length, filter_map, Option, Some, None, option_map}
use Rattle.std.specs.List.{last_or}
use Rattle.std.proofs.Common.{refl, arith, inl, inr}
use Rattle.std.proofs.lemmas.Bool.{cases_lt}
use Rattle.std.proofs.lemmas.List.{append-nil, take_at, get_or_at, flat_map_more}
use Rattle.std.proofs.lemmas.List.Elements.{filter_map-append}
use Rattle.agc_script.specs.declared.line.Repeat.{Repeat}
use Rattle.agc_script.specs.declared.fault.FaultKind.{FaultKind}
use Rattle.agc_script.specs.Parse.{events_parsed, start_parsed}
use Rattle.agc_script.specs.Injection.{start_of, last_start, events_of_line, events_of_lines}
use Rattle.agc_script.specs.Fault.{has_fault, fault_at, AreFaultless}

-- a line after others
pub at_line : (done rest : List (List ℕ)) (line : List ℕ) (n : ℕ) (kind : FaultKind) → n ≡ length done + 1
    → fault_at (done ++ line ∷ rest) n kind ≡ has_fault kind (last_start done) (length (events_of_lines done)) line
unfolding fault_at
at_line done rest line n kind e =
    let k : length done ≡ n - 1 = omega arith in
    rw (take_at done (line ∷ rest) (n - 1) k, get_or_at done line rest [] (n - 1) k)

pub more_faultless : (lines : List (List ℕ)) (count : ℕ) → AreFaultless lines count → ((kind : FaultKind) → fault_at lines (count + 1) kind ≡ false)
    → AreFaultless lines (count + 1)
more_faultless lines count h here = record {
  none = λ n kind a b.
      elim (cases_lt n (count + 1)) as (λ _. fault_at lines n kind ≡ false) [
        | inl l ↦ h.none n kind a (omega arith)
        | inr g ↦ let e : n ≡ count + 1 = omega arith in rw e (here kind)
      ];
}

last_pushed : (first : Option ℕ) (starts : List ℕ) (start : ℕ) → last_or first (starts ++ start ∷ []) ≡ Some start
last_pushed first [] start = refl
last_pushed first (x ∷ starts) start = last_pushed (Some x) starts start

-- the start that the next line is compared with
pub next_start : (done : List (List ℕ)) (line : List ℕ) (parsed : Option Repeat) → start_of line ≡ option_map (λ repeat. repeat.start) parsed
    → start_parsed (last_start done) parsed ≡ last_start (done ++ line ∷ [])
next_start done line None e = rw (filter_map-append start_of done (line ∷ []), e, append-nil (filter_map start_of done))
next_start done line (Some repeat) e = rw (filter_map-append start_of done (line ∷ []), e, last_pushed None (filter_map start_of done) repeat.start)

-- the events before the next line
pub next_events : (done : List (List ℕ)) (line : List ℕ) (parsed : Option Repeat) → events_parsed parsed ≡ events_of_line line
    → events_of_lines done ++ events_parsed parsed ≡ events_of_lines (done ++ line ∷ [])
next_events done line parsed e = rw e (flat_map_more events_of_line [] done line)
