-- How many events a line brings, and whether the script has room for them.
use Rattle.std.specs.Prelude.{◌≡◌, ℕ, suc, ◌+◌, ◌-◌, ◌*◌, ◌/◌, ◌≤◌, ◌<◌, ◌==◌, nat_lt, nat_le, Bool, true, false, ◌||◌, Option, Some, None, Ok, Err, if◌then◌else◌}
use Rattle.std.specs.Result.{result_err}
use Rattle.std.proofs.Common.{refl, arith, ap, ◌∙◌, inl, inr}
use Rattle.std.proofs.Math.Nat.{mul-le-mul_right}
use Rattle.std.proofs.lemmas.Bool.{lt-leb, le-leb}
use Rattle.std.proofs.lemmas.Bool.Decides.{nat_tests, leb_tells}
use Rattle.agc_script.specs.declared.event.What.{What}
use Rattle.agc_script.specs.declared.line.Repeat.{Repeat}
use Rattle.agc_script.specs.declared.fault.FaultKind.TheVariants.{TooMany}
use Rattle.agc_script.specs.Event.{most_events}
use Rattle.agc_script.specs.Line.{within_bound}

pub spans : (n from to : ℕ) → ((n == 0) || nat_lt to from) ≡ false → (0 < n) × (from ≤ to)
spans n from to h = let a : 0 < n = grind (arith, nat_tests) in let b : from ≤ to = grind (arith, nat_tests) in (a, b)

-- a line reaches event 65,537 if that is not past TO
counted : (before n from to : ℕ) → ((n == 0) || nat_lt to from) ≡ false
    → nat_lt most_events (before + ((to - from) / n + 1)) ≡ nat_le (from + (most_events - before) * n) to
counted before n from to h =
    let s = spans n from to h in
    let some : 0 < n = s.0 in
    let up : from ≤ to = s.1 in
    let q : ℕ = (to - from) / n in
    elim (leb_tells (suc most_events) (before + ((to - from) / n + 1))) as (λ _. nat_lt most_events (before + ((to - from) / n + 1)) ≡ nat_le (from + (most_events - before) * n) to) [
      | inl w ↦
          let k : most_events - before ≤ (to - from) / n = omega arith in
          let far : (most_events - before) * n ≤ (to - from) / n * n = mul-le-mul_right n k in
          rw w.0 (rw (le-leb (from + (most_events - before) * n) to (omega arith)))
      | inr w ↦
          let k : (to - from) / n + 1 ≤ most_events - before = omega arith in
          let far : ((to - from) / n + 1) * n ≤ (most_events - before) * n = mul-le-mul_right n k in
          rw w.0 (rw (lt-leb (from + (most_events - before) * n) to (omega arith)))
    ]

room : (m : Bool) (parsed : Option Repeat) → result_err (if m then Err TooMany else Ok parsed) ≡ (if m then Some TooMany else None)
room true parsed = refl
room false parsed = refl

pub bounded : (before n from to : ℕ) (what : What) → ((n == 0) || nat_lt to from) ≡ false
    → result_err (within_bound before (record { start = from; period = n; times = (to - from) / n + 1; what = what }))
    ≡ (if nat_le (from + (most_events - before) * n) to then Some TooMany else None)
unfolding within_bound
bounded before n from to what h =
    room (nat_lt most_events (before + ((to - from) / n + 1))) (Some (record { start = from; period = n; times = (to - from) / n + 1; what = what }))
    ∙ ap (λ (x : Bool). if x then Some TooMany else None) (counted before n from to h)
