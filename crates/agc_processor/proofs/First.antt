-- The interrupt that is taken is the first one requested, and none is taken while something holds them off.
use Rattle.std.proofs.Common.{◌≡◌, ℕ, zero, suc, ◌≤◌, ◌<◌, Bool, true, false, Option, Some, None, List, length, refl, ap, sym, ◌∙◌, subst, ⊎_elim, arith}
use Rattle.std.proofs.lemmas.Bool.{cases_lt}
use Rattle.std.proofs.lemmas.Grind.{common_steps}
use Rattle.std.proofs.lemmas.List.Quantifiers.{position-Some}
use Rattle.std.proofs.lemmas.List.Sums.{fails_before_first}
use Rattle.std.specs.Prelude.{◌+◌, ◌-◌, ◌*◌, ◌&&◌, not, get_or, option_map, position, unwrap_or, if◌then◌else◌}
use Rattle.std.specs.List.{position_or_len}
use Rattle.agc_word.specs.Arithmetic.{over_of}
use Rattle.agc_word.specs.declared.wide.Over.{Over}
use Rattle.agc_word.specs.declared.wide.Over.TheVariants as over
use Rattle.agc_processor.specs.declared.interrupt.Rupt.{Rupt}
use Rattle.agc_processor.specs.declared.interrupt.Rupt.TheVariants as rupt
use Rattle.agc_processor.specs.declared.processor.Processor.{Processor}
use Rattle.agc_processor.specs.Interrupt.{first_request, is_allowed, is_none_over, pending, rupt_at, rupt_number}
use Rattle.agc_processor.specs.Processor.{a_of}
use Rattle.agc_processor.specs.Requests.{ComesFirst, HoldsNoneOff, is_waiting}

-- the places of the interrupts are those of their numbers
at_place : (k : ℕ) → k < 10 → rupt_number (rupt_at k) - 1 ≡ k
at_place zero h = refl
at_place (suc zero) h = refl
at_place (suc (suc zero)) h = refl
at_place (suc (suc (suc zero))) h = refl
at_place (suc (suc (suc (suc zero)))) h = refl
at_place (suc (suc (suc (suc (suc zero))))) h = refl
at_place (suc (suc (suc (suc (suc (suc zero)))))) h = refl
at_place (suc (suc (suc (suc (suc (suc (suc zero))))))) h = refl
at_place (suc (suc (suc (suc (suc (suc (suc (suc zero)))))))) h = refl
at_place (suc (suc (suc (suc (suc (suc (suc (suc (suc zero))))))))) h = refl
at_place (suc (suc (suc (suc (suc (suc (suc (suc (suc (suc k)))))))))) h = absurd (omega arith)

numbered_from_1 : (r : Rupt) → 1 ≤ rupt_number r
numbered_from_1 rupt.T6rupt = omega arith
numbered_from_1 rupt.T5rupt = omega arith
numbered_from_1 rupt.T3rupt = omega arith
numbered_from_1 rupt.T4rupt = omega arith
numbered_from_1 rupt.Keyrupt1 = omega arith
numbered_from_1 rupt.Keyrupt2 = omega arith
numbered_from_1 rupt.Uprupt = omega arith
numbered_from_1 rupt.Downrupt = omega arith
numbered_from_1 rupt.Radarupt = omega arith
numbered_from_1 rupt.Rupt10 = omega arith

-- a place that is no later has no higher vector
lower : (n m : ℕ) → 1 ≤ n → 1 ≤ m → n - 1 ≤ m - 1 → 2048 + 4 * n ≤ 2048 + 4 * m
lower n m h k l = omega arith

-- if a position before another one has no request, one that has is no earlier
no_earlier : (xs : List Bool) (k n : ℕ) → ((j : ℕ) → j < k → get_or xs j false ≡ false) → get_or xs n false ≡ true → k ≤ n
no_earlier xs k n none waits = ⊎_elim
    (λ before. let no : false ≡ true = sym (none n before) ∙ waits in cc)
    (λ after. after)
    (cases_lt n k)

at_first : (r : Rupt) (p : Processor) → length p.requests ≡ 10 → (o : Option ℕ) → position (λ waits. waits) p.requests ≡ o
    → option_map rupt_at o ≡ Some r → ComesFirst r p
at_first r p ten None e found = cc
at_first r p ten (Some k) e found =
    let facts = position-Some (λ waits. waits) p.requests k false e in
    let same : rupt_at k ≡ r = ap (λ (o : Option Rupt). unwrap_or o r) found in
    let in_range : k < 10 = subst (λ (n : ℕ). k < n) ten facts.0 in
    let place : k ≡ rupt_number r - 1 = sym (at_place k in_range) ∙ ap (λ (x : Rupt). rupt_number x - 1) same in
    record {
      requested = subst (λ (n : ℕ). get_or p.requests n false ≡ true) place facts.1;
      lowest = λ other waits.
          let later : k ≤ rupt_number other - 1 = no_earlier p.requests k (rupt_number other - 1) facts.2 waits in
          lower (rupt_number r) (rupt_number other) (numbered_from_1 r) (numbered_from_1 other)
          (subst (λ (n : ℕ). n ≤ rupt_number other - 1) place later);
    }

pub first_comes : (r : Rupt) (p : Processor) → length p.requests ≡ 10 → first_request p ≡ Some r → ComesFirst r p
first_comes r p ten found = at_first r p ten (position (λ waits. waits) p.requests) refl found

none_at : (r : Rupt) (o : Option ℕ) → option_map rupt_at o ≡ None → o ≡ None
none_at r None e = refl
none_at r (Some k) e = cc

-- if no position has a request, no interrupt does
nobody : (xs : List Bool) (n : ℕ) → position (λ waits. waits) xs ≡ None → get_or xs n false ≡ false
nobody xs n e =
    let end : length xs ≤ position_or_len (λ waits. waits) xs = grind (arith, common_steps) in
    ⊎_elim
    (λ inside. fails_before_first (λ waits. waits) xs n false (omega arith))
    (λ past. let none : get_or xs n false ≡ false = grind (arith, common_steps) in none)
    (cases_lt n (length xs))

pub nobody_waits : (r : Rupt) (p : Processor) → first_request p ≡ None → is_waiting r p ≡ false
nobody_waits r p e = nobody p.requests (rupt_number r - 1) (none_at r (position (λ waits. waits) p.requests) e)

-- what allows interrupts, part by part
parts : (serving inhibited uninterruptible : Bool) (o : Over) → (not serving && not inhibited && not uninterruptible && is_none_over o) ≡ true
    → (serving ≡ false) × (inhibited ≡ false) × (uninterruptible ≡ false) × (o ≡ over.None)
parts false false false over.None e = (refl, refl, refl, refl)
parts false false false over.Plus e = cc
parts false false false over.Minus e = cc
parts false false true o e = cc
parts false true uninterruptible o e = cc
parts true inhibited uninterruptible o e = cc

none_held : (p : Processor) → is_allowed p ≡ true → HoldsNoneOff p
none_held p e =
    let all = parts p.serving p.inhibited p.uninterruptible (over_of (a_of p)) e in
    record { no_service = all.0; no_inhint = all.1; no_order = all.2; no_overflow = all.3 }

allowed : (p : Processor) → HoldsNoneOff p → is_allowed p ≡ true
allowed p h = rw (h.no_service, h.no_inhint, h.no_order, h.no_overflow) refl

-- a pending interrupt is allowed, and the first one requested
split : (b : Bool) (o : Option Rupt) (r : Rupt) → (if b then o else None) ≡ Some r → (b ≡ true) × (o ≡ Some r)
split true o r e = (refl, e)
split false o r e = cc

pub pending_first : (r : Rupt) (p : Processor) → length p.requests ≡ 10 → pending p ≡ Some r → ComesFirst r p
unfolding pending
pending_first r p ten e = first_comes r p ten (split (is_allowed p) (first_request p) r e).1

pub pending_open : (r : Rupt) (p : Processor) → pending p ≡ Some r → HoldsNoneOff p
unfolding pending
pending_open r p e = none_held p (split (is_allowed p) (first_request p) r e).0

pub pending_none : (r : Rupt) (p : Processor) → HoldsNoneOff p → pending p ≡ None → is_waiting r p ≡ false
unfolding pending
pending_none r p h e =
    let b = allowed p h in
    let none : first_request p ≡ None = ap (λ (b : Bool). if b then first_request p else None) (sym b) ∙ e in
    nobody_waits r p none
