-- The state in which a run is past a cycle: any shorter run on the way leads to the same one.
use Rattle.std.proofs.Common.{◌≡◌, ℕ, ◌+◌, ◌≤◌, ◌<◌, suc, zero, Some, None, Bool, true, false, refl, ap, sym, ◌∙◌, subst, arith}
use Rattle.std.specs.Prelude.{if◌then◌else◌, nat_le, nat_lt}
use Rattle.std.proofs.lemmas.Bool.Decides.{nat_tests}
use Rattle.agc_machine.specs.Boundary.{boundary}
use Rattle.agc_machine.specs.Laws.{Falls}
use Rattle.agc_machine.specs.Run.{boundaries_left, next_before, next_before_within, while_quiet_before}
use Rattle.agc_machine.specs.State.{State}
use Rattle.agc_machine.specs.declared.answer.Stepped.{Stepped}
use Rattle.agc_machine.specs.declared.answer.Stepped.TheVariants as stepped
use Rattle.agc_machine.specs.declared.answer.Stop.{Stop}
use Rattle.agc_machine.proofs.Chain.{boundary_falls, some_left, stopped_stays}
use Rattle.agc_timeline.specs.Run.{past, past_within}

either_stays : (b : Bool) (s t : State) → t ≡ s → (if b then s else t) ≡ s
either_stays true s t e = refl
either_stays false s t e = e

-- a stopped machine stays
stopped_within : (n cycle : ℕ) (s : State) (why : Stop) → s.stopped ≡ Some why → past_within n cycle s ≡ s
unfolding past_within
stopped_within zero cycle s why e = refl
stopped_within (suc n) cycle s why e =
    let stays : (boundary None s).0 ≡ s = ap (λ (r : State × Stepped). r.0) (stopped_stays s why e) in
    either_stays (nat_lt cycle s.cycle) s (past_within n cycle (boundary None s).0)
    (ap (past_within n cycle) stays ∙ stopped_within n cycle s why e)

pub stopped_past : (cycle : ℕ) (s : State) (why : Stop) → s.stopped ≡ Some why → past cycle s ≡ s
unfolding past
stopped_past cycle s why e = stopped_within (boundaries_left s) cycle s why e

step_same : (n m cycle : ℕ) (s : State) (r : State × Stepped) → Falls s r →
    ((t : State) → boundaries_left t < boundaries_left s → past_within n cycle t ≡ past_within m cycle t) →
    past_within n cycle r.0 ≡ past_within m cycle r.0
step_same n m cycle s (t, stepped.Quiet) h f = f t h.0
step_same n m cycle s (t, stepped.Wrote write) h f = f t h.0
step_same n m cycle s (t, stepped.Stopped why) h f = stopped_within n cycle t why h.0 ∙ sym (stopped_within m cycle t why h.0)

-- with enough boundaries, more make no difference
same_past : (n m cycle : ℕ) (s : State) → boundaries_left s ≤ n → boundaries_left s ≤ m → past_within n cycle s ≡ past_within m cycle s
unfolding past_within
same_past zero m cycle s h k = absurd (omega (arith, some_left s))
same_past (suc n) zero cycle s h k = absurd (omega (arith, some_left s))
same_past (suc n) (suc m) cycle s h k =
    ap (λ (t : State). if nat_lt cycle s.cycle then s else t)
    (step_same n m cycle s (boundary None s) (boundary_falls s) (λ t l. same_past n m cycle t (omega arith) (omega arith)))

past_by_test : (cycle : ℕ) (s : State) → past cycle s ≡ (if nat_lt cycle s.cycle then s else past_within (boundaries_left s) cycle (boundary None s).0)
unfolding past past_within
past_by_test cycle s = same_past (boundaries_left s) (suc (boundaries_left s)) cycle s (omega arith) (omega arith)

-- a state that is past the cycle
pub past_already : (cycle : ℕ) (s : State) → cycle < s.cycle → past cycle s ≡ s
past_already cycle s l =
    let later : nat_lt cycle s.cycle ≡ true = grind (arith, nat_tests) in
    past_by_test cycle s ∙ ap (λ (b : Bool). if b then s else past_within (boundaries_left s) cycle (boundary None s).0) later

enough : (cycle : ℕ) (s : State) (r : State × Stepped) → Falls s r → past cycle r.0 ≡ past_within (boundaries_left s) cycle r.0
unfolding past
enough cycle s (t, stepped.Quiet) h = same_past (boundaries_left t) (boundaries_left s) cycle t (omega arith) (omega (arith, h.0))
enough cycle s (t, stepped.Wrote write) h = same_past (boundaries_left t) (boundaries_left s) cycle t (omega arith) (omega (arith, h.0))
enough cycle s (t, stepped.Stopped why) h = stopped_within (boundaries_left t) cycle t why h.0 ∙ sym (stopped_within (boundaries_left s) cycle t why h.0)

-- one boundary on the way
past_by_boundary : (cycle : ℕ) (s : State) → s.cycle ≤ cycle → past cycle (boundary None s).0 ≡ past cycle s
past_by_boundary cycle s l =
    let before : nat_lt cycle s.cycle ≡ false = grind (arith, nat_tests) in
    enough cycle s (boundary None s) (boundary_falls s)
    ∙ sym (past_by_test cycle s ∙ ap (λ (b : Bool). if b then s else past_within (boundaries_left s) cycle (boundary None s).0) before)

-- a stretch on the way leads to the same state past the cycle, and shows no write after it
abbrev pub IsOnWay : ℕ → State → State × Stepped → Type 0
IsOnWay cycle s (t, stepped.Quiet) = past cycle t ≡ past cycle s
IsOnWay cycle s (t, stepped.Wrote write) = (past cycle t ≡ past cycle s) × (write.cycle ≤ cycle)
IsOnWay cycle s (t, stepped.Stopped why) = past cycle t ≡ past cycle s

one_boundary : (cycle : ℕ) (s : State) (r : State × Stepped) → Falls s r → s.cycle ≤ cycle → past cycle r.0 ≡ past cycle s → IsOnWay cycle s r
one_boundary cycle s (t, stepped.Quiet) h l e = e
one_boundary cycle s (t, stepped.Wrote write) h l e = (e, omega (arith, h.1))
one_boundary cycle s (t, stepped.Stopped why) h l e = e

on_from : (cycle : ℕ) (s t : State) (way : State × Stepped) → past cycle t ≡ past cycle s → IsOnWay cycle t way → IsOnWay cycle s way
on_from cycle s t (u, stepped.Quiet) e h = h ∙ e
on_from cycle s t (u, stepped.Wrote write) e h = (h.0 ∙ e, h.1)
on_from cycle s t (u, stepped.Stopped why) e h = h ∙ e

either_way : (b : Bool) (cycle : ℕ) (s t : State) (way : State × Stepped) → past cycle t ≡ past cycle s → (b ≡ false → IsOnWay cycle t way) →
    IsOnWay cycle s (if b then (t, stepped.Quiet) else way)
either_way true cycle s t way e f = e
either_way false cycle s t way e f = on_from cycle s t way e (f refl)

way_by : (n end cycle : ℕ) (s : State) (r : State × Stepped) → end ≤ cycle + 1 → IsOnWay cycle s r →
    ((t : State) → t.cycle ≤ cycle → IsOnWay cycle t (next_before_within n end t)) → IsOnWay cycle s (while_quiet_before end (next_before_within n end) r)
way_by n end cycle s (t, stepped.Quiet) l h f =
    either_way (nat_le end t.cycle) cycle s t (next_before_within n end t) h (λ e. f t (grind (arith, nat_tests)))
way_by n end cycle s (t, stepped.Wrote write) l h f = h
way_by n end cycle s (t, stepped.Stopped why) l h f = h

way_within : (n end cycle : ℕ) (s : State) → end ≤ cycle + 1 → s.cycle ≤ cycle → IsOnWay cycle s (next_before_within n end s)
unfolding next_before_within
way_within zero end cycle s l k = refl
way_within (suc n) end cycle s l k =
    way_by n end cycle s (boundary None s) l (one_boundary cycle s (boundary None s) (boundary_falls s) k (past_by_boundary cycle s k))
    (λ t m. way_within n end cycle t l m)

pub on_way : (end cycle : ℕ) (s t : State) (answer : Stepped) → end ≤ cycle + 1 → s.cycle ≤ cycle → (t, answer) ≡ next_before end s →
    IsOnWay cycle s (t, answer)
unfolding next_before
on_way end cycle s t answer l k e = subst (λ (r : State × Stepped). IsOnWay cycle s r) (sym e) (way_within (boundaries_left s) end cycle s l k)
