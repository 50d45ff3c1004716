-- The run up to a cycle: boundary after boundary, in the way the next write is found.
use Rattle.std.proofs.Common.{◌≡◌, ℕ, ◌≤◌, ◌<◌, suc, zero, Bool, true, false, None, refl, ap, sym, ◌∙◌, subst, arith}
use Rattle.std.specs.Prelude.{nat_le, if◌then◌else◌}
use Rattle.std.proofs.lemmas.Bool.Decides.{nat_tests}
use Rattle.agc_word.specs.declared.channel_write.ChannelWrite.{ChannelWrite}
use Rattle.agc_machine.specs.declared.answer.Stepped.{Stepped}
use Rattle.agc_machine.specs.declared.answer.Stepped.TheVariants as stepped
use Rattle.agc_machine.specs.declared.answer.Stop.{Stop}
use Rattle.agc_machine.specs.Boundary.{boundary}
use Rattle.agc_machine.specs.Laws.{Falls, HasChannel, KeepsStop}
use Rattle.agc_machine.specs.Run.{boundaries_left, next_before, next_before_within, next_of, while_quiet, while_quiet_before}
use Rattle.agc_machine.specs.State.{State}
use Rattle.agc_machine.proofs.Chain.{boundary_falls, fewer_after_quiet, next_after_quiet, next_at_stop, next_at_write, some_left}
use Rattle.agc_machine.specs.declared.answer.Next.TheVariants as next

either_same : (b : Bool) (x y z : State × Stepped) → x ≡ y → (if b then z else x) ≡ (if b then z else y)
either_same true x y z h = refl
either_same false x y z h = h

step_same : (cycle : ℕ) (go stay : State → State × Stepped) (s : State) (r : State × Stepped) → Falls s r →
    ((t : State) → boundaries_left t < boundaries_left s → go t ≡ stay t) → while_quiet_before cycle go r ≡ while_quiet_before cycle stay r
step_same cycle go stay s (t, stepped.Quiet) h f = either_same (nat_le cycle t.cycle) (go t) (stay t) (t, stepped.Quiet) (f t h.0)
step_same cycle go stay s (t, stepped.Wrote write) h f = refl
step_same cycle go stay s (t, stepped.Stopped why) h f = refl

-- with enough boundaries, more make no difference
same_before : (n m cycle : ℕ) (s : State) → boundaries_left s ≤ n → boundaries_left s ≤ m → next_before_within n cycle s ≡ next_before_within m cycle s
unfolding next_before_within
same_before zero m cycle s h k = absurd (omega (arith, some_left s))
same_before (suc n) zero cycle s h k = absurd (omega (arith, some_left s))
same_before (suc n) (suc m) cycle s h k =
    step_same cycle (next_before_within n cycle) (next_before_within m cycle) s (boundary None s) (boundary_falls s)
    (λ t l. same_before n m cycle t (omega arith) (omega arith))

-- one boundary of the way
before_by_boundary : (cycle : ℕ) (s : State) →
    next_before cycle s ≡ while_quiet_before cycle (next_before_within (boundaries_left s) cycle) (boundary None s)
unfolding next_before next_before_within
before_by_boundary cycle s = same_before (boundaries_left s) (suc (boundaries_left s)) cycle s (omega arith) (omega arith)

-- the cycle is reached by a quiet boundary
pub before_at_cycle : (cycle : ℕ) (s t : State) → (t, stepped.Quiet) ≡ boundary None s → cycle ≤ t.cycle → (t, stepped.Quiet) ≡ next_before cycle s
before_at_cycle cycle s t e h =
    let reached : nat_le cycle t.cycle ≡ true = grind (arith, nat_tests) in
    ap (λ (b : Bool). if b then (t, stepped.Quiet) else next_before_within (boundaries_left s) cycle t) (sym reached)
    ∙ ap (while_quiet_before cycle (next_before_within (boundaries_left s) cycle)) e ∙ sym (before_by_boundary cycle s)

-- a quiet boundary before the cycle
pub before_after_quiet : (cycle : ℕ) (s t : State) → (t, stepped.Quiet) ≡ boundary None s → t.cycle < cycle → next_before cycle t ≡ next_before cycle s
unfolding next_before
before_after_quiet cycle s t e h =
    let fewer : boundaries_left t < boundaries_left s = fewer_after_quiet s t e in
    let short : nat_le cycle t.cycle ≡ false = grind (arith, nat_tests) in
    same_before (boundaries_left t) (boundaries_left s) cycle t (omega arith) (omega arith)
    ∙ ap (λ (b : Bool). if b then (t, stepped.Quiet) else next_before_within (boundaries_left s) cycle t) (sym short)
    ∙ ap (while_quiet_before cycle (next_before_within (boundaries_left s) cycle)) e ∙ sym (before_by_boundary cycle s)

-- a boundary that writes or stops ends the way
pub before_at_write : (cycle : ℕ) (s t : State) (write : ChannelWrite) → (t, stepped.Wrote write) ≡ boundary None s →
    (t, stepped.Wrote write) ≡ next_before cycle s
before_at_write cycle s t write e =
    ap (while_quiet_before cycle (next_before_within (boundaries_left s) cycle)) e ∙ sym (before_by_boundary cycle s)

pub before_at_stop : (cycle : ℕ) (s t : State) (why : Stop) → (t, stepped.Stopped why) ≡ boundary None s →
    (t, stepped.Stopped why) ≡ next_before cycle s
before_at_stop cycle s t why e =
    ap (while_quiet_before cycle (next_before_within (boundaries_left s) cycle)) e ∙ sym (before_by_boundary cycle s)

-- so does any boundary that is not quiet
pub before_at_end : (cycle : ℕ) (s t : State) (what : Stepped) → (t, what) ≡ boundary None s → (what ≡ stepped.Quiet → ⊥) →
    (t, what) ≡ next_before cycle s
before_at_end cycle s t stepped.Quiet e shows = absurd (shows refl)
before_at_end cycle s t (stepped.Wrote write) e shows = before_at_write cycle s t write e
before_at_end cycle s t (stepped.Stopped why) e shows = before_at_stop cycle s t why e

-- A way up to a cycle is a part of the way to the next write, and of the way up to a later cycle: each continues after
-- it.
either_next : (b : Bool) (t : State) (way : State × Stepped) → next_of t ≡ while_quiet next_of way →
    next_of t ≡ while_quiet next_of (if b then (t, stepped.Quiet) else way)
either_next true t way h = refl
either_next false t way h = h

next_by : (n end : ℕ) (s : State) (r : State × Stepped) → r ≡ boundary None s →
    ((t : State) → boundaries_left t < boundaries_left s → next_of t ≡ while_quiet next_of (next_before_within n end t)) →
    next_of s ≡ while_quiet next_of (while_quiet_before end (next_before_within n end) r)
next_by n end s (t, stepped.Quiet) e f =
    sym (next_after_quiet s t e) ∙ either_next (nat_le end t.cycle) t (next_before_within n end t) (f t (fewer_after_quiet s t e))
next_by n end s (t, stepped.Wrote write) e f = sym (next_at_write s t write e)
next_by n end s (t, stepped.Stopped why) e f = sym (next_at_stop s t why e)

next_goes_on : (n end : ℕ) (s : State) → boundaries_left s ≤ n → next_of s ≡ while_quiet next_of (next_before_within n end s)
unfolding next_before_within
next_goes_on zero end s h = absurd (omega (arith, some_left s))
next_goes_on (suc n) end s h = next_by n end s (boundary None s) refl (λ t l. next_goes_on n end t (omega arith))

next_of_way : (end : ℕ) (s : State) → next_of s ≡ while_quiet next_of (next_before end s)
unfolding next_before
next_of_way end s = next_goes_on (boundaries_left s) end s (omega arith)

pub next_after_way : (end : ℕ) (s t : State) → (t, stepped.Quiet) ≡ next_before end s → next_of t ≡ next_of s
next_after_way end s t e = ap (while_quiet next_of) e ∙ sym (next_of_way end s)

pub next_at_way_write : (end : ℕ) (s t : State) (write : ChannelWrite) → (t, stepped.Wrote write) ≡ next_before end s → (t, next.Wrote write) ≡ next_of s
next_at_way_write end s t write e = ap (while_quiet next_of) e ∙ sym (next_of_way end s)

pub next_at_way_stop : (end : ℕ) (s t : State) (why : Stop) → (t, stepped.Stopped why) ≡ next_before end s → (t, next.Stopped why) ≡ next_of s
next_at_way_stop end s t why e = ap (while_quiet next_of) e ∙ sym (next_of_way end s)

-- the same up to a later cycle
one_way : (cycle : ℕ) (s t : State) → (t, stepped.Quiet) ≡ boundary None s → (b : Bool) → nat_le cycle t.cycle ≡ b →
    next_before cycle s ≡ (if b then (t, stepped.Quiet) else next_before cycle t)
one_way cycle s t e true r = sym (before_at_cycle cycle s t e (grind (arith, nat_tests)))
one_way cycle s t e false r = sym (before_after_quiet cycle s t e (grind (arith, nat_tests)))

either_before : (b : Bool) (end cycle : ℕ) (s t : State) (way : State × Stepped) → end ≤ cycle → nat_le end t.cycle ≡ b →
    (t, stepped.Quiet) ≡ boundary None s → next_before cycle t ≡ while_quiet_before cycle (next_before cycle) way →
    next_before cycle s ≡ while_quiet_before cycle (next_before cycle) (if b then (t, stepped.Quiet) else way)
either_before true end cycle s t way l r e h = one_way cycle s t e (nat_le cycle t.cycle) refl
either_before false end cycle s t way l r e h = sym (before_after_quiet cycle s t e (grind (arith, nat_tests))) ∙ h

before_by : (n end cycle : ℕ) (s : State) (r : State × Stepped) → end ≤ cycle → r ≡ boundary None s →
    ((t : State) → boundaries_left t < boundaries_left s → next_before cycle t ≡ while_quiet_before cycle (next_before cycle) (next_before_within n end t)) →
    next_before cycle s ≡ while_quiet_before cycle (next_before cycle) (while_quiet_before end (next_before_within n end) r)
before_by n end cycle s (t, stepped.Quiet) l e f =
    either_before (nat_le end t.cycle) end cycle s t (next_before_within n end t) l refl e (f t (fewer_after_quiet s t e))
before_by n end cycle s (t, stepped.Wrote write) l e f = sym (before_at_write cycle s t write e)
before_by n end cycle s (t, stepped.Stopped why) l e f = sym (before_at_stop cycle s t why e)

before_goes_on : (n end cycle : ℕ) (s : State) → end ≤ cycle → boundaries_left s ≤ n →
    next_before cycle s ≡ while_quiet_before cycle (next_before cycle) (next_before_within n end s)
unfolding next_before_within
before_goes_on zero end cycle s l h = absurd (omega (arith, some_left s))
before_goes_on (suc n) end cycle s l h = before_by n end cycle s (boundary None s) l refl (λ t k. before_goes_on n end cycle t l (omega arith))

before_of_way : (end cycle : ℕ) (s : State) → end ≤ cycle → next_before cycle s ≡ while_quiet_before cycle (next_before cycle) (next_before end s)
unfolding next_before next_before_within
before_of_way end cycle s l = before_goes_on (boundaries_left s) end cycle s l (omega arith)

pub before_at_way : (end cycle : ℕ) (s t : State) → end ≤ cycle → (t, stepped.Quiet) ≡ next_before end s → cycle ≤ t.cycle → (t, stepped.Quiet) ≡ next_before cycle s
before_at_way end cycle s t l e h =
    let reached : nat_le cycle t.cycle ≡ true = grind (arith, nat_tests) in
    ap (λ (b : Bool). if b then (t, stepped.Quiet) else next_before cycle t) (sym reached)
    ∙ ap (while_quiet_before cycle (next_before cycle)) e ∙ sym (before_of_way end cycle s l)

pub before_after_way : (end cycle : ℕ) (s t : State) → end ≤ cycle → (t, stepped.Quiet) ≡ next_before end s → t.cycle < cycle → next_before cycle t ≡ next_before cycle s
before_after_way end cycle s t l e h =
    let short : nat_le cycle t.cycle ≡ false = grind (arith, nat_tests) in
    ap (λ (b : Bool). if b then (t, stepped.Quiet) else next_before cycle t) (sym short)
    ∙ ap (while_quiet_before cycle (next_before cycle)) e ∙ sym (before_of_way end cycle s l)

pub before_at_way_write : (end cycle : ℕ) (s t : State) (write : ChannelWrite) → end ≤ cycle → (t, stepped.Wrote write) ≡ next_before end s →
    (t, stepped.Wrote write) ≡ next_before cycle s
before_at_way_write end cycle s t write l e = ap (while_quiet_before cycle (next_before cycle)) e ∙ sym (before_of_way end cycle s l)

pub before_at_way_stop : (end cycle : ℕ) (s t : State) (why : Stop) → end ≤ cycle → (t, stepped.Stopped why) ≡ next_before end s →
    (t, stepped.Stopped why) ≡ next_before cycle s
before_at_way_stop end cycle s t why l e = ap (while_quiet_before cycle (next_before cycle)) e ∙ sym (before_of_way end cycle s l)

-- two states with the same way have the same next write, and the same way up to a later cycle
pub next_of_same_way : (end : ℕ) (s t : State) → next_before end t ≡ next_before end s → next_of t ≡ next_of s
next_of_same_way end s t e = next_of_way end t ∙ ap (while_quiet next_of) e ∙ sym (next_of_way end s)

pub before_same_way : (end cycle : ℕ) (s t : State) → end ≤ cycle → next_before end t ≡ next_before end s → next_before cycle t ≡ next_before cycle s
before_same_way end cycle s t l e =
    before_of_way end cycle t l ∙ ap (while_quiet_before cycle (next_before cycle)) e ∙ sym (before_of_way end cycle s l)

-- a way leaves fewer boundaries
abbrev IsFewer : State → State × Stepped → Type 0
IsFewer s (t, stepped.Quiet) = boundaries_left t < boundaries_left s
IsFewer s (t, stepped.Wrote write) = Unit {0}
IsFewer s (t, stepped.Stopped why) = Unit {0}

either_fewer : (b : Bool) (s t : State) (way : State × Stepped) → boundaries_left t < boundaries_left s → IsFewer t way →
    IsFewer s (if b then (t, stepped.Quiet) else way)
either_fewer true s t way l h = l
either_fewer false s t (u, stepped.Quiet) l h = omega arith
either_fewer false s t (u, stepped.Wrote write) l h = tt
either_fewer false s t (u, stepped.Stopped why) l h = tt

fewer_by : (n end : ℕ) (s : State) (r : State × Stepped) → Falls s r →
    ((t : State) → boundaries_left t < boundaries_left s → IsFewer t (next_before_within n end t)) →
    IsFewer s (while_quiet_before end (next_before_within n end) r)
fewer_by n end s (t, stepped.Quiet) h f = either_fewer (nat_le end t.cycle) s t (next_before_within n end t) h.0 (f t h.0)
fewer_by n end s (t, stepped.Wrote write) h f = tt
fewer_by n end s (t, stepped.Stopped why) h f = tt

fewer_within : (n end : ℕ) (s : State) → boundaries_left s ≤ n → IsFewer s (next_before_within n end s)
unfolding next_before_within
fewer_within zero end s h = absurd (omega (arith, some_left s))
fewer_within (suc n) end s h = fewer_by n end s (boundary None s) (boundary_falls s) (λ t l. fewer_within n end t (omega arith))

pub fewer_after_way : (end : ℕ) (s t : State) → (t, stepped.Quiet) ≡ next_before end s → boundaries_left t < boundaries_left s
unfolding next_before
fewer_after_way end s t e = subst (IsFewer s) (sym e) (fewer_within (boundaries_left s) end s (omega arith))

either_way : (P : State × Stepped → Type 0) (b : Bool) (x y : State × Stepped) → P x → P y → P (if b then x else y)
either_way P true x y h k = h
either_way P false x y h k = k

way_by : (P : State × Stepped → Type 0) (cycle : ℕ) (go_on : State → State × Stepped) (r : State × Stepped) → P r → ((t : State) → P (go_on t)) →
    P (while_quiet_before cycle go_on r)
way_by P cycle go_on (t, stepped.Quiet) h f = either_way P (nat_le cycle t.cycle) (t, stepped.Quiet) (go_on t) h (f t)
way_by P cycle go_on (t, stepped.Wrote write) h f = h
way_by P cycle go_on (t, stepped.Stopped why) h f = h

-- what is true if nothing is visible, and after every boundary, is true where a way ends
within_holds : (P : State × Stepped → Type 0) → ((s : State) → P (s, stepped.Quiet)) → ((s : State) → P (boundary None s)) →
    (n cycle : ℕ) (s : State) → P (next_before_within n cycle s)
unfolding next_before_within
within_holds P quiet each zero cycle s = quiet s
within_holds P quiet each (suc n) cycle s =
    way_by P cycle (next_before_within n cycle) (boundary None s) (each s) (λ t. within_holds P quiet each n cycle t)

before_holds : (P : State × Stepped → Type 0) → ((s : State) → P (s, stepped.Quiet)) → ((s : State) → P (boundary None s)) →
    (cycle : ℕ) (s : State) (r : State × Stepped) → r ≡ next_before cycle s → P r
unfolding next_before
before_holds P quiet each cycle s r e = subst P (sym e) (within_holds P quiet each (boundaries_left s) cycle s)

pub falls_shows : (s : State) (r : State × Stepped) → Falls s r → HasChannel r.1
falls_shows s (t, stepped.Quiet) f = tt
falls_shows s (t, stepped.Wrote write) f = f.3
falls_shows s (t, stepped.Stopped why) f = tt

-- a write that comes before a cycle goes to a channel from 5 to 777 octal
pub before_shows : (cycle : ℕ) (s : State) (r : State × Stepped) → r ≡ next_before cycle s → HasChannel r.1
before_shows = before_holds (λ r. HasChannel r.1) (λ s. tt) (λ s. falls_shows s (boundary None s) (boundary_falls s))

falls_keeps : (s : State) (r : State × Stepped) → Falls s r → KeepsStop r
falls_keeps s (t, stepped.Quiet) f = tt
falls_keeps s (t, stepped.Wrote write) f = tt
falls_keeps s (t, stepped.Stopped why) f = f.0

-- a stop that comes before a cycle is kept in the state
pub before_keeps : (cycle : ℕ) (s : State) (r : State × Stepped) → r ≡ next_before cycle s → KeepsStop r
before_keeps = before_holds KeepsStop (λ s. tt) (λ s. falls_keeps s (boundary None s) (boundary_falls s))
