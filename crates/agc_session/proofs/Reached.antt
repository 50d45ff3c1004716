-- The part of a run up to a cycle.
use Rattle.std.specs.Prelude.{◌≡◌, ℕ, zero, suc, ◌≤◌, ◌<◌, replicate, None, Some}
use Rattle.std.proofs.Common.{refl, ap, sym, subst, ◌∙◌, arith, inl, inr}
use Rattle.std.proofs.lemmas.Bool.Decides.{leb_tells}
use Rattle.agc_machine.specs.Boundary.{boundary}
use Rattle.agc_machine.specs.Replay.{chain}
use Rattle.agc_machine.specs.Run.{boundaries_left, next_before, next_before_within, while_quiet_before}
use Rattle.agc_machine.specs.State.{State}
use Rattle.agc_machine.specs.declared.answer.Stepped.{Stepped}
use Rattle.agc_machine.specs.declared.answer.Stepped.TheVariants as stepped
use Rattle.agc_machine.specs.declared.answer.Stop.{Stop}
use Rattle.agc_session.specs.Session.{BeginBefore, HasReached}

-- some boundaries, each of which begins before a cycle
pub record Way (cycle : ℕ) (s t : State) : Type 0 where
  pub boundaries : ℕ
  pub way : (chain (replicate boundaries None) s).last ≡ t
  pub before : BeginBefore boundaries cycle s

pub no_way : (cycle : ℕ) (s : State) → Way cycle s s
unfolding chain BeginBefore
no_way cycle s = record { boundaries = 0; way = refl; before = tt }

one_more : (cycle : ℕ) (s t u : State) → s.cycle < cycle → (boundary None s).0 ≡ t → Way cycle t u → Way cycle s u
unfolding chain BeginBefore
one_more cycle s t u h e w = record {
  boundaries = suc w.boundaries;
  way = ap (λ (x : State). (chain (replicate w.boundaries None) x).last) e ∙ w.way;
  before = (h, subst (λ (x : State). BeginBefore w.boundaries cycle x) (sym e) w.before);
}

onward : (n cycle : ℕ) (s t u : State) → (chain (replicate n None) s).last ≡ t → BeginBefore n cycle s → Way cycle t u → Way cycle s u
unfolding chain BeginBefore
onward zero cycle s t u e b w = subst (λ (x : State). Way cycle x u) (sym e) w
onward (suc n) cycle s t u e b w = one_more cycle s (boundary None s).0 u b.0 refl (onward n cycle (boundary None s).0 t u e b.1 w)

pub then_way : (cycle : ℕ) (s t u : State) → Way cycle s t → Way cycle t u → Way cycle s u
then_way cycle s t u v w = onward v.boundaries cycle s t u v.way v.before w

one_way : (cycle : ℕ) (s : State) (r : State × Stepped) → s.cycle < cycle → boundary None s ≡ r → Way cycle s r.0
one_way cycle s r h e = one_more cycle s r.0 r.0 h (ap (λ (x : State × Stepped). x.0) e) (no_way cycle r.0)

by_boundary : (cycle : ℕ) (go_on : State → State × Stepped) (s : State) (r : State × Stepped) → s.cycle < cycle → boundary None s ≡ r
    → ((t : State) → t.cycle < cycle → Way cycle t (go_on t).0) → Way cycle s (while_quiet_before cycle go_on r).0
by_boundary cycle go_on s (t, stepped.Quiet) h e f =
    elim (leb_tells cycle t.cycle) as (λ _. Way cycle s (while_quiet_before cycle go_on (t, stepped.Quiet)).0) [
      | inl w ↦ rw w.0 (one_way cycle s (t, stepped.Quiet) h e)
      | inr w ↦ rw w.0 (one_more cycle s t (go_on t).0 h (ap (λ (x : State × Stepped). x.0) e) (f t (omega (arith, w.1))))
    ]
by_boundary cycle go_on s (t, stepped.Wrote write) h e f = one_way cycle s (t, stepped.Wrote write) h e
by_boundary cycle go_on s (t, stepped.Stopped why) h e f = one_way cycle s (t, stepped.Stopped why) h e

within : (n cycle : ℕ) (s : State) → s.cycle < cycle → Way cycle s (next_before_within n cycle s).0
unfolding next_before_within
within zero cycle s h = no_way cycle s
within (suc n) cycle s h = by_boundary cycle (next_before_within n cycle) s (boundary None s) h refl (λ t l. within n cycle t l)

-- a stretch up to a cycle
pub way_on : (cycle : ℕ) (s t : State) (answer : Stepped) → s.cycle < cycle → (t, answer) ≡ next_before cycle s → Way cycle s t
unfolding next_before
way_on cycle s t answer h e = subst (λ (r : State × Stepped). Way cycle s r.0) (sym e) (within (boundaries_left s) cycle s h)

pub at_cycle : (cycle : ℕ) (s t : State) → Way cycle s t → cycle ≤ t.cycle → HasReached cycle s t
at_cycle cycle s t w h = record { boundaries = w.boundaries; way = w.way; before = w.before; there = inl h }

pub at_stop : (cycle : ℕ) (s t : State) (why : Stop) → Way cycle s t → t.stopped ≡ Some why → HasReached cycle s t
at_stop cycle s t why w h = record { boundaries = w.boundaries; way = w.way; before = w.before; there = inr (rw h refl) }
