-- A run of orders grows by one order at its end.
use Rattle.std.specs.Prelude.{◌≡◌, ℕ, zero, suc, ◌<◌, ◌≤◌, false, None}
use Rattle.std.proofs.Common.{refl, ap, sym, subst, ◌∙◌, arith}
use Rattle.agc_machine.specs.Boundary.{boundary}
use Rattle.agc_machine.specs.Laws.{after}
use Rattle.agc_machine.specs.OrderRun.{ArePassed, HasRunOrders, IsAtOrder, IsPassed, is_triggered}
use Rattle.agc_machine.specs.Quiet.{IsQuiet, Serves}
use Rattle.agc_machine.specs.State.{State}
use Rattle.agc_machine.specs.declared.answer.Stepped.{Stepped}
use Rattle.agc_machine.specs.declared.answer.Stepped.TheVariants as stepped
use Rattle.agc_machine.specs.declared.order_run.OrderRun.{OrderRun}
use Rattle.agc_machine.specs.declared.order_run.Watch.{Watch}
use Rattle.agc_machine.specs.declared.quiet.Pace.TheVariants as pace
use Rattle.agc_machine.proofs.Stillness.{bare_upcoming}

-- the orders so far
pub record IsRunningOrders (watch : Watch) (cycle : ℕ) (s t : State) : Type 0 where
  pub orders : ℕ
  pub passed : ArePassed watch cycle orders s
  pub now : after orders s ≡ t

pub run_starts : (watch : Watch) (cycle : ℕ) (s : State) → IsRunningOrders watch cycle s s
unfolding ArePassed after
run_starts watch cycle s = record { orders = 0; passed = tt; now = refl }

one_more : (watch : Watch) (cycle n : ℕ) (s : State) → ArePassed watch cycle n s → IsPassed watch cycle (after n s) → ArePassed watch cycle (suc n) s
unfolding ArePassed after
one_more watch cycle zero s h p = (p, tt)
one_more watch cycle (suc n) s h p = (h.0, one_more watch cycle n (boundary None s).0 h.1 p)

after_next : (n : ℕ) (s : State) → after (suc n) s ≡ (boundary None (after n s)).0
unfolding after
after_next zero s = refl
after_next (suc n) s = after_next n (boundary None s).0

pub at_order : (until : ℕ) (s : State) → IsQuiet until s → s.cycle < until → Serves pace.Bare s → IsAtOrder s
at_order until s q h serves = record { runs = q.going.runs; comes = bare_upcoming until s q h serves }

passes : (watch : Watch) (cycle : ℕ) (t u : State) → IsAtOrder t → (u, stepped.Quiet) ≡ boundary None t → u.cycle < cycle
    → is_triggered watch u.processor.store ≡ false → IsPassed watch cycle t
passes watch cycle t u o e l w =
    let now : u ≡ (boundary None t).0 = ap (λ (r : State × Stepped). r.0) e in
    record {
      order = o;
      quiet = sym (ap (λ (r : State × Stepped). r.1) e);
      before = subst (λ (x : State). x.cycle < cycle) now l;
      unseen = subst (λ (x : State). is_triggered watch x.processor.store ≡ false) now w;
    }

pub run_goes_on : (watch : Watch) (cycle : ℕ) (s t u : State) → IsRunningOrders watch cycle s t → IsAtOrder t → (u, stepped.Quiet) ≡ boundary None t
    → u.cycle < cycle → is_triggered watch u.processor.store ≡ false → IsRunningOrders watch cycle s u
run_goes_on watch cycle s t u r o e l w = record {
  orders = suc r.orders;
  passed = one_more watch cycle r.orders s r.passed (subst (λ (x : State). IsPassed watch cycle x) (sym r.now) (passes watch cycle t u o e l w));
  now = after_next r.orders s ∙ ap (λ (x : State). (boundary None x).0) r.now ∙ sym (ap (λ (r : State × Stepped). r.0) e);
}

pub run_ends : (watch : Watch) (cycle : ℕ) (s t u : State) (run : OrderRun) → IsRunningOrders watch cycle s t → IsAtOrder t
    → (u, run.stepped) ≡ boundary None t → run.began ≡ t.cycle → HasRunOrders watch cycle s u run
run_ends watch cycle s t u run r o e began = record {
  more = r.orders;
  passed = r.passed;
  last = subst (λ (x : State). IsAtOrder x) (sym r.now) o;
  began = began ∙ ap (λ (x : State). x.cycle) (sym r.now);
  now = e ∙ ap (λ (x : State). boundary None x) (sym r.now);
}

-- a later cycle says less
passed_within : (watch : Watch) (cycle end n : ℕ) (s : State) → cycle ≤ end → ArePassed watch cycle n s → ArePassed watch end n s
unfolding ArePassed
passed_within watch cycle end zero s l h = tt
passed_within watch cycle end (suc n) s l h = (
  record { order = h.0.order; quiet = h.0.quiet; before = omega (arith, l, h.0.before); unseen = h.0.unseen },
  passed_within watch cycle end n (boundary None s).0 l h.1,
)

pub ran_within : (watch : Watch) (cycle end : ℕ) (s t : State) (run : OrderRun) → cycle ≤ end → HasRunOrders watch cycle s t run
    → HasRunOrders watch end s t run
ran_within watch cycle end s t run l h = record {
  more = h.more;
  passed = passed_within watch cycle end h.more s l h.passed;
  last = h.last;
  began = h.began;
  now = h.now;
}
