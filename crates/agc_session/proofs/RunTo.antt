-- A run forward to a condition.
use Rattle.std.specs.Prelude.{◌≡◌, ◌⊎◌, ℕ, zero, suc, ◌+◌, ◌<◌, ◌≤◌, Bool, true, false, Option, None, IsSome, IsTrue, not, ◌↔◌}
use Rattle.std.proofs.Common.{refl, ap, sym, subst, ◌∙◌, arith, inl, inr}
use Rattle.agc_word.specs.Number.{Number}
use Rattle.agc_processor.specs.declared.interrupt.Rupt.{Rupt}
use Rattle.agc_machine.specs.Boundary.{boundary, upcoming_of}
use Rattle.agc_machine.specs.Laws.{after}
use Rattle.agc_machine.specs.State.{State}
use Rattle.agc_machine.specs.declared.answer.Stepped.{Stepped}
use Rattle.agc_panel.specs.declared.face.Face.{Face}
use Rattle.agc_panel.specs.declared.panel_line.PanelLine.{PanelLine}
use Rattle.agc_session.specs.Comparison.{same_word, word_at}
use Rattle.agc_session.specs.Condition.{Ends, HasRunTo, Meets, NoneEnds, is_changed, is_service_of, panel_after, panel_later}
use Rattle.agc_session.specs.Search.{IsOnWrite}
use Rattle.agc_session.specs.Session.{BeginBefore, HasGone, SessionState, shown_after}
use Rattle.agc_session.specs.declared.condition.Condition.{Condition}
use Rattle.agc_session.specs.declared.condition.Condition.TheVariants as condition
use Rattle.agc_session.proofs.Boundaries.{after_next, panel_next}

-- The boundaries so far: none of them ends the run.
pub record RunsTo (b : Condition) (cycle : ℕ) (s t : SessionState) : Type 0 where
  pub boundaries : ℕ
  pub now : after boundaries s.now ≡ t.now
  pub panel : panel_later boundaries s.panel s.now ≡ t.panel
  pub before : BeginBefore boundaries cycle s.now
  pub none : NoneEnds b boundaries s.panel s.now
  pub base : t.base ≡ s.base
  pub retained : t.retained ≡ s.retained
  pub script : t.script ≡ s.script
  pub injected : t.injected ≡ s.injected

pub runs_from : (b : Condition) (cycle : ℕ) (s : SessionState) → RunsTo b cycle s s
unfolding after panel_later BeginBefore NoneEnds
runs_from b cycle s = record { boundaries = 0; now = refl; panel = refl; before = tt; none = tt; base = refl; retained = refl; script = refl; injected = refl }

one_before : (n cycle : ℕ) (s : State) → BeginBefore n cycle s → (after n s).cycle < cycle → BeginBefore (suc n) cycle s
unfolding after BeginBefore
one_before zero cycle s h l = (l, tt)
one_before (suc n) cycle s h l = (h.0, one_before n cycle (boundary None s).0 h.1 l)

one_no_end : (b : Condition) (n : ℕ) (panel : Face) (s : State) → NoneEnds b n panel s → (Ends b (panel_later n panel s) (after n s) → ⊥)
    → NoneEnds b (suc n) panel s
unfolding after panel_later NoneEnds
one_no_end b zero panel s h nope = (nope, tt)
one_no_end b (suc n) panel s h nope = (h.0, one_no_end b n (panel_after panel s) (boundary None s).0 h.1 nope)

pub next_state : (n : ℕ) (s t u : State) → after n s ≡ t → u ≡ (boundary None t).0 → after (suc n) s ≡ u
next_state n s t u e f =
    let count : suc n ≡ n + 1 = omega arith in
    ap (λ (k : ℕ). after k s) count ∙ after_next n s ∙ ap (λ (x : State). (boundary None x).0) e ∙ sym f

next_panel : (n : ℕ) (panel shown later : Face) (s t : State) → panel_later n panel s ≡ shown → after n s ≡ t → later ≡ panel_after shown t
    → panel_later (suc n) panel s ≡ later
next_panel n panel shown later s t e f g =
    let count : suc n ≡ n + 1 = omega arith in
    ap (λ (k : ℕ). panel_later k panel s) count ∙ panel_next n panel s
    ∙ ap (λ (p : Face). panel_after p (after n s)) e ∙ ap (λ (x : State). panel_after shown x) f ∙ sym g

-- a boundary of a session and its panel
pub gone_now : (s t : SessionState) (answer : Stepped) → HasGone s (boundary None s.now) answer t → t.now ≡ (boundary None s.now).0
gone_now s t answer h = ap (λ (r : State × Stepped). r.0) h.now

pub gone_panel : (s t : SessionState) (answer : Stepped) → HasGone s (boundary None s.now) answer t → t.panel ≡ panel_after s.panel s.now
gone_panel s t answer h = h.panel ∙ ap (λ (r : State × Stepped). shown_after r.1 s.panel) h.now

-- the ends of the run at the present state, in the terms of its start
ends_here : (b : Condition) (n : ℕ) (panel shown : Face) (s t : State) → panel_later n panel s ≡ shown → after n s ≡ t → Ends b shown t
    → Ends b (panel_later n panel s) (after n s)
ends_here b n panel shown s t e f h = subst (λ (p : Face). Ends b p (after n s)) (sym e) (subst (λ (x : State). Ends b shown x) (sym f) h)

ends_there : (b : Condition) (n : ℕ) (panel shown : Face) (s t : State) → panel_later n panel s ≡ shown → after n s ≡ t
    → Ends b (panel_later n panel s) (after n s) → Ends b shown t
ends_there b n panel shown s t e f h = subst (λ (x : State). Ends b shown x) f (subst (λ (p : Face). Ends b p (after n s)) e h)

-- one more boundary
pub runs_on : (b : Condition) (cycle : ℕ) (s t u : SessionState) (answer : Stepped) → RunsTo b cycle s t → t.now.cycle < cycle
    → HasGone t (boundary None t.now) answer u → (Ends b t.panel t.now → ⊥) → RunsTo b cycle s u
runs_on b cycle s t u answer h l gone nope = record {
  boundaries = suc h.boundaries;
  now = next_state h.boundaries s.now t.now u.now h.now (gone_now t u answer gone);
  panel = next_panel h.boundaries s.panel t.panel u.panel s.now t.now h.panel h.now (gone_panel t u answer gone);
  before = one_before h.boundaries cycle s.now h.before (omega (arith, l, ap (λ (x : State). x.cycle) h.now));
  none = one_no_end b h.boundaries s.panel s.now h.none
      (λ ends. nope (ends_there b h.boundaries s.panel t.panel s.now t.now h.panel h.now ends));
  base = gone.base ∙ h.base;
  retained = gone.retained ∙ h.retained;
  script = gone.script ∙ h.script;
  injected = gone.injected ∙ h.injected;
}

pub run_hits : (b : Condition) (cycle : ℕ) (s t u : SessionState) (answer : Stepped) → RunsTo b cycle s t → t.now.cycle < cycle → t.now.stopped ≡ None
    → HasGone t (boundary None t.now) answer u → Ends b t.panel t.now → HasRunTo b cycle s u true
run_hits b cycle s t u answer h l runs gone ends = record {
  boundaries = suc h.boundaries;
  now = next_state h.boundaries s.now t.now u.now h.now (gone_now t u answer gone);
  before = one_before h.boundaries cycle s.now h.before (omega (arith, l, ap (λ (x : State). x.cycle) h.now));
  none = λ e. cc;
  there = λ e. cc;
  last = λ _. (
    h.boundaries,
    refl,
    h.none,
    ends_here b h.boundaries s.panel t.panel s.now t.now h.panel h.now ends,
    ap (λ (x : State). x.stopped) h.now ∙ runs,
  );
  base = gone.base ∙ h.base;
  retained = gone.retained ∙ h.retained;
  script = gone.script ∙ h.script;
  injected = gone.injected ∙ h.injected;
}

pub run_misses : (b : Condition) (cycle : ℕ) (s t : SessionState) → RunsTo b cycle s t → (cycle ≤ t.now.cycle) ⊎ IsSome t.now.stopped
    → HasRunTo b cycle s t false
run_misses b cycle s t h there = record {
  boundaries = h.boundaries;
  now = h.now;
  before = h.before;
  none = λ _. h.none;
  there = λ _. there;
  last = λ e. cc;
  base = h.base;
  retained = h.retained;
  script = h.script;
  injected = h.injected;
}

-- whether the run ends with a boundary, by the tests of the session before and after it
iff_same : (a b : Bool) → a ≡ b → IsTrue a ↔ IsTrue b
iff_same a b e = (λ h. subst (λ (x : Bool). IsTrue x) e h, λ h. subst (λ (x : Bool). IsTrue x) (sym e) h)

pub ends_boundary : (s : SessionState) → IsTrue true ↔ Ends condition.Boundary s.panel s.now
unfolding Meets
ends_boundary s = (λ h. tt, λ h. refl)

pub ends_cell : (cell : ℕ) (s t : SessionState) (answer : Stepped) (before : Number) (result : Bool) → HasGone s (boundary None s.now) answer t
    → before ≡ word_at cell s.now.processor.store → result ≡ not (same_word (word_at cell t.now.processor.store) before)
    → IsTrue result ↔ Ends (condition.Cell cell) s.panel s.now
unfolding Meets
ends_cell cell s t answer before result gone e f =
    iff_same result (is_changed cell s.now.processor.store (boundary None s.now).0.processor.store)
    (f ∙ ap (λ (w : Number). not (same_word (word_at cell t.now.processor.store) w)) e
    ∙ ap (λ (x : State). not (same_word (word_at cell x.processor.store) (word_at cell s.now.processor.store))) (gone_now s t answer gone))

pub ends_interrupt : (which : Option Rupt) (s : SessionState) (result : Bool) → result ≡ is_service_of which (upcoming_of s.now)
    → IsTrue result ↔ Ends (condition.Interrupt which) s.panel s.now
unfolding Meets
ends_interrupt which s result e = iff_same result (is_service_of which (upcoming_of s.now)) e

on_write : (b : Condition)
    → ((channel : Option ℕ) × (word : Option Number) × (b ≡ condition.Write channel word)) ⊎ (b ≡ condition.Panel) ⊎ ((line : PanelLine) × (b ≡ condition.Shows line))
    → IsOnWrite b
on_write b (inl (channel, word, is)) = subst IsOnWrite (sym is) refl
on_write b (inr (inl is)) = subst IsOnWrite (sym is) refl
on_write b (inr (inr (line, is))) = subst IsOnWrite (sym is) refl

meets_ends : (b : Condition) (panel : Face) (s : State) (result : Bool) → IsOnWrite b → IsTrue result ↔ Meets b panel s → IsTrue result ↔ Ends b panel s
meets_ends (condition.Order place) panel s result on h = cc
meets_ends (condition.OrderIf place comparison) panel s result on h = cc
meets_ends (condition.Caller caller) panel s result on h = cc
meets_ends condition.Boundary panel s result on h = h
meets_ends (condition.Cell cell) panel s result on h = h
meets_ends (condition.Write channel word) panel s result on h = h
meets_ends (condition.Interrupt which) panel s result on h = h
meets_ends condition.Panel panel s result on h = h
meets_ends (condition.Shows line) panel s result on h = h

pub ends_on_write : (b : Condition) (s t : SessionState) (answer : Stepped) (before : Face) (result : Bool)
    → ((channel : Option ℕ) × (word : Option Number) × (b ≡ condition.Write channel word)) ⊎ (b ≡ condition.Panel) ⊎ ((line : PanelLine) × (b ≡ condition.Shows line))
    → HasGone s (boundary None s.now) answer t → before ≡ s.panel
    → ((u : State) → (boundary None u).1 ≡ answer → IsTrue result ↔ Meets b before u) → IsTrue result ↔ Ends b s.panel s.now
ends_on_write b s t answer before result on gone e test =
    let tested : IsTrue result ↔ Meets b s.panel s.now =
    subst (λ (p : Face). IsTrue result ↔ Meets b p s.now) e (test s.now (sym (ap (λ (r : State × Stepped). r.1) gone.now))) in
    meets_ends b s.panel s.now result (on_write b on) tested
