-- A machine that runs on comes nearer to its stop, and its writes are counted.
use Rattle.std.specs.Prelude.{◌≡◌, ℕ, zero, suc, ◌<◌, ◌≤◌, nat_lt, Bool, true, false, ◌&&◌, List, [], ◌∷◌, ◌++◌, is_none, Option, None, Some, replicate}
use Rattle.std.proofs.Common.{refl, ap, sym, subst, ◌∙◌, arith, inl, inr}
use Rattle.std.proofs.lemmas.Bool.Decides.{leb_tells, nat_tests}
use Rattle.agc_word.specs.declared.channel_write.ChannelWrite.{ChannelWrite}
use Rattle.agc_machine.specs.Boundary.{boundary}
use Rattle.agc_machine.specs.Laws.{Falls, HasChannel}
use Rattle.agc_machine.specs.Replay.{chain, writes_in}
use Rattle.agc_machine.specs.Run.{boundaries_left, next_before, next_before_within, while_quiet_before}
use Rattle.agc_machine.specs.State.{State}
use Rattle.agc_machine.specs.declared.answer.Stepped.{Stepped}
use Rattle.agc_machine.specs.declared.answer.Stepped.TheVariants as stepped
use Rattle.agc_machine.specs.declared.answer.Stop.{Stop}
use Rattle.agc_machine.proofs.Before.{before_keeps, falls_shows, fewer_after_way, next_at_way_write}
use Rattle.agc_machine.proofs.Chain.{boundary_falls, fewer_after_write, some_left}
use Rattle.agc_panel.specs.declared.face.Face.{Face}
use Rattle.agc_script.specs.declared.event.Event.{Event}
use Rattle.agc_session.specs.Session.{HasGone, SessionState}
use Rattle.agc_repl.specs.Repl.{Advances, GoesOn, RunsOn, counted, gone_on, noted, turns_unless}
use Rattle.agc_repl.specs.Settings.{SettingsState}
use Rattle.agc_repl.specs.Run.{is_short_of}
use Rattle.agc_repl.specs.declared.repl.Repl.{Repl}

pub no_more : (stopped : Option Stop) (turns : ℕ) → turns_unless stopped turns ≤ turns
no_more None turns = omega arith
no_more (Some why) turns = omega arith

pub unstopped : (stopped : Option Stop) (turns : ℕ) → stopped ≡ None → turns_unless stopped turns ≡ turns
unstopped None turns e = refl
unstopped (Some why) turns e = cc

no_turn : (stopped : Option Stop) (turns : ℕ) (why : Stop) → stopped ≡ Some why → turns_unless stopped turns ≡ 0
no_turn None turns why e = cc
no_turn (Some because) turns why e = refl

-- fewer boundaries are left
by_fewer : (s t : State) → boundaries_left t < boundaries_left s → Advances s t
by_fewer s t h e = omega (arith, h, no_more t.stopped (boundaries_left t), unstopped s.stopped (boundaries_left s) e)

by_stop : (s t : State) (why : Stop) → t.stopped ≡ Some why → Advances s t
by_stop s t why h e = omega (arith, some_left s, unstopped s.stopped (boundaries_left s) e, no_turn t.stopped (boundaries_left t) why h)

falls_on : (s t : State) (answer : Stepped) → Falls s (t, answer) → Advances s t
falls_on s t stepped.Quiet f = by_fewer s t f.0
falls_on s t (stepped.Wrote write) f = by_fewer s t f.0
falls_on s t (stepped.Stopped why) f = by_stop s t why f.0

pub advances_by_boundary : (s t : State) (answer : Stepped) → (t, answer) ≡ boundary None s → Advances s t
advances_by_boundary s t answer e =
    falls_on s t answer (subst (λ (r : State × Stepped). Falls s r) (sym e) (boundary_falls s))

pub shows_by_boundary : (s t : State) (answer : Stepped) → (t, answer) ≡ boundary None s → HasChannel answer
shows_by_boundary s t answer e =
    falls_shows s (t, answer) (subst (λ (r : State × Stepped). Falls s r) (sym e) (boundary_falls s))

pub advances_before : (cycle : ℕ) (s t : State) (answer : Stepped) → (t, answer) ≡ next_before cycle s → Advances s t
advances_before cycle s t stepped.Quiet e = by_fewer s t (fewer_after_way cycle s t e)
advances_before cycle s t (stepped.Wrote write) e =
    by_fewer s t (fewer_after_write s t write (next_at_way_write cycle s t write e))
advances_before cycle s t (stepped.Stopped why) e = by_stop s t why (before_keeps cycle s (t, stepped.Stopped why) e)

-- a machine that has not stopped or reached its cycle
both_hold : (b : Bool) (stopped : Option Stop) → (b && is_none stopped) ≡ true → (b ≡ true) × (stopped ≡ None)
both_hold true None h = (refl, refl)
both_hold true (Some why) h = cc
both_hold false stopped h = cc

is_less : (m n : ℕ) → nat_lt m n ≡ true → m < n
is_less m n h = grind (arith, nat_tests)

pub under_way : (cycle : ℕ) (s : State) → is_short_of cycle s ≡ true → (s.cycle < cycle) × (s.stopped ≡ None)
under_way cycle s h =
    let both = both_hold (nat_lt s.cycle cycle) s.stopped h in
    (is_less s.cycle cycle both.0, both.1)

is_true_of : (m n : ℕ) (stopped : Option Stop) → m < n → stopped ≡ None → (nat_lt m n && is_none stopped) ≡ true
is_true_of m n stopped h e = let less : nat_lt m n ≡ true = grind (arith, nat_tests) in rw (less, e) refl

pub on_the_way : (cycle : ℕ) (s : State) → s.cycle < cycle → s.stopped ≡ None → is_short_of cycle s ≡ true
on_the_way cycle s h e = is_true_of s.cycle cycle s.stopped h e

-- states that some boundaries lead to
abbrev pub Reaches : State → State → Type 0
Reaches s t = (n : ℕ) × ((chain (replicate n None) s).last ≡ t)

reach_none : (s : State) → Reaches s s
unfolding chain
reach_none s = (0, refl)

reach_more : (s t u : State) → (boundary None s).0 ≡ t → Reaches t u → Reaches s u
unfolding chain
reach_more s t u e h = (suc h.0, ap (λ (x : State). (chain (replicate h.0 None) x).last) e ∙ h.1)

reach_from : (n : ℕ) (s t u : State) → (chain (replicate n None) s).last ≡ t → Reaches t u → Reaches s u
unfolding chain
reach_from zero s t u e h = subst (λ (x : State). Reaches x u) (sym e) h
reach_from (suc n) s t u e h = reach_more s (boundary None s).0 u refl (reach_from n (boundary None s).0 t u e h)

reach_one : (s : State) (r : State × Stepped) → boundary None s ≡ r → Reaches s r.0
reach_one s r e = reach_more s r.0 r.0 (ap (λ (x : State × Stepped). x.0) e) (reach_none r.0)

reach_by : (cycle : ℕ) (go : State → State × Stepped) (s : State) (r : State × Stepped) → boundary None s ≡ r → ((t : State) → Reaches t (go t).0)
    → Reaches s (while_quiet_before cycle go r).0
reach_by cycle go s (t, stepped.Quiet) e f =
    elim (leb_tells cycle t.cycle) as (λ _. Reaches s (while_quiet_before cycle go (t, stepped.Quiet)).0) [
      | inl w ↦ rw w.0 (reach_one s (t, stepped.Quiet) e)
      | inr w ↦ rw w.0 (reach_more s t (go t).0 (ap (λ (x : State × Stepped). x.0) e) (f t))
    ]
reach_by cycle go s (t, stepped.Wrote write) e f = reach_one s (t, stepped.Wrote write) e
reach_by cycle go s (t, stepped.Stopped why) e f = reach_one s (t, stepped.Stopped why) e

reach_within : (n cycle : ℕ) (s : State) → Reaches s (next_before_within n cycle s).0
unfolding next_before_within
reach_within zero cycle s = reach_none s
reach_within (suc n) cycle s = reach_by cycle (next_before_within n cycle) s (boundary None s) refl (λ t. reach_within n cycle t)

pub reach_before : (cycle : ℕ) (s t : State) (answer : Stepped) → (t, answer) ≡ next_before cycle s → Reaches s t
unfolding next_before
reach_before cycle s t answer e = subst (λ (r : State × Stepped). Reaches s r.0) (sym e) (reach_within (boundaries_left s) cycle s)

pub reach_boundary : (s t : State) (answer : Stepped) → (t, answer) ≡ boundary None s → Reaches s t
reach_boundary s t answer e = reach_one s (t, answer) (sym e)

-- a session that runs on
pub stays_put : (s : SessionState) → GoesOn s s
unfolding chain
stays_put s = record { boundaries = 0; now = refl; base = refl; retained = refl; script = refl; injected = refl }

pub goes_then : (s t u : SessionState) → GoesOn s t → GoesOn t u → GoesOn s u
goes_then s t u h k =
    let on = reach_from h.boundaries s.now t.now u.now h.now (k.boundaries, k.now) in
    record {
      boundaries = on.0;
      now = on.1;
      base = k.base ∙ h.base;
      retained = k.retained ∙ h.retained;
      script = k.script ∙ h.script;
      injected = k.injected ∙ h.injected;
    }

pub goes_by : (s t : SessionState) (stretch : State × Stepped) (answer : Stepped) → HasGone s stretch answer t → Reaches s.now t.now → GoesOn s t
goes_by s t stretch answer h k =
    record { boundaries = k.0; now = k.1; base = h.base; retained = h.retained; script = h.script; injected = h.injected }

-- a console that runs on
pub stays_run : (s : Repl) → RunsOn s s
stays_run s = record { session = stays_put s.session; settings = refl }

pub runs_then : (s t u : Repl) → RunsOn s t → RunsOn t u → RunsOn s u
runs_then s t u h k = record { session = goes_then s.session t.session u.session h.session k.session; settings = k.settings ∙ h.settings }

-- a console's state made of these parts
made : (base retained script injected : List Event) (now : State) (panel : Face) (writes : ℕ) (settings : SettingsState) → Repl
made base retained script injected now panel writes settings =
    record {
      session = record { base = base; retained = retained; script = script; injected = injected; now = now; panel = panel };
      writes = writes;
      settings = settings;
    }

made_same : (base retained script injected base' retained' script' injected' : List Event) (now now' : State) (panel panel' : Face) (writes writes' : ℕ) (settings settings' : SettingsState) → base ≡ base'
    → retained ≡ retained' → script ≡ script' → injected ≡ injected' → now ≡ now' → panel ≡ panel' → writes ≡ writes'
    → settings ≡ settings' → made base retained script injected now panel writes settings ≡ made base' retained' script' injected' now' panel' writes' settings'
made_same base retained script injected base' retained' script' injected' now now' panel panel' writes writes' settings settings' a b c d e f g h = rw (a, b, c, d, e, f, g, h) refl

pub same_repl : (s t : Repl) → s.session.base ≡ t.session.base → s.session.retained ≡ t.session.retained → s.session.script ≡ t.session.script
    → s.session.injected ≡ t.session.injected → s.session.now ≡ t.session.now → s.session.panel ≡ t.session.panel → s.writes ≡ t.writes
    → s.settings ≡ t.settings → s ≡ t
unfolding made
same_repl s t a b c d e f g h = made_same _ _ _ _ _ _ _ _ _ _ _ _ _ _ _ _ a b c d e f g h

-- its writes are counted
pub shows : (s t : Repl) (stretch : State × Stepped) (answer : Stepped) → HasGone s.session stretch answer t.session → t.writes ≡ counted answer s.writes
    → t.settings ≡ s.settings → t ≡ gone_on t.session.now (writes_in (answer ∷ [])) s
unfolding gone_on writes_in
shows s t stretch stepped.Quiet h n k = same_repl t _ h.base h.retained h.script h.injected refl h.panel n k
shows s t stretch (stepped.Wrote write) h n k = same_repl t _ h.base h.retained h.script h.injected refl h.panel n k
shows s t stretch (stepped.Stopped why) h n k = same_repl t _ h.base h.retained h.script h.injected refl h.panel n k

-- from any state of its machine
gone_from : (last before : State) (writes : List ChannelWrite) (t : Repl)
    → gone_on last writes (record t { session = record t.session { now = before } }) ≡ gone_on last writes t
unfolding gone_on
gone_from last before [] t = refl
gone_from last before (write ∷ writes) t = gone_from last before writes (noted write t)

pub gone_then : (last before : State) (writes more : List ChannelWrite) (t : Repl) → gone_on last more (gone_on before writes t) ≡ gone_on last (writes ++ more) t
unfolding gone_on
gone_then last before [] more t = gone_from last before more t
gone_then last before (write ∷ writes) more t = gone_then last before writes more (noted write t)

pub gone_at : (last : State) (writes : List ChannelWrite) (t : Repl) → (gone_on last writes t).session.now ≡ last
unfolding gone_on
gone_at last [] t = refl
gone_at last (write ∷ writes) t = gone_at last writes (noted write t)

pub gone_nowhere : (t : Repl) → gone_on t.session.now [] t ≡ t
unfolding gone_on
gone_nowhere t = refl
