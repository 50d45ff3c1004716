-- Quiet boundaries hit no condition on a write, so the run can go to the next write at once.
use Rattle.std.specs.Prelude.{◌≡◌, ℕ, zero, suc, ◌<◌, ◌≤◌, [], Option, None, Some, IsTrue, Bool, true, false, ◌↔◌}
use Rattle.std.proofs.Common.{refl, ap, sym, subst, ◌∙◌, arith, inl, inr}
use Rattle.std.proofs.lemmas.Bool.Decides.{leb_tells}
use Rattle.agc_word.specs.declared.channel_write.ChannelWrite.{ChannelWrite}
use Rattle.agc_machine.specs.Boundary.{boundary}
use Rattle.agc_machine.specs.Laws.{Falls, after}
use Rattle.agc_machine.specs.Run.{boundaries_left, next_before, next_before_within, while_quiet_before}
use Rattle.agc_machine.specs.State.{State}
use Rattle.agc_machine.specs.declared.answer.Stepped.{Stepped}
use Rattle.agc_machine.specs.declared.answer.Stepped.TheVariants as stepped
use Rattle.agc_machine.specs.declared.answer.Stop.{Stop}
use Rattle.agc_machine.proofs.Chain.{boundary_falls, some_left, stopped_stays}
use Rattle.agc_panel.specs.declared.face.Face.{Face}
use Rattle.agc_session.specs.Condition.{AreHits, Hits, Meets, panel_after}
use Rattle.agc_session.specs.Search.{HasAdvanced, IsOnWrite}
use Rattle.agc_session.specs.Session.{BeginBefore, shown_after}
use Rattle.agc_session.specs.declared.condition.Condition.{Condition}
use Rattle.agc_session.specs.declared.condition.Condition.TheVariants as condition
use Rattle.agc_session.proofs.Advancing.{AreMissed, AreQuiet, last_hits, last_misses}

-- Some quiet boundaries and the one that ends the run to the next write.
pub record ToWrite (cycle : ℕ) (s t : State) (answer : Stepped) : Type 0 where
  pub more : ℕ
  pub quiet : AreQuiet more s
  pub before : BeginBefore more cycle (boundary None s).0
  pub last : boundary None (after more s) ≡ (t, answer)

at_once : (cycle : ℕ) (s : State) (r : State × Stepped) → boundary None s ≡ r → ToWrite cycle s r.0 r.1
unfolding AreQuiet BeginBefore after
at_once cycle s r e = record { more = 0; quiet = tt; before = tt; last = e }

after_quiet : (cycle : ℕ) (s t : State) (r : State × Stepped) → boundary None s ≡ (t, stepped.Quiet) → t.cycle < cycle → ToWrite cycle t r.0 r.1
    → ToWrite cycle s r.0 r.1
unfolding AreQuiet BeginBefore after
after_quiet cycle s t r e l w =
    let state : (boundary None s).0 ≡ t = ap (λ (x : State × Stepped). x.0) e in
    let rest : ToWrite cycle (boundary None s).0 r.0 r.1 = subst (λ (x : State). ToWrite cycle x r.0 r.1) (sym state) w in
    record {
      more = suc rest.more;
      quiet = (ap (λ (x : State × Stepped). x.1) e, rest.quiet);
      before = (omega (arith, l, ap (λ (x : State). x.cycle) state), rest.before);
      last = rest.last;
    }

by_answer : (cycle : ℕ) (go_on : State → State × Stepped) (s : State) (r : State × Stepped) → boundary None s ≡ r → Falls s r
    → ((t : State) → boundaries_left t < boundaries_left s → ToWrite cycle t (go_on t).0 (go_on t).1)
    → ToWrite cycle s (while_quiet_before cycle go_on r).0 (while_quiet_before cycle go_on r).1
by_answer cycle go_on s (t, stepped.Quiet) e h f =
    elim (leb_tells cycle t.cycle) as (λ _. ToWrite cycle s (while_quiet_before cycle go_on (t, stepped.Quiet)).0 (while_quiet_before cycle go_on (t, stepped.Quiet)).1) [
      | inl w ↦ rw w.0 (at_once cycle s (t, stepped.Quiet) e)
      | inr w ↦ rw w.0 (after_quiet cycle s t (go_on t) e (omega (arith, w.1)) (f t h.0))
    ]
by_answer cycle go_on s (t, stepped.Wrote write) e h f = at_once cycle s (t, stepped.Wrote write) e
by_answer cycle go_on s (t, stepped.Stopped why) e h f = at_once cycle s (t, stepped.Stopped why) e

within : (n cycle : ℕ) (s : State) → boundaries_left s ≤ n → ToWrite cycle s (next_before_within n cycle s).0 (next_before_within n cycle s).1
unfolding next_before_within
within zero cycle s l = absurd (omega (arith, l, some_left s))
within (suc n) cycle s l =
    by_answer cycle (next_before_within n cycle) s (boundary None s) refl (boundary_falls s) (λ t less. within n cycle t (omega (arith, l, less)))

pub to_write : (cycle : ℕ) (s t : State) (answer : Stepped) → (t, answer) ≡ next_before cycle s → ToWrite cycle s t answer
unfolding next_before
to_write cycle s t answer e =
    subst (λ (r : State × Stepped). ToWrite cycle s r.0 r.1) (sym e) (within (boundaries_left s) cycle s (omega arith))

-- a quiet boundary does not hit
no_quiet_hit : (b : Condition) (panel : Face) (s : State) → IsOnWrite b → (boundary None s).1 ≡ stepped.Quiet → Meets b panel s → ⊥
unfolding Meets
no_quiet_hit (condition.Write channel word) panel s on e h = let quiet : false ≡ true = rw e at h in cc
no_quiet_hit condition.Panel panel s on e h = let quiet : false ≡ true = rw e at h in cc
no_quiet_hit (condition.Shows line) panel s on e h = let quiet : false ≡ true = rw e at h in cc
no_quiet_hit condition.Boundary panel s on e h = cc
no_quiet_hit (condition.Order place) panel s on e h = cc
no_quiet_hit (condition.OrderIf place comparison) panel s on e h = cc
no_quiet_hit (condition.Caller caller) panel s on e h = cc
no_quiet_hit (condition.Cell cell) panel s on e h = cc
no_quiet_hit (condition.Interrupt which) panel s on e h = cc

no_stop_hit : (b : Condition) (panel : Face) (s : State) (why : Stop) → IsOnWrite b → (boundary None s).1 ≡ stepped.Stopped why → Meets b panel s → ⊥
unfolding Meets
no_stop_hit (condition.Write channel word) panel s why on e h = let none : false ≡ true = rw e at h in cc
no_stop_hit condition.Panel panel s why on e h = let none : false ≡ true = rw e at h in cc
no_stop_hit (condition.Shows line) panel s why on e h = let none : false ≡ true = rw e at h in cc
no_stop_hit condition.Boundary panel s why on e h = cc
no_stop_hit (condition.Order place) panel s why on e h = cc
no_stop_hit (condition.OrderIf place comparison) panel s why on e h = cc
no_stop_hit (condition.Caller caller) panel s why on e h = cc
no_stop_hit (condition.Cell cell) panel s why on e h = cc
no_stop_hit (condition.Interrupt which) panel s why on e h = cc

no_hits : (b : Condition) (n : ℕ) (panel : Face) (s : State) → IsOnWrite b → AreQuiet n s → AreHits b n panel s []
unfolding AreHits AreQuiet
no_hits b zero panel s on h = refl
no_hits b (suc n) panel s on h =
    let none : Hits b panel s → ⊥ = λ hit. no_quiet_hit b panel s on h.0 hit.meets in
    ([], [], inr (none, refl), no_hits b n (panel_after panel s) (boundary None s).0 on h.1, refl)

missed : (b : Condition) (cycle : ℕ) (panel : Face) (s t : State) (answer : Stepped) → IsOnWrite b → (w : ToWrite cycle s t answer)
    → AreMissed b cycle w.more panel s
missed b cycle panel s t answer on w = record { quiet = w.quiet; before = w.before; none = no_hits b w.more panel s on w.quiet }

state_last : (cycle : ℕ) (s t : State) (answer : Stepped) (w : ToWrite cycle s t answer) → t ≡ (boundary None (after w.more s)).0
state_last cycle s t answer w = ap (λ (r : State × Stepped). r.0) (sym w.last)

panel_last : (cycle : ℕ) (panel shown : Face) (s t : State) (answer : Stepped) (w : ToWrite cycle s t answer) → shown ≡ shown_after answer panel
    → shown ≡ panel_after panel (after w.more s)
panel_last cycle panel shown s t answer w e = e ∙ ap (λ (r : State × Stepped). shown_after r.1 panel) (sym w.last)

-- the boundary of a write ran, and the write has its cycle
ran_by : (stopped : Option Stop) (s t : State) (write : ChannelWrite) → s.stopped ≡ stopped → boundary None s ≡ (t, stepped.Wrote write) → s.stopped ≡ None
ran_by None s t write e h = e
ran_by (Some why) s t write e h =
    let both : stepped.Stopped why ≡ stepped.Wrote write = ap (λ (r : State × Stepped). r.1) (sym (stopped_stays s why e) ∙ h) in cc

cycle_of_write : (s t : State) (write : ChannelWrite) → boundary None s ≡ (t, stepped.Wrote write) → write.cycle ≡ s.cycle
cycle_of_write s t write e = (subst (λ (r : State × Stepped). Falls s r) e (boundary_falls s)).1

write_hits : (b : Condition) (cycle : ℕ) (panel shown : Face) (s t : State) (write : ChannelWrite) → IsOnWrite b
    → (w : ToWrite cycle s t (stepped.Wrote write)) → shown ≡ shown_after (stepped.Wrote write) panel → Meets b panel (after w.more s)
    → HasAdvanced b cycle panel shown s t (Some write.cycle)
write_hits b cycle panel shown s t write on w e meets =
    let u : State = after w.more s in
    last_hits b cycle w.more panel shown s t write.cycle (missed b cycle panel s t (stepped.Wrote write) on w) (state_last cycle s t (stepped.Wrote write) w)
    (panel_last cycle panel shown s t (stepped.Wrote write) w e) (ran_by u.stopped u t write refl w.last) (cycle_of_write u t write w.last) meets

write_misses : (b : Condition) (cycle : ℕ) (panel shown : Face) (s t : State) (answer : Stepped) → IsOnWrite b → (w : ToWrite cycle s t answer)
    → shown ≡ shown_after answer panel → (Meets b panel (after w.more s) → ⊥) → HasAdvanced b cycle panel shown s t None
write_misses b cycle panel shown s t answer on w e miss =
    last_misses b cycle w.more panel shown s t (missed b cycle panel s t answer on w) (state_last cycle s t answer w) (panel_last cycle panel shown s t answer w e) miss

quiet_misses : (b : Condition) (cycle : ℕ) (panel shown : Face) (s t : State) → IsOnWrite b → ToWrite cycle s t stepped.Quiet → shown ≡ panel
    → HasAdvanced b cycle panel shown s t None
quiet_misses b cycle panel shown s t on w e =
    write_misses b cycle panel shown s t stepped.Quiet on w e (no_quiet_hit b panel (after w.more s) on (ap (λ (r : State × Stepped). r.1) w.last))

stop_misses : (b : Condition) (cycle : ℕ) (panel shown : Face) (s t : State) (why : Stop) → IsOnWrite b → ToWrite cycle s t (stepped.Stopped why)
    → shown ≡ panel → HasAdvanced b cycle panel shown s t None
stop_misses b cycle panel shown s t why on w e =
    write_misses b cycle panel shown s t (stepped.Stopped why) on w e (no_stop_hit b panel (after w.more s) why on (ap (λ (r : State × Stepped). r.1) w.last))

-- what a test of the write says of the boundary
abbrev pub Tests : Condition → Face → Stepped → Bool → Type 0
Tests b panel answer result = (s : State) → (boundary None s).1 ≡ answer → IsTrue result ↔ Meets b panel s

tested : (b : Condition) (cycle : ℕ) (panel shown : Face) (s t : State) (answer : Stepped) (result : Bool) (w : ToWrite cycle s t answer)
    → Tests b panel answer result → IsTrue result ↔ Meets b panel (after w.more s)
tested b cycle panel shown s t answer result w test = test (after w.more s) (ap (λ (r : State × Stepped). r.1) w.last)

pub hit_of_write : (b : Condition) (cycle : ℕ) (panel shown : Face) (s t : State) (answer : Stepped) (write : ChannelWrite) → answer ≡ stepped.Wrote write
    → IsOnWrite b → (t, answer) ≡ next_before cycle s → shown ≡ shown_after (stepped.Wrote write) panel → Tests b panel answer true
    → HasAdvanced b cycle panel shown s t (Some write.cycle)
hit_of_write b cycle panel shown s t answer write is on next e test =
    let w = to_write cycle s t (stepped.Wrote write) (subst (λ (a : Stepped). (t, a) ≡ next_before cycle s) is next) in
    let known : Tests b panel (stepped.Wrote write) true = subst (λ (a : Stepped). Tests b panel a true) is test in
    write_hits b cycle panel shown s t write on w e ((tested b cycle panel shown s t (stepped.Wrote write) true w known).0 refl)

pub miss_of_write : (b : Condition) (cycle : ℕ) (panel shown : Face) (s t : State) (answer : Stepped) (write : ChannelWrite) → answer ≡ stepped.Wrote write
    → IsOnWrite b → (t, answer) ≡ next_before cycle s → shown ≡ shown_after (stepped.Wrote write) panel → Tests b panel answer false
    → HasAdvanced b cycle panel shown s t None
miss_of_write b cycle panel shown s t answer write is on next e test =
    let w = to_write cycle s t (stepped.Wrote write) (subst (λ (a : Stepped). (t, a) ≡ next_before cycle s) is next) in
    let known : Tests b panel (stepped.Wrote write) false = subst (λ (a : Stepped). Tests b panel a false) is test in
    write_misses b cycle panel shown s t (stepped.Wrote write) on w e
    (λ meets. let both : false ≡ true = (tested b cycle panel shown s t (stepped.Wrote write) false w known).1 meets in cc)

pub miss_otherwise : (b : Condition) (cycle : ℕ) (panel : Face) (s t : State) (answer : Stepped) → IsOnWrite b → (t, answer) ≡ next_before cycle s
    → ((write : ChannelWrite) → answer ≡ stepped.Wrote write → ⊥) → HasAdvanced b cycle panel panel s t None
miss_otherwise b cycle panel s t stepped.Quiet on next none = quiet_misses b cycle panel panel s t on (to_write cycle s t stepped.Quiet next) refl
miss_otherwise b cycle panel s t (stepped.Stopped why) on next none =
    stop_misses b cycle panel panel s t why on (to_write cycle s t (stepped.Stopped why) next) refl
miss_otherwise b cycle panel s t (stepped.Wrote write) on next none = absurd (none write refl)
