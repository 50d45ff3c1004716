-- Orders that trigger no watch do not hit a condition, so only the boundary after them may.
use Rattle.std.specs.Prelude.{◌≡◌, ℕ, zero, suc, ◌+◌, ◌<◌, ◌%◌, ◌&&◌, ◌||◌, nat_eq, [], Option, None, Some, IsTrue, Bool, true, false, not}
use Rattle.std.proofs.Common.{refl, ap, sym, subst, ◌∙◌, arith, inl, inr}
use Rattle.std.proofs.lemmas.Bool.{eqb-true}
use Rattle.std.proofs.lemmas.Bool.Decides.{nat_tests}
use Rattle.agc_listing.specs.declared.location.Location.{Location}
use Rattle.agc_word.specs.Number.{Number, pattern_of}
use Rattle.agc_processor.specs.Processor.{z_at}
use Rattle.agc_processor.specs.declared.interrupt.Rupt.{Rupt}
use Rattle.agc_machine.specs.Boundary.{boundary, upcoming_of}
use Rattle.agc_machine.specs.Laws.{after}
use Rattle.agc_machine.specs.OrderRun.{ArePassed, IsAtOrder, IsPassed, is_triggered}
use Rattle.agc_machine.specs.State.{State}
use Rattle.agc_machine.specs.declared.answer.Stepped.{Stepped}
use Rattle.agc_machine.specs.declared.order_run.Watch.{Watch}
use Rattle.agc_machine.specs.declared.order_run.Watch.TheVariants as watch
use Rattle.agc_machine.specs.declared.upcoming.Upcoming.{Upcoming}
use Rattle.agc_panel.specs.declared.face.Face.{Face}
use Rattle.agc_session.specs.Comparison.{holds_in, same_word, word_at}
use Rattle.agc_session.specs.Condition.{AreHits, Meets, is_caller, is_changed, is_order_at, is_service_of, panel_after, place_number, window_address}
use Rattle.agc_session.specs.Search.{HasAdvanced, HasPassed}
use Rattle.agc_session.specs.Session.{BeginBefore, shown_after}
use Rattle.agc_session.specs.declared.comparison.Comparison.{Comparison}
use Rattle.agc_session.specs.declared.condition.Caller.{Caller}
use Rattle.agc_session.specs.declared.condition.Condition.{Condition}
use Rattle.agc_session.specs.declared.condition.Condition.TheVariants as condition
use Rattle.agc_session.proofs.Advancing.{AreMissed, AreQuiet, last_hits, last_misses, none_missed}
use Rattle.agc_session.proofs.Places.{address_of_order}

-- one boundary
passes_from : (watch : Watch) (cycle : ℕ) (panel shown : Face) (s t : State) (began : ℕ) → t ≡ (boundary None s).0 → shown ≡ panel_after panel s
    → began ≡ s.cycle → HasPassed watch cycle panel shown s t began
unfolding after ArePassed
passes_from watch cycle panel shown s t began e p c = record {
  more = 0;
  passed = tt;
  last = λ some. absurd (omega (arith, some));
  begins = c;
  now = e;
  panel_now = p;
}

pub passes_one : (watch : Watch) (cycle : ℕ) (panel shown : Face) (s same t : State) (began : ℕ) → same ≡ s → t ≡ (boundary None same).0
    → shown ≡ panel_after panel same → began ≡ same.cycle → HasPassed watch cycle panel shown s t began
passes_one watch cycle panel shown s same t began e now p c =
    subst (λ (x : State). HasPassed watch cycle panel shown x t began) e (passes_from watch cycle panel shown same t began now p c)

pub one_hit : (b : Condition) (cycle : ℕ) (panel shown : Face) (s t : State) (began : ℕ) → s.stopped ≡ None → t ≡ (boundary None s).0
    → shown ≡ panel_after panel s → began ≡ s.cycle → Meets b panel s → HasAdvanced b cycle panel shown s t (Some began)
unfolding after
one_hit b cycle panel shown s t began runs e p c meets = last_hits b cycle 0 panel shown s t began (none_missed b cycle panel s) e p runs c meets

-- one boundary that does not hit
pub one_misses : (b : Condition) (cycle : ℕ) (panel shown : Face) (s t : State) → t ≡ (boundary None s).0 → shown ≡ panel_after panel s
    → (Meets b panel s → ⊥) → HasAdvanced b cycle panel shown s t None
unfolding after
one_misses b cycle panel shown s t e p miss = last_misses b cycle 0 panel shown s t (none_missed b cycle panel s) e p miss

first_true : (a b : Bool) → (a && b) ≡ true → a ≡ true
first_true true b e = refl
first_true false b e = cc

second_true : (a b : Bool) → (a && b) ≡ true → b ≡ true
second_true true b e = e
second_true false b e = cc

both_true : (a b : Bool) → a ≡ true → b ≡ true → (a && b) ≡ true
both_true true b e f = f
both_true false b e f = cc

pub order_meets : (place : Location) (panel : Face) (s : State) → is_order_at place (upcoming_of s) ≡ true → Meets (condition.Order place) panel s
unfolding Meets
order_meets place panel s h = h

pub order_if_meets : (place : Location) (c : Comparison) (panel : Face) (s : State) → is_order_at place (upcoming_of s) ≡ true
    → holds_in s.processor.store c ≡ true → Meets (condition.OrderIf place c) panel s
unfolding Meets
order_if_meets place c panel s e f = both_true (is_order_at place (upcoming_of s)) (holds_in s.processor.store c) e f

pub order_if_misses : (place : Location) (c : Comparison) (panel : Face) (s : State) → holds_in s.processor.store c ≡ false
    → Meets (condition.OrderIf place c) panel s → ⊥
unfolding Meets
order_if_misses place c panel s e h =
    let both : true ≡ false = sym (second_true (is_order_at place (upcoming_of s)) (holds_in s.processor.store c) h) ∙ e in cc

pub caller_meets : (c : Caller) (panel : Face) (s : State) → is_caller c s ≡ true → Meets (condition.Caller c) panel s
unfolding Meets
caller_meets c panel s h = h

pub caller_misses : (c : Caller) (panel : Face) (s : State) → is_caller c s ≡ false → Meets (condition.Caller c) panel s → ⊥
unfolding Meets
caller_misses c panel s e h = let both : true ≡ false = sym h ∙ e in cc

pub service_meets : (which : Option Rupt) (panel : Face) (s : State) → is_service_of which (upcoming_of s) ≡ true
    → Meets (condition.Interrupt which) panel s
unfolding Meets
service_meets which panel s h = h

-- Orders that trigger no watch miss a condition, if something that rules out a hit stays true.
abbrev pub RulesOut : Condition → Watch → ℕ → (State → Type 0) → Type 0
RulesOut b watch cycle clear =
    (panel : Face) (t : State) → clear t → IsPassed watch cycle t → (Meets b panel t → ⊥) × clear (boundary None t).0

all_missed : (b : Condition) (watch : Watch) (cycle : ℕ) (clear : State → Type 0) → RulesOut b watch cycle clear
    → (n : ℕ) (panel : Face) (s : State) → clear s → ArePassed watch cycle n s → AreMissed b cycle n panel s × clear (after n s)
unfolding after AreHits ArePassed AreQuiet BeginBefore
all_missed b watch cycle clear rules zero panel s c h = (none_missed b cycle panel s, c)
all_missed b watch cycle clear rules (suc n) panel s c h =
    let next = rules panel s c h.0 in
    let same : panel_after panel s ≡ panel = ap (λ (answer : Stepped). shown_after answer panel) h.0.quiet in
    let rest = all_missed b watch cycle clear rules n panel (boundary None s).0 next.1 h.1 in
    let none : AreHits b n (panel_after panel s) (boundary None s).0 [] =
    subst (λ (p : Face). AreHits b n p (boundary None s).0 []) (sym same) rest.0.none in (
      record {
        quiet = (h.0.quiet, rest.0.quiet);
        before = (h.0.before, rest.0.before);
        none = ([], [], inr (λ hit. next.0 hit.meets, refl), none, refl);
      },
      rest.1,
    )

runs_last : (n : ℕ) (s : State) → s.stopped ≡ None → (0 < n → IsAtOrder (after n s)) → (after n s).stopped ≡ None
unfolding after
runs_last zero s runs last = runs
runs_last (suc n) s runs last = (last (omega arith)).runs

-- an order is no service
not_service : (which : Option Rupt) (s : State) → IsAtOrder s → IsTrue (is_service_of which (upcoming_of s)) → ⊥
not_service which s order h =
    let both : true ≡ false = sym h ∙ ap (λ (u : Upcoming). is_service_of which u) order.comes in cc

service_rules : (which : Option Rupt) (watch : Watch) (cycle : ℕ) → RulesOut (condition.Interrupt which) watch cycle (λ s. Unit {0})
unfolding Meets
service_rules which watch cycle panel t c p = (not_service which t p.order, tt)

last_service : (which : Option Rupt) (n : ℕ) (panel : Face) (s : State) → (0 < n → IsAtOrder (after n s))
    → (IsTrue (is_service_of which (upcoming_of s)) → ⊥) → Meets (condition.Interrupt which) panel (after n s) → ⊥
unfolding Meets after
last_service which zero panel s last none h = none h
last_service which (suc n) panel s last none h = not_service which (after (suc n) s) (last (omega arith)) h

pub no_service : (which : Option Rupt) (watch : Watch) (cycle : ℕ) (panel shown : Face) (s t : State) (began : ℕ)
    → HasPassed watch cycle panel shown s t began → is_service_of which (upcoming_of s) ≡ false
    → HasAdvanced (condition.Interrupt which) cycle panel shown s t None
no_service which watch cycle panel shown s t began h none =
    let way = all_missed (condition.Interrupt which) watch cycle (λ s. Unit {0}) (service_rules which watch cycle) h.more panel s tt h.passed in
    last_misses (condition.Interrupt which) cycle h.more panel shown s t way.0 h.now h.panel_now
    (last_service which h.more panel s h.last (λ k. let both : true ≡ false = sym k ∙ none in cc))

-- Z rules out the order at a place
abbrev IsElsewhere : Location → State → Type 0
IsElsewhere place s = IsTrue (is_order_at place (upcoming_of s)) → ⊥

either_known : (a b : Bool) → (a || b) ≡ false → (a ≡ false) × (b ≡ false)
either_known true b e = cc
either_known false b e = (refl, e)

different : (one other : ℕ) → nat_eq one other ≡ false → one ≡ other → ⊥
different one other e same = let both : nat_eq one other ≡ true = grind (arith, nat_tests) in let never : true ≡ false = sym both ∙ e in cc

elsewhere_by : (z own window : ℕ) (place : Location) (s : State) → z ≡ (z_at s.processor + 0o7777) % 0o10000 → own ≡ place_number place
    → window ≡ window_address place → nat_eq z own ≡ false → nat_eq z window ≡ false → IsElsewhere place s
elsewhere_by z own window place s e o w not_own not_window h =
    elim (address_of_order s place h) as (λ _. ⊥) [
      | inl k ↦ different z own not_own (e ∙ k ∙ sym o)
      | inr k ↦ different z window not_window (e ∙ k ∙ sym w)
    ]

elsewhere : (own window : ℕ) (place : Location) (s : State) → own ≡ place_number place → window ≡ window_address place
    → is_triggered (watch.Next own window) s.processor.store ≡ false → IsElsewhere place s
elsewhere own window place s o w e =
    let z : ℕ = (z_at s.processor + 0o7777) % 0o10000 in
    let both = either_known (nat_eq z own) (nat_eq z window) e in
    elsewhere_by z own window place s refl o w both.0 both.1

-- the watch for the order at a place
abbrev pub watch_at : Location → Watch
watch_at place = watch.Next (place_number place) (window_address place)

-- only the order at a place hits a condition
abbrev pub NeedsOrder : Location → Condition → Type 0
NeedsOrder place b = (panel : Face) (s : State) → Meets b panel s → IsTrue (is_order_at place (upcoming_of s))

pub order_needs : (place : Location) → NeedsOrder place (condition.Order place)
unfolding Meets
order_needs place panel s h = h

pub order_if_needs : (place : Location) (c : Comparison) → NeedsOrder place (condition.OrderIf place c)
unfolding Meets
order_if_needs place c panel s h = first_true (is_order_at place (upcoming_of s)) (holds_in s.processor.store c) h

order_rules : (b : Condition) (place : Location) (cycle : ℕ) → NeedsOrder place b → RulesOut b (watch_at place) cycle (IsElsewhere place)
order_rules b place cycle needs panel t c p =
    (λ h. c (needs panel t h), elsewhere (place_number place) (window_address place) place (boundary None t).0 refl refl p.unseen)

pub no_order : (b : Condition) (w : Watch) (place : Location) (cycle : ℕ) (panel shown : Face) (s t : State) (began : ℕ) → NeedsOrder place b
    → w ≡ watch_at place → HasPassed w cycle panel shown s t began → is_order_at place (upcoming_of s) ≡ false → HasAdvanced b cycle panel shown s t None
no_order b w place cycle panel shown s t began needs is way none =
    let h : HasPassed (watch_at place) cycle panel shown s t began = subst (λ (x : Watch). HasPassed x cycle panel shown s t began) is way in
    let missed = all_missed b (watch_at place) cycle (IsElsewhere place) (order_rules b place cycle needs) h.more panel s
    (λ k. let both : true ≡ false = sym k ∙ none in cc) h.passed in
    last_misses b cycle h.more panel shown s t missed.0 h.now h.panel_now (λ k. missed.1 (needs panel (after h.more s) k))

-- a cell keeps its word
abbrev HasWord : ℕ → Number → State → Type 0
HasWord cell word s = pattern_of 15 word ≡ pattern_of 15 (word_at cell s.processor.store)

not_false : (b : Bool) → not b ≡ false → b ≡ true
not_false true e = refl
not_false false e = cc

pub keeps_word : (cell : ℕ) (word : Number) (s : State) → not (same_word (word_at cell s.processor.store) word) ≡ false → HasWord cell word s
keeps_word cell word s e =
    sym (eqb-true (pattern_of 15 (word_at cell s.processor.store)) (pattern_of 15 word)
    (not_false (nat_eq (pattern_of 15 (word_at cell s.processor.store)) (pattern_of 15 word)) e))

changed_by : (cell : ℕ) (word : Number) (s t : State) → HasWord cell word s
    → not (same_word (word_at cell t.processor.store) word) ≡ is_changed cell s.processor.store t.processor.store
changed_by cell word s t h = ap (λ (n : ℕ). not (nat_eq (pattern_of 15 (word_at cell t.processor.store)) n)) h

cell_misses : (cell : ℕ) (word : Number) (panel : Face) (s t : State) → HasWord cell word s → t ≡ (boundary None s).0
    → not (same_word (word_at cell t.processor.store) word) ≡ false → Meets (condition.Cell cell) panel s → ⊥
unfolding Meets
cell_misses cell word panel s t h e same meets =
    let here : not (same_word (word_at cell t.processor.store) word) ≡ is_changed cell s.processor.store (boundary None s).0.processor.store =
    changed_by cell word s t h ∙ ap (λ (x : State). is_changed cell s.processor.store x.processor.store) e in
    let both : true ≡ false = sym meets ∙ sym here ∙ same in cc

cell_hits : (cell : ℕ) (word : Number) (panel : Face) (s t : State) → HasWord cell word s → t ≡ (boundary None s).0
    → not (same_word (word_at cell t.processor.store) word) ≡ true → Meets (condition.Cell cell) panel s
unfolding Meets
cell_hits cell word panel s t h e other =
    let here : not (same_word (word_at cell t.processor.store) word) ≡ is_changed cell s.processor.store (boundary None s).0.processor.store =
    changed_by cell word s t h ∙ ap (λ (x : State). is_changed cell s.processor.store x.processor.store) e in
    sym here ∙ other

cell_rules : (cell : ℕ) (word : Number) (cycle : ℕ) → RulesOut (condition.Cell cell) (watch.Change cell word) cycle (HasWord cell word)
cell_rules cell word cycle panel t c p =
    (cell_misses cell word panel t (boundary None t).0 c refl p.unseen, keeps_word cell word (boundary None t).0 p.unseen)

pub no_change : (cell : ℕ) (word : Number) (cycle : ℕ) (panel shown : Face) (s t : State) (began : ℕ)
    → HasPassed (watch.Change cell word) cycle panel shown s t began → HasWord cell word s
    → not (same_word (word_at cell t.processor.store) word) ≡ false → HasAdvanced (condition.Cell cell) cycle panel shown s t None
no_change cell word cycle panel shown s t began h w same =
    let way = all_missed (condition.Cell cell) (watch.Change cell word) cycle (HasWord cell word) (cell_rules cell word cycle) h.more panel s w h.passed in
    last_misses (condition.Cell cell) cycle h.more panel shown s t way.0 h.now h.panel_now
    (cell_misses cell word panel (after h.more s) t way.1 h.now same)

pub last_changes : (cell : ℕ) (word : Number) (cycle : ℕ) (panel shown : Face) (s t : State) (began : ℕ)
    → HasPassed (watch.Change cell word) cycle panel shown s t began → s.stopped ≡ None → HasWord cell word s
    → not (same_word (word_at cell t.processor.store) word) ≡ true → HasAdvanced (condition.Cell cell) cycle panel shown s t (Some began)
last_changes cell word cycle panel shown s t began h runs w other =
    let way = all_missed (condition.Cell cell) (watch.Change cell word) cycle (HasWord cell word) (cell_rules cell word cycle) h.more panel s w h.passed in
    last_hits (condition.Cell cell) cycle h.more panel shown s t began way.0 h.now h.panel_now (runs_last h.more s runs h.last) h.begins
    (cell_hits cell word panel (after h.more s) t way.1 h.now other)
