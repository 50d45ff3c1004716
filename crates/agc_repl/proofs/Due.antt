-- The events of the script that are due, one after another, and whether a machine then takes an event.
use Rattle.std.specs.Prelude.{◌≡◌, ℕ, zero, suc, ◌<◌, nat_lt, Bool, true, false, ◌&&◌, List, [], ◌∷◌, is_none, Option, None, Some, if◌then◌else◌}
use Rattle.std.proofs.Common.{refl, ap, sym, subst, ◌∙◌, arith, inl, inr}
use Rattle.std.proofs.lemmas.Bool.Decides.{leb_tells, nat_tests}
use Rattle.agc_machine.specs.Boundary.{IsBefore, WantsKey, boundary, carried_out, due_event, unless_stopped, upcoming_of}
use Rattle.agc_machine.specs.Replay.{writes_in}
use Rattle.agc_machine.specs.State.{State}
use Rattle.agc_machine.specs.declared.answer.Stepped.{Stepped}
use Rattle.agc_machine.specs.declared.answer.Stepped.TheVariants as stepped
use Rattle.agc_machine.specs.declared.answer.Stop.{Stop}
use Rattle.agc_machine.specs.declared.upcoming.Upcoming.{Upcoming}
use Rattle.agc_machine.specs.declared.upcoming.Upcoming.TheVariants as upcoming
use Rattle.agc_machine.proofs.Cases.{upcoming_comes}
use Rattle.agc_script.specs.declared.event.Event.{Event}
use Rattle.agc_script.specs.declared.event.What.{What}
use Rattle.agc_session.specs.Session.{SessionState}
use Rattle.agc_repl.specs.Repl.{due_within, gone_on, is_event, takes_event}
use Rattle.agc_repl.specs.declared.repl.Repl.{Repl}

-- an event writes nothing
quiet_by : (u : Upcoming) (s : State) → is_event u ≡ true → (carried_out u s).1 ≡ stepped.Quiet
quiet_by (upcoming.Event what) s h = refl
quiet_by (upcoming.Stop why) s h = cc
quiet_by (upcoming.Timer t) s h = cc
quiet_by (upcoming.Interrupt r) s h = cc
quiet_by (upcoming.Order order) s h = cc

quiet_unless : (stopped : Option Stop) (s : State) → s.stopped ≡ stopped → is_event (upcoming_of s) ≡ true → (unless_stopped stopped s).1 ≡ stepped.Quiet
quiet_unless (Some why) s e h =
    let none : is_event (upcoming_of s) ≡ false = ap is_event ((upcoming_comes s).stays why e) in cc
quiet_unless None s e h = quiet_by (upcoming_of s) (record s { begun = true }) h

quiet : (s : State) → is_event (upcoming_of s) ≡ true → (boundary None s).1 ≡ stepped.Quiet
unfolding boundary
quiet s h = quiet_unless s.stopped s refl h

if_event : (b : Bool) (x y : SessionState) → b ≡ true → (if b then x else y) ≡ x
if_event true x y e = refl
if_event false x y e = cc

if_no_event : (b : Bool) (x y : SessionState) → b ≡ false → (if b then x else y) ≡ y
if_no_event true x y e = cc
if_no_event false x y e = refl

due_on : (m n : ℕ) (s t : SessionState) → m ≡ suc n → is_event (upcoming_of s.now) ≡ true → t ≡ record s { now = (boundary None s.now).0 }
    → due_within m s ≡ due_within n t
unfolding due_within
due_on m n s t c h e =
    ap (λ (x : ℕ). due_within x s) c ∙ if_event (is_event (upcoming_of s.now)) _ s h ∙ ap (due_within n) (sym e)

pub due_ends : (m : ℕ) (s : SessionState) → is_event (upcoming_of s.now) ≡ false → due_within m s ≡ s
unfolding due_within
due_ends zero s h = refl
due_ends (suc m) s h = if_no_event (is_event (upcoming_of s.now)) _ s h

pub due_none : (m : ℕ) (s : SessionState) → m ≡ zero → due_within m s ≡ s
unfolding due_within
due_none m s e = ap (λ (x : ℕ). due_within x s) e

-- one more has happened
gone_quietly : (s u : Repl) (answer : Stepped) → answer ≡ stepped.Quiet → u ≡ gone_on u.session.now (writes_in (answer ∷ [])) s
    → u ≡ record s { session = record s.session { now = u.session.now } }
unfolding gone_on writes_in
gone_quietly s u answer q e = e ∙ ap (λ (a : Stepped). gone_on u.session.now (writes_in (a ∷ [])) s) q

pub due_more : (m n : ℕ) (i s u : Repl) (answer : Stepped) (next : Upcoming) (whole : Repl) → m ≡ suc n → next ≡ upcoming_of s.session.now → is_event next ≡ true
    → (u.session.now, answer) ≡ boundary None s.session.now → u ≡ gone_on u.session.now (writes_in (answer ∷ [])) s
    → record s { session = due_within m s.session } ≡ whole → record u { session = due_within n u.session } ≡ whole
due_more m n i s u answer next whole c t h b e w =
    let due : is_event (upcoming_of s.session.now) ≡ true = subst (λ (x : Upcoming). is_event x ≡ true) t h in
    let shown : answer ≡ stepped.Quiet = ap (λ (r : State × Stepped). r.1) b ∙ quiet s.session.now due in
    let gone = gone_quietly s u answer shown e in
    let there : u.session ≡ record s.session { now = (boundary None s.session.now).0 } =
    ap (λ (x : Repl). x.session) gone ∙ ap (λ (r : State × Stepped). record s.session { now = r.0 }) b in
    let same : u.writes ≡ s.writes = ap (λ (x : Repl). x.writes) gone in
    let settings : u.settings ≡ s.settings = ap (λ (x : Repl). x.settings) gone in
    let rest : due_within m s.session ≡ due_within n u.session = due_on m n s.session u.session c due there in
    rw (same, settings, sym rest) w

pub not_event : (u : Upcoming) → ((what : What) → u ≡ upcoming.Event what → ⊥) → is_event u ≡ false
not_event (upcoming.Event what) h = absurd (h what refl)
not_event (upcoming.Stop why) h = refl
not_event (upcoming.Timer t) h = refl
not_event (upcoming.Interrupt r) h = refl
not_event (upcoming.Order order) h = refl

-- a machine takes an event when it wants one
none_due : (cycle : ℕ) (events : List Event) → is_none (due_event cycle events) ≡ true → IsBefore cycle events
none_due cycle [] h = tt
none_due cycle (event ∷ events) h =
    elim (leb_tells event.cycle cycle) as (λ _. cycle < event.cycle) [
      | inl w ↦ let never : false ≡ true = rw w.0 at h in cc
      | inr w ↦ omega (arith, w.1)
    ]

no_event_due : (cycle : ℕ) (events : List Event) → IsBefore cycle events → is_none (due_event cycle events) ≡ true
no_event_due cycle [] h = refl
no_event_due cycle (event ∷ events) h =
    elim (leb_tells event.cycle cycle) as (λ _. is_none (due_event cycle (event ∷ events)) ≡ true) [
      | inl w ↦ absurd (omega (arith, w.1, h))
      | inr w ↦ rw w.0 refl
    ]

all_hold : (stopped : Option Stop) (b c : Bool) → (is_none stopped && b && c) ≡ true → (stopped ≡ None) × (b ≡ true) × (c ≡ true)
all_hold None true true h = (refl, refl, refl)
all_hold None true false h = cc
all_hold None false c h = cc
all_hold (Some why) b c h = cc

hold_all : (stopped : Option Stop) (b c : Bool) → stopped ≡ None → b ≡ true → c ≡ true → (is_none stopped && b && c) ≡ true
hold_all stopped b c e f g = rw (e, f, g) refl

less_of : (m n : ℕ) → nat_lt m n ≡ true → m < n
less_of m n h = grind (arith, nat_tests)

is_less_of : (m n : ℕ) → m < n → nat_lt m n ≡ true
is_less_of m n h = grind (arith, nat_tests)

pub wants_if_taken : (s : State) → takes_event s ≡ true → WantsKey s
wants_if_taken s h =
    let all = all_hold s.stopped (nat_lt s.cycle s.limit) (is_none (due_event s.cycle s.events)) h in
    record { runs = all.0; below = less_of s.cycle s.limit all.1; none_due = none_due s.cycle s.events all.2 }

pub taken_if_wants : (s : State) → WantsKey s → takes_event s ≡ true
taken_if_wants s w =
    hold_all s.stopped (nat_lt s.cycle s.limit) (is_none (due_event s.cycle s.events)) w.runs (is_less_of s.cycle s.limit w.below) (no_event_due s.cycle s.events w.none_due)

not_true : (b : Bool) → (b ≡ true → ⊥) → b ≡ false
not_true true h = absurd (h refl)
not_true false h = refl

pub not_taken : (s : State) → (WantsKey s → ⊥) → takes_event s ≡ false
not_taken s h = not_true (takes_event s) (λ e. h (wants_if_taken s e))
