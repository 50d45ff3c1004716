-- The run of a console boundary by boundary, and write by write.
use Rattle.std.specs.Prelude.{◌≡◌, ℕ, zero, suc, ◌<◌, ◌≤◌, Bool, true, false, not, cond, is_some, ◌||◌, All, IfSome, List, [], ◌∷◌, ◌++◌, map, Option, None, Some, if◌then◌else◌}
use Rattle.std.specs.Io.KnownBytes.{Appends}
use Rattle.std.specs.List.{list_any}
use Rattle.std.proofs.Common.{refl, ap, sym, subst, ◌∙◌, arith, inl, inr}
use Rattle.std.proofs.KnownBytes.{Appends-trans}
use Rattle.std.proofs.lemmas.Bool.Decides.{leb_tells}
use Rattle.std.proofs.lemmas.List.Concat.{flat_map-append}
use Rattle.std.proofs.lemmas.List.Elements.{All-cons, All-head, All-nil, All-tail}
use Rattle.agc_word.specs.Number.{Number}
use Rattle.agc_machine.specs.Boundary.{boundary}
use Rattle.agc_machine.specs.Replay.{writes_in}
use Rattle.agc_machine.specs.Run.{boundaries_left, next_before, next_before_within, while_quiet_before}
use Rattle.agc_machine.specs.State.{State}
use Rattle.agc_machine.specs.declared.answer.Stepped.{Stepped}
use Rattle.agc_machine.specs.declared.answer.Stepped.TheVariants as stepped
use Rattle.agc_machine.specs.declared.answer.Stop.{Stop}
use Rattle.agc_machine.proofs.Chain.{some_left, stopped_stays}
use Rattle.agc_machine.proofs.Live.{written}
use Rattle.agc_panel.specs.declared.face.Face.{Face}
use Rattle.agc_session.specs.Condition.{AreArmedInRange, IsConditionInRange, armed_in, first_hit, is_hit, is_hit_as, is_on_write, needs_each, next_stretch}
use Rattle.agc_session.specs.Session.{HasGone, SessionState, shown_after}
use Rattle.agc_session.specs.declared.condition.Armed.{Armed}
use Rattle.agc_session.specs.declared.condition.Condition.{Condition}
use Rattle.agc_session.specs.declared.condition.Condition.TheVariants as condition
use Rattle.agc_trace.proofs.Lines.{IsWritten, nothing_written, written_more, written_whole}
use Rattle.agc_command.specs.Command.{IsBreakpointInRange}
use Rattle.agc_repl.specs.Repl.{Advances, after_run, counted, gone_on, run_of, turns_left}
use Rattle.agc_repl.specs.Run.{AreSound, Run, armed_by, is_short_of, no_run, run_from, run_line, run_on, run_to, run_within, writes_text}
use Rattle.agc_repl.specs.Settings.{AreInRange}
use Rattle.agc_repl.specs.declared.repl.Repl.{Repl}
use Rattle.agc_repl.specs.declared.settings.Numbered.{Numbered}
use Rattle.agc_repl.proofs.Going.{Reaches, advances_before, advances_by_boundary, gone_nowhere, gone_then, no_more, on_the_way, reach_before, reach_boundary, shows, under_way, unstopped}

if_same : (b : Bool) (x y z : Run) → (b ≡ true → x ≡ y) → (if b then x else z) ≡ (if b then y else z)
if_same true x y z h = h refl
if_same false x y z h = refl

if_never : (b : Bool) (x z : Run) → (b ≡ true → ⊥) → (if b then x else z) ≡ z
if_never true x z h = absurd (h refl)
if_never false x z h = refl

if_true : (b : Bool) (x z : Run) → b ≡ true → (if b then x else z) ≡ x
if_true true x z e = refl
if_true false x z e = cc

if_false : (b : Bool) (x z : Run) → b ≡ false → (if b then x else z) ≡ z
if_false true x z e = cc
if_false false x z e = refl

-- a machine that has no turn left has stopped or reached its cycle
pub no_turn_left : (cycle : ℕ) (s : State) → turns_left s ≤ 0 → is_short_of cycle s ≡ true → ⊥
no_turn_left cycle s h b =
    let on = under_way cycle s b in
    absurd (omega (arith, h, some_left s, unstopped s.stopped (boundaries_left s) on.1))

pub fewer_turns : (cycle : ℕ) (s : State) → is_short_of cycle s ≡ true → turns_left (boundary None s).0 < turns_left s
fewer_turns cycle s b = advances_by_boundary s (boundary None s).0 (boundary None s).1 refl (under_way cycle s b).1

-- the rest of a run after a boundary
rest_of : List Armed → ℕ → Face → State × Stepped → Run
rest_of k cycle p next = run_to k cycle (shown_after next.1 p) next.0

-- with enough boundaries, more make no difference
same_run : (n m : ℕ) (k : List Armed) (cycle : ℕ) (p : Face) (s : State) → turns_left s ≤ n → turns_left s ≤ m
    → run_within n k cycle p s ≡ run_within m k cycle p s
unfolding run_within
same_run zero zero k cycle p s h i = refl
same_run zero (suc m) k cycle p s h i = sym (if_never (is_short_of cycle s) _ (no_run s) (no_turn_left cycle s (omega (arith, h))))
same_run (suc n) zero k cycle p s h i = if_never (is_short_of cycle s) _ (no_run s) (no_turn_left cycle s (omega (arith, i)))
same_run (suc n) (suc m) k cycle p s h i =
    if_same (is_short_of cycle s) _ _ (no_run s)
    (λ b. ap (run_from k p (boundary None s))
    (same_run n m k cycle (shown_after (boundary None s).1 p) (boundary None s).0 (omega (arith, h, fewer_turns cycle s b)) (omega (arith, i, fewer_turns cycle s b))))

by_boundary : (k : List Armed) (cycle : ℕ) (p : Face) (s : State)
    → run_to k cycle p s ≡ (if is_short_of cycle s then run_from k p (boundary None s) (rest_of k cycle p (boundary None s)) else no_run s)
unfolding run_to run_within rest_of
by_boundary k cycle p s =
    let some : turns_left s ≤ boundaries_left s = no_more s.stopped (boundaries_left s) in
    let next = (boundary None s).0 in
    same_run (boundaries_left s) (suc (boundaries_left s)) k cycle p s some (omega (arith, some))
    ∙ if_same (is_short_of cycle s) _ _ (no_run s)
    (λ b. ap (run_from k p (boundary None s))
    (same_run (boundaries_left s) (boundaries_left next) k cycle (shown_after (boundary None s).1 p) next (omega (arith, some, fewer_turns cycle s b)) (no_more next.stopped (boundaries_left next))))

way_on : (k : List Armed) (cycle : ℕ) (p : Face) (s : State) (r : State × Stepped) → is_short_of cycle s ≡ true → r ≡ boundary None s
    → run_to k cycle p s ≡ run_from k p r (rest_of k cycle p r)
way_on k cycle p s r b e =
    by_boundary k cycle p s ∙ if_true (is_short_of cycle s) _ _ b ∙ ap (λ (x : State × Stepped). run_from k p x (rest_of k cycle p x)) (sym e)

pub way_ends : (k : List Armed) (cycle : ℕ) (p : Face) (s : State) → is_short_of cycle s ≡ false → run_to k cycle p s ≡ no_run s
way_ends k cycle p s b = by_boundary k cycle p s ∙ if_false (is_short_of cycle s) _ _ b

-- conditions that only a write can hit
abbrev pub ComeByWrites : List Armed → Type 0
ComeByWrites k =
    (p : Face) (s : State) → (first_hit k p s stepped.Quiet ≡ None) × ((why : Stop) → first_hit k p s (stepped.Stopped why) ≡ None)

no_quiet : (c : Condition) (before : Option Number) (p : Face) (s : State) → is_on_write c ≡ true → is_hit_as c before p s stepped.Quiet ≡ false
no_quiet (condition.Write channel word) before p s e = refl
no_quiet condition.Panel before p s e = refl
no_quiet (condition.Shows line) before p s e = refl
no_quiet condition.Boundary before p s e = cc
no_quiet (condition.Order place) before p s e = cc
no_quiet (condition.OrderIf place comparison) before p s e = cc
no_quiet (condition.Caller caller) before p s e = cc
no_quiet (condition.Cell cell) before p s e = cc
no_quiet (condition.Interrupt which) before p s e = cc

no_stop : (c : Condition) (before : Option Number) (p : Face) (s : State) (why : Stop) → is_on_write c ≡ true → is_hit_as c before p s (stepped.Stopped why) ≡ false
no_stop (condition.Write channel word) before p s why e = refl
no_stop condition.Panel before p s why e = refl
no_stop (condition.Shows line) before p s why e = refl
no_stop condition.Boundary before p s why e = cc
no_stop (condition.Order place) before p s why e = cc
no_stop (condition.OrderIf place comparison) before p s why e = cc
no_stop (condition.Caller caller) before p s why e = cc
no_stop (condition.Cell cell) before p s why e = cc
no_stop (condition.Interrupt which) before p s why e = cc

first_is : (a : Bool) (rest : Bool) → (not a || rest) ≡ false → a ≡ true
first_is true rest e = refl
first_is false rest e = cc

rest_is : (a : Bool) (rest : Bool) → (not a || rest) ≡ false → rest ≡ false
rest_is true rest e = e
rest_is false rest e = cc

skips : (b : Bool) (x : Armed) (rest : Option Armed) → b ≡ false → cond b (Some x) rest ≡ rest
skips b x rest e = rw e refl

pub come_by_writes : (k : List Armed) → needs_each k ≡ false → ComeByWrites k
unfolding needs_each first_hit is_hit
come_by_writes [] e p s = (refl, λ why. refl)
come_by_writes (a ∷ k) e p s =
    let others = list_any (λ (x : Armed). not (is_on_write x.condition)) k in
    let first : is_on_write a.condition ≡ true = first_is (is_on_write a.condition) others e in
    let rest = come_by_writes k (rest_is (is_on_write a.condition) others e) p s in (
      skips (is_hit_as a.condition a.before p s stepped.Quiet) a _ (no_quiet a.condition a.before p s first) ∙ rest.0,
      λ why. skips (is_hit_as a.condition a.before p s (stepped.Stopped why)) a _ (no_stop a.condition a.before p s why first) ∙ rest.1 why,
    )

pub none_come : ComeByWrites []
unfolding first_hit
none_come p s = (refl, λ why. refl)

pub never_comes : (p : Face) (s : State) (answer : Stepped) → first_hit [] p s answer ≡ None
unfolding first_hit
never_comes p s answer = refl

quiet_on : (k : List Armed) (p : Face) (s : State) (run : Run) → first_hit k p s stepped.Quiet ≡ None → run_from k p (s, stepped.Quiet) run ≡ run
unfolding writes_in
quiet_on k p s run e = ap (λ (hit : Option Armed). run_on hit (s, stepped.Quiet) run) e

stop_on : (k : List Armed) (p : Face) (s : State) (why : Stop) (run : Run) → first_hit k p s (stepped.Stopped why) ≡ None
    → run_from k p (s, stepped.Stopped why) run ≡ run
unfolding writes_in
stop_on k p s why run e = ap (λ (hit : Option Armed). run_on hit (s, stepped.Stopped why) run) e

one_by : (k : List Armed) (cycle : ℕ) (p : Face) (s : State) (stopped : Option Stop) → ComeByWrites k → s.cycle < cycle → s.stopped ≡ stopped
    → run_to k cycle p s ≡ run_from k p (boundary None s) (rest_of k cycle p (boundary None s))
unfolding rest_of
one_by k cycle p s None c h e = way_on k cycle p s (boundary None s) (on_the_way cycle s h e) refl
one_by k cycle p s (Some why) c h e =
    sym (ap (λ (r : State × Stepped). run_from k p r (rest_of k cycle p r)) (stopped_stays s why e) ∙ stop_on k p s why (run_to k cycle p s) ((c p s).1 why))

-- before the cycle a boundary is a part of the run, even if the machine has stopped
one_on : (k : List Armed) (cycle : ℕ) (p : Face) (s : State) (r : State × Stepped) → ComeByWrites k → s.cycle < cycle → boundary None s ≡ r
    → run_to k cycle p s ≡ run_from k p r (rest_of k cycle p r)
one_on k cycle p s r c h e =
    one_by k cycle p s s.stopped c h refl ∙ ap (λ (x : State × Stepped). run_from k p x (rest_of k cycle p x)) e

pub one_boundary : (k : List Armed) (cycle : ℕ) (p : Face) (s : State) (r : State × Stepped) → ComeByWrites k → s.cycle < cycle → boundary None s ≡ r
    → run_to k cycle p s ≡ run_from k p r (run_to k cycle (shown_after r.1 p) r.0)
unfolding rest_of
one_boundary k cycle p s r c h e = one_on k cycle p s r c h e

run_by : (k : List Armed) (cycle : ℕ) (p : Face) (go : State → State × Stepped) (s : State) (r : State × Stepped) → ComeByWrites k → s.cycle < cycle → boundary None s ≡ r
    → ((t : State) → t.cycle < cycle → run_to k cycle p t ≡ run_from k p (go t) (rest_of k cycle p (go t)))
    → run_to k cycle p s ≡ run_from k p (while_quiet_before cycle go r) (rest_of k cycle p (while_quiet_before cycle go r))
unfolding rest_of
run_by k cycle p go s (t, stepped.Quiet) c h e f =
    elim (leb_tells cycle t.cycle) as (λ _. run_to k cycle p s ≡ run_from k p (while_quiet_before cycle go (t, stepped.Quiet)) (rest_of k cycle p (while_quiet_before cycle go (t, stepped.Quiet)))) [
      | inl w ↦ rw w.0 (one_on k cycle p s (t, stepped.Quiet) c h e)
      | inr w ↦ rw w.0 (one_on k cycle p s (t, stepped.Quiet) c h e ∙ quiet_on k p t (run_to k cycle p t) (c p t).0 ∙ f t (omega (arith, w.1)))
    ]
run_by k cycle p go s (t, stepped.Wrote write) c h e f = one_on k cycle p s (t, stepped.Wrote write) c h e
run_by k cycle p go s (t, stepped.Stopped why) c h e f = one_on k cycle p s (t, stepped.Stopped why) c h e

run_before : (n : ℕ) (k : List Armed) (cycle : ℕ) (p : Face) (s : State) → ComeByWrites k → s.cycle < cycle
    → run_to k cycle p s ≡ run_from k p (next_before_within n cycle s) (rest_of k cycle p (next_before_within n cycle s))
unfolding next_before_within rest_of
run_before zero k cycle p s c h = sym (quiet_on k p s (run_to k cycle p s) (c p s).0)
run_before (suc n) k cycle p s c h = run_by k cycle p (next_before_within n cycle) s (boundary None s) c h refl (λ t l. run_before n k cycle p t c l)

-- the next stretch is a part of the run
to_write : (k : List Armed) (cycle : ℕ) (p : Face) (s : State) (r : State × Stepped) → ComeByWrites k → is_short_of cycle s ≡ true → r ≡ next_before cycle s
    → run_to k cycle p s ≡ run_from k p r (rest_of k cycle p r)
unfolding next_before
to_write k cycle p s r c b e =
    run_before (boundaries_left s) k cycle p s c (under_way cycle s b).0 ∙ ap (λ (x : State × Stepped). run_from k p x (rest_of k cycle p x)) (sym e)

stretch_by : (each : Bool) (k : List Armed) (cycle : ℕ) (p : Face) (s : State) (r : State × Stepped) → needs_each k ≡ each → is_short_of cycle s ≡ true
    → r ≡ (if each then boundary None s else next_before cycle s) → run_to k cycle p s ≡ run_from k p r (rest_of k cycle p r)
stretch_by true k cycle p s r e b f = way_on k cycle p s r b f
stretch_by false k cycle p s r e b f = to_write k cycle p s r (come_by_writes k e) b f

stretch_advances : (each : Bool) (cycle : ℕ) (s t : State) (answer : Stepped) → (t, answer) ≡ (if each then boundary None s else next_before cycle s) → Advances s t
stretch_advances true cycle s t answer e = advances_by_boundary s t answer e
stretch_advances false cycle s t answer e = advances_before cycle s t answer e

pub advances_by : (k : List Armed) (cycle : ℕ) (s t : State) (answer : Stepped) → (t, answer) ≡ next_stretch k cycle s → Advances s t
advances_by k cycle s t answer e = stretch_advances (needs_each k) cycle s t answer e

stretch_reaches : (each : Bool) (cycle : ℕ) (s t : State) (answer : Stepped) → (t, answer) ≡ (if each then boundary None s else next_before cycle s) → Reaches s t
stretch_reaches true cycle s t answer e = reach_boundary s t answer e
stretch_reaches false cycle s t answer e = reach_before cycle s t answer e

pub reach_stretch : (k : List Armed) (cycle : ℕ) (s t : State) (answer : Stepped) → (t, answer) ≡ next_stretch k cycle s → Reaches s t
reach_stretch k cycle s t answer e = stretch_reaches (needs_each k) cycle s t answer e

-- a session has run on, and its write is counted
pub shown_by : (s t : Repl) (stretch : State × Stepped) (gone : SessionState) (answer noted : Stepped) → t.session ≡ gone → noted ≡ answer → HasGone s.session stretch answer gone
    → t.writes ≡ counted answer s.writes → t.settings ≡ s.settings → t ≡ gone_on t.session.now (writes_in (noted ∷ [])) s
shown_by s t stretch gone answer noted e f h n k =
    let shown = shows s t stretch answer (subst (HasGone s.session stretch answer) (sym e) h) n k in
    subst (λ (x : Stepped). t ≡ gone_on t.session.now (writes_in (x ∷ [])) s) (sym f) shown

-- the panel after a stretch
panel_gone : (last : State) (t : Repl) (answer : Stepped) → (gone_on last (writes_in (answer ∷ [])) t).session.panel ≡ shown_after answer t.session.panel
unfolding gone_on writes_in
panel_gone last t stepped.Quiet = refl
panel_gone last t (stepped.Wrote write) = refl
panel_gone last t (stepped.Stopped why) = refl

pub run_goes_on : (k : List Armed) (cycle : ℕ) (t u : Repl) (answer : Stepped) (hit : Option Armed) → is_short_of cycle t.session.now ≡ true
    → (u.session.now, answer) ≡ next_stretch k cycle t.session.now → u ≡ gone_on u.session.now (writes_in (answer ∷ [])) t
    → hit ≡ first_hit k t.session.panel u.session.now answer
    → run_of k cycle t ≡ run_on hit (u.session.now, answer) (run_of k cycle u)
unfolding rest_of
run_goes_on k cycle t u answer hit b e f g =
    stretch_by (needs_each k) k cycle t.session.panel t.session.now (u.session.now, answer) refl b e
    ∙ ap (λ (p : Face). run_from k t.session.panel (u.session.now, answer) (run_to k cycle p u.session.now))
    (sym (ap (λ (x : Repl). x.session.panel) f ∙ panel_gone u.session.now t answer))
    ∙ ap (λ (x : Option Armed). run_on x (u.session.now, answer) (run_of k cycle u)) (sym g)

-- At any point of a run, its rest leads to the same state as all of it.
pub record Follows (k : List Armed) (cycle : ℕ) (s t : Repl) : Type 0 where
  pub left : after_run (run_of k cycle t) t ≡ after_run (run_of k cycle s) s
  pub hit : (run_of k cycle t).hit ≡ (run_of k cycle s).hit

-- and what remains to print of it
abbrev pub Says : Bool → List Armed → ℕ → Repl → Repl → Option (List ℕ) → Option (List ℕ) → Type 0
Says quiet k cycle s t old new =
    IsWritten old new (writes_text quiet (run_of k cycle t).writes) (writes_text quiet (run_of k cycle s).writes)

pub follows : (k : List Armed) (cycle : ℕ) (s : Repl) → Follows k cycle s s
follows k cycle s = record { left = refl; hit = refl }

pub nothing_parsed : (quiet : Bool) (k : List Armed) (cycle : ℕ) (s : Repl) (known : Option (List ℕ)) → Says quiet k cycle s s known known
nothing_parsed quiet k cycle s known = nothing_written known (writes_text quiet (run_of k cycle s).writes)

-- a run with its first answer
abbrev pub Onward : List Armed → ℕ → Repl → Repl → Stepped → Option Armed → Type 0
Onward k cycle t u answer hit =
    (run_of k cycle t ≡ run_on hit (u.session.now, answer) (run_of k cycle u))
    × (u ≡ gone_on u.session.now (writes_in (answer ∷ [])) t)

run_then : (k : List Armed) (cycle : ℕ) (t u : Repl) (answer : Stepped) (hit : Option Armed) → Onward k cycle t u answer hit → hit ≡ None
    → run_of k cycle t
    ≡ record { last = (run_of k cycle u).last; writes = written answer ++ (run_of k cycle u).writes; hit = (run_of k cycle u).hit }
run_then k cycle t u answer hit h e = h.0 ∙ ap (λ (x : Option Armed). run_on x (u.session.now, answer) (run_of k cycle u)) e

run_there : (k : List Armed) (cycle : ℕ) (t u : Repl) (answer : Stepped) (hit : Option Armed) → Onward k cycle t u answer hit → is_some hit ≡ true
    → run_of k cycle t ≡ record { last = u.session.now; writes = written answer; hit = hit }
run_there k cycle t u answer (Some a) h e = h.0
run_there k cycle t u answer None h e = cc

pub not_hit : (hit : Option Armed) → is_some hit ≡ false → hit ≡ None
not_hit (Some a) e = cc
not_hit None e = refl

pub follows_on : (k : List Armed) (cycle : ℕ) (s t u : Repl) (answer : Stepped) (hit : Option Armed) → Follows k cycle s t → Onward k cycle t u answer hit
    → hit ≡ None → Follows k cycle s u
follows_on k cycle s t u answer hit f h e =
    let rest = run_of k cycle u in
    let run = run_then k cycle t u answer hit h e in
    record {
      left =
          ap (λ (x : Repl). gone_on rest.last rest.writes x) h.1
          ∙ gone_then rest.last u.session.now (written answer) rest.writes t
          ∙ ap (λ (w : Run). after_run w t) (sym run) ∙ f.left;
      hit = ap (λ (w : Run). w.hit) (sym run) ∙ f.hit;
    }

pub says_on : (quiet : Bool) (k : List Armed) (cycle : ℕ) (s t u : Repl) (answer : Stepped) (hit : Option Armed) (old mid new : Option (List ℕ)) → Says quiet k cycle s t old mid
    → Onward k cycle t u answer hit → hit ≡ None → Appends mid new (writes_text quiet (written answer)) → Says quiet k cycle s u old new
says_on quiet k cycle s t u answer hit old mid new f h e parsed =
    let rest = (run_of k cycle u).writes in
    let run = run_then k cycle t u answer hit h e in
    let text : writes_text quiet (run_of k cycle t).writes ≡ writes_text quiet (written answer) ++ writes_text quiet rest =
    ap (λ (w : Run). writes_text quiet w.writes) run ∙ flat_map-append (run_line quiet) (written answer) rest in
    written_more old mid new (writes_text quiet (written answer)) (writes_text quiet rest) _
    (subst (λ (left : List ℕ). IsWritten old mid left (writes_text quiet (run_of k cycle s).writes)) text f) parsed

-- a condition was hit
pub followed_there : (k : List Armed) (cycle : ℕ) (s t u : Repl) (answer : Stepped) (hit : Option Armed) → Follows k cycle s t → Onward k cycle t u answer hit
    → is_some hit ≡ true → u ≡ after_run (run_of k cycle s) s
followed_there k cycle s t u answer hit f h e =
    h.1 ∙ ap (λ (w : Run). after_run w t) (sym (run_there k cycle t u answer hit h e)) ∙ f.left

pub came_there : (k : List Armed) (cycle : ℕ) (s t u : Repl) (answer : Stepped) (hit : Option Armed) → Follows k cycle s t → Onward k cycle t u answer hit
    → is_some hit ≡ true → hit ≡ (run_of k cycle s).hit
came_there k cycle s t u answer hit f h e = ap (λ (w : Run). w.hit) (sym (run_there k cycle t u answer hit h e)) ∙ f.hit

pub parsed_there : (quiet : Bool) (k : List Armed) (cycle : ℕ) (s t u : Repl) (answer : Stepped) (hit : Option Armed) (old mid new : Option (List ℕ))
    → Says quiet k cycle s t old mid → Onward k cycle t u answer hit → is_some hit ≡ true → Appends mid new (writes_text quiet (written answer))
    → Appends old new (writes_text quiet (run_of k cycle s).writes)
parsed_there quiet k cycle s t u answer hit old mid new f h e parsed =
    let last : writes_text quiet (written answer) ≡ writes_text quiet (run_of k cycle t).writes =
    ap (λ (w : Run). writes_text quiet w.writes) (sym (run_there k cycle t u answer hit h e)) in
    subst (Appends old new) (ap (λ (more : List ℕ). f.0 ++ more) last ∙ f.2) (Appends-trans old mid new f.0 (writes_text quiet (written answer)) f.1 parsed)

-- the cycle is reached, or the machine has stopped
pub followed_up : (k : List Armed) (cycle : ℕ) (s t : Repl) → Follows k cycle s t → is_short_of cycle t.session.now ≡ false
    → t ≡ after_run (run_of k cycle s) s
followed_up k cycle s t f e =
    sym (gone_nowhere t) ∙ ap (λ (w : Run). after_run w t) (sym (way_ends k cycle t.session.panel t.session.now e)) ∙ f.left

pub came_not : (k : List Armed) (cycle : ℕ) (s t : Repl) → Follows k cycle s t → is_short_of cycle t.session.now ≡ false
    → None ≡ (run_of k cycle s).hit
came_not k cycle s t f e = ap (λ (w : Run). w.hit) (sym (way_ends k cycle t.session.panel t.session.now e)) ∙ f.hit

pub parsed_all : (quiet : Bool) (k : List Armed) (cycle : ℕ) (s t : Repl) (old new : Option (List ℕ)) → Says quiet k cycle s t old new → is_short_of cycle t.session.now ≡ false
    → Appends old new (writes_text quiet (run_of k cycle s).writes)
parsed_all quiet k cycle s t old new f e =
    written_whole old new _ _ (ap (λ (w : Run). writes_text quiet w.writes) (way_ends k cycle t.session.panel t.session.now e)) f

-- one boundary of a run that ends at no condition
pub one_onward : (cycle : ℕ) (t u : Repl) (answer : Stepped) → t.session.now.cycle < cycle → (u.session.now, answer) ≡ boundary None t.session.now
    → u ≡ gone_on u.session.now (writes_in (answer ∷ [])) t → Onward [] cycle t u answer None
one_onward cycle t u answer h e f = (
  one_boundary [] cycle t.session.panel t.session.now (u.session.now, answer) none_come h (sym e)
      ∙ ap (λ (p : Face). run_from [] t.session.panel (u.session.now, answer) (run_to [] cycle p u.session.now))
      (sym (ap (λ (x : Repl). x.session.panel) f ∙ panel_gone u.session.now t answer))
      ∙ ap (λ (x : Option Armed). run_on x (u.session.now, answer) (run_of [] cycle u)) (never_comes t.session.panel u.session.now answer),
  f,
)

-- breakpoints in their ranges
pub in_range : (what : Condition) → IsBreakpointInRange what → IsConditionInRange what
unfolding IsBreakpointInRange
in_range (condition.Order place) h = tt
in_range (condition.OrderIf place comparison) h = h.1
in_range (condition.Caller caller) h = h
in_range (condition.Write channel word) h = tt
in_range (condition.Cell cell) h = h
in_range (condition.Interrupt which) h = tt
in_range condition.Panel h = tt
in_range (condition.Shows line) h = tt
in_range condition.Boundary h = tt

pub all_in_range : (k : List Armed) → AreSound k → AreArmedInRange k
all_in_range [] h = All-nil (λ (a : Armed). IsConditionInRange a.condition)
all_in_range (a ∷ k) h =
    let first : IsBreakpointInRange a.condition = All-head (λ (x : Armed). IsBreakpointInRange x.condition) a k h in
    let rest : AreSound k = All-tail (λ (x : Armed). IsBreakpointInRange x.condition) a k h in
    All-cons (λ (x : Armed). IsConditionInRange x.condition) a k (in_range a.condition first) (all_in_range k rest)

all_sound : (s : State) (breakpoints : List Numbered) → AreInRange breakpoints → AreSound (map (armed_by s) breakpoints)
all_sound s [] h = All-nil (λ (a : Armed). IsBreakpointInRange a.condition)
all_sound s (b ∷ breakpoints) h =
    let first : IsBreakpointInRange b.what = All-head (λ (x : Numbered). IsBreakpointInRange x.what) b breakpoints h in
    let rest : AreInRange breakpoints = All-tail (λ (x : Numbered). IsBreakpointInRange x.what) b breakpoints h in
    All-cons (λ (x : Armed). IsBreakpointInRange x.condition) (armed_by s b) (map (armed_by s) breakpoints) first (all_sound s breakpoints rest)

pub armed_as : (s : State) (breakpoints : List Numbered) (armed : List Armed) → armed ≡ map (armed_by s) breakpoints → AreInRange breakpoints → AreSound armed
armed_as s breakpoints armed e h = rw e (all_sound s breakpoints h)

pub one_sound : (a : Armed) → IsBreakpointInRange a.condition → AreSound (a ∷ [])
one_sound a h = All-cons (λ (x : Armed). IsBreakpointInRange x.condition) a [] h (All-nil (λ (x : Armed). IsBreakpointInRange x.condition))

-- a condition that was hit is one of those that were armed
found_by : (b : Bool) (a : Armed) (rest : Option Armed) → IsBreakpointInRange a.condition → IfSome rest (λ x. IsBreakpointInRange x.condition)
    → IfSome (cond b (Some a) rest) (λ x. IsBreakpointInRange x.condition)
found_by true a rest h k = h
found_by false a rest h k = k

found_in : (k : List Armed) (p : Face) (s : State) (answer : Stepped) → AreSound k → IfSome (first_hit k p s answer) (λ x. IsBreakpointInRange x.condition)
unfolding first_hit
found_in [] p s answer h = tt
found_in (a ∷ k) p s answer h =
    found_by (is_hit a p s answer) a _ (All-head (λ (x : Armed). IsBreakpointInRange x.condition) a k h)
    (found_in k p s answer (All-tail (λ (x : Armed). IsBreakpointInRange x.condition) a k h))

pub hit_in_range : (k : List Armed) (p : Face) (s : State) (answer : Stepped) (hit : Option Armed) → hit ≡ first_hit k p s answer → AreSound k
    → IfSome hit (λ x. IsBreakpointInRange x.condition)
hit_in_range k p s answer hit e h = subst (λ (x : Option Armed). IfSome x (λ y. IsBreakpointInRange y.condition)) (sym e) (found_in k p s answer h)
