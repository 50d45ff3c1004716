-- A search that goes back stretch by stretch finds what a count of the whole way would.
use Rattle.std.specs.Prelude.{All, get_or, ◌≡◌, ℕ, ◌+◌, ◌-◌, ◌<◌, ◌≤◌, List, [], ◌∷◌, ◌++◌, length, drop, Option, None, Result, Ok, Err, IfOk}
use Rattle.std.proofs.Common.{refl, ap, sym, subst, ◌∙◌, arith, append_assoc, inl, inr}
use Rattle.std.proofs.lemmas.Bool.Decides.{leb_tells}
use Rattle.std.proofs.lemmas.List.{length-append}
use Rattle.agc_word.specs.Number.{Number}
use Rattle.agc_machine.specs.Laws.{after}
use Rattle.agc_machine.specs.State.{State, start_state}
use Rattle.agc_panel.specs.Face.{panel_of}
use Rattle.agc_panel.specs.declared.face.Face.{Face}
use Rattle.agc_session.specs.Condition.{AreHits, HasFewerHits, Hits, IsFoundBack, IsFoundFrom, IsLastHit, panel_at, panel_later}
use Rattle.agc_session.specs.Checkpoints.{Fits, IsCheckpoint, IsOnRun}
use Rattle.agc_session.specs.Search.{HasSearched, IsAt, IsSearching, resumed}
use Rattle.agc_session.specs.Session.{IsSession, SessionState, script_of, start_with}
use Rattle.agc_session.specs.declared.condition.Condition.{Condition}
use Rattle.agc_session.specs.declared.checkpoint.Checkpoint.{Checkpoint}
use Rattle.agc_session.specs.declared.search.Found.{Found}
use Rattle.agc_session.specs.declared.search.Found.TheVariants as found
use Rattle.agc_session.specs.declared.search.Point.{Point}
use Rattle.agc_script.specs.declared.event.Event.{Event}
use Rattle.agc_session.proofs.Begun.{replays}
use Rattle.agc_session.proofs.Boundaries.{after_plus, later_cycle, panel_of_chain, panel_plus}
use Rattle.agc_session.proofs.Checkpoints.{goes_on_from, with_events}
use Rattle.agc_session.proofs.Hits.{find_hit, hits_join}
use Rattle.agc_session.proofs.OneRun.{after_is_last}

-- nothing is searched yet
pub searching_starts : (b : Condition) (count n : ℕ) (start now : State) (point : Point) → 0 < count → IsAt point now → after n start ≡ now
    → IsSearching b count count start now point
unfolding AreHits after
searching_starts b count n start now point some at e = record {
  earlier = n;
  later = 0;
  at = subst (λ (s : State). IsAt point s) (sym e) at;
  reaches_now = e;
  cycles = [];
  hits = refl;
  rest = omega arith;
  some = some;
}

-- A state of the run: how many boundaries lead to it, and what the panel shows there.
pub record Reached (start s : State) (panel : Face) : Type 0 where
  pub boundaries : ℕ
  pub state : after boundaries start ≡ s
  pub shown : panel_at boundaries start ≡ panel

pub reached_on_run : (start s : State) (panel : Face) (writes : ℕ) → IsOnRun start s panel writes → Reached start s panel
reached_on_run start s panel writes h = record {
  boundaries = h.boundaries;
  state = after_is_last h.boundaries start ∙ h.state;
  shown = panel_of_chain h.boundaries [] start ∙ sym h.shown;
}

pub reached_at_start : (start s : State) (panel : Face) → s ≡ start → panel ≡ panel_of [] → Reached start s panel
unfolding after panel_later
reached_at_start start s panel e p = record { boundaries = 0; state = sym e; shown = sym p }

-- a state at an earlier cycle of a run comes before a later one
pub comes_before : (start s : State) (panel : Face) (b : Condition) (count wanted : ℕ) (now : State) (point : Point) (r : Reached start s panel)
    (h : IsSearching b count wanted start now point) → s.cycle < point.cycle → r.boundaries ≤ h.earlier
comes_before start s panel b count wanted now point r h less =
    elim (leb_tells r.boundaries h.earlier) as (λ _. r.boundaries ≤ h.earlier) [
      | inl w ↦ omega (arith, w.1)
      | inr w ↦
          let n : ℕ = r.boundaries - h.earlier in
          let sum : h.earlier + n ≡ r.boundaries = omega (arith, w.1) in
          let there : after n (after h.earlier start) ≡ s =
          sym (after_plus h.earlier n start) ∙ ap (λ (k : ℕ). after k start) sum ∙ r.state in
          absurd (omega (arith, less, later_cycle n (after h.earlier start), ap (λ (t : State). t.cycle) there, h.at.cycle))
    ]

-- The stretch from a state of the run to the point, and the way from there to now.
record Longer (b : Condition) (wanted : ℕ) (start now : State) (k : ℕ) (cycles : List ℕ) (answer : Found) : Type 0 where
  pub n : ℕ
  pub searched : HasSearched b wanted n (panel_at k start) (after k start) answer
  pub later : ℕ
  pub now_then : after later (after k start) ≡ now
  pub hits : AreHits b later (panel_at k start) (after k start) (searched.cycles ++ cycles)

goes_back : (b : Condition) (count wanted : ℕ) (start now s : State) (panel : Face) (point : Point) (found : Found) (h : IsSearching b count wanted start now point)
    (r : Reached start s panel) → r.boundaries ≤ h.earlier → ((n : ℕ) → IsAt point (after n s) → HasSearched b wanted n panel s found)
    → Longer b wanted start now r.boundaries h.cycles found
goes_back b count wanted start now s panel point found h r le f =
    let k : ℕ = r.boundaries in
    let n : ℕ = h.earlier - k in
    let sum : k + n ≡ h.earlier = omega (arith, le) in
    let there : after n (after k start) ≡ after h.earlier start = sym (after_plus k n start) ∙ ap (λ (j : ℕ). after j start) sum in
    let shown : panel_later n (panel_at k start) (after k start) ≡ panel_at h.earlier start =
    sym (panel_plus k n (panel_of []) start) ∙ ap (λ (j : ℕ). panel_at j start) sum in
    let searched : HasSearched b wanted n (panel_at k start) (after k start) found =
    subst (λ (p : Face). HasSearched b wanted n p (after k start) found) (sym r.shown)
    (subst (λ (t : State). HasSearched b wanted n panel t found) (sym r.state)
    (f n (subst (λ (t : State). IsAt point t) (sym (sym (ap (λ (t : State). after n t) r.state) ∙ there)) h.at))) in
    record {
      n = n;
      searched = searched;
      later = n + h.later;
      now_then = after_plus n h.later (after k start) ∙ ap (λ (t : State). after h.later t) there ∙ h.reaches_now;
      hits = hits_join b n h.later (panel_at k start) (after k start) searched.cycles h.cycles searched.hits
          (subst (λ (p : Face). AreHits b h.later p (after n (after k start)) h.cycles) (sym shown)
          (subst (λ (t : State). AreHits b h.later (panel_at h.earlier start) t h.cycles) (sym there) h.hits));
    }

pub searching_on : (b : Condition) (count wanted : ℕ) (start now s : State) (panel : Face) (point next : Point) (number : ℕ)
    (h : IsSearching b count wanted start now point) (r : Reached start s panel) → r.boundaries ≤ h.earlier
    → ((n : ℕ) → IsAt point (after n s) → HasSearched b wanted n panel s (found.Fewer number)) → IsAt next s
    → IsSearching b count (wanted - number) start now next
searching_on b count wanted start now s panel point next number h r le f at =
    let longer = goes_back b count wanted start now s panel point (found.Fewer number) h r le f in
    record {
      earlier = r.boundaries;
      later = longer.later;
      at = subst (λ (t : State). IsAt next t) (sym r.state) at;
      reaches_now = longer.now_then;
      cycles = longer.searched.cycles ++ h.cycles;
      hits = longer.hits;
      rest = omega (arith, h.rest, longer.searched.found.0, longer.searched.found.1, length-append longer.searched.cycles h.cycles);
      some = omega (arith, longer.searched.found.1);
    }

last_hit_at : (b : Condition) (count : ℕ) (start now : State) (cycle earlier later : ℕ) (s : State) (panel : Face) (cycles : List ℕ)
    → after earlier start ≡ s → panel_at earlier start ≡ panel → after later s ≡ now → s.cycle ≡ cycle → Hits b panel s → AreHits b later panel s cycles
    → length cycles ≡ count → IsLastHit b count start now cycle
last_hit_at b count start now cycle earlier later s panel cycles e p there begins hits since number = record {
  earlier = earlier;
  later = later;
  reaches_now = ap (λ (t : State). after later t) e ∙ there;
  begins = ap (λ (t : State). t.cycle) e ∙ begins;
  hits = subst (λ (q : Face). Hits b q (after earlier start)) (sym p) (subst (λ (t : State). Hits b panel t) (sym e) hits);
  cycles = cycles;
  since = subst (λ (q : Face). AreHits b later q (after earlier start) cycles) (sym p) (subst (λ (t : State). AreHits b later panel t cycles) (sym e) since);
  number = number;
}

pub found_there : (b : Condition) (count wanted : ℕ) (start now s : State) (panel : Face) (point : Point) (cycle : ℕ)
    (h : IsSearching b count wanted start now point) (r : Reached start s panel) → r.boundaries ≤ h.earlier
    → ((n : ℕ) → IsAt point (after n s) → HasSearched b wanted n panel s (found.At cycle)) → IsLastHit b count start now cycle
found_there b count wanted start now s panel point cycle h r le f =
    let longer = goes_back b count wanted start now s panel point (found.At cycle) h r le f in
    let found = longer.searched.found in
    let back : List ℕ = found.1 ++ h.cycles in
    let split : longer.searched.cycles ++ h.cycles ≡ found.0 ++ cycle ∷ back =
    ap (λ (l : List ℕ). l ++ h.cycles) found.2 ∙ append_assoc found.0 (cycle ∷ found.1) h.cycles in
    let k : ℕ = r.boundaries in
    let at = find_hit b longer.later (panel_at k start) (after k start) found.0 back cycle (longer.searched.cycles ++ h.cycles) longer.hits split in
    let state : after (k + at.earlier) start ≡ after at.earlier (after k start) = after_plus k at.earlier start in
    let shown : panel_at (k + at.earlier) start ≡ panel_later at.earlier (panel_at k start) (after k start) = panel_plus k at.earlier (panel_of []) start in
    last_hit_at b count start now cycle (k + at.earlier) at.later (after at.earlier (after k start)) (panel_later at.earlier (panel_at k start) (after k start)) at.cycles
    state shown
    (sym (after_plus at.earlier at.later (after k start)) ∙ ap (λ (j : ℕ). after j (after k start)) at.parts ∙ longer.now_then)
    at.begins at.hits at.since
    (omega (arith, at.number, found.3, h.rest, length-append found.1 h.cycles))

pub fewer_there : (b : Condition) (count wanted : ℕ) (start now s : State) (panel : Face) (point : Point) (number : ℕ)
    (h : IsSearching b count wanted start now point) → s ≡ start → panel ≡ panel_of []
    → ((n : ℕ) → IsAt point (after n s) → HasSearched b wanted n panel s (found.Fewer number)) → HasFewerHits b count start now
unfolding after panel_later
fewer_there b count wanted start now s panel point number h e p f =
    let r : Reached start s panel = record { boundaries = 0; state = sym e; shown = sym p } in
    let longer = goes_back b count wanted start now s panel point (found.Fewer number) h r (omega arith) f in
    record {
      boundaries = longer.later;
      reaches_now = longer.now_then;
      cycles = longer.searched.cycles ++ h.cycles;
      all = longer.hits;
      fewer = omega (arith, h.rest, longer.searched.found.0, longer.searched.found.1, length-append longer.searched.cycles h.cycles);
    }

-- what a search from the start of the run found, in the terms of the session
pub when_found : {E : Type 0} (b : Condition) (count : ℕ) (inside now : SessionState) (script : List Event) (result : Result (Option ℕ) E) → inside ≡ now
    → IsSession inside → script ≡ script_of now
    → IfOk result (λ found. (n : ℕ) → after n (start_with script inside.now) ≡ inside.now → IsFoundFrom b count (start_with script inside.now) inside.now found)
    → IfOk result (λ found. IsFoundBack b count now found)
when_found b count inside now script (Ok found) v s e h =
    let known : script ≡ script_of inside = e ∙ ap script_of (sym v) in
    let replay = replays inside s in
    let there : after replay.boundaries (start_with (script_of inside) inside.now) ≡ inside.now =
    after_is_last replay.boundaries (start_with (script_of inside) inside.now) ∙ replay.state in
    subst (λ (t : SessionState). IsFoundBack b count t found) v
    (subst (λ (x : List Event). (n : ℕ) → after n (start_with x inside.now) ≡ inside.now → IsFoundFrom b count (start_with x inside.now) inside.now found) known h
    replay.boundaries there)
when_found b count inside now script (Err fault) v s e h = tt

-- the start of a run as a copy of the machine
pub start_resumed : (script left taken events : List Event) (now copy start : State) → copy ≡ record now { events = left }
    → start ≡ start_state copy.processor.store.fixed events copy.limit None → taken ≡ []
    → record start { events = drop (length taken) script } ≡ start_with script now
start_resumed script left taken events now copy start e f none =
    let rest : List Event = drop (length taken) script in
    ap (λ (s : State). record s { events = rest }) f ∙ with_events copy.processor.store.fixed events rest copy.limit
    ∙ ap (λ (s : State). start_state s.processor.store.fixed rest s.limit None) e
    ∙ ap (λ (t : List Event). start_state now.processor.store.fixed (drop (length t) script) now.limit None) none

pub resumed_copy : (script events none : List Event) (from copy machine : State) (taken number : ℕ) → copy ≡ record from { events = none } → events ≡ script
    → number ≡ taken → machine ≡ record copy { events = drop number events } → machine ≡ record from { events = drop taken script }
resumed_copy script events none from copy machine taken number e f g h =
    h ∙ ap (λ (s : State). record s { events = drop number events }) e ∙ ap (λ (k : ℕ). record from { events = drop k events }) g
    ∙ ap (λ (x : List Event). record from { events = drop taken x }) f

-- a copy that fits the script is a state of the run
pub reached_at_copy : (words : List Number) (limit : ℕ) (script : List Event) (copy : Checkpoint) → IsCheckpoint words limit copy → Fits script copy
    → Reached (start_state words script limit None) (resumed script copy) copy.panel
reached_at_copy words limit script copy h fits =
    let way = goes_on_from words limit (copy.machine.cycle + 1) script copy h fits (omega arith) in
    reached_on_run (start_state words script limit None) (resumed script copy) copy.panel copy.writes way.on_run

-- one more stretch is searched back
pub copy_searched : (b : Condition) (count wanted words_limit : ℕ) (words : List Number) (script : List Event) (now : State) (point next : Point) (number : ℕ) (copy : Checkpoint)
    → IsCheckpoint words words_limit copy → Fits script copy → copy.machine.cycle < point.cycle
    → ((n : ℕ) → IsAt point (after n (resumed script copy)) → HasSearched b wanted n copy.panel (resumed script copy) (found.Fewer number))
    → IsAt next (resumed script copy) → IsSearching b count wanted (start_state words script words_limit None) now point
    → IsSearching b count (wanted - number) (start_state words script words_limit None) now next
copy_searched b count wanted limit words script now point next number copy h fits less f at searching =
    let start : State = start_state words script limit None in
    let r = reached_at_copy words limit script copy h fits in
    searching_on b count wanted start now (resumed script copy) copy.panel point next number searching r
    (comes_before start (resumed script copy) copy.panel b count wanted now point r searching less) f at

pub copy_found : (b : Condition) (count wanted limit : ℕ) (words : List Number) (script : List Event) (now : State) (point : Point) (cycle : ℕ) (copy : Checkpoint)
    → IsCheckpoint words limit copy → Fits script copy → copy.machine.cycle < point.cycle
    → ((n : ℕ) → IsAt point (after n (resumed script copy)) → HasSearched b wanted n copy.panel (resumed script copy) (found.At cycle))
    → IsSearching b count wanted (start_state words script limit None) now point → IsLastHit b count (start_state words script limit None) now cycle
copy_found b count wanted limit words script now point cycle copy h fits less f searching =
    let start : State = start_state words script limit None in
    let r = reached_at_copy words limit script copy h fits in
    found_there b count wanted start now (resumed script copy) copy.panel point cycle searching r
    (comes_before start (resumed script copy) copy.panel b count wanted now point r searching less) f

-- the stretch from the start is the last one
pub start_found : (b : Condition) (count wanted : ℕ) (script : List Event) (now : State) (point : Point) (cycle : ℕ) (copy : Checkpoint)
    → resumed script copy ≡ start_with script now → copy.panel ≡ panel_of []
    → ((n : ℕ) → IsAt point (after n (resumed script copy)) → HasSearched b wanted n copy.panel (resumed script copy) (found.At cycle))
    → IsSearching b count wanted (start_with script now) now point → IsLastHit b count (start_with script now) now cycle
unfolding after panel_later
start_found b count wanted script now point cycle copy e p f searching =
    let start : State = start_with script now in
    let r : Reached start (resumed script copy) copy.panel = record { boundaries = 0; state = sym e; shown = sym p } in
    found_there b count wanted start now (resumed script copy) copy.panel point cycle searching r (omega arith) f

pub start_fewer : (b : Condition) (count wanted : ℕ) (script : List Event) (now : State) (point : Point) (number : ℕ) (copy : Checkpoint)
    → resumed script copy ≡ start_with script now → copy.panel ≡ panel_of []
    → ((n : ℕ) → IsAt point (after n (resumed script copy)) → HasSearched b wanted n copy.panel (resumed script copy) (found.Fewer number))
    → IsSearching b count wanted (start_with script now) now point → HasFewerHits b count (start_with script now) now
start_fewer b count wanted script now point number copy e p f searching =
    fewer_there b count wanted (start_with script now) now (resumed script copy) copy.panel point number searching e p f

-- a copy from the list
pub copy_at : (words : List Number) (limit i : ℕ) (items : List Checkpoint) (copy : Checkpoint) → All (IsCheckpoint words limit) items → i < length items
    → copy ≡ get_or items i copy → IsCheckpoint words limit copy
copy_at words limit i items copy all l e = subst (IsCheckpoint words limit) (sym e) (all i copy l)
