-- A copy of the machine is a state of the session's run, and the run of a script that fits it goes on from there.
use Rattle.std.specs.Prelude.{◌≡◌, ℕ, zero, suc, ◌+◌, ◌-◌, ◌<◌, ◌≤◌, List, [], ◌++◌, length, take, drop, replicate, All, None}
use Rattle.std.proofs.Common.{refl, ap, sym, subst, ◌∙◌, arith, append-nil, ◌∷◌}
use Rattle.std.proofs.Math.Seq.{drop-append_seam}
use Rattle.std.proofs.lemmas.List.{length-append, take-append-drop}
use Rattle.std.proofs.lemmas.List.Elements.{All-append, All-cons, All-drop, All-head, All-nil, All-tail, All-take}
use Rattle.agc_word.specs.Number.{Number}
use Rattle.agc_word.specs.declared.channel_write.ChannelWrite.{ChannelWrite}
use Rattle.agc_script.specs.Event.{most_events}
use Rattle.agc_script.specs.Merge.{due_at, joined}
use Rattle.agc_script.specs.Script.{IsInOrder, before}
use Rattle.agc_script.specs.declared.event.Event.{Event}
use Rattle.agc_machine.specs.Boundary.{IsBefore, boundary}
use Rattle.agc_machine.specs.Laws.{LeavesEvents}
use Rattle.agc_machine.specs.Live.{IsLive}
use Rattle.agc_machine.specs.Replay.{Chain, chain, writes_in}
use Rattle.agc_machine.specs.State.{State, start_state}
use Rattle.agc_machine.specs.declared.answer.Stepped.{Stepped}
use Rattle.agc_machine.proofs.Live.{goes_on, live_starts, none_live, no_tape}
use Rattle.agc_machine.proofs.LiveTime.{live_is_not_before, live_is_same}
use Rattle.agc_machine.proofs.Taking.{IsLeft, chain_later, chain_left, takes_same}
use Rattle.agc_panel.specs.Face.{panel_of}
use Rattle.agc_panel.specs.declared.face.Face.{Face}
use Rattle.agc_session.specs.Checkpoints.{Fits, IsCheckpoint, IsKept, IsOnWay, counted}
use Rattle.agc_session.specs.Session.{BeginBefore, HasReached, IsSession, SessionState, script_of, since, start_with}
use Rattle.agc_session.specs.declared.checkpoint.Checkpoint.{Checkpoint}
use Rattle.agc_session.proofs.Reached.{Way, then_way}
use Rattle.agc_session.proofs.Again.{before_is_early, both_parts, either_first, late_given, since_is_late}
use Rattle.agc_session.proofs.Begun.{limit_at_start, replayed, same_start, starts_live, words_at_start}

-- a later state of a run has the same words and limit, so copies of the run stay right
pub still_right : (script injected : List Event) (now later : State) (writes : List ChannelWrite) (copies : List Checkpoint)
    → IsLive (start_with script now) injected writes later → All (IsCheckpoint now.processor.store.fixed now.limit) copies
    → All (IsCheckpoint later.processor.store.fixed later.limit) copies
still_right script injected now later writes copies live right =
    let same = live_is_same (start_with script now) later injected writes live in
    let words : later.processor.store.fixed ≡ now.processor.store.fixed = same.0 ∙ words_at_start now.processor.store.fixed script now.limit in
    let limit : later.limit ≡ now.limit = same.1 ∙ limit_at_start now.processor.store.fixed script now.limit in
    subst (λ (w : List Number). All (IsCheckpoint w later.limit) copies) (sym words)
    (subst (λ (l : ℕ). All (IsCheckpoint now.processor.store.fixed l) copies) (sym limit) right)

-- at the start there are no writes and no copies
pub begins_kept : (words : List Number) (base retained script : List Event) (limit : ℕ) (now : State) (panel : Face) (copies : List Checkpoint)
    → now ≡ start_state words script limit None → panel ≡ panel_of [] → script ≡ joined base retained → length script ≤ most_events → copies ≡ []
    → IsKept (record { base = base; retained = retained; script = script; injected = []; now = now; panel = panel }) 0 copies
begins_kept words base retained script limit now panel copies e p known few none = record {
  session = record {
    writes = [];
    live = starts_live words script limit now e;
    panel = p;
    known = known;
    room = omega (arith, few);
  };
  count = refl;
  right = subst (All (IsCheckpoint now.processor.store.fixed now.limit)) (sym none) (All-nil (IsCheckpoint now.processor.store.fixed now.limit));
}

-- the start of a run is on it
events_at_start : (words : List Number) (events : List Event) (limit : ℕ) → (start_state words events limit None).events ≡ events
unfolding start_state
events_at_start words events limit = refl

pub with_events : (words : List Number) (events other : List Event) (limit : ℕ) → record (start_state words events limit None) { events = other } ≡ start_state words other limit None
unfolding start_state
with_events words events other limit = refl

pub starts_on_run : (cycle : ℕ) (start : State) (panel : Face) → panel ≡ panel_of [] → IsOnWay cycle start start panel 0
unfolding chain writes_in BeginBefore
starts_on_run cycle start panel e = record { on_run = record { boundaries = 0; state = refl; shown = e; count = refl }; before = tt }

-- each boundary on the way to an earlier cycle begins before a later one
begin_before : (n cycle : ℕ) (s : State) → (chain (replicate n None) s).last.cycle < cycle → BeginBefore n cycle s
unfolding chain BeginBefore
begin_before zero cycle s l = tt
begin_before (suc n) cycle s l = (omega (arith, l, chain_later (suc n) s), begin_before n cycle (boundary None s).0 l)

-- the run of a script that fits a copy comes to it
pub goes_on_from : (words : List Number) (limit before : ℕ) (script : List Event) (copy : Checkpoint) → IsCheckpoint words limit copy → Fits script copy
    → copy.machine.cycle < before
    → IsOnWay before (start_state words script limit None) (record copy.machine { events = drop (length copy.taken) script }) copy.panel copy.writes
goes_on_from words limit before script copy h fits l =
    let n = h.on_run.boundaries in
    let start : State = start_state words copy.taken limit None in
    let other = drop (length copy.taken) script in
    let at : (chain (replicate n None) start).last ≡ copy.machine = h.on_run.state in
    let had : start.events ≡ copy.taken ++ [] = events_at_start words copy.taken limit ∙ sym (append-nil copy.taken) in
    let leaves : LeavesEvents n [] other start = record {
      left = ap (λ (s : State). s.events) at ∙ h.none_left;
      runs = ap (λ (s : State). s.stopped) at ∙ h.runs;
      later = subst (λ (c : ℕ). IsBefore c other) (sym (ap (λ (s : State). s.cycle) at)) fits.later;
    } in
    let again : record start { events = copy.taken ++ other } ≡ start_state words script limit None =
    with_events words copy.taken (copy.taken ++ other) limit
    ∙ ap (λ (events : List Event). start_state words events limit None)
    (ap (λ (taken : List Event). taken ++ other) (sym fits.same) ∙ take-append-drop (length copy.taken) script) in
    let same : chain (replicate n None) (start_state words script limit None)
    ≡ record { answers = (chain (replicate n None) start).answers; last = record (chain (replicate n None) start).last { events = other } } =
    ap (λ (s : State). chain (replicate n None) s) (sym again) ∙ takes_same n start copy.taken [] other had leaves in
    let last : (chain (replicate n None) (start_state words script limit None)).last ≡ record copy.machine { events = other } =
    ap (λ (c : Chain). c.last) same ∙ ap (λ (s : State). record s { events = other }) at in
    record {
      on_run = record {
        boundaries = n;
        state = last;
        shown = h.on_run.shown ∙ ap (λ (c : Chain). panel_of (writes_in c.answers)) (sym same);
        count = h.on_run.count ∙ ap (λ (c : Chain). counted (writes_in c.answers)) (sym same);
      };
      before = begin_before n before (start_state words script limit None) (subst (λ (s : State). s.cycle < before) (sym last) l);
    }

-- a session that has gone back to a state on the run of its script, with copies of the run
pub resumed : (before : ℕ) (s : SessionState) (now later : State) (writes : ℕ) (copies : List Checkpoint) → s.now ≡ later → s.injected ≡ []
    → s.script ≡ joined s.base s.retained → length s.script ≤ most_events → IsOnWay before (start_with s.script now) later s.panel writes
    → All (IsCheckpoint now.processor.store.fixed now.limit) copies → IsKept s writes copies
resumed before s now later writes copies at none known few way right =
    let n = way.on_run.boundaries in
    let start : State = start_with s.script now in
    let shown = writes_in (chain (replicate n None) start).answers in
    let live : IsLive start [] shown later =
    subst (λ (t : State). IsLive start [] shown t) way.on_run.state
    (subst (λ (tape : List Event). IsLive start tape shown (chain (replicate n None) start).last) (no_tape n start)
    (goes_on start start [] [] (replicate n None) (live_starts start) (none_live n start))) in
    subst (λ (given : List Event). IsKept (record s { injected = given }) writes copies) (sym none)
    (subst (λ (t : State). IsKept (record s { injected = []; now = t }) writes copies) (sym at)
    (record {
      session = record {
        writes = shown;
        live = subst (λ (t : State). IsLive t [] shown later) (same_start s.script [] now later shown live) live;
        panel = way.on_run.shown;
        known = known;
        room = omega (arith, few);
      };
      count = way.on_run.count;
      right = still_right s.script [] now later shown copies live right;
    }))

-- the events left are the last ones of the script
left_in : (script left : List Event) → IsLeft script left → (length left ≤ length script) × (drop (length script - length left) script ≡ left)
left_in script left (taken, e) =
    let long : length script ≡ length taken + length left = ap length e ∙ length-append taken left in
    let count : length script - length left ≡ length taken = omega (arith, long) in
    (omega (arith, long), ap (λ (n : ℕ). drop n script) count ∙ ap (drop (length taken)) e ∙ drop-append_seam taken left)

-- a session's events left are the last ones of its script
pub session_left : (s : SessionState) → IsSession s
    → (length s.now.events ≤ length (script_of s)) × (drop (length (script_of s) - length s.now.events) (script_of s) ≡ s.now.events)
session_left s h =
    let n = length h.live.lives in
    let start : State = start_with (script_of s) s.now in
    let at : (chain (replicate n None) start).last ≡ s.now = ap (λ (c : Chain). c.last) (replayed s h) ∙ sym h.live.last in
    let left : IsLeft start.events s.now.events = subst (λ (t : State). IsLeft start.events t.events) at (chain_left n start) in
    left_in (script_of s) s.now.events
    (subst (λ (events : List Event). IsLeft events s.now.events) (events_at_start s.now.processor.store.fixed (script_of s) s.now.limit) left)

-- what is true of the events of two scripts is true of their merge
all_joined : (P : Event → Type 0) (events given : List Event) → All P events → All P given → All P (joined events given)
unfolding joined
all_joined P events [] h k = h
all_joined P events (one ∷ given) h k =
    let due = due_at one.cycle events in
    All-append P (take due events) (one ∷ joined (drop due events) given) (All-take P due events h)
    (All-cons P one (joined (drop due events) given) (All-head P one given k) (all_joined P (drop due events) given (All-drop P due events h) (All-tail P one given k)))

-- if all injected events come before a cycle, those of the script from the cycle on are the last ones
late_last : (c : ℕ) (script given : List Event) → IsInOrder script → All (λ e. e.cycle < c) given
    → joined script given ≡ joined (before c script) given ++ since c script
late_last c script given order early =
    let late = since_is_late c script order in
    let known = before_is_early c script in
    ap (λ (events : List Event). joined events given) (sym (both_parts c script))
    ∙ ap (λ (events : List Event). joined events given) (sym (late_given c (before c script) (since c script) known late))
    ∙ sym (either_first c (before c script) given (since c script) early late)
    ∙ late_given c (joined (before c script) given) (since c script) (all_joined (λ e. e.cycle < c) (before c script) given known early) late

injected_before : (s : SessionState) → IsSession s → All (λ e. e.cycle < s.now.cycle + 1) s.injected
injected_before s h =
    let not_later = live_is_not_before (start_with s.script s.now) s.now s.injected h.writes h.live in
    λ i d l. omega (arith, not_later i d l)

-- the events taken and those left are the session's script
taken_then_left : (s : SessionState) → IsSession s → IsInOrder s.script → length s.script - length (before (s.now.cycle + 1) s.script) ≡ length s.now.events
    → script_of s ≡ joined (before (s.now.cycle + 1) s.script) s.injected ++ s.now.events
taken_then_left s h order count =
    let c : ℕ = s.now.cycle + 1 in
    let taken : List Event = joined (before c s.script) s.injected in
    let late : List Event = since c s.script in
    let whole : script_of s ≡ taken ++ late = late_last c s.script s.injected order (injected_before s h) in
    let parts : length s.script ≡ length (before c s.script) + length late = ap length (sym (both_parts c s.script)) ∙ length-append (before c s.script) late in
    let all : length (script_of s) ≡ length taken + length late = ap length whole ∙ length-append taken late in
    let from : length (script_of s) - length s.now.events ≡ length taken = omega (arith, count, parts, all) in
    let same : s.now.events ≡ late =
    sym (session_left s h).1 ∙ ap (λ (n : ℕ). drop n (script_of s)) from ∙ ap (drop (length taken)) whole ∙ drop-append_seam taken late in
    whole ∙ ap (λ (left : List Event). taken ++ left) (sym same)

-- a copy of the present state of a session
pub copies_now : (s : SessionState) (writes : ℕ) (all : List Checkpoint) (machine : State) (taken : List Event) → IsKept s writes all
    → s.now.stopped ≡ None → IsInOrder s.script → length s.script - length (before (s.now.cycle + 1) s.script) ≡ length s.now.events
    → taken ≡ joined (before (s.now.cycle + 1) s.script) s.injected → machine ≡ record s.now { events = [] }
    → IsCheckpoint s.now.processor.store.fixed s.now.limit (record { machine = machine; panel = s.panel; writes = writes; taken = taken })
copies_now s writes all machine taken h runs order count known copied =
    let n = length h.session.live.lives in
    let words = s.now.processor.store.fixed in
    let start : State = start_with (script_of s) s.now in
    let same = replayed s h.session in
    let at : (chain (replicate n None) start).last ≡ s.now = ap (λ (c : Chain). c.last) same ∙ sym h.session.live.last in
    let had : start.events ≡ taken ++ s.now.events =
    events_at_start words (script_of s) s.now.limit ∙ taken_then_left s h.session order count ∙ ap (λ (first : List Event). first ++ s.now.events) (sym known) in
    let leaves : LeavesEvents n s.now.events [] start = record {
      left = ap (λ (t : State). t.events) at;
      runs = ap (λ (t : State). t.stopped) at ∙ runs;
      later = tt;
    } in
    let again : record start { events = taken ++ [] } ≡ start_state words taken s.now.limit None =
    with_events words (script_of s) (taken ++ []) s.now.limit ∙ ap (λ (events : List Event). start_state words events s.now.limit None) (append-nil taken) in
    let there : chain (replicate n None) (start_state words taken s.now.limit None)
    ≡ record { answers = (chain (replicate n None) start).answers; last = record (chain (replicate n None) start).last { events = [] } } =
    ap (λ (t : State). chain (replicate n None) t) (sym again) ∙ takes_same n start taken s.now.events [] had leaves in
    let answers : (chain (replicate n None) (start_state words taken s.now.limit None)).answers ≡ (chain h.session.live.lives (start_with s.script s.now)).answers =
    ap (λ (c : Chain). c.answers) there ∙ ap (λ (c : Chain). c.answers) same in
    record {
      on_run = record {
        boundaries = n;
        state = ap (λ (c : Chain). c.last) there ∙ ap (λ (t : State). record t { events = [] }) at ∙ sym copied;
        shown = h.session.panel ∙ ap panel_of h.session.live.written ∙ ap (λ (a : List Stepped). panel_of (writes_in a)) (sym answers);
        count = h.count ∙ ap counted h.session.live.written ∙ ap (λ (a : List Stepped). counted (writes_in a)) (sym answers);
      };
      none_left = ap (λ (m : State). m.events) copied;
      runs = ap (λ (m : State). m.stopped) copied ∙ runs;
    }

-- from a state on the way to a cycle the run goes on to the cycle
pub reaches : (cycle : ℕ) (start now later : State) (panel : Face) (writes : ℕ) → IsOnWay cycle start now panel writes → HasReached cycle now later
    → HasReached cycle start later
reaches cycle start now later panel writes near far =
    let way : Way cycle start later =
    then_way cycle start now later (record { boundaries = near.on_run.boundaries; way = near.on_run.state; before = near.before })
    (record { boundaries = far.boundaries; way = far.way; before = far.before }) in
    record { boundaries = way.boundaries; way = way.way; before = way.before; there = far.there }
