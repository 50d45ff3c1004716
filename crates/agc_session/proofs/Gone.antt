-- A session that runs on, or into which an event is injected, is still a session.
use Rattle.std.specs.Prelude.{◌≡◌, ℕ, ◌+◌, ◌<◌, ◌≤◌, List, [], ◌∷◌, ◌++◌, length, Some, None}
use Rattle.std.proofs.Common.{refl, ap, subst, ◌∙◌, arith, append-nil}
use Rattle.std.proofs.lemmas.List.{length_push}
use Rattle.agc_word.specs.declared.channel_write.ChannelWrite.{ChannelWrite}
use Rattle.agc_script.specs.Event.{most_events}
use Rattle.agc_script.specs.Script.{IsNotBefore}
use Rattle.agc_script.specs.declared.event.What.{What}
use Rattle.agc_machine.specs.Boundary.{boundary, WantsKey}
use Rattle.agc_machine.specs.Live.{IsLive}
use Rattle.agc_machine.specs.Replay.{writes_in}
use Rattle.agc_machine.specs.Run.{next_before}
use Rattle.agc_machine.specs.State.{State, live_event}
use Rattle.agc_machine.specs.declared.answer.Stepped.{Stepped}
use Rattle.agc_machine.specs.declared.answer.Stepped.TheVariants as stepped
use Rattle.agc_machine.specs.declared.answer.Stop.{Stop}
use Rattle.agc_machine.proofs.Before.{before_after_way, before_at_way, before_at_way_stop, before_at_way_write}
use Rattle.agc_machine.proofs.Live.{live_goes_on, live_stretch, written}
use Rattle.agc_machine.proofs.LiveTime.{live_is_not_before, live_steps}
use Rattle.agc_panel.specs.Face.{panel_of}
use Rattle.agc_panel.specs.declared.face.Face.{Face}
use Rattle.agc_session.specs.Checkpoints.{IsKept, counted}
use Rattle.agc_session.specs.Session.{HasGone, IsSession, SessionState, shown_after, start_with}
use Rattle.agc_session.specs.declared.checkpoint.Checkpoint.{Checkpoint}
use Rattle.agc_session.proofs.Begun.{same_start}
use Rattle.agc_session.proofs.Checkpoints.{still_right}

-- a panel after what was written
abbrev pub Takes : Face → Face → Stepped → Type 0
Takes old new answer = (taken : List ChannelWrite) → old ≡ panel_of taken → new ≡ panel_of (taken ++ writes_in (answer ∷ []))

-- and the number of writes after it
abbrev pub Counts : ℕ → ℕ → Stepped → Type 0
Counts old new answer = (taken : List ChannelWrite) → old ≡ counted taken → new ≡ counted (taken ++ writes_in (answer ∷ []))

goes : (s : SessionState) (later : State) (panel : Face) (answer : Stepped) (old new : ℕ) (copies : List Checkpoint) (h : IsKept s old copies)
    → IsLive (start_with s.script s.now) s.injected (h.session.writes ++ written answer) later → Takes s.panel panel answer → Counts old new answer
    → IsKept (record { base = s.base; retained = s.retained; script = s.script; injected = s.injected; now = later; panel = panel }) new copies
goes s later panel answer old new copies h live takes counts = record {
  session = record {
    writes = h.session.writes ++ written answer;
    live =
        subst (λ (start : State). IsLive start s.injected (h.session.writes ++ written answer) later)
        (same_start s.script s.injected s.now later (h.session.writes ++ written answer) live) live;
    panel = takes h.session.writes h.session.panel;
    known = h.session.known;
    room = h.session.room;
  };
  count = counts h.session.writes h.count;
  right = still_right s.script s.injected s.now later (h.session.writes ++ written answer) copies live h.right;
}

pub goes_by_boundary : (s : SessionState) (later : State) (panel : Face) (answer : Stepped) (old new : ℕ) (copies : List Checkpoint) → IsKept s old copies
    → (later, answer) ≡ boundary None s.now → Takes s.panel panel answer → Counts old new answer
    → IsKept (record { base = s.base; retained = s.retained; script = s.script; injected = s.injected; now = later; panel = panel }) new copies
goes_by_boundary s later panel answer old new copies h e takes counts =
    goes s later panel answer old new copies h (live_steps (start_with s.script s.now) s.now later s.injected h.session.writes answer h.session.live e) takes counts

pub goes_on_before : (cycle : ℕ) (s : SessionState) (later : State) (panel : Face) (answer : Stepped) (old new : ℕ) (copies : List Checkpoint) → IsKept s old copies
    → (later, answer) ≡ next_before cycle s.now → Takes s.panel panel answer → Counts old new answer
    → IsKept (record { base = s.base; retained = s.retained; script = s.script; injected = s.injected; now = later; panel = panel }) new copies
goes_on_before cycle s later panel answer old new copies h e takes counts =
    goes s later panel answer old new copies h (live_stretch (start_with s.script s.now) s.now later s.injected h.session.writes cycle answer h.session.live e) takes counts

no_write : writes_in (stepped.Quiet ∷ []) ≡ []
unfolding writes_in
no_write = refl

-- an event injected when the machine wants one
pub takes_event : (s : SessionState) (what : What) (later : State) (count : ℕ) (copies : List Checkpoint) → IsKept s count copies → WantsKey s.now
    → (later, stepped.Quiet) ≡ boundary (Some what) s.now → length s.script + length s.injected < most_events
    → IsKept (record { base = s.base; retained = s.retained; script = s.script; injected = s.injected ++ live_event s.now what ∷ []; now = later; panel = s.panel }) count copies
takes_event s what later count copies h w e few =
    let injected = s.injected ++ live_event s.now what ∷ [] in
    let writes = h.session.writes in
    let live : IsLive (start_with s.script s.now) injected (writes ++ written stepped.Quiet) later =
    live_goes_on (start_with s.script s.now) s.now later s.injected writes what stepped.Quiet h.session.live w e in
    let quiet : IsLive (start_with s.script s.now) injected writes later =
    subst (λ (writes : List ChannelWrite). IsLive (start_with s.script s.now) injected writes later) (ap (λ (more : List ChannelWrite). writes ++ more) no_write ∙ append-nil writes) live in
    record {
      session = record {
        writes = writes;
        live = subst (λ (start : State). IsLive start injected writes later) (same_start s.script injected s.now later writes quiet) quiet;
        panel = h.session.panel;
        known = h.session.known;
        room = omega (arith, few, length_push s.injected (live_event s.now what));
      };
      count = h.count;
      right = still_right s.script injected s.now later writes copies quiet h.right;
    }

pub given_before : (s : SessionState) → IsSession s → IsNotBefore s.injected s.now.cycle
given_before s h = live_is_not_before (start_with s.script s.now) s.now s.injected h.writes h.live

-- Stretches up to earlier cycles are parts of the way to a later one: what is left of it, if none has written or stopped.
abbrev pub SoFar : ℕ → SessionState → SessionState → Type 0
SoFar cycle s t =
    (next_before cycle t.now ≡ next_before cycle s.now) × (t.panel ≡ s.panel) × (t.base ≡ s.base) × (t.retained ≡ s.retained)
    × (t.script ≡ s.script) × (t.injected ≡ s.injected)

pub goes_further : (cycle end : ℕ) (s t u : SessionState) → SoFar cycle s t → HasGone t (next_before end t.now) stepped.Quiet u → end ≤ cycle
    → u.now.cycle < cycle → SoFar cycle s u
goes_further cycle end s t u h gone l short = (
  before_after_way end cycle t.now u.now l gone.now short ∙ h.0,
  gone.panel ∙ h.1,
  gone.base ∙ h.2,
  gone.retained ∙ h.3,
  gone.script ∙ h.4,
  gone.injected ∙ h.5,
)

gone_there : (cycle end : ℕ) (s t u : SessionState) (answer : Stepped) → SoFar cycle s t → HasGone t (next_before end t.now) answer u
    → (u.now, answer) ≡ next_before cycle t.now → HasGone s (next_before cycle s.now) answer u
gone_there cycle end s t u answer h gone e = record {
  now = e ∙ h.0;
  panel = gone.panel ∙ ap (shown_after answer) h.1;
  base = gone.base ∙ h.2;
  retained = gone.retained ∙ h.3;
  script = gone.script ∙ h.4;
  injected = gone.injected ∙ h.5;
}

pub gone_to_cycle : (cycle end : ℕ) (s t u : SessionState) → SoFar cycle s t → HasGone t (next_before end t.now) stepped.Quiet u → end ≤ cycle
    → cycle ≤ u.now.cycle → HasGone s (next_before cycle s.now) stepped.Quiet u
gone_to_cycle cycle end s t u h gone l long = gone_there cycle end s t u stepped.Quiet h gone (before_at_way end cycle t.now u.now l gone.now long)

pub gone_to_write : (cycle end : ℕ) (s t u : SessionState) (write : ChannelWrite) → SoFar cycle s t → HasGone t (next_before end t.now) (stepped.Wrote write) u
    → end ≤ cycle → HasGone s (next_before cycle s.now) (stepped.Wrote write) u
gone_to_write cycle end s t u write h gone l =
    gone_there cycle end s t u (stepped.Wrote write) h gone (before_at_way_write end cycle t.now u.now write l gone.now)

pub gone_to_stop : (cycle end : ℕ) (s t u : SessionState) (why : Stop) → SoFar cycle s t → HasGone t (next_before end t.now) (stepped.Stopped why) u
    → end ≤ cycle → HasGone s (next_before cycle s.now) (stepped.Stopped why) u
gone_to_stop cycle end s t u why h gone l =
    gone_there cycle end s t u (stepped.Stopped why) h gone (before_at_way_stop end cycle t.now u.now why l gone.now)

-- the same from an equal session
pub from_there : (end : ℕ) (t v u : SessionState) (answer : Stepped) → v ≡ t → HasGone v (next_before end v.now) answer u → HasGone t (next_before end t.now) answer u
from_there end t v u answer e gone = subst (λ (x : SessionState). HasGone x (next_before end x.now) answer u) e gone
