-- How the console's session runs on: the panel shows its writes, and they are counted.
use Rattle.std.specs.Prelude.{◌≡◌, ◌<◌, ◌^◌, ◌+◌, ◌-◌, ℕ, zero, suc, min, Bool, true, false, List, [], ◌∷◌, ◌++◌, Option, None, Some, if◌then◌else◌, is_none, nat_lt, ◌&&◌, replicate, map}
use Rattle.agc_word.specs.declared.channel_write.ChannelWrite.{ChannelWrite}
use Rattle.agc_machine.specs.Boundary.{boundary, due_event, upcoming_of}
use Rattle.agc_machine.specs.Replay.{Chain, chain, writes_in}
use Rattle.agc_machine.specs.Run.{boundaries_left}
use Rattle.agc_machine.specs.State.{State}
use Rattle.agc_machine.specs.declared.answer.Stepped.{Stepped}
use Rattle.agc_machine.specs.declared.answer.Stepped.TheVariants as stepped
use Rattle.agc_machine.specs.declared.answer.Stop.{Stop}
use Rattle.agc_machine.specs.declared.upcoming.Upcoming.{Upcoming}
use Rattle.agc_machine.specs.declared.upcoming.Upcoming.TheVariants as upcoming
use Rattle.agc_panel.specs.Face.{face_after, panel_of}
use Rattle.agc_script.specs.Event.{most_events}
use Rattle.agc_session.specs.Condition.{armed_in}
use Rattle.agc_session.specs.Session.{SessionState, retained_before, start_with, script_before}
use Rattle.agc_repl.specs.Settings.{SettingsState}
use Rattle.agc_repl.specs.Run.{Run, armed_by, run_to}
use Rattle.agc_session.specs.declared.condition.Armed.{Armed}
use Rattle.agc_repl.specs.declared.repl.Repl.{Repl}

-- a session at the start of time, with these settings
abbrev pub at_start : SettingsState → SessionState → Repl
at_start settings s = record { session = s; writes = 0; settings = settings }

-- writes are counted in a number of 64 bits
abbrev pub counted : Stepped → ℕ → ℕ
counted (stepped.Wrote write) writes = min (writes + 1) (2 ^ 64 - 1)
counted stepped.Quiet writes = writes
counted (stepped.Stopped why) writes = writes

-- the panel shows a channel write, and it is counted
abbrev pub noted : ChannelWrite → Repl → Repl
noted write t =
    record {
      session = record t.session { panel = face_after t.session.panel (write ∷ []) };
      writes = min (t.writes + 1) (2 ^ 64 - 1);
      settings = t.settings;
    }

-- the machine has reached a state and made some writes on the way
unfoldable pub gone_on : State → List ChannelWrite → Repl → Repl
gone_on last [] t = record t { session = record t.session { now = last } }
gone_on last (write ∷ writes) t = gone_on last writes (noted write t)

abbrev pub after_run : Run → Repl → Repl
after_run run t = gone_on run.last run.writes t

-- the run of a console from now on, and its breakpoints as they are armed now
abbrev pub run_of : List Armed → ℕ → Repl → Run
run_of armed cycle t = run_to armed cycle t.session.panel t.session.now

abbrev pub all_armed : Repl → List Armed
all_armed t = map (armed_by t.session.now) t.settings.breakpoints

-- one run, then another from where it ends
abbrev pub then_run : Run → Run → Run
then_run first rest = record { last = rest.last; writes = first.writes ++ rest.writes; hit = rest.hit }

-- conditions armed anew, in another state
abbrev pub armed_anew : State → List Armed → List Armed
armed_anew s armed = map (λ a. armed_in s a.number a.condition) armed

-- A run that passes over this many hits. After each of them the conditions are armed anew, and it runs on; a run that is not hit
-- has ended at the cycle or the stop, so what follows it is empty.
unfoldable pub run_past : ℕ → List Armed → ℕ → Repl → Run
run_past zero armed cycle t = run_of armed cycle t
run_past (suc more) armed cycle t =
    let run = run_of armed cycle t in
    let on = after_run run t in
    then_run run (run_past more (armed_anew on.session.now armed) cycle on)

-- this many boundaries, with nothing injected
abbrev pub after_chain : Chain → Repl → Repl
after_chain c t = gone_on c.last (writes_in c.answers) t

abbrev pub after_boundaries : ℕ → Repl → Repl
after_boundaries boundaries t = after_chain (chain (replicate boundaries None) t.session.now) t

-- an event of the script is due, and comes next
abbrev pub is_event : Upcoming → Bool
is_event (upcoming.Event what) = true
is_event (upcoming.Stop why) = false
is_event (upcoming.Timer t) = false
is_event (upcoming.Interrupt r) = false
is_event (upcoming.Order order) = false

-- the events of the script that are due have happened, at most this many
unfoldable pub due_within : ℕ → SessionState → SessionState
due_within zero s = s
due_within (suc more) s =
    if is_event (upcoming_of s.now)
    then due_within more (record s { now = (boundary None s.now).0 })
    else s

abbrev pub after_due : SessionState → SessionState
after_due s = due_within (most_events + 1) s

-- a machine takes an event: it has not stopped, its limit is not reached, and no event of the script is due
abbrev pub takes_event : State → Bool
takes_event s = is_none s.stopped && nat_lt s.cycle s.limit && is_none (due_event s.cycle s.events)

-- the session restarted without the events injected at a cycle or later
abbrev pub rewound : ℕ → SessionState → SessionState
rewound cycle s =
    record {
      base = s.base;
      retained = retained_before cycle s;
      script = script_before cycle s;
      injected = [];
      now = start_with (script_before cycle s) s.now;
      panel = panel_of [];
    }

-- restarted without the events injected at the first cycle or later, and then run to the second one; the settings stay
abbrev pub gone_back : ℕ → ℕ → Repl → Repl
gone_back cut cycle t =
    let start = at_start t.settings (rewound cut t.session) in after_run (run_of [] cycle start) start

-- Some boundaries were taken with nothing injected.
pub record GoesOn (s t : SessionState) : Type 0 where
  pub boundaries : ℕ
  pub now : (chain (replicate boundaries None) s.now).last ≡ t.now
  pub base : t.base ≡ s.base
  pub retained : t.retained ≡ s.retained
  pub script : t.script ≡ s.script
  pub injected : t.injected ≡ s.injected

-- A console's session runs on, and its settings are the same.
pub record RunsOn (s t : Repl) : Type 0 where
  pub session : GoesOn s.session t.session
  pub settings : t.settings ≡ s.settings

-- A machine takes at most this many boundaries before it stops.
abbrev pub turns_unless : Option Stop → ℕ → ℕ
turns_unless (Some why) turns = 0
turns_unless None turns = turns

abbrev pub turns_left : State → ℕ
turns_left s = turns_unless s.stopped (boundaries_left s)

-- a machine that had not stopped has run on
abbrev pub Advances : State → State → Type 0
Advances s t = s.stopped ≡ None → turns_left t < turns_left s
