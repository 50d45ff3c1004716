-- The run of a console to a cycle or to the first of some conditions that is hit.
use Rattle.std.specs.Prelude.{◌≡◌, ℕ, zero, suc, nat_lt, Bool, ◌&&◌, All, List, [], ◌∷◌, ◌++◌, is_none, Option, None, Some, if◌then◌else◌, codes, flat_map}
use Rattle.agc_word.specs.declared.channel_write.ChannelWrite.{ChannelWrite}
use Rattle.agc_machine.specs.Boundary.{boundary}
use Rattle.agc_machine.specs.Replay.{writes_in}
use Rattle.agc_machine.specs.Run.{boundaries_left}
use Rattle.agc_machine.specs.State.{State}
use Rattle.agc_machine.specs.declared.answer.Stepped.{Stepped}
use Rattle.agc_panel.specs.declared.face.Face.{Face}
use Rattle.agc_session.specs.Condition.{armed_in, first_hit}
use Rattle.agc_session.specs.Session.{shown_after}
use Rattle.agc_session.specs.declared.condition.Armed.{Armed}
use Rattle.agc_repl.specs.Answer.{write_line}
use Rattle.agc_command.specs.Command.{IsBreakpointInRange}
use Rattle.agc_repl.specs.Settings.{numbered_text}
use Rattle.agc_repl.specs.declared.settings.Numbered.{Numbered}

-- each condition is in its range
abbrev pub AreSound : List Armed → Type 0
AreSound armed = All (λ a. IsBreakpointInRange a.condition) armed

-- a numbered breakpoint, armed in a state, and back
abbrev pub armed_by : State → Numbered → Armed
armed_by s b = armed_in s b.number b.what

abbrev pub numbered_by : Armed → Numbered
numbered_by a = record { number = a.number; what = a.condition }

-- The state that a run ends in, its channel writes in order, and the condition that was hit.
pub record Run : Type 0 where
  pub last : State
  pub writes : List ChannelWrite
  pub hit : Option Armed

abbrev pub no_run : State → Run
no_run s = record { last = s; writes = []; hit = None }

-- a machine has neither stopped nor reached a cycle
abbrev pub is_short_of : ℕ → State → Bool
is_short_of cycle s = nat_lt s.cycle cycle && is_none s.stopped

-- a boundary, then the rest unless the boundary has hit a condition
abbrev pub run_on : Option Armed → State × Stepped → Run → Run
run_on (Some armed) (s, answer) rest = record { last = s; writes = writes_in (answer ∷ []); hit = Some armed }
run_on None (s, answer) rest =
    record { last = rest.last; writes = writes_in (answer ∷ []) ++ rest.writes; hit = rest.hit }

abbrev pub run_from : List Armed → Face → State × Stepped → Run → Run
run_from armed panel next rest = run_on (first_hit armed panel next.0 next.1) next rest

-- the run within this many boundaries, which are enough
unfoldable pub run_within : ℕ → List Armed → ℕ → Face → State → Run
run_within zero armed cycle panel s = no_run s
run_within (suc more) armed cycle panel s =
    let next = boundary None s in
    if is_short_of cycle s
    then run_from armed panel next (run_within more armed cycle (shown_after next.1 panel) next.0)
    else no_run s

-- The run to a cycle, by the panel at its start: boundaries with nothing injected, while the cycle is not reached and the
-- machine has not stopped, up to the first that hits a condition.
unfoldable pub run_to : List Armed → ℕ → Face → State → Run
run_to armed cycle panel s = run_within (boundaries_left s) armed cycle panel s

-- a line for each channel write, if runs are not quiet
abbrev pub run_line : Bool → ChannelWrite → List ℕ
run_line quiet write = if quiet then [] else write_line write

abbrev pub writes_text : Bool → List ChannelWrite → List ℕ
writes_text quiet writes = flat_map (run_line quiet) writes

-- which breakpoint was hit
abbrev pub stop_line : Option Armed → List ℕ
stop_line (Some armed) = codes "hit " ++ numbered_text (numbered_by armed)
stop_line None = codes "hit none\n"
