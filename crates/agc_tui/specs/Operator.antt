-- The operator's session when a key searches in time.
use Rattle.std.specs.Prelude.{◌≡◌, ℕ, ◌+◌, ◌-◌, ◌^◌, Bool, true, false, ◌&&◌, is_some, not, List, [], ◌++◌, length, min, slice_get, Option, Some}
use Rattle.std.specs.Option.{option_map_or}
use Rattle.agc_script.specs.Merge.{joined}
use Rattle.agc_script.specs.declared.event.Event.{Event}
use Rattle.agc_session.specs.Condition.{HasRunTo}
use Rattle.agc_session.specs.Checkpoints.{IsOnRun}
use Rattle.agc_session.specs.Session.{SessionState, discarded, retained_before, script_before, script_of, start_with}
use Rattle.agc_session.specs.declared.condition.Condition.{Condition}
use Rattle.agc_tui.specs.declared.keyboard.Button.{Button}
use Rattle.agc_tui.specs.declared.keyboard.Button.TheVariants as button
use Rattle.agc_tui.specs.declared.operator.Operator.{Operator}
use Rattle.agc_tui.specs.declared.operator.Press.{Press}
use Rattle.agc_tui.specs.declared.operator.Rerun.{Rerun}

abbrev pub is_pro : Button → Bool
is_pro (button.Coded which) = false
is_pro button.Pro = true

-- the last of these keys is PRO, which was not released
abbrev pub is_held_press : Press → Bool
is_held_press press = is_pro press.button && not (is_some press.released)

abbrev pub is_held : List Press → Bool
is_held pressed = option_map_or is_held_press (slice_get pressed (length pressed - 1)) false

-- no key waits, and PRO is up
pub record IsIdle (o : Operator) : Type 0 where
  pub none : o.waiting.items ≡ []
  pub up : is_held o.pressed.items ≡ false

-- a session has lost nothing of its script: more may have been injected
pub record Keeps (s t : SessionState) : Type 0 where
  pub base : t.base ≡ s.base
  pub retained : t.retained ≡ s.retained
  pub script : t.script ≡ s.script
  pub more : List Event
  pub injected : t.injected ≡ s.injected ++ more

-- A session ran forward to a condition, after the keys that were due had been pressed, and up to the cycle at which the
-- next key is due. An idle operator's session ran to the cycle.
pub record HasSought (condition : Condition) (cycle : ℕ) (o : Operator) (t : SessionState) (hit : Bool) : Type 0 where
  pub pressed : SessionState
  pub keeps : Keeps o.session pressed
  pub end : ℕ
  pub run : HasRunTo condition end pressed t hit
  pub idle : IsIdle o → (pressed ≡ o.session) × (end ≡ cycle)

-- the cycle after one, within 64 bits
abbrev pub cycle_after : ℕ → ℕ
cycle_after cycle = min (cycle + 1) (2 ^ 64 - 1)

-- A session has only the events before a cycle, and is on their run: with those that were discarded it has all again.
pub record IsCutAt (cycle : ℕ) (s t : SessionState) : Type 0 where
  pub base : t.base ≡ s.base
  pub retained : t.retained ≡ retained_before cycle s
  pub script : t.script ≡ script_before cycle s
  pub again : joined t.script (discarded cycle s) ≡ script_of s
  pub injected : t.injected ≡ []
  pub writes : ℕ
  pub run : IsOnRun (start_with (script_before cycle s) s.now) t.now t.panel writes

-- an operator has begun a rerun, but for its limit
pub record IsRerunOf (wanted : Rerun) (o : Operator) : Type 0 where
  pub rerun : Rerun
  pub begun : o.rerun ≡ Some rerun
  pub to : rerun.to ≡ wanted.to
  pub with_events : rerun.with_events ≡ wanted.with_events

-- an operator has begun a rerun to a cycle, after its events
pub record IsRerunTo (cycle : ℕ) (o : Operator) : Type 0 where
  pub rerun : Rerun
  pub begun : o.rerun ≡ Some rerun
  pub to : rerun.to ≡ cycle
  pub with_events : rerun.with_events ≡ true

-- An operator has begun to go back to a cycle, after its events.
pub record HasBegunBack (cycle : ℕ) (o p : Operator) : Type 0 where
  pub cut : IsCutAt (cycle_after cycle) o.session p.session
  pub goal : IsRerunTo cycle p
