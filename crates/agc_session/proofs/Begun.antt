-- A session at its start, and the run of its script.
use Rattle.std.specs.Prelude.{◌≡◌, ℕ, List, [], length, replicate, unwrap_or, Option, Some, None, Result, Ok, Err, IfOk, IfSome}
use Rattle.std.specs.Result.{result_ok}
use Rattle.std.proofs.Common.{refl, ap, sym, subst, ◌∙◌}
use Rattle.agc_word.specs.Number.{Number}
use Rattle.agc_word.specs.declared.channel_write.ChannelWrite.{ChannelWrite}
use Rattle.agc_store.specs.Cells.{put_of, start_memory}
use Rattle.agc_script.specs.Merge.{joined}
use Rattle.agc_script.proofs.Merges.{joined_none}
use Rattle.agc_script.specs.declared.event.Event.{Event}
use Rattle.agc_script.specs.declared.fault.ScriptFault.{ScriptFault}
use Rattle.agc_processor.specs.Start.{start_processor}
use Rattle.agc_machine.specs.Live.{IsLive}
use Rattle.agc_machine.specs.Replay.{Chain, chain, with_tape, writes_in}
use Rattle.agc_machine.specs.State.{State, start_state}
use Rattle.agc_machine.proofs.Live.{live_starts}
use Rattle.agc_machine.proofs.LiveTime.{live_is_same}
use Rattle.agc_machine.proofs.Replay.{chain_replays}
use Rattle.agc_panel.specs.Face.{panel_of}
use Rattle.agc_session.specs.Session.{IsReplay, IsSession, SessionState, start_with, script_of}

-- a start state has the rope and the limit that it was made from
pub words_at_start : (words : List Number) (events : List Event) (limit : ℕ) → (start_state words events limit None).processor.store.fixed ≡ words
unfolding start_state start_processor start_memory put_of
words_at_start words events limit = refl

pub limit_at_start : (words : List Number) (events : List Event) (limit : ℕ) → (start_state words events limit None).limit ≡ limit
unfolding start_state
limit_at_start words events limit = refl

pub start_of_start : (words : List Number) (events : List Event) (limit : ℕ) → start_with events (start_state words events limit None) ≡ start_state words events limit None
start_of_start words events limit =
    ap (λ (w : List Number). start_state w events (start_state words events limit None).limit None) (words_at_start words events limit)
    ∙ ap (λ (l : ℕ). start_state words events l None) (limit_at_start words events limit)

-- nothing was injected and nothing shown
pub starts_live : (words : List Number) (script : List Event) (limit : ℕ) (now : State) → now ≡ start_state words script limit None
    → IsLive (start_with script now) [] [] now
starts_live words script limit now e =
    subst (λ (s : State). IsLive (start_with script s) [] [] s) (sym e)
    (subst (λ (s : State). IsLive s [] [] (start_state words script limit None)) (sym (start_of_start words script limit)) (live_starts (start_state words script limit None)))

-- a run began where it began, however far it has gone
pub same_start : (script injected : List Event) (now later : State) (writes : List ChannelWrite) → IsLive (start_with script now) injected writes later
    → start_with script now ≡ start_with script later
same_start script injected now later writes h =
    let same = live_is_same (start_with script now) later injected writes h in
    ap (λ (w : List Number). start_state w script now.limit None) (sym (same.0 ∙ words_at_start now.processor.store.fixed script now.limit))
    ∙ ap (λ (l : ℕ). start_state later.processor.store.fixed script l None) (sym (same.1 ∙ limit_at_start now.processor.store.fixed script now.limit))

-- the start state whose script includes the injected events
reported_start : (script injected : List Event) (now : State) → with_tape injected (start_with script now) ≡ start_with (joined script injected) now
unfolding start_state
reported_start script injected now = refl

-- the plain run of the session's script
pub replayed : (s : SessionState) (h : IsSession s)
    → chain (replicate (length h.live.lives) None) (start_with (script_of s) s.now) ≡ chain h.live.lives (start_with s.script s.now)
replayed s h =
    let start = start_with s.script s.now in
    let taped : with_tape s.injected start ≡ start_with (script_of s) s.now = reported_start s.script s.injected s.now in
    ap (λ (t : State). chain (replicate (length h.live.lives) None) t) (sym taped)
    ∙ ap (λ (g : List Event). chain (replicate (length h.live.lives) None) (with_tape g start)) h.live.taped ∙ chain_replays h.live.lives start h.live.wanted

pub replays : (s : SessionState) → IsSession s → IsReplay (script_of s) s
replays s h =
    let same = replayed s h in
    record {
      boundaries = length h.live.lives;
      state = ap (λ (c : Chain). c.last) same ∙ sym h.live.last;
      panel = ap (λ (c : Chain). panel_of (writes_in c.answers)) same ∙ ap panel_of (sym h.live.written) ∙ sym h.panel;
    }

-- the script, if memory suffices
pub when_reported : (joined_or : Result (List Event) ScriptFault) (scripts : Option (List Event)) (inside now : SessionState) → scripts ≡ result_ok joined_or
    → IfOk joined_or (λ script. script ≡ script_of inside) → inside ≡ now → IsSession inside → IfSome scripts (λ script. IsReplay script now)
when_reported (Ok script) scripts inside now e h v s =
    rw e (subst (λ (t : SessionState). IsReplay script t) v (rw h (replays inside s)))
when_reported (Err fault) scripts inside now e h v s = rw e tt

-- a script joined with the empty one
pub when_copied : (joined_or : Result (List Event) ScriptFault) (scripts : Option (List Event)) (script none : List Event) → scripts ≡ result_ok joined_or
    → IfOk joined_or (λ copy. copy ≡ joined script none) → none ≡ [] → IfSome scripts (λ copy. copy ≡ script)
when_copied (Ok copy) scripts script none e h n = rw e (h ∙ ap (joined script) n ∙ joined_none script)
when_copied (Err fault) scripts script none e h n = rw e tt

-- what is true of a success is true of its value
pub of_value : {T E : Type 0} (result : Result T E) (value : T) (P : T → Type 0) → Some value ≡ result_ok result → IfOk result P → P value
of_value (Ok given) value P e h = subst P (sym (ap (λ o. unwrap_or o value) e)) h
of_value (Err fault) value P e h = cc
