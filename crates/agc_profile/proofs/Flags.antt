-- The context of each boundary says what the flags of the processor do.
use Rattle.std.proofs.Common.{◌≡◌, ℕ, ◌≤◌, zero, suc, List, Option, Some, None, Bool, true, false, refl, ap, sym, ◌∙◌, subst, arith}
use Rattle.std.specs.Prelude.{◌==◌, ◌&&◌, if◌then◌else◌}
use Rattle.agc_word.specs.Number.{Number, pattern_of}
use Rattle.agc_word.specs.Pulses.{pulsed}
use Rattle.agc_word.specs.declared.pulse.Carry.{Carry}
use Rattle.agc_word.specs.declared.pulse.Carry.TheVariants as carry
use Rattle.agc_word.specs.declared.pulse.Pulse.{Pulse}
use Rattle.agc_word.specs.Channels.{chan13, superbnk}
use Rattle.agc_script.specs.declared.event.What.{What}
use Rattle.agc_script.specs.declared.event.What.TheVariants as what
use Rattle.agc_store.specs.Places.{inlink_cell}
use Rattle.agc_order.specs.Order.{basic_of, extracode_of}
use Rattle.agc_order.specs.declared.order.Basic.{Basic}
use Rattle.agc_order.specs.declared.order.Basic.TheVariants as basic
use Rattle.agc_order.specs.declared.order.Extracode.{Extracode}
use Rattle.agc_processor.specs.declared.interrupt.Rupt.{Rupt}
use Rattle.agc_processor.specs.declared.interrupt.Rupt.TheVariants as rupt
use Rattle.agc_processor.specs.declared.processor.Processor.{Processor}
use Rattle.agc_processor.specs.declared.processor.Ran.{Ran}
use Rattle.agc_processor.specs.declared.processor.Ran.TheVariants as ran
use Rattle.agc_processor.specs.declared.timer.Timer.{Timer}
use Rattle.agc_processor.specs.declared.timer.Timer.TheVariants as timer
use Rattle.agc_processor.specs.Channel.{set_channel}
use Rattle.agc_processor.specs.Effect.{basic_effect, extracode_effect, order_effect}
use Rattle.agc_processor.specs.Interrupt.{interrupted}
use Rattle.agc_processor.specs.Processor.{◌▷◌}
use Rattle.agc_processor.specs.Start.{start_processor}
use Rattle.agc_processor.specs.Table.{KeepsFlags, inhibited_after, serving_after}
use Rattle.agc_processor.specs.Timer.{carried, counter, set_counter, switched_off, time1_step, time2_by, time3_step, time4_step, time5_step, time6_step, timer_step}
use Rattle.agc_machine.specs.Boundary.{Applies, boundary, by_order, carried_out, in_hand, ran_order, upcoming_of}
use Rattle.agc_machine.specs.EventEffect.{happened, is_shift, pressed, proceeded, pulsed_counter}
use Rattle.agc_machine.specs.State.{IsAtStart, State, start_state}
use Rattle.agc_machine.specs.declared.answer.Stepped.{Stepped}
use Rattle.agc_machine.specs.declared.answer.Stop.{Stop}
use Rattle.agc_machine.specs.declared.upcoming.InHand.{InHand}
use Rattle.agc_machine.specs.declared.upcoming.Upcoming.{Upcoming}
use Rattle.agc_machine.specs.declared.upcoming.Upcoming.TheVariants as upcoming
use Rattle.agc_machine.proofs.Cases.{upcoming_applies, upcoming_comes}
use Rattle.agc_trace.specs.Trace.{entries_left, is_stop}
use Rattle.agc_trace.proofs.Steps.{fewer_entries, some_entry}
use Rattle.agc_profile.specs.Context.{at_start, mode_after, mode_past}
use Rattle.agc_profile.specs.Laws.{TellFlags, ReportsFlags}
use Rattle.agc_profile.specs.Opcode.{named_of}
use Rattle.agc_profile.specs.Readers.{all_reported}
use Rattle.agc_profile.specs.Step.{passage_of, passages}
use Rattle.agc_profile.specs.declared.context.Context.{Context}
use Rattle.agc_profile.specs.declared.opcode.Opcode.TheVariants as named
use Rattle.agc_profile.specs.declared.step.Step.{Step}
use Rattle.agc_profile.proofs.Left.{passages_end, passages_go_on}

-- timers and events keep both flags
either : (b : Bool) (p q r : Processor) → KeepsFlags p q → KeepsFlags p r → KeepsFlags p (if b then q else r)
either true p q r h k = h
either false p q r h k = k

carried_flags : (r : Rupt) (c : Carry) (p q : Processor) → KeepsFlags p q → KeepsFlags p (carried r c q)
carried_flags r carry.Out p q h = h
carried_flags r carry.None p q h = h

time2_flags : (c : Carry) (p q : Processor) → KeepsFlags p q → KeepsFlags p (time2_by c q).0
time2_flags carry.Out p q h = h
time2_flags carry.None p q h = h

switch_flags : (c : Carry) (p q : Processor) → KeepsFlags p q → KeepsFlags p (switched_off c q)
switch_flags carry.Out p q h = h
switch_flags carry.None p q h = h

timer_flags : (t : Timer) (p : Processor) → KeepsFlags p (timer_step t p).0
unfolding time1_step time3_step time4_step time5_step time6_step
timer_flags timer.Time1 p = time2_flags _ p _ (refl, refl)
timer_flags timer.Time3 p = carried_flags rupt.T3rupt _ p _ (refl, refl)
timer_flags timer.Time4 p = carried_flags rupt.T4rupt _ p _ (refl, refl)
timer_flags timer.Time5 p = carried_flags rupt.T5rupt _ p _ (refl, refl)
timer_flags timer.Time6 p = switch_flags _ p _ (refl, refl)

set_channel_flags : (c h : ℕ) (w : Number) (p : Processor) → KeepsFlags p (set_channel c h w p)
unfolding set_channel
set_channel_flags c h w p =
    either (h == superbnk) p _ _ (refl, refl) (either (h == chan13) p _ _ (refl, refl) (refl, refl))

pulse_flags : (place : ℕ) (kind : Pulse) (p : Processor) → KeepsFlags p (pulsed_counter place kind p)
unfolding pulsed_counter
pulse_flags place kind p =
    let stepped = pulsed kind (counter place p) in
    let after : Processor = p ▷ set_counter place stepped.0 in
    either ((place == inlink_cell) && is_shift kind) p (after ▷ carried rupt.Uprupt stepped.1) after
    (carried_flags rupt.Uprupt stepped.1 p after (refl, refl)) (refl, refl)

event_flags : (cycle : ℕ) (what : What) (p : Processor) → KeepsFlags p (happened cycle what p)
unfolding happened pressed proceeded
event_flags cycle (what.Input channel value) p = set_channel_flags cycle channel value p
event_flags cycle (what.Pulse place kind) p = pulse_flags place kind p
event_flags cycle (what.Key key) p = (refl, refl)
event_flags cycle (what.Pro down) p = (refl, refl)
event_flags cycle (what.Raise number) p = (refl, refl)
event_flags cycle (what.Poke bank offset value) p = (refl, refl)

kept : (mode : Context) (p q : Processor) → KeepsFlags p q → ReportsFlags mode p → ReportsFlags mode q
kept mode p q k h = record { inhibited = h.inhibited ∙ sym k.0; serving = h.serving ∙ sym k.1 }

-- a basic order changes both as it changes the context
basic_reports : (o : Basic) (mode : Context) (p q : Processor) → q.inhibited ≡ inhibited_after o p.inhibited → q.serving ≡ serving_after o p.serving →
    ReportsFlags mode p → ReportsFlags (mode_past (named.Basic o) mode) q
unfolding inhibited_after serving_after
basic_reports basic.Inhint mode p q i s h = record { inhibited = sym i; serving = h.serving ∙ sym s }
basic_reports basic.Relint mode p q i s h = record { inhibited = sym i; serving = h.serving ∙ sym s }
basic_reports basic.Resume mode p q i s h = record { inhibited = h.inhibited ∙ sym i; serving = sym s }
basic_reports o mode p q i s h = record { inhibited = h.inhibited ∙ sym i; serving = h.serving ∙ sym s }

-- what the table of the orders says of the flags
module _ (inhibits : (o : Basic) (p : Processor) → (basic_effect o p).0.inhibited ≡ inhibited_after o p.inhibited)
    (serves : (o : Basic) (p : Processor) → (basic_effect o p).0.serving ≡ serving_after o p.serving)
    (keeps : (o : Extracode) (c : ℕ) (p : Processor) → KeepsFlags p (extracode_effect o c p).0) where
  reports_by : (b : Bool) (word c : ℕ) (p : Processor) (mode : Context) → ReportsFlags mode p →
      ReportsFlags (mode_past (if b then named.Extracode (extracode_of word) else named.Basic (basic_of word)) mode)
      (if b then extracode_effect (extracode_of word) c p else basic_effect (basic_of word) p).0
  reports_by true word c p mode h = kept mode p (extracode_effect (extracode_of word) c p).0 (keeps (extracode_of word) c p) h
  reports_by false word c p mode h =
      basic_reports (basic_of word) mode p (basic_effect (basic_of word) p).0 (inhibits (basic_of word) p) (serves (basic_of word) p) h

  order_reports : (c : ℕ) (p : Processor) (mode : Context) → ReportsFlags mode p → ReportsFlags (mode_past (named_of (in_hand p)) mode) (order_effect c p).0
  unfolding order_effect in_hand
  order_reports c p mode h = reports_by p.extracode (pattern_of 15 p.hand) c p mode h

  ran_reports : (s : State) (r : Processor × Ran) (mode : Context) → ReportsFlags mode r.0 → ReportsFlags mode (ran_order s r).0.processor
  ran_reports s (p, ran.Quiet cycles) mode h = h
  ran_reports s (p, ran.Wrote channel value) mode h = h
  ran_reports s (p, ran.Halted why) mode h = h

  by_order_reports : (s : State) (mode : Context) → ReportsFlags mode s.processor → ReportsFlags (mode_past (named_of (in_hand s.processor)) mode) (by_order s).0.processor
  unfolding by_order
  by_order_reports s mode h =
      ran_reports s (order_effect s.cycle s.processor) (mode_past (named_of (in_hand s.processor)) mode) (order_reports s.cycle s.processor mode h)

  -- whatever comes changes both as it changes the context
  comes_reports : (u : Upcoming) (s : State) (mode : Context) → Applies u s → ReportsFlags mode s.processor →
      ReportsFlags (mode_after u mode) (carried_out u (record s { begun = true })).0.processor
  unfolding interrupted
  comes_reports (upcoming.Stop why) s mode a h = h
  comes_reports (upcoming.Event what) s mode a h = kept mode s.processor (happened s.cycle what s.processor) (event_flags s.cycle what s.processor) h
  comes_reports (upcoming.Timer t) s mode a h = kept mode s.processor (timer_step t s.processor).0 (timer_flags t s.processor) h
  comes_reports (upcoming.Interrupt r) s mode a h = record { inhibited = h.inhibited; serving = refl }
  comes_reports (upcoming.Order order) s mode a h =
      subst (λ (o : InHand). ReportsFlags (mode_past (named_of o) mode) (by_order (record s { begun = true })).0.processor) (sym a.3)
      (by_order_reports (record s { begun = true }) mode h)

  runs_by : (o : Option Stop) (s : State) → s.stopped ≡ o → is_stop (upcoming_of s) ≡ false → s.stopped ≡ None
  runs_by (Some why) s f e = let stop : is_stop (upcoming_of s) ≡ true = ap is_stop ((upcoming_comes s).stays why f) in cc
  runs_by None s f e = f

  next_reports : (s : State) (mode : Context) → is_stop (upcoming_of s) ≡ false → ReportsFlags mode s.processor →
      ReportsFlags (mode_after (upcoming_of s) mode) (boundary None s).0.processor
  next_reports s mode e h =
      let runs = runs_by s.stopped s refl e in
      subst (λ (r : State × Stepped). ReportsFlags (mode_after (upcoming_of s) mode) r.0.processor) (sym ((upcoming_comes s).comes runs))
      (comes_reports (upcoming_of s) s mode (upcoming_applies s runs) h)

  begins_in : (mode : Context) (s : State) → (passage_of mode s).mode ≡ mode
  unfolding passage_of
  begins_in mode s = refl

  all_tell_by : (b : Bool) (n : ℕ) (s : State) (mode : Context) → is_stop (upcoming_of s) ≡ b → entries_left s ≤ suc n → ReportsFlags mode s.processor →
      ((t : State) (next : Context) → entries_left t ≤ n → ReportsFlags next t.processor → TellFlags t (passages next (all_reported t))) →
      TellFlags s (passages mode (all_reported s))
  all_tell_by true n s mode e l h k = subst (λ (ps : List Step). TellFlags s ps) (sym (passages_end mode s e)) tt
  all_tell_by false n s mode e l h k =
      let t : State = (boundary None s).0 in
      let next : Context = mode_after (upcoming_of s) mode in
      subst (λ (ps : List Step). TellFlags s ps) (sym (passages_go_on mode s e)) (
        subst (λ (m : Context). ReportsFlags m s.processor) (sym (begins_in mode s)) h,
        k t next (omega (arith, l, fewer_entries s e)) (next_reports s mode e h),
      )

  all_tell : (n : ℕ) (s : State) (mode : Context) → entries_left s ≤ n → ReportsFlags mode s.processor → TellFlags s (passages mode (all_reported s))
  all_tell zero s mode l h = absurd (omega (arith, l, some_entry s))
  all_tell (suc n) s mode l h = all_tell_by (is_stop (upcoming_of s)) n s mode refl l h (λ t next m k. all_tell n t next m k)

  begins_at : (words : List Number) → ReportsFlags at_start (start_processor words)
  unfolding start_processor
  begins_at words = record { inhibited = refl; serving = refl }

  start_reports : (s : State) → IsAtStart s → ReportsFlags at_start s.processor
  unfolding start_state
  start_reports s e = subst (λ (t : State). ReportsFlags at_start t.processor) (sym e) (begins_at s.processor.store.fixed)

  pub contexts_tell : (s : State) → IsAtStart s → TellFlags s (passages at_start (all_reported s))
  contexts_tell s e = all_tell (entries_left s) s at_start (omega arith) (start_reports s e)
