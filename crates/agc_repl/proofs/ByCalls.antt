-- A step by calls is answered as the run or the search that it means.
use Rattle.std.specs.Prelude.{◌≡◌, ◌≤◌, ℕ, Bool, true, false, List, Option, Some, None, IfOk, IfSome, Ok, if◌then◌else◌}
use Rattle.std.proofs.Common.{ap, sym, subst, inl, inr}
use Rattle.agc_listing.specs.Location.{location_in}
use Rattle.agc_listing.specs.declared.location.Location.{Location}
use Rattle.agc_machine.specs.Boundary.{upcoming_of}
use Rattle.agc_machine.specs.State.{State}
use Rattle.agc_machine.specs.declared.upcoming.Upcoming.{Upcoming}
use Rattle.agc_machine.specs.declared.upcoming.Upcoming.TheVariants as upcoming
use Rattle.agc_script.specs.Event.{last_cycle}
use Rattle.agc_session.specs.Calls.{ahead, back, caller_at, is_call, job_of, over_by}
use Rattle.agc_session.specs.Condition.{IsJobInRange}
use Rattle.agc_session.specs.declared.calls.CallStep.{CallStep}
use Rattle.agc_session.specs.declared.calls.CallStep.TheVariants as step
use Rattle.agc_session.specs.declared.condition.Condition.{Condition}
use Rattle.agc_session.specs.declared.condition.Condition.TheVariants as condition
use Rattle.agc_store.specs.Memory.{Memory}
use Rattle.agc_repl.specs.Answered.{IsAnswered, IsHandled, answer_to, answered, call_request, call_search}
use Rattle.agc_command.specs.Command.{IsBreakpointInRange, IsCommandInRange, IsJobCell}
use Rattle.agc_command.specs.declared.command.BackCall.{BackCall}
use Rattle.agc_command.specs.declared.command.Command.TheVariants as command
use Rattle.agc_command.specs.declared.command.Search.{Search}
use Rattle.agc_command.specs.declared.command.StepCall.{StepCall}
use Rattle.agc_repl.specs.declared.repl.Repl.{Repl}
use Rattle.agc_symbols.specs.Symbols.{Symbol}

job_in_range : (cell : Option ℕ) (m : Memory) → IsJobCell cell → IsJobInRange (job_of cell m)
job_in_range (Some cell) m h = h
job_in_range None m h = tt

caller_in_range : (cell : Option ℕ) (s : State) (first : Location) (count : ℕ) → IsJobCell cell → IsBreakpointInRange (caller_at cell s first count)
unfolding IsBreakpointInRange
caller_in_range cell s first count h = job_in_range cell s.processor.store h

either_in_range : (b : Bool) (x y : Condition) → IsBreakpointInRange x → IsBreakpointInRange y → IsBreakpointInRange (if b then x else y)
either_in_range true x y h k = h
either_in_range false x y h k = k

any_in_range : IsBreakpointInRange condition.Boundary
unfolding IsBreakpointInRange
any_in_range = tt

over_in_range : (cell : Option ℕ) (s : State) (u : Upcoming) → IsJobCell cell → IsBreakpointInRange (over_by cell s u)
unfolding over_by
over_in_range cell s (upcoming.Order order) h = either_in_range (is_call order s.processor.store) _ _ (caller_in_range cell s _ _ h) any_in_range
over_in_range cell s (upcoming.Interrupt r) h = caller_in_range cell s _ _ h
over_in_range cell s (upcoming.Stop why) h = any_in_range
over_in_range cell s (upcoming.Event what) h = any_in_range
over_in_range cell s (upcoming.Timer t) h = any_in_range

ahead_in_range : (call : CallStep) (cell : Option ℕ) (s : State) → IsJobCell cell → IsBreakpointInRange (ahead call cell s)
unfolding ahead
ahead_in_range step.Over cell s h = over_in_range cell s (upcoming_of s) h
ahead_in_range step.Finish cell s h = caller_in_range cell s _ _ h

pub until_in_range : (what : Condition) (call : CallStep) (cell : Option ℕ) (s : State) (within : ℕ) → what ≡ ahead call cell s → IsJobCell cell → within ≤ last_cycle
    → IsCommandInRange (command.Until what (record { ignore = 0; within = within }))
unfolding IsCommandInRange
until_in_range what call cell s within e h k = (subst IsBreakpointInRange (sym e) (ahead_in_range call cell s h), k)

pub call_handled : (names : Option (List Symbol)) (call : StepCall) (what : Condition) (s t : Repl) (old new : Option (List ℕ))
    → what ≡ ahead call.step call.job s.session.now → IsAnswered names (Ok (Some (command.Until what (record { ignore = 0; within = call.within })))) s t old new
    → IsHandled names (Ok (Some (command.StepCall call))) s t old new
call_handled names call what s t old new e h =
    inl (
      Ok (Some (command.Until what (record { ignore = 0; within = call.within }))),
      ap (λ (w : Condition). Ok (Some (command.Until w (record { ignore = 0; within = call.within })))) e,
      h,
    )

-- a search back that a step back by calls means
searched : (names : Option (List Symbol)) (call : BackCall) (s t : Repl) (old new : Option (List ℕ))
    → IsHandled names (Ok (Some (command.BackTo (call_search call s)))) s t old new → IsHandled names (Ok (Some (command.BackCall call))) s t old new
unfolding answer_to answered
searched names call s t old new (inl h) = inl h
searched names call s t old new (inr h) = inr (record { left = h.left; parsed = h.parsed; rest = h.rest; begins = h.begins; ends = h.ends })

pub back_handled : (names : Option (List Symbol)) (call : BackCall) (what : Condition) (s t : Repl) (old new : Option (List ℕ))
    → what ≡ back call.step call.job s.session.now
    → IsHandled names (Ok (Some (command.BackTo (record { what = what; count = 1; lists = call.lists })))) s t old new
    → IsHandled names (Ok (Some (command.BackCall call))) s t old new
back_handled names call what s t old new e h =
    searched names call s t old new
    (subst (λ (w : Condition). IsHandled names (Ok (Some (command.BackTo (record { what = w; count = 1; lists = call.lists })))) s t old new) e h)
