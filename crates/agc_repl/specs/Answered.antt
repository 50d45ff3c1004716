-- The answer to each request: the state that it leads to and the lines it prints.
use Rattle.std.specs.Prelude.{◌≡◌, ◌⊎◌, ℕ, ◌+◌, ◌-◌, ◌^◌, ◌==◌, nat_le, min, length, is_some, Bool, List, [], ◌∷◌, ◌++◌, Option, None, Some, Result, Ok, Err, if◌then◌else◌, codes, flat_map}
use Rattle.std.specs.Io.KnownBytes.{Appends}
use Rattle.agc_command.specs.Fault.{fault_text_with}
use Rattle.agc_command.specs.declared.command.BackCall.{BackCall}
use Rattle.agc_command.specs.declared.command.Command.{Command}
use Rattle.agc_command.specs.declared.command.Limits.{Limits}
use Rattle.agc_command.specs.declared.command.Rewind.{Rewind}
use Rattle.agc_command.specs.declared.command.Search.{Search}
use Rattle.agc_command.specs.declared.command.StepCall.{StepCall}
use Rattle.agc_command.specs.declared.command.Command.TheVariants as command
use Rattle.agc_command.specs.declared.fault.CommandFault.{CommandFault}
use Rattle.agc_command.specs.declared.fault.CommandFault.TheVariants as invalid
use Rattle.agc_script.specs.Event.{most_events}
use Rattle.agc_script.specs.declared.event.What.{What}
use Rattle.agc_session.specs.Calls.{ahead, back}
use Rattle.agc_session.specs.Condition.{IsFoundBack, armed_in}
use Rattle.agc_session.specs.Session.{SessionState, discarded, injected_now}
use Rattle.agc_script.specs.Written.{script_text}
use Rattle.agc_session.specs.declared.condition.Armed.{Armed}
use Rattle.agc_session.specs.declared.condition.Condition.{Condition}
use Rattle.agc_session.specs.declared.condition.Condition.TheVariants as condition
use Rattle.agc_session.specs.declared.fault.InjectFault.{InjectFault}
use Rattle.agc_session.specs.declared.fault.InjectFault.TheVariants as fault
use Rattle.agc_trace.specs.NamedLine.{line_with}
use Rattle.agc_trace.specs.Trace.{trace_within}
use Rattle.agc_repl.specs.Changes.{step_text}
use Rattle.agc_repl.specs.Answer.{hit_line, end_line, error_line}
use Rattle.agc_repl.specs.Queries.{shown_text}
use Rattle.agc_repl.specs.Settings.{breakpoint_line, has_number, is_full, next_numbered, with_breakpoint, without_number}
use Rattle.agc_repl.specs.Repl.{RunsOn, after_boundaries, after_due, after_run, all_armed, gone_back, run_of, run_past, takes_event}
use Rattle.agc_repl.specs.Run.{Run, stop_line, writes_text}
use Rattle.agc_command.specs.declared.file_name.FileName.{FileName}
use Rattle.agc_repl.specs.declared.repl.Repl.{Repl}
use Rattle.agc_command.specs.declared.save_fault.SaveFault.{SaveFault}
use Rattle.agc_symbols.specs.Symbols.{Symbol}

-- a parsed line: a command or its fault
abbrev pub Request : Type 0
Request = Result (Option Command) CommandFault

-- the console's state after an answer, and the answer's lines
abbrev pub Answer : Type 0
Answer = Repl × List ℕ

-- the last line of an answer
abbrev pub last_line : Repl → List ℕ
last_line t = end_line t.session.now.stopped t.session.now.cycle

-- the cycle this many cycles from now, as a number of 64 bits
abbrev pub cycles_on : ℕ → Repl → ℕ
cycles_on cycles t = min (t.session.now.cycle + cycles) (2 ^ 64 - 1)

-- a run with the lines of its writes; for `until` also whether its condition was hit, for `continue` which breakpoint
abbrev pub shown_run : Run → Repl → Answer
shown_run run t = (after_run run t, writes_text t.settings.quiet run.writes)

abbrev pub shown_until : Run → Repl → Answer
shown_until run t = (after_run run t, writes_text t.settings.quiet run.writes ++ hit_line (is_some run.hit))

abbrev pub shown_continue : Run → Repl → Answer
shown_continue run t = (after_run run t, writes_text t.settings.quiet run.writes ++ stop_line run.hit)

-- a run past the hits to ignore, for the most cycles
abbrev pub limited_run : Limits → List Armed → Repl → Run
limited_run limits armed t = run_past limits.ignore armed (cycles_on limits.within t) t

-- What a command does, and what it prints before the last line of its answer, unless it injects, goes back or changes
-- the settings: one case each. Commands without a case show something and change nothing.
unfoldable pub done : Option (List Symbol) → Command → Repl → Answer
done names (command.Go cycles) t = shown_run (run_of [] (cycles_on cycles t) t) t
done names (command.GoTo cycle) t = shown_run (run_of [] cycle t) t
done names (command.Step steps) t =
    (after_boundaries steps.boundaries t, step_text names steps.cell steps.boundaries t.session.now)
done names (command.Ahead boundaries) t = (t, flat_map (line_with names) (trace_within boundaries t.session.now))
done names (command.Until what limits) t = shown_until (limited_run limits (armed_in t.session.now 0 what ∷ []) t) t
done names (command.Continue limits) t = shown_continue (limited_run limits (all_armed t) t) t
done names shown t = (t, shown_text names shown t)

-- why an event was not injected
unfoldable pub refusal_text : InjectFault → List ℕ
refusal_text fault.Unwanted = codes "Stopped: the machine takes no event any more"
refusal_text fault.TooMany = codes "TooMany: a script has at most 65536 events"
refusal_text fault.Memory = codes "memory"

abbrev pub refused_by : InjectFault → Repl → Answer
refused_by why t = (t, error_line (refusal_text why))

-- an answer with its last line added
abbrev pub ended : Answer → Answer
ended answer = (answer.0, answer.1 ++ last_line answer.0)

-- An event is rejected if the script is full. Otherwise it is injected after the events of the script that are due,
-- if the machine takes one then.
unfoldable pub given_answer : What → Repl → Answer
given_answer what t =
    let due : Repl = record t { session = after_due t.session } in
    if length t.session.script + length t.session.injected == most_events then refused_by fault.TooMany t
    else if takes_event due.session.now
    then ended (record t { session = injected_now what due.session }, [])
    else refused_by fault.Unwanted due

-- why a session does not go back to a cycle
abbrev pub ahead_text : List ℕ
ahead_text = codes "Ahead: the machine has not reached this cycle; go to C runs on to it"

-- the lines of the events that going back drops, if they are to be listed
unfoldable pub dropped_text : Rewind → SessionState → List ℕ
dropped_text way s = if way.lists then script_text (discarded way.cut s) else []

abbrev pub went_back : Rewind → Repl → Answer
went_back way t = (gone_back way.cut way.cycle t, dropped_text way t.session)

-- A session goes back to a cycle that it has reached, without the events injected at the cut or later.
unfoldable pub back_answer : Rewind → Repl → Answer
back_answer way t =
    if nat_le way.cycle t.session.now.cycle then ended (went_back way t)
    else (t, error_line ahead_text)

-- why there is no further breakpoint, or none to delete
abbrev pub full_text : List ℕ
full_text = codes "TooManyBreakpoints: there are at most 64; delete N makes room"

abbrev pub missing_text : List ℕ
missing_text = codes "NoBreakpoint: no breakpoint has this number; breaks lists them"

-- A breakpoint is set unless there are too many.
abbrev pub breakpoint_set : Condition → Repl → Answer
breakpoint_set what t =
    ended (
      record t { settings = with_breakpoint what t.settings },
      breakpoint_line (next_numbered what t.settings),
    )

unfoldable pub break_answer : Condition → Repl → Answer
break_answer what t =
    if is_full t.settings then (t, error_line full_text) else breakpoint_set what t

-- A breakpoint is deleted if there is one with this number.
unfoldable pub delete_answer : ℕ → Repl → Answer
delete_answer number t =
    if has_number number t.settings
    then ended (record t { settings = without_number number t.settings }, [])
    else (t, error_line missing_text)

unfoldable pub quiet_answer : Bool → Repl → Answer
quiet_answer quiet t = ended (record t { settings = record t.settings { quiet = quiet } }, [])

-- the fault of a search back that finds nothing
abbrev pub missed_hit : Condition → ℕ → CommandFault
missed_hit condition.Boundary count = invalid.TooFarBack
missed_hit what count = if count == 1 then invalid.NotHit else invalid.TooFewHits

unfoldable pub missed : Search → CommandFault
missed search = missed_hit search.what search.count

-- the cycle after this one, as a number of 64 bits
unfoldable pub cycle_after : ℕ → ℕ
cycle_after cycle = min (cycle + 1) (2 ^ 64 - 1)

-- `back` to the cycle that a search has found; the events injected at this cycle stay in the script
abbrev pub found_request : Search → Option ℕ → Request
found_request search (Some cycle) =
    Ok (Some (command.Back (record { cut = cycle_after cycle; cycle = cycle; lists = search.lists })))
found_request search None = Err (missed search)

-- `save` once it was tried: itself, answered like an empty line, or a line at fault
unfoldable pub request_saved : FileName → Result (Unit {0}) SaveFault → Request
request_saved name (Ok done) = Ok (Some (command.Save name))
request_saved name (Err why) = Err (invalid.NotSaved why)

-- a step by calls as the run to the order at which it ends, and a step back by calls as the search for it
abbrev pub call_request : StepCall → Repl → Request
call_request step t =
    Ok (Some (command.Until (ahead step.step step.job t.session.now) (record { ignore = 0; within = step.within })))

abbrev pub call_search : BackCall → Repl → Search
call_search step t = record { what = back step.step step.job t.session.now; count = 1; lists = step.lists }

-- a search back as `back` to the cycle that it finds
abbrev pub MeansFound : Search → Repl → Request → Type 0
MeansFound search t meant =
    (found : Option ℕ) × IsFoundBack search.what search.count t.session found × (meant ≡ found_request search found)

-- What a request means in a state: a search back means to go back to the cycle that it finds, or a line at fault if
-- it finds none; a step by calls means `until` the condition at which it ends, back the search for it; `save` means
-- itself, or a line at fault if it fails. Every other request means itself.
abbrev pub Means : Request → Repl → Request → Type 0
Means (Ok (Some (command.BackTo search))) t meant = MeansFound search t meant
Means (Ok (Some (command.StepCall step))) t meant = meant ≡ call_request step t
Means (Ok (Some (command.BackCall step))) t meant = MeansFound (call_search step t) t meant
Means (Ok (Some (command.Save name))) t meant =
    (saved : Result (Unit {0}) SaveFault) × (meant ≡ request_saved name saved)
Means request t meant = meant ≡ request

-- the answer to a command; a search back and a step by calls are answered by what they mean
unfoldable pub answered : Option (List Symbol) → Command → Repl → Answer
answered names (command.Inject what) t = given_answer what t
answered names (command.Back way) t = back_answer way t
answered names (command.BackTo search) t = (t, [])
answered names (command.StepCall step) t = (t, [])
answered names (command.BackCall step) t = (t, [])
answered names (command.Break what) t = break_answer what t
answered names (command.Delete number) t = delete_answer number t
answered names (command.Quiet quiet) t = quiet_answer quiet t
answered names other t = ended (done names other t)

-- the answer to a request: just the last line for a line without a command, and an error line for a fault
unfoldable pub answer_to : Option (List Symbol) → Request → Repl → Answer
answer_to names (Ok (Some command)) t = answered names command t
answer_to names (Ok None) t = ended (t, [])
answer_to names (Err why) t = (t, error_line (fault_text_with names why))

-- an answer was printed: the known output has grown by its lines
abbrev pub Outputs : Answer → Repl → Option (List ℕ) → Option (List ℕ) → Type 0
Outputs answer t old new = (t ≡ answer.0) × Appends old new answer.1

-- the known output has grown
abbrev pub Grows : Option (List ℕ) → Option (List ℕ) → Type 0
Grows old new = (parsed : List ℕ) × Appends old new parsed

-- the known output has grown by a beginning of this text
abbrev pub Begins : List ℕ → Option (List ℕ) → Option (List ℕ) → Type 0
Begins whole old new = (parsed : List ℕ) × (rest : List ℕ) × Appends old new parsed × (whole ≡ parsed ++ rest)

-- What a command has done if memory ran out: a run took some boundaries; for an event at most the script's events that
-- were due have happened, and it was not injected; every other command, `back` too, has changed nothing.
abbrev pub IsPartOf : Command → Repl → Repl → Type 0
IsPartOf (command.Go cycles) s t = RunsOn s t
IsPartOf (command.GoTo cycle) s t = RunsOn s t
IsPartOf (command.Step steps) s t = RunsOn s t
IsPartOf (command.Until what limits) s t = RunsOn s t
IsPartOf (command.Continue limits) s t = RunsOn s t
IsPartOf (command.Inject what) s t = (t ≡ s) ⊎ (t ≡ record s { session = after_due s.session })
IsPartOf shown s t = t ≡ s

-- the same for a request: a line that is no command, and one at fault, changes nothing
abbrev pub IsLeft : Request → Repl → Repl → Type 0
IsLeft (Ok (Some command)) s t = IsPartOf command s t
IsLeft (Ok None) s t = t ≡ s
IsLeft (Err why) s t = t ≡ s

-- `back` has gone there, or memory ran out and it did nothing
abbrev pub GoesBack : Rewind → Repl → Repl → Option (List ℕ) → Option (List ℕ) → Type 0
GoesBack way s t old new =
    Outputs (ended (went_back way s)) t old new ⊎ ((t ≡ s) × Appends old new (codes "error: memory\n"))

-- a breakpoint was set, or memory ran out and it was not
abbrev pub Sets : Condition → Repl → Repl → Option (List ℕ) → Option (List ℕ) → Type 0
Sets what s t old new =
    Outputs (breakpoint_set what s) t old new ⊎ ((t ≡ s) × Appends old new (codes "error: memory\n"))

-- Memory ran out during an answer: a beginning of it was printed, and then that memory ran out.
pub record RunsOut (names : Option (List Symbol)) (request : Request) (s t : Repl) (old new : Option (List ℕ)) : Type 0 where
  pub left : IsLeft request s t
  pub parsed : List ℕ
  pub rest : List ℕ
  pub begins : (answer_to names request s).1 ≡ parsed ++ rest
  pub ends : Appends old new (parsed ++ codes "error: memory\n")

-- a request is answered, or memory ran out
abbrev pub IsAnswered : Option (List Symbol) → Request → Repl → Repl → Option (List ℕ) → Option (List ℕ) → Type 0
IsAnswered names request s t old new = Outputs (answer_to names request s) t old new ⊎ RunsOut names request s t old new

-- A request was handled: what it means was answered, or memory ran out in a search back, which changes nothing.
abbrev pub IsHandled : Option (List Symbol) → Request → Repl → Repl → Option (List ℕ) → Option (List ℕ) → Type 0
IsHandled names request s t old new =
    ((meant : Request) × Means request s meant × IsAnswered names meant s t old new) ⊎ RunsOut names request s t old new

-- a request that can mean itself: every one but a search back and a step by calls
abbrev pub IsItself : Request → Type 0
IsItself (Ok (Some (command.BackTo search))) = ⊥
IsItself (Ok (Some (command.StepCall step))) = ⊥
IsItself (Ok (Some (command.BackCall step))) = ⊥
IsItself request = Unit {0}

-- a request that does not go back
abbrev pub IsInPlace : Request → Type 0
IsInPlace (Ok (Some (command.Back way))) = ⊥
IsInPlace (Ok (Some (command.BackTo search))) = ⊥
IsInPlace (Ok (Some (command.StepCall step))) = ⊥
IsInPlace (Ok (Some (command.BackCall step))) = ⊥
IsInPlace request = Unit {0}

-- commands that neither go back, inject nor change the settings, which are executed separately
abbrev pub IsPlain : Command → Type 0
IsPlain (command.Break what) = ⊥
IsPlain (command.Delete number) = ⊥
IsPlain (command.Quiet quiet) = ⊥
IsPlain (command.Back way) = ⊥
IsPlain (command.BackTo search) = ⊥
IsPlain (command.StepCall step) = ⊥
IsPlain (command.BackCall step) = ⊥
IsPlain (command.Inject what) = ⊥
IsPlain command = Unit {0}

abbrev pub IsPlainRequest : Request → Type 0
IsPlainRequest (Ok (Some command)) = IsPlain command
IsPlainRequest (Ok None) = Unit {0}
IsPlainRequest (Err why) = Unit {0}
