-- How the parts of an answer make up the whole.
use Rattle.std.specs.Prelude.{◌≡◌, ◌≢◌, ℕ, ◌+◌, ◌==◌, nat_le, Bool, true, false, List, [], ◌∷◌, ◌++◌, length, Option, None, Some, Result, Ok, Err, IfOk, IfSome, MatchResult, OnOk, IsErrOf, codes, if◌then◌else◌}
use Rattle.std.specs.Io.KnownBytes.{Appends, append_known}
use Rattle.std.proofs.Common.{refl, ap, sym, subst, ◌∙◌, inl, inr}
use Rattle.std.proofs.KnownBytes.{Appends-trans}
use Rattle.std.proofs.lemmas.Bool.{eq-eqb, eqb-true}
use Rattle.agc_command.specs.Fault.{fault_text_with}
use Rattle.agc_command.specs.declared.command.Command.{Command}
use Rattle.agc_command.specs.declared.command.Command.TheVariants as command
use Rattle.agc_command.specs.declared.command.Limits.{Limits}
use Rattle.agc_command.specs.declared.command.Steps.{Steps}
use Rattle.agc_repl.specs.Changes.{step_text}
use Rattle.agc_command.specs.declared.command.Rewind.{Rewind}
use Rattle.agc_command.specs.declared.fault.CommandFault.{CommandFault}
use Rattle.agc_command.specs.Command.{IsBreakpointInRange, IsCommandInRange}
use Rattle.agc_script.specs.Event.{IsWhatInRange, most_events}
use Rattle.agc_script.specs.declared.event.What.{What}
use Rattle.agc_session.specs.Condition.{armed_in}
use Rattle.agc_session.specs.Session.{injected_now}
use Rattle.agc_session.specs.declared.condition.Condition.{Condition}
use Rattle.agc_session.specs.declared.fault.InjectFault.{InjectFault}
use Rattle.agc_session.specs.declared.fault.InjectFault.TheVariants as fault
use Rattle.agc_repl.specs.Answer.{error_line}
use Rattle.agc_repl.specs.Answered.{Answer, Begins, GoesBack, IsAnswered, IsLeft, IsPartOf, IsPlain, IsPlainRequest, Request, RunsOut, Sets, Outputs, ahead_text, answer_to, answered, back_answer, break_answer, breakpoint_set, cycles_on, delete_answer, done, dropped_text, ended, full_text, given_answer, last_line, limited_run, missing_text, quiet_answer, refusal_text, refused_by, shown_continue, shown_run, shown_until, went_back}
use Rattle.agc_repl.specs.Queries.{shown_text}
use Rattle.agc_repl.specs.Settings.{breakpoint_line, has_number, is_full, next_numbered, with_breakpoint, without_number}
use Rattle.agc_repl.specs.Repl.{after_boundaries, after_due, all_armed, gone_back, run_of, takes_event}
use Rattle.agc_repl.specs.declared.conversation.ReplFault.{ReplFault}
use Rattle.agc_repl.specs.declared.repl.Repl.{Repl}
use Rattle.agc_repl.proofs.Going.{stays_run}
use Rattle.agc_repl.proofs.Beginning.{nothing_begun}
use Rattle.agc_repl.proofs.Telling.{grown}
use Rattle.agc_symbols.specs.Symbols.{Symbol}

-- an answer with its end
pub reports_end : (a : Answer) (t : Repl) (begun o : Option (List ℕ)) (old new : List ℕ) → Outputs a t begun (append_known o old) → new ≡ old ++ last_line t
    → Outputs (ended a) t begun (append_known o new)
reports_end a t begun o old new h e =
    let line : Appends (append_known o old) (append_known o new) (last_line a.0) =
    subst (λ (u : Repl). Appends (append_known o old) (append_known o new) (last_line u)) h.0 (grown o old new (last_line t) e) in
    (h.0, Appends-trans begun (append_known o old) (append_known o new) a.1 (last_line a.0) h.1 line)

answered_plain : (names : Option (List Symbol)) (c : Command) (s : Repl) → IsPlain c → answered names c s ≡ ended (done names c s)
unfolding answered
answered_plain names (command.Inject what) s h = absurd h
answered_plain names (command.Back way) s h = absurd h
answered_plain names (command.BackTo search) s h = absurd h
answered_plain names (command.StepCall step) s h = absurd h
answered_plain names (command.BackCall step) s h = absurd h
answered_plain names (command.Break what) s h = absurd h
answered_plain names (command.Delete number) s h = absurd h
answered_plain names (command.Quiet quiet) s h = absurd h
answered_plain names c s h = refl

pub answered_event : (names : Option (List Symbol)) (what : What) (s : Repl) → answer_to names (Ok (Some (command.Inject what))) s ≡ given_answer what s
unfolding answer_to answered
answered_event names what s = refl

pub what_in_range : (request : Request) (parsed : Option Command) (c : Command) (what : What) → request ≡ Ok parsed → parsed ≡ Some c → c ≡ command.Inject what
    → IfOk request (λ read. IfSome read IsCommandInRange) → IsWhatInRange what
unfolding IsCommandInRange
what_in_range request parsed c what e f h k = rw (e, f, h) at k

-- a plain request's answer is that of its command, with the last line
plain_command : (request : Request) (parsed : Option Command) (c : Command) → request ≡ Ok parsed → parsed ≡ Some c → IsPlainRequest request → IsPlain c
plain_command request parsed c e f h = rw (e, f) at h

pub answer_of_command : (names : Option (List Symbol)) (request : Request) (parsed : Option Command) (c : Command) (s : Repl) → request ≡ Ok parsed → parsed ≡ Some c → IsPlainRequest request
    → answer_to names request s ≡ ended (done names c s)
unfolding answer_to
answer_of_command names request parsed c s e f h =
    ap (λ (x : Request). answer_to names x s) (e ∙ ap Ok f) ∙ answered_plain names c s (plain_command request parsed c e f h)

pub answer_of_nothing : (names : Option (List Symbol)) (request : Request) (parsed : Option Command) (s : Repl) → request ≡ Ok parsed → parsed ≡ None → answer_to names request s ≡ (s, last_line s)
unfolding answer_to
answer_of_nothing names request parsed s e f = ap (λ (x : Request). answer_to names x s) (e ∙ ap Ok f)

pub answer_of_fault : (names : Option (List Symbol)) (request : Request) (why : CommandFault) (s : Repl) → request ≡ Err why → answer_to names request s ≡ (s, error_line (fault_text_with names why))
unfolding answer_to
answer_of_fault names request why s e = ap (λ (x : Request). answer_to names x s) e

pub reports_same : (a b : Answer) (t : Repl) (old new : Option (List ℕ)) → a ≡ b → Outputs b t old new → Outputs a t old new
reports_same a b t old new e h = rw e h

-- an event that was injected or rejected
not_equal : (m n : ℕ) (b : Bool) → (m == n) ≡ b → (m ≡ n → ⊥) → b ≡ false
not_equal m n true e h = absurd (h (eqb-true m n e))
not_equal m n false e h = refl

given_by : (full takes : Bool) (x y z : Answer) → full ≡ false → takes ≡ true → (if full then x else (if takes then y else z)) ≡ y
given_by full takes x y z e f = rw (e, f) refl

refused_so : (full takes : Bool) (x y z : Answer) → full ≡ false → takes ≡ false → (if full then x else (if takes then y else z)) ≡ z
refused_so full takes x y z e f = rw (e, f) refl

full_by : (full : Bool) (x y : Answer) → full ≡ true → (if full then x else y) ≡ x
full_by full x y e = rw e refl

abbrev events : Repl → ℕ
events s = length s.session.script + length s.session.injected

pub given_there : (what : What) (s : Repl) → events s ≢ most_events → takes_event (after_due s.session).now ≡ true
    → given_answer what s ≡ ended (record s { session = injected_now what (after_due s.session) }, [])
unfolding given_answer
given_there what s h e = given_by (events s == most_events) (takes_event (after_due s.session).now) _ _ _ (not_equal (events s) most_events _ refl h) e

pub refused_there : (what : What) (s : Repl) → events s ≢ most_events → takes_event (after_due s.session).now ≡ false
    → given_answer what s ≡ refused_by fault.Unwanted (record s { session = after_due s.session })
unfolding given_answer
refused_there what s h e = refused_so (events s == most_events) (takes_event (after_due s.session).now) _ _ _ (not_equal (events s) most_events _ refl h) e

pub full_there : (what : What) (s : Repl) → events s ≡ most_events → given_answer what s ≡ refused_by fault.TooMany s
unfolding given_answer
full_there what s h = full_by (events s == most_events) _ _ (eq-eqb (events s) most_events h)

-- memory ran out
pub ran_out : (names : Option (List Symbol)) (request : Request) (s t : Repl) (none : List ℕ) (a b c : Option (List ℕ)) → IsLeft request s t → none ≡ []
    → Begins (none ++ (answer_to names request s).1) a b → Appends b c (codes "error: memory\n") → RunsOut names request s t a c
ran_out names request s t none a b c left e h k =
    record {
      left = left;
      parsed = h.0;
      rest = h.1;
      begins = sym (ap (λ (xs : List ℕ). xs ++ (answer_to names request s).1) e) ∙ h.3;
      ends = Appends-trans a b c h.0 (codes "error: memory\n") h.2 k;
    }

-- nothing was done
pub left_nothing : (request : Request) (s : Repl) → IsLeft request s s
left_nothing (Ok (Some (command.Go cycles))) s = stays_run s
left_nothing (Ok (Some (command.GoTo cycle))) s = stays_run s
left_nothing (Ok (Some (command.Step steps))) s = stays_run s
left_nothing (Ok (Some (command.Until what limits))) s = stays_run s
left_nothing (Ok (Some (command.Continue limits))) s = stays_run s
left_nothing (Ok (Some (command.Inject what))) s = inl refl
left_nothing (Ok (Some c)) s = refl
left_nothing (Ok None) s = refl
left_nothing (Err why) s = refl

pub begins_as : (a b : Answer) (old : List ℕ) (from now : Option (List ℕ)) → a ≡ b → Begins (old ++ b.1) from now → Begins (old ++ a.1) from now
begins_as a b old from now e h = rw e h

-- what each command does
pub done_go : (names : Option (List Symbol)) (c : Command) (cycles end : ℕ) (s : Repl) → c ≡ command.Go cycles → end ≡ cycles_on cycles s
    → done names c s ≡ shown_run (run_of [] end s) s
unfolding done
done_go names c cycles end s e f = rw f (ap (λ (x : Command). done names x s) e)

pub done_to : (names : Option (List Symbol)) (c : Command) (cycle : ℕ) (s : Repl) → c ≡ command.GoTo cycle → done names c s ≡ shown_run (run_of [] cycle s) s
unfolding done
done_to names c cycle s e = ap (λ (x : Command). done names x s) e

pub done_step : (names : Option (List Symbol)) (c : Command) (steps : Steps) (s : Repl) → c ≡ command.Step steps
    → done names c s ≡ (after_boundaries steps.boundaries s, step_text names steps.cell steps.boundaries s.session.now)
unfolding done
done_step names c steps s e = ap (λ (x : Command). done names x s) e

pub done_until : (names : Option (List Symbol)) (c : Command) (what : Condition) (limits : Limits) (s : Repl) → c ≡ command.Until what limits
    → done names c s ≡ shown_until (limited_run limits (armed_in s.session.now 0 what ∷ []) s) s
unfolding done
done_until names c what limits s e = ap (λ (x : Command). done names x s) e

pub done_shown : (names : Option (List Symbol)) (c : Command) (s : Repl) → ((cycles : ℕ) → c ≡ command.Go cycles → ⊥) → ((cycle : ℕ) → c ≡ command.GoTo cycle → ⊥)
    → ((steps : Steps) → c ≡ command.Step steps → ⊥) → ((what : Condition) (limits : Limits) → c ≡ command.Until what limits → ⊥)
    → ((limits : Limits) → c ≡ command.Continue limits → ⊥) → ((boundaries : ℕ) → c ≡ command.Ahead boundaries → ⊥) → done names c s ≡ (s, shown_text names c s)
unfolding done
done_shown names (command.Go cycles) s a b d e f g = absurd (a cycles refl)
done_shown names (command.GoTo cycle) s a b d e f g = absurd (b cycle refl)
done_shown names (command.Step steps) s a b d e f g = absurd (d steps refl)
done_shown names (command.Until what limits) s a b d e f g = absurd (e what limits refl)
done_shown names (command.Continue limits) s a b d e f g = absurd (f limits refl)
done_shown names (command.Ahead boundaries) s a b d e f g = absurd (g boundaries refl)
done_shown names c s a b d e f g = refl

pub changes_nothing : (c : Command) (s : Repl) → IsPlain c → ((cycles : ℕ) → c ≡ command.Go cycles → ⊥) → ((cycle : ℕ) → c ≡ command.GoTo cycle → ⊥)
    → ((steps : Steps) → c ≡ command.Step steps → ⊥) → ((what : Condition) (limits : Limits) → c ≡ command.Until what limits → ⊥)
    → ((limits : Limits) → c ≡ command.Continue limits → ⊥) → IsPartOf c s s
changes_nothing (command.Go cycles) s h a b d e f = absurd (a cycles refl)
changes_nothing (command.GoTo cycle) s h a b d e f = absurd (b cycle refl)
changes_nothing (command.Step steps) s h a b d e f = absurd (d steps refl)
changes_nothing (command.Until what limits) s h a b d e f = absurd (e what limits refl)
changes_nothing (command.Continue limits) s h a b d e f = absurd (f limits refl)
changes_nothing (command.Inject what) s h a b d e f = absurd h
changes_nothing c s h a b d e f = refl

pub done_continue : (names : Option (List Symbol)) (c : Command) (limits : Limits) (s : Repl) → c ≡ command.Continue limits
    → done names c s ≡ shown_continue (limited_run limits (all_armed s) s) s
unfolding done
done_continue names c limits s e = ap (λ (x : Command). done names x s) e

if_reached : (there : Bool) (x y : Answer) → there ≡ true → (if there then x else y) ≡ x
if_reached there x y e = rw e refl

if_ahead : (there : Bool) (x y : Answer) → there ≡ false → (if there then x else y) ≡ y
if_ahead there x y e = rw e refl

answered_back : (names : Option (List Symbol)) (way : Rewind) (s : Repl) → nat_le way.cycle s.session.now.cycle ≡ true
    → answer_to names (Ok (Some (command.Back way))) s ≡ ended (went_back way s)
unfolding answer_to answered back_answer
answered_back names way s e = if_reached (nat_le way.cycle s.session.now.cycle) _ _ e

answered_ahead : (names : Option (List Symbol)) (way : Rewind) (s : Repl) → nat_le way.cycle s.session.now.cycle ≡ false
    → answer_to names (Ok (Some (command.Back way))) s ≡ (s, error_line ahead_text)
unfolding answer_to answered back_answer
answered_ahead names way s e = if_ahead (nat_le way.cycle s.session.now.cycle) _ _ e

-- `back` went there, or did nothing
pub back_reported : (names : Option (List Symbol)) (way : Rewind) (s t : Repl) (old new : Option (List ℕ)) → nat_le way.cycle s.session.now.cycle ≡ true → GoesBack way s t old new
    → IsAnswered names (Ok (Some (command.Back way))) s t old new
back_reported names way s t old new e (inl h) = inl (reports_same _ _ t old new (answered_back names way s e) h)
back_reported names way s t old new e (inr h) =
    inr (ran_out names (Ok (Some (command.Back way))) s t [] old old new h.0 refl (nothing_begun _ old) h.1)

pub ahead_reported : (names : Option (List Symbol)) (way : Rewind) (s t : Repl) (old new : Option (List ℕ)) → nat_le way.cycle s.session.now.cycle ≡ false
    → (t ≡ s) × Appends old new (error_line ahead_text) → IsAnswered names (Ok (Some (command.Back way))) s t old new
ahead_reported names way s t old new e h = inl (reports_same _ _ t old new (answered_ahead names way s e) h)

-- a part of an answer that is not yet written
pub reports_waiting : (a : Answer) (t : Repl) (o : Option (List ℕ)) (old new : List ℕ) → t ≡ a.0 → new ≡ old ++ a.1 → Outputs a t (append_known o old) (append_known o new)
reports_waiting a t o old new e h = (e, grown o old new a.1 h)

-- a rejection, by why the event was not injected
pub refused_is : (what : What) (s t : Repl) (r : Result (Unit {0}) InjectFault) (why : InjectFault) → r ≡ Err why → (why ≡ fault.Memory → ⊥)
    → (IsErrOf r fault.Unwanted → (t ≡ record s { session = after_due s.session }) × (takes_event (after_due s.session).now ≡ false) × (events s ≢ most_events))
    → (IsErrOf r fault.TooMany → (t ≡ s) × (events s ≡ most_events))
    → (t ≡ (given_answer what s).0) × (error_line (refusal_text why) ≡ (given_answer what s).1)
refused_is what s t r fault.Memory e never u m = absurd (never refl)
refused_is what s t r fault.Unwanted e never u m =
    let so = u e in
    let is = refused_there what s so.2 so.1 in
    (so.0 ∙ ap (λ (a : Answer). a.0) (sym is), ap (λ (a : Answer). a.1) (sym is))
refused_is what s t r fault.TooMany e never u m =
    let so = m e in
    let is = full_there what s so.1 in
    (so.0 ∙ ap (λ (a : Answer). a.0) (sym is), ap (λ (a : Answer). a.1) (sym is))

pub given_is : (what : What) (s t : Repl) → t ≡ record s { session = injected_now what (after_due s.session) } → takes_event (after_due s.session).now ≡ true
    → events s ≢ most_events → (t ≡ (given_answer what s).0) × (last_line t ≡ (given_answer what s).1)
given_is what s t e takes room =
    let is = given_there what s room takes in
    (e ∙ ap (λ (a : Answer). a.0) (sym is), ap last_line e ∙ ap (λ (a : Answer). a.1) (sym is))

pub line_is : (old new line other : List ℕ) → new ≡ old ++ line → line ≡ other → new ≡ old ++ other
line_is old new line other h e = h ∙ ap (λ (x : List ℕ). old ++ x) e

-- the lines of the answer to `back`
pub back_written : (way : Rewind) (s t : Repl) (dropped lines : List ℕ) (a b : Option (List ℕ)) → t ≡ gone_back way.cut way.cycle s → dropped ≡ dropped_text way s.session
    → lines ≡ dropped → Appends a b (lines ++ last_line t) → Outputs (ended (went_back way s)) t a b
back_written way s t dropped lines a b e f g h =
    (e, subst (λ (xs : List ℕ). Appends a b (xs ++ last_line (gone_back way.cut way.cycle s))) (g ∙ f) (subst (λ (u : Repl). Appends a b (lines ++ last_line u)) e h))

-- an event that was injected, or rejected
pub event_given : (names : Option (List Symbol)) (what : What) (s t : Repl) (old new : Option (List ℕ)) → (t ≡ (given_answer what s).0) × (last_line t ≡ (given_answer what s).1)
    → Appends old new (last_line t) → IsAnswered names (Ok (Some (command.Inject what))) s t old new
event_given names what s t old new h k =
    inl (reports_same _ _ t old new (answered_event names what s) (h.0, subst (Appends old new) h.1 k))

pub event_refused : (names : Option (List Symbol)) (what : What) (s t : Repl) (why : InjectFault) (old new : Option (List ℕ))
    → (t ≡ (given_answer what s).0) × (error_line (refusal_text why) ≡ (given_answer what s).1) → Appends old new (error_line (refusal_text why))
    → IsAnswered names (Ok (Some (command.Inject what))) s t old new
event_refused names what s t why old new h k =
    inl (reports_same _ _ t old new (answered_event names what s) (h.0, subst (Appends old new) h.1 k))

pub event_short : (names : Option (List Symbol)) (what : What) (s t : Repl) (old new : Option (List ℕ)) → IsPartOf (command.Inject what) s t
    → Appends old new (codes "error: memory\n") → IsAnswered names (Ok (Some (command.Inject what))) s t old new
event_short names what s t old new h k =
    inr (ran_out names (Ok (Some (command.Inject what))) s t [] old old new h refl (nothing_begun _ old) k)

-- why an event was not injected decides what is written
event_by : (names : Option (List Symbol)) (what : What) (s t : Repl) (r : Result (Unit {0}) InjectFault) (why : InjectFault) (old new : Option (List ℕ)) → r ≡ Err why
    → (IsErrOf r fault.Unwanted → (t ≡ record s { session = after_due s.session }) × (takes_event (after_due s.session).now ≡ false) × (events s ≢ most_events))
    → (IsErrOf r fault.TooMany → (t ≡ s) × (events s ≡ most_events)) → (IsErrOf r fault.Memory → IsPartOf (command.Inject what) s t)
    → ((why ≡ fault.Memory → ⊥) → Appends old new (error_line (refusal_text why))) → (why ≡ fault.Memory → Appends old new (codes "error: memory\n"))
    → IsAnswered names (Ok (Some (command.Inject what))) s t old new
event_by names what s t r fault.Memory old new e u m x line short = event_short names what s t old new (x e) (short refl)
event_by names what s t r fault.Unwanted old new e u m x line short =
    event_refused names what s t fault.Unwanted old new (refused_is what s t r fault.Unwanted e (λ never. cc) u m) (line (λ never. cc))
event_by names what s t r fault.TooMany old new e u m x line short =
    event_refused names what s t fault.TooMany old new (refused_is what s t r fault.TooMany e (λ never. cc) u m) (line (λ never. cc))

pub event_not_given : (names : Option (List Symbol)) (what : What) (s t : Repl) (r : Result (Unit {0}) InjectFault) (why : InjectFault) (w : Result (Unit {0}) ReplFault)
    (old new : Option (List ℕ)) → r ≡ Err why
    → (IsErrOf r fault.Unwanted → (t ≡ record s { session = after_due s.session }) × (takes_event (after_due s.session).now ≡ false) × (events s ≢ most_events))
    → (IsErrOf r fault.TooMany → (t ≡ s) × (events s ≡ most_events)) → (IsErrOf r fault.Memory → IsPartOf (command.Inject what) s t)
    → OnOk w ((why ≡ fault.Memory → ⊥) → Appends old new (error_line (refusal_text why))) → OnOk w (why ≡ fault.Memory → Appends old new (codes "error: memory\n"))
    → OnOk w (IsAnswered names (Ok (Some (command.Inject what))) s t old new)
event_not_given names what s t r why (Ok u) old new e f m x line short = event_by names what s t r why old new e f m x line short
event_not_given names what s t r why (Err bad) old new e f m x line short = tt

-- a REPL is kept if its answer could be written
pub when_kept : {P : Type 0} (Q : Repl → Type 0) (reported : Result (Unit {0}) ReplFault) (t : Repl) (r : Result Repl ReplFault)
    → MatchResult reported (λ u. r ≡ Ok t) (λ why. r ≡ Err why) → OnOk reported P → (P → Q t) → IfOk r Q
when_kept Q (Ok u) t r e h f = rw e (f h)
when_kept Q (Err why) t r e h f = rw e tt

pub when_left : {P : Repl → Type 0} (Q : Repl → Type 0) (r : Result Repl ReplFault) → IfOk r P → ((t : Repl) → P t → Q t) → IfOk r Q
when_left Q (Ok left) h f = f left h
when_left Q (Err why) h f = tt

-- a breakpoint that was set or not
answered_full : (names : Option (List Symbol)) (what : Condition) (s : Repl) → is_full s.settings ≡ true
    → answer_to names (Ok (Some (command.Break what))) s ≡ (s, error_line full_text)
unfolding answer_to answered break_answer
answered_full names what s e = if_reached (is_full s.settings) _ _ e

answered_set : (names : Option (List Symbol)) (what : Condition) (s : Repl) → is_full s.settings ≡ false
    → answer_to names (Ok (Some (command.Break what))) s ≡ breakpoint_set what s
unfolding answer_to answered break_answer
answered_set names what s e = if_ahead (is_full s.settings) _ _ e

pub full_reported : (names : Option (List Symbol)) (what : Condition) (s : Repl) (old new : Option (List ℕ)) → is_full s.settings ≡ true
    → Appends old new (error_line full_text) → IsAnswered names (Ok (Some (command.Break what))) s s old new
full_reported names what s old new e h = inl (reports_same _ _ s old new (answered_full names what s e) (refl, h))

pub set_reported : (names : Option (List Symbol)) (what : Condition) (s t : Repl) (old new : Option (List ℕ)) → is_full s.settings ≡ false
    → Sets what s t old new → IsAnswered names (Ok (Some (command.Break what))) s t old new
set_reported names what s t old new e (inl h) = inl (reports_same _ _ t old new (answered_set names what s e) h)
set_reported names what s t old new e (inr h) =
    inr (ran_out names (Ok (Some (command.Break what))) s t [] old old new h.0 refl (nothing_begun _ old) h.1)

-- a breakpoint that was deleted or not
answered_delete : (names : Option (List Symbol)) (number : ℕ) (s : Repl) → has_number number s.settings ≡ true
    → answer_to names (Ok (Some (command.Delete number))) s ≡ ended (record s { settings = without_number number s.settings }, [])
unfolding answer_to answered delete_answer
answered_delete names number s e = if_reached (has_number number s.settings) _ _ e

answered_missing : (names : Option (List Symbol)) (number : ℕ) (s : Repl) → has_number number s.settings ≡ false
    → answer_to names (Ok (Some (command.Delete number))) s ≡ (s, error_line missing_text)
unfolding answer_to answered delete_answer
answered_missing names number s e = if_ahead (has_number number s.settings) _ _ e

pub deleted_reported : (names : Option (List Symbol)) (number : ℕ) (s t : Repl) (old new : Option (List ℕ)) → has_number number s.settings ≡ true
    → t ≡ record s { settings = without_number number s.settings } → Appends old new (last_line t) → IsAnswered names (Ok (Some (command.Delete number))) s t old new
deleted_reported names number s t old new e f h =
    inl (reports_same _ _ t old new (answered_delete names number s e) (f, subst (λ (u : Repl). Appends old new (last_line u)) f h))

pub missing_reported : (names : Option (List Symbol)) (number : ℕ) (s : Repl) (old new : Option (List ℕ)) → has_number number s.settings ≡ false
    → Appends old new (error_line missing_text) → IsAnswered names (Ok (Some (command.Delete number))) s s old new
missing_reported names number s old new e h = inl (reports_same _ _ s old new (answered_missing names number s e) (refl, h))

-- runs that are quiet from now on, or not
answered_quiet : (names : Option (List Symbol)) (quiet : Bool) (s : Repl)
    → answer_to names (Ok (Some (command.Quiet quiet))) s ≡ ended (record s { settings = record s.settings { quiet = quiet } }, [])
unfolding answer_to answered quiet_answer
answered_quiet names quiet s = refl

pub quiet_reported : (names : Option (List Symbol)) (quiet : Bool) (s t : Repl) (old new : Option (List ℕ))
    → t ≡ record s { settings = record s.settings { quiet = quiet } } → Appends old new (last_line t) → IsAnswered names (Ok (Some (command.Quiet quiet))) s t old new
quiet_reported names quiet s t old new f h =
    inl (reports_same _ _ t old new (answered_quiet names quiet s) (f, subst (λ (u : Repl). Appends old new (last_line u)) f h))

pub set_written : (what : Condition) (s t : Repl) (text shown : List ℕ) (old new : Option (List ℕ)) → t ≡ record s { settings = with_breakpoint what s.settings }
    → text ≡ breakpoint_line (next_numbered what s.settings) ++ last_line s → shown ≡ text → Appends old new shown → Sets what s t old new
set_written what s t text shown old new e f h k = inl (e, subst (Appends old new) (h ∙ f) k)

pub breakpoint_in_range : (request : Request) (parsed : Option Command) (c : Command) (what : Condition) → request ≡ Ok parsed → parsed ≡ Some c → c ≡ command.Break what
    → IfOk request (λ read. IfSome read IsCommandInRange) → IsBreakpointInRange what
unfolding IsCommandInRange
breakpoint_in_range request parsed c what e f h k = rw (e, f, h) at k
