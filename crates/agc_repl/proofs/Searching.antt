-- A search back and `save` are answered by what they mean.
use Rattle.std.specs.Prelude.{◌≡◌, ◌<◌, ℕ, List, [], Option, None, Some, Result, Ok, Err, IfOk, IfSome, codes}
use Rattle.std.specs.Io.KnownBytes.{Appends}
use Rattle.std.proofs.Common.{refl, ap, sym, subst, ◌∙◌, inl, inr}
use Rattle.agc_repl.specs.Answered.{IsAnswered, IsHandled, IsItself, Means, Request, cycle_after, missed, request_saved}
use Rattle.agc_command.specs.Command.{IsCommandInRange}
use Rattle.agc_command.specs.declared.command.Command.{Command}
use Rattle.agc_command.specs.declared.command.Command.TheVariants as command
use Rattle.agc_command.specs.declared.command.Search.{Search}
use Rattle.agc_command.specs.declared.fault.CommandFault.{CommandFault}
use Rattle.agc_command.specs.declared.file_name.FileName.{FileName}
use Rattle.agc_repl.specs.declared.repl.Repl.{Repl}
use Rattle.agc_command.specs.declared.save_fault.SaveFault.{SaveFault}
use Rattle.agc_session.specs.Condition.{IsConditionInRange, IsFoundBack}
use Rattle.agc_session.specs.declared.condition.Condition.{Condition}
use Rattle.agc_repl.proofs.Answering.{ran_out}
use Rattle.agc_repl.proofs.Beginning.{nothing_begun}
use Rattle.agc_symbols.specs.Symbols.{Symbol}

saved_means : (name : FileName) → Ok (Some (command.Save name)) ≡ request_saved name (Ok tt)
unfolding request_saved
saved_means name = refl

means_itself : (request : Request) (s : Repl) → IsItself request → Means request s request
means_itself (Ok (Some (command.BackTo search))) s h = absurd h
means_itself (Ok (Some (command.StepCall step))) s h = absurd h
means_itself (Ok (Some (command.BackCall step))) s h = absurd h
means_itself (Ok (Some (command.Save name))) s h = (Ok tt, saved_means name)
means_itself request s h = refl

pub handled_itself : (names : Option (List Symbol)) (request : Request) (s t : Repl) (old new : Option (List ℕ)) → IsItself request
    → IsAnswered names request s t old new → IsHandled names request s t old new
handled_itself names request s t old new h k = inl (request, means_itself request s h, k)

-- a search back found a cycle, or none, or memory ran out
pub found_handled : (names : Option (List Symbol)) (search : Search) (cut cycle : ℕ) (s t : Repl) (old new : Option (List ℕ)) → cut ≡ cycle_after cycle
    → IsFoundBack search.what search.count s.session (Some cycle)
    → IsAnswered names (Ok (Some (command.Back (record { cut = cut; cycle = cycle; lists = search.lists })))) s t old new
    → IsHandled names (Ok (Some (command.BackTo search))) s t old new
found_handled names search cut cycle s t old new e h k = inl (
  Ok (Some (command.Back (record { cut = cut; cycle = cycle; lists = search.lists }))),
  (Some cycle, h, ap (λ (x : ℕ). Ok (Some (command.Back (record { cut = x; cycle = cycle; lists = search.lists })))) e),
  k,
)

pub missed_handled : (names : Option (List Symbol)) (search : Search) (s t : Repl) (old new : Option (List ℕ)) → IsFoundBack search.what search.count s.session None
    → IsAnswered names (Err (missed search)) s t old new → IsHandled names (Ok (Some (command.BackTo search))) s t old new
missed_handled names search s t old new h k = inl (Err (missed search), (None, h, refl), k)

pub short_handled : (names : Option (List Symbol)) (search : Search) (s t : Repl) (old new : Option (List ℕ))
    → (t ≡ s) × Appends old new (codes "error: memory\n") → IsHandled names (Ok (Some (command.BackTo search))) s t old new
short_handled names search s t old new h =
    inr (ran_out names (Ok (Some (command.BackTo search))) s t [] old old new h.0 refl (nothing_begun _ old) h.1)

-- a script was saved, or not
pub save_itself : (request : Request) (name : FileName) (saved : Result (Unit {0}) SaveFault) → request ≡ request_saved name saved → IsItself request
unfolding request_saved
save_itself request name (Ok done) e = rw (e) tt
save_itself request name (Err why) e = rw (e) tt

pub save_in_range : (request : Request) (name : FileName) (saved : Result (Unit {0}) SaveFault) → request ≡ request_saved name saved
    → IfOk request (λ read. IfSome read IsCommandInRange)
unfolding request_saved IsCommandInRange
save_in_range request name (Ok done) e = rw (e) tt
save_in_range request name (Err why) e = rw (e) tt

pub save_handled : (names : Option (List Symbol)) (request : Request) (name : FileName) (saved : Result (Unit {0}) SaveFault) (s t : Repl) (old new : Option (List ℕ)) → request ≡ request_saved name saved
    → IsAnswered names request s t old new → IsHandled names (Ok (Some (command.Save name))) s t old new
save_handled names request name saved s t old new e k = inl (request, (saved, e), k)

-- what the arms of a match know
pub found_as : (what : Condition) (count : ℕ) (s : Repl) (parsed found : Option ℕ) → parsed ≡ found → IsFoundBack what count s.session parsed → IsFoundBack what count s.session found
found_as what count s parsed found e h = subst (IsFoundBack what count s.session) e h

pub fault_as : (names : Option (List Symbol)) (a b : CommandFault) (s t : Repl) (old new : Option (List ℕ)) → a ≡ b
    → IsAnswered names (Err a) s t old new → IsAnswered names (Err b) s t old new
fault_as names a b s t old new e h = subst (λ (why : CommandFault). IsAnswered names (Err why) s t old new) e h

pub search_in_range : (request : Request) (parsed : Option Command) (c : Command) (search : Search) → request ≡ Ok parsed → parsed ≡ Some c → c ≡ command.BackTo search
    → IfOk request (λ read. IfSome read IsCommandInRange) → (0 < search.count) × IsConditionInRange search.what
unfolding IsCommandInRange
search_in_range request parsed c search e f h k = rw (e, f, h) at k

pub handled_as : (names : Option (List Symbol)) (request : Request) (parsed : Option Command) (c : Command) (search : Search) (s t : Repl) (old new : Option (List ℕ)) → request ≡ Ok parsed
    → parsed ≡ Some c → c ≡ command.BackTo search → IsHandled names (Ok (Some (command.BackTo search))) s t old new → IsHandled names request s t old new
handled_as names request parsed c search s t old new e f h k =
    subst (λ (r : Request). IsHandled names r s t old new) (sym (e ∙ ap Ok (f ∙ ap Some h))) k
