-- The known output grows as an answer is written.
use Rattle.std.specs.Prelude.{◌≡◌, ℕ, Bool, List, [], ◌∷◌, ◌++◌, Option, None, Some, Result, Ok, Err, OnOk, OnErr, IsErrOf}
use Rattle.std.specs.Io.KnownBytes.{Appends, Keeps, append_known}
use Rattle.std.proofs.Common.{refl, ap, sym, subst, append-nil}
use Rattle.std.proofs.KnownBytes.{Appends-kept, Appends-nil, Appends-trans, Keeps-refl, append_known-grown}
use Rattle.agc_word.specs.declared.channel_write.ChannelWrite.{ChannelWrite}
use Rattle.agc_machine.specs.Replay.{writes_in}
use Rattle.agc_machine.specs.declared.answer.Stepped.{Stepped}
use Rattle.agc_machine.specs.declared.answer.Stepped.TheVariants as stepped
use Rattle.agc_repl.specs.Answered.{Grows}
use Rattle.agc_repl.specs.Run.{run_line, writes_text}
use Rattle.agc_repl.specs.declared.conversation.ReplFault.{ReplFault}
use Rattle.agc_repl.specs.declared.conversation.ReplFault.TheVariants as fault

-- what is added waits, then a part is written
pub pushed : (o p : Option (List ℕ)) (old mid new line : List ℕ) → mid ≡ old ++ line → Keeps (append_known o mid) (append_known p new)
    → Appends (append_known o old) (append_known p new) line
pushed o p old mid new line e retained =
    Appends-kept (append_known o old) (append_known o mid) (append_known p new) line
    (append_known-grown (append_known o old) o old mid line (Keeps-refl (append_known o old)) e) retained

-- a line is added to the text that waits
pub grown : (o : Option (List ℕ)) (old new line : List ℕ) → new ≡ old ++ line → Appends (append_known o old) (append_known o new) line
grown o old new line e = append_known-grown (append_known o old) o old new line (Keeps-refl (append_known o old)) e

pub stays_known : (a : Option (List ℕ)) → Grows a a
stays_known a = ([], Appends-nil a)

pub grows_then : (a b c : Option (List ℕ)) → Grows a b → Grows b c → Grows a c
grows_then a b c h k = (h.0 ++ k.0, Appends-trans a b c h.0 k.0 h.1 k.1)

-- a successful write has made it grow
pub grows_if_written : (r : Result (Unit {0}) ReplFault) (a b : Option (List ℕ)) (text : List ℕ) → OnOk r (Appends a b text)
    → ((why : ReplFault) → r ≡ Err why → why ≡ fault.Write) → (IsErrOf r fault.Write → ⊥) → Grows a b
grows_if_written (Ok u) a b text h f never = (text, h)
grows_if_written (Err why) a b text h f never = absurd (never (ap Err (f why refl)))

-- the text that waited is written
unchanged : (a : Option (List ℕ)) → append_known a [] ≡ a
unchanged None = refl
unchanged (Some xs) = ap Some (append-nil xs)

written_now : (b c : Option (List ℕ)) (text : List ℕ) → Appends b c text → Keeps (append_known b text) c
written_now None c text h = tt
written_now (Some xs) None text h = absurd h
written_now (Some xs) (Some ys) text h = h

pub all_written : (a b c : Option (List ℕ)) (none text shown parsed : List ℕ) → none ≡ [] → shown ≡ text
    → Appends (append_known a none) (append_known b text) parsed → Appends b c shown → Appends a c parsed
all_written a b c none text shown parsed e f h w =
    let same : append_known a none ≡ a = rw e (unchanged a) in
    let whole : Keeps (append_known b text) c = written_now b c text (rw f at w) in
    subst (λ (old : Option (List ℕ)). Appends old c parsed) same (Appends-kept (append_known a none) (append_known b text) c parsed h whole)

-- the writes of a boundary, as lines
pub one_written : (quiet : Bool) (answer : Stepped) (write : ChannelWrite) → answer ≡ stepped.Wrote write
    → writes_text quiet (writes_in (answer ∷ [])) ≡ run_line quiet write
unfolding writes_in
one_written quiet answer write e = rw e (append-nil (run_line quiet write))

pub none_written : (quiet : Bool) (answer : Stepped) → ((write : ChannelWrite) → answer ≡ stepped.Wrote write → ⊥) → writes_text quiet (writes_in (answer ∷ [])) ≡ []
unfolding writes_in
none_written quiet stepped.Quiet h = refl
none_written quiet (stepped.Wrote write) h = absurd (h write refl)
none_written quiet (stepped.Stopped why) h = refl

pub nothing_more : (a : Option (List ℕ)) (line : List ℕ) → line ≡ [] → Appends a a line
nothing_more a line e = subst (Appends a a) (sym e) (Appends-nil a)

pub same_line : (a b : Option (List ℕ)) (line other : List ℕ) → line ≡ other → Appends a b other → Appends a b line
same_line a b line other e h = rw e h

pub on_err : {T E P : Type 0} (r : Result T E) → P → OnErr r P
on_err (Ok x) h = tt
on_err (Err why) h = h

pub when_ok : {E P Q : Type 0} (r : Result (Unit {0}) E) → OnOk r P → (P → Q) → OnOk r Q
when_ok (Ok u) h f = f h
when_ok (Err why) h f = tt
