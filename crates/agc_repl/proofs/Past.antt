-- A run past some hits, one run after another.
use Rattle.std.specs.Prelude.{◌≡◌, ℕ, zero, suc, Bool, false, List, [], ◌∷◌, ◌++◌, Option, None, Some, Result, Ok, Err, IfOk, OnOk}
use Rattle.std.specs.Io.KnownBytes.{Appends, append_known}
use Rattle.std.proofs.Common.{refl, ap, sym, subst, ◌∙◌, append-nil, append_assoc}
use Rattle.std.proofs.KnownBytes.{Appends-trans}
use Rattle.std.proofs.lemmas.List.{append_cancel_left}
use Rattle.std.proofs.lemmas.List.Concat.{flat_map-append}
use Rattle.std.proofs.lemmas.List.Elements.{All-cons, All-head, All-nil, All-tail}
use Rattle.agc_machine.specs.State.{State}
use Rattle.agc_session.specs.declared.condition.Armed.{Armed}
use Rattle.agc_session.specs.declared.condition.Condition.{Condition}
use Rattle.agc_trace.proofs.Lines.{IsWritten, nothing_written, written_more, written_whole}
use Rattle.agc_repl.specs.Answered.{Begins, Grows}
use Rattle.agc_command.specs.Command.{IsBreakpointInRange}
use Rattle.agc_repl.specs.Repl.{after_run, armed_anew, gone_on, run_of, run_past, then_run}
use Rattle.agc_repl.specs.Settings.{AreInRange}
use Rattle.agc_repl.specs.declared.settings.Numbered.{Numbered}
use Rattle.agc_repl.specs.Run.{AreSound, Run, is_short_of, no_run, run_line, writes_text}
use Rattle.agc_repl.specs.declared.repl.Repl.{Repl}
use Rattle.agc_repl.proofs.Going.{gone_nowhere, gone_then}
use Rattle.agc_repl.proofs.Runs.{way_ends}
use Rattle.agc_repl.proofs.Telling.{grown}

-- where a run past some hits has come: the rest, past those that are left, leads where all of it does
pub record Follows (k : List Armed) (n cycle : ℕ) (s : Repl) (l : List Armed) (m : ℕ) (t : Repl) : Type 0 where
  pub left : after_run (run_past m l cycle t) t ≡ after_run (run_past n k cycle s) s
  pub hit : (run_past m l cycle t).hit ≡ (run_past n k cycle s).hit

-- and what remains to print of it
abbrev pub Says : Bool → List Armed → ℕ → ℕ → Repl → List Armed → ℕ → Repl → Option (List ℕ) → Option (List ℕ) → Type 0
Says quiet k n cycle s l m t old new =
    IsWritten old new (writes_text quiet (run_past m l cycle t).writes) (writes_text quiet (run_past n k cycle s).writes)

same_past : (k : List Armed) (n m cycle : ℕ) (s : Repl) → m ≡ n → run_past m k cycle s ≡ run_past n k cycle s
same_past k n m cycle s e = ap (λ (x : ℕ). run_past x k cycle s) e

pub follows : (k l : List Armed) (n m cycle : ℕ) (s : Repl) → m ≡ n → l ≡ k → Follows k n cycle s l m s
follows k l n m cycle s e f =
    let same = ap (λ (x : List Armed). run_past m x cycle s) f ∙ same_past k n m cycle s e in
    record { left = ap (λ (w : Run). after_run w s) same; hit = ap (λ (w : Run). w.hit) same }

pub nothing_parsed : (quiet : Bool) (k l : List Armed) (n m cycle : ℕ) (s : Repl) (known : Option (List ℕ)) → m ≡ n → l ≡ k → Says quiet k n cycle s l m s known known
nothing_parsed quiet k l n m cycle s known e f =
    let same = ap (λ (x : List Armed). run_past m x cycle s) f ∙ same_past k n m cycle s e in
    subst (λ (w : Run). IsWritten known known (writes_text quiet w.writes) (writes_text quiet (run_past n k cycle s).writes)) (sym same)
    (nothing_written known (writes_text quiet (run_past n k cycle s).writes))

-- a run to a hit, and the rest
first_then : (l : List Armed) (m cycle : ℕ) (t : Repl)
    → run_past (suc m) l cycle t
    ≡ then_run (run_of l cycle t) (run_past m (armed_anew (after_run (run_of l cycle t) t).session.now l) cycle (after_run (run_of l cycle t) t))
unfolding run_past
first_then l m cycle t = refl

pub one_then : (l : List Armed) (i m cycle : ℕ) (t u : Repl) → i ≡ suc m → u ≡ after_run (run_of l cycle t) t
    → run_past i l cycle t ≡ then_run (run_of l cycle t) (run_past m (armed_anew u.session.now l) cycle u)
one_then l i m cycle t u e f =
    same_past l (suc m) i cycle t e ∙ first_then l m cycle t
    ∙ ap (λ (x : Repl). then_run (run_of l cycle t) (run_past m (armed_anew x.session.now l) cycle x)) (sym f)

pub follows_on : (k : List Armed) (n cycle : ℕ) (s : Repl) (l : List Armed) (i m : ℕ) (t u : Repl) → Follows k n cycle s l i t → i ≡ suc m
    → u ≡ after_run (run_of l cycle t) t → Follows k n cycle s (armed_anew u.session.now l) m u
follows_on k n cycle s l i m t u h e f =
    let run = run_of l cycle t in
    let rest = run_past m (armed_anew u.session.now l) cycle u in
    let whole = one_then l i m cycle t u e f in
    record {
      left =
          ap (λ (x : Repl). gone_on rest.last rest.writes x) f ∙ gone_then rest.last run.last run.writes rest.writes t
          ∙ ap (λ (w : Run). after_run w t) (sym whole) ∙ h.left;
      hit = ap (λ (w : Run). w.hit) (sym whole) ∙ h.hit;
    }

pub says_on : (quiet : Bool) (k : List Armed) (n cycle : ℕ) (s : Repl) (l : List Armed) (i m : ℕ) (t u : Repl) (old mid new : Option (List ℕ))
    → Says quiet k n cycle s l i t old mid → i ≡ suc m → u ≡ after_run (run_of l cycle t) t
    → Appends mid new (writes_text quiet (run_of l cycle t).writes) → Says quiet k n cycle s (armed_anew u.session.now l) m u old new
says_on quiet k n cycle s l i m t u old mid new h e f parsed =
    let run = run_of l cycle t in
    let rest = run_past m (armed_anew u.session.now l) cycle u in
    let text : writes_text quiet (run_past i l cycle t).writes ≡ writes_text quiet run.writes ++ writes_text quiet rest.writes =
    ap (λ (w : Run). writes_text quiet w.writes) (one_then l i m cycle t u e f) ∙ flat_map-append (run_line quiet) run.writes rest.writes in
    written_more old mid new (writes_text quiet run.writes) (writes_text quiet rest.writes) _
    (subst (λ (left : List ℕ). IsWritten old mid left (writes_text quiet (run_past n k cycle s).writes)) text h) parsed

-- with the conditions as they are armed anew
pub follows_anew : (k : List Armed) (n cycle : ℕ) (s : Repl) (l anew : List Armed) (i m : ℕ) (t u : Repl) → Follows k n cycle s l i t → i ≡ suc m
    → u ≡ after_run (run_of l cycle t) t → anew ≡ armed_anew u.session.now l → Follows k n cycle s anew m u
follows_anew k n cycle s l anew i m t u h e f a = rw a (follows_on k n cycle s l i m t u h e f)

pub says_anew : (quiet : Bool) (k : List Armed) (n cycle : ℕ) (s : Repl) (l anew : List Armed) (i m : ℕ) (t u : Repl) (old mid new : Option (List ℕ))
    → Says quiet k n cycle s l i t old mid → i ≡ suc m → u ≡ after_run (run_of l cycle t) t → anew ≡ armed_anew u.session.now l
    → Appends mid new (writes_text quiet (run_of l cycle t).writes) → Says quiet k n cycle s anew m u old new
says_anew quiet k n cycle s l anew i m t u old mid new h e f a parsed = rw a (says_on quiet k n cycle s l i m t u old mid new h e f parsed)

-- the last run
last_one : (l : List Armed) (m cycle : ℕ) (t : Repl) → m ≡ zero → run_past m l cycle t ≡ run_of l cycle t
unfolding run_past
last_one l m cycle t e = ap (λ (x : ℕ). run_past x l cycle t) e

pub followed : (k : List Armed) (n cycle : ℕ) (s : Repl) (l : List Armed) (m : ℕ) (t u : Repl) → Follows k n cycle s l m t → m ≡ zero
    → u ≡ after_run (run_of l cycle t) t → u ≡ after_run (run_past n k cycle s) s
followed k n cycle s l m t u h e f = f ∙ ap (λ (w : Run). after_run w t) (sym (last_one l m cycle t e)) ∙ h.left

pub came : (k : List Armed) (n cycle : ℕ) (s : Repl) (l : List Armed) (m : ℕ) (t : Repl) (hit : Option Armed) → Follows k n cycle s l m t → m ≡ zero
    → hit ≡ (run_of l cycle t).hit → hit ≡ (run_past n k cycle s).hit
came k n cycle s l m t hit h e f = f ∙ ap (λ (w : Run). w.hit) (sym (last_one l m cycle t e)) ∙ h.hit

pub parsed_all : (quiet : Bool) (k : List Armed) (n cycle : ℕ) (s : Repl) (l : List Armed) (m : ℕ) (t : Repl) (old mid new : Option (List ℕ))
    → Says quiet k n cycle s l m t old mid → m ≡ zero → Appends mid new (writes_text quiet (run_of l cycle t).writes)
    → Appends old new (writes_text quiet (run_past n k cycle s).writes)
parsed_all quiet k n cycle s l m t old mid new h e parsed =
    let run = run_of l cycle t in
    let last : writes_text quiet run.writes ≡ writes_text quiet (run_past m l cycle t).writes =
    ap (λ (w : Run). writes_text quiet w.writes) (sym (last_one l m cycle t e)) in
    subst (Appends old new) (ap (λ (more : List ℕ). h.0 ++ more) last ∙ h.2) (Appends-trans old mid new h.0 (writes_text quiet run.writes) h.1 parsed)

-- at the cycle, and after the stop, nothing is left of it
no_more_runs : (m : ℕ) (l : List Armed) (cycle : ℕ) (t : Repl) → is_short_of cycle t.session.now ≡ false → run_past m l cycle t ≡ no_run t.session.now
unfolding run_past
no_more_runs zero l cycle t e = way_ends l cycle t.session.panel t.session.now e
no_more_runs (suc m) l cycle t e =
    let none : run_of l cycle t ≡ no_run t.session.now = way_ends l cycle t.session.panel t.session.now e in
    let same : after_run (run_of l cycle t) t ≡ t = ap (λ (w : Run). after_run w t) none ∙ gone_nowhere t in
    first_then l m cycle t
    ∙ ap (λ (x : Repl). then_run (run_of l cycle t) (run_past m (armed_anew x.session.now l) cycle x)) same
    ∙ ap (λ (w : Run). then_run w (run_past m (armed_anew t.session.now l) cycle t)) none
    ∙ ap (λ (w : Run). then_run (no_run t.session.now) w) (no_more_runs m (armed_anew t.session.now l) cycle t e)

pub followed_up : (k : List Armed) (n cycle : ℕ) (s : Repl) (l : List Armed) (m : ℕ) (t : Repl) → Follows k n cycle s l m t
    → is_short_of cycle t.session.now ≡ false → t ≡ after_run (run_past n k cycle s) s
followed_up k n cycle s l m t h e = sym (gone_nowhere t) ∙ ap (λ (w : Run). after_run w t) (sym (no_more_runs m l cycle t e)) ∙ h.left

pub came_not : (k : List Armed) (n cycle : ℕ) (s : Repl) (l : List Armed) (m : ℕ) (t : Repl) → Follows k n cycle s l m t
    → is_short_of cycle t.session.now ≡ false → None ≡ (run_past n k cycle s).hit
came_not k n cycle s l m t h e = ap (λ (w : Run). w.hit) (sym (no_more_runs m l cycle t e)) ∙ h.hit

pub parsed_up : (quiet : Bool) (k : List Armed) (n cycle : ℕ) (s : Repl) (l : List Armed) (m : ℕ) (t : Repl) (old new : Option (List ℕ))
    → Says quiet k n cycle s l m t old new → is_short_of cycle t.session.now ≡ false → Appends old new (writes_text quiet (run_past n k cycle s).writes)
parsed_up quiet k n cycle s l m t old new h e =
    written_whole old new _ _ (ap (λ (w : Run). writes_text quiet w.writes) (no_more_runs m l cycle t e)) h

-- what was written by now of a text that waits in part, and then of a text that it begins with
pub begun_then : (o n p : Option (List ℕ)) (old now first more left whole : List ℕ) → IsWritten (append_known o old) (append_known n now) left whole → Grows o n
    → left ≡ first ++ more → Begins (now ++ first) n p → Begins (old ++ whole) o p
begun_then None n p old now first more left whole h k e b = ([], old ++ whole, tt, refl)
begun_then (Some xs) None p old now first more left whole h k e b = absurd k.1
begun_then (Some xs) (Some ys) p old now first more left whole h k e b =
    let longer : xs ++ (k.0 ++ now) ≡ xs ++ (old ++ h.0) =
    sym (append_assoc xs k.0 now) ∙ ap (λ (zs : List ℕ). zs ++ now) (sym k.1) ∙ h.1 ∙ append_assoc xs old h.0 in
    let same : k.0 ++ now ≡ old ++ h.0 = append_cancel_left xs (k.0 ++ now) (old ++ h.0) longer in (
      k.0 ++ b.0,
      b.1 ++ more,
      Appends-trans (Some xs) (Some ys) p k.0 b.0 k.1 b.2,
      ap (λ (zs : List ℕ). old ++ zs) (sym h.2) ∙ sym (append_assoc old h.0 left) ∙ ap (λ (zs : List ℕ). zs ++ left) (sym same)
          ∙ ap (λ (zs : List ℕ). (k.0 ++ now) ++ zs) e ∙ append_assoc k.0 now (first ++ more)
          ∙ ap (λ (zs : List ℕ). k.0 ++ zs) (sym (append_assoc now first more) ∙ ap (λ (zs : List ℕ). zs ++ more) b.3 ∙ append_assoc b.0 b.1 more)
          ∙ sym (append_assoc k.0 b.0 (b.1 ++ more)),
    )

-- the same for a run that breaks off: one that others follow, and the last
pub broken_off : (quiet : Bool) (k : List Armed) (n cycle : ℕ) (s : Repl) (l : List Armed) (i m : ℕ) (t : Repl) (o p q : Option (List ℕ)) (old now : List ℕ)
    → Says quiet k n cycle s l i t (append_known o old) (append_known p now) → Grows o p → i ≡ suc m
    → Begins (now ++ writes_text quiet (run_of l cycle t).writes) p q → Begins (old ++ writes_text quiet (run_past n k cycle s).writes) o q
broken_off quiet k n cycle s l i m t o p q old now h g e b =
    let run = run_of l cycle t in
    let on = after_run run t in
    let rest = run_past m (armed_anew on.session.now l) cycle on in
    begun_then o p q old now (writes_text quiet run.writes) (writes_text quiet rest.writes) _ _ h g
    (ap (λ (w : Run). writes_text quiet w.writes) (one_then l i m cycle t on e refl) ∙ flat_map-append (run_line quiet) run.writes rest.writes) b

pub broken_last : (quiet : Bool) (k : List Armed) (n cycle : ℕ) (s : Repl) (l : List Armed) (m : ℕ) (t : Repl) (o p q : Option (List ℕ)) (old now : List ℕ)
    → Says quiet k n cycle s l m t (append_known o old) (append_known p now) → Grows o p → m ≡ zero
    → Begins (now ++ writes_text quiet (run_of l cycle t).writes) p q → Begins (old ++ writes_text quiet (run_past n k cycle s).writes) o q
broken_last quiet k n cycle s l m t o p q old now h g e b =
    let run = run_of l cycle t in
    begun_then o p q old now (writes_text quiet run.writes) [] _ _ h g
    (ap (λ (w : Run). writes_text quiet w.writes) (last_one l m cycle t e) ∙ sym (append-nil (writes_text quiet run.writes))) b

pub on_ok : {T E P Q : Type 0} (r : Result T E) → OnOk r P → (P → Q) → OnOk r Q
on_ok (Ok x) h f = f h
on_ok (Err why) h f = tt

pub if_ok : {T E : Type 0} {P Q : T → Type 0} (r : Result T E) → IfOk r P → ((x : T) → P x → Q x) → IfOk r Q
if_ok (Ok x) h f = f x h
if_ok (Err why) h f = tt

-- conditions that were armed anew are in their ranges
pub all_sound : (s : State) (l : List Armed) → AreSound l → AreSound (armed_anew s l)
all_sound s [] h = All-nil (λ (a : Armed). IsBreakpointInRange a.condition)
all_sound s (a ∷ l) h =
    let first : IsBreakpointInRange a.condition = All-head (λ (x : Armed). IsBreakpointInRange x.condition) a l h in
    let rest : AreSound l = All-tail (λ (x : Armed). IsBreakpointInRange x.condition) a l h in
    All-cons (λ (x : Armed). IsBreakpointInRange x.condition) _ (armed_anew s l) first (all_sound s l rest)

pub anew_sound : (s : State) (l anew : List Armed) → anew ≡ armed_anew s l → AreSound l → AreSound anew
anew_sound s l anew e h = rw e (all_sound s l h)

-- one condition in its range, as a numbered one
pub one_in_range : (what : Condition) → IsBreakpointInRange what → AreInRange (record { number = 0; what = what } ∷ [])
one_in_range what h =
    All-cons (λ (b : Numbered). IsBreakpointInRange b.what) _ [] h (All-nil (λ (b : Numbered). IsBreakpointInRange b.what))

-- a line after a text
pub said_then : (o p : Option (List ℕ)) (old mid new text line : List ℕ) → Appends (append_known o old) (append_known p mid) text → new ≡ mid ++ line
    → Appends (append_known o old) (append_known p new) (text ++ line)
said_then o p old mid new text line h e =
    Appends-trans (append_known o old) (append_known p mid) (append_known p new) text line h (grown p mid new line e)
