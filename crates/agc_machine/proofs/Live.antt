-- A live run continues: by a boundary with a live event, by a stretch without one, and to its stop.
use Rattle.std.proofs.Common.{◌≡◌, ℕ, ◌<◌, suc, zero, List, [], ◌∷◌, ◌++◌, replicate, Option, Some, None, Bool, true, false, refl, ap, sym, ◌∙◌, subst, arith}
use Rattle.std.specs.Prelude.{nat_le, if◌then◌else◌, map, IsSome, All}
use Rattle.std.proofs.lemmas.List.{append-nil, map-append}
use Rattle.std.proofs.lemmas.List.Elements.{All-cons, All-nil, All-tail}
use Rattle.agc_word.specs.declared.channel_write.ChannelWrite.{ChannelWrite}
use Rattle.agc_script.specs.Merge.{key_event}
use Rattle.agc_script.specs.declared.event.Event.{Event}
use Rattle.agc_script.specs.declared.event.What.{What}
use Rattle.agc_script.specs.declared.event.What.TheVariants as what
use Rattle.agc_script.specs.declared.key.Key.{Key}
use Rattle.agc_machine.specs.declared.answer.Stepped.{Stepped}
use Rattle.agc_machine.specs.declared.answer.Stepped.TheVariants as stepped
use Rattle.agc_machine.specs.declared.answer.Stop.{Stop}
use Rattle.agc_machine.specs.Boundary.{boundary, WantsKey}
use Rattle.agc_machine.specs.Laws.{KeepsStop}
use Rattle.agc_machine.specs.Live.{IsLive}
use Rattle.agc_machine.specs.Replay.{chain, tape_of, AreWanted, with_tape, writes_in}
use Rattle.agc_machine.specs.Run.{boundaries_left, next_before, next_before_within, run_of, while_quiet_before}
use Rattle.agc_machine.specs.State.{State, start_state, live_event, IsAtStart}
use Rattle.agc_machine.specs.Taken.{TakesLive, TakesTape, replayed}
use Rattle.agc_machine.proofs.Replay.{live_is_quiet, live_run_replays}
use Rattle.agc_machine.proofs.Taken.{tape_is_taken, tape_is_below}

-- what an answer writes
abbrev pub written : Stepped → List ChannelWrite
written answer = writes_in (answer ∷ [])

writes_append : (before after : List Stepped) → writes_in (before ++ after) ≡ writes_in before ++ writes_in after
unfolding writes_in
writes_append [] after = refl
writes_append (stepped.Quiet ∷ before) after = writes_append before after
writes_append (stepped.Wrote write ∷ before) after = ap (λ (writes : List ChannelWrite). write ∷ writes) (writes_append before after)
writes_append (stepped.Stopped why ∷ before) after = writes_append before after

-- a chain, and the chain from where it came to
answers_append : (lives more : List (Option What)) (s : State) →
    (chain (lives ++ more) s).answers ≡ (chain lives s).answers ++ (chain more (chain lives s).last).answers
unfolding chain
answers_append [] more s = refl
answers_append (live ∷ lives) more s =
    ap (λ (answers : List Stepped). (boundary live s).1 ∷ answers) (answers_append lives more (boundary live s).0)

last_append : (lives more : List (Option What)) (s : State) → (chain (lives ++ more) s).last ≡ (chain more (chain lives s).last).last
unfolding chain
last_append [] more s = refl
last_append (live ∷ lives) more s = last_append lives more (boundary live s).0

tape_append : (lives more : List (Option What)) (s : State) → tape_of (lives ++ more) s ≡ tape_of lives s ++ tape_of more (chain lives s).last
unfolding chain tape_of
tape_append [] more s = refl
tape_append (Some what ∷ lives) more s =
    ap (λ (tape : List Event). live_event s what ∷ tape) (tape_append lives more (boundary (Some what) s).0)
tape_append (None ∷ lives) more s = tape_append lives more (boundary None s).0

wanted_append : (lives more : List (Option What)) (s : State) → AreWanted lives s → AreWanted more (chain lives s).last → AreWanted (lives ++ more) s
unfolding chain AreWanted
wanted_append [] more s w v = v
wanted_append (Some what ∷ lives) more s w v = (w.0, wanted_append lives more (boundary (Some what) s).0 w.1 v)
wanted_append (None ∷ lives) more s w v = wanted_append lives more (boundary None s).0 w v

-- at its start a live run has taken and written nothing
pub live_starts : (s : State) → IsLive s [] [] s
unfolding chain tape_of AreWanted writes_in
live_starts s = record { lives = []; wanted = tt; taped = refl; written = refl; last = refl }

-- a live run, and some more boundaries
pub goes_on : (start now : State) (tape : List Event) (writes : List ChannelWrite) (more : List (Option What)) → IsLive start tape writes now →
    AreWanted more now → IsLive start (tape ++ tape_of more now) (writes ++ writes_in (chain more now).answers) (chain more now).last
goes_on start now tape writes more h w =
    record {
      lives = h.lives ++ more;
      wanted = wanted_append h.lives more start h.wanted (subst (AreWanted more) h.last w);
      taped = ap (λ (t : List Event). t ++ tape_of more now) h.taped
          ∙ ap (λ (s : State). tape_of h.lives start ++ tape_of more s) h.last ∙ sym (tape_append h.lives more start);
      written = ap (λ (w : List ChannelWrite). w ++ writes_in (chain more now).answers) h.written
          ∙ ap (λ (s : State). writes_in (chain h.lives start).answers ++ writes_in (chain more s).answers) h.last
          ∙ sym (writes_append (chain h.lives start).answers (chain more (chain h.lives start).last).answers)
          ∙ ap writes_in (sym (answers_append h.lives more start));
      last = ap (λ (s : State). (chain more s).last) h.last ∙ sym (last_append h.lives more start);
    }

-- a boundary with a wanted live event
pub live_goes_on : (start now later : State) (tape : List Event) (writes : List ChannelWrite) (what : What) (answer : Stepped) →
    IsLive start tape writes now → WantsKey now → (later, answer) ≡ boundary (Some what) now →
    IsLive start (tape ++ live_event now what ∷ []) (writes ++ written answer) later
unfolding chain tape_of AreWanted
live_goes_on start now later tape writes what answer h w e =
    subst (λ (r : State × Stepped). IsLive start (tape ++ live_event now what ∷ []) (writes ++ written r.1) r.0) (sym e)
    (goes_on start now tape writes (Some what ∷ []) h (w, tt))

-- and such a boundary is no stop
pub live_keeps : (s : State) (what : What) (r : State × Stepped) → WantsKey s → r ≡ boundary (Some what) s → KeepsStop r
live_keeps s what (t, stepped.Quiet) w e = tt
live_keeps s what (t, stepped.Wrote write) w e = tt
live_keeps s what (t, stepped.Stopped why) w e =
    let quiet : stepped.Stopped why ≡ stepped.Quiet = ap (λ (r : State × Stepped). r.1) e ∙ live_is_quiet s what w in cc

pub none_live : (n : ℕ) (s : State) → AreWanted (replicate n None) s
unfolding AreWanted
none_live zero s = tt
none_live (suc n) s = none_live n (boundary None s).0

pub no_tape : (n : ℕ) (s : State) → tape_of (replicate n None) s ≡ []
unfolding tape_of
no_tape zero s = refl
no_tape (suc n) s = no_tape n (boundary None s).0

-- some boundaries without a live event that come to an answer
record IsStretch (n : ℕ) (s : State) (r : State × Stepped) : Type 0 where
  last : (chain (replicate n None) s).last ≡ r.0
  writes : writes_in (chain (replicate n None) s).answers ≡ written r.1

abbrev Stretch : State → State × Stepped → Type 0
Stretch s r = (n : ℕ) × IsStretch n s r

one_stretch : (s : State) → Stretch s (boundary None s)
unfolding chain
one_stretch s = (1, record { last = refl; writes = refl })

stretch_on : (s t : State) (r : State × Stepped) → boundary None s ≡ (t, stepped.Quiet) → Stretch t r → Stretch s r
unfolding chain writes_in
stretch_on s t r e h = (
  suc h.0,
  record {
    last = ap (λ (x : State × Stepped). (chain (replicate h.0 None) x.0).last) e ∙ h.1.last;
    writes = ap (λ (x : State × Stepped). writes_in (x.1 ∷ (chain (replicate h.0 None) x.0).answers)) e ∙ h.1.writes;
  },
)

either_stretch : (b : Bool) (s : State) (x y : State × Stepped) → Stretch s x → Stretch s y → Stretch s (if b then x else y)
either_stretch true s x y h k = h
either_stretch false s x y h k = k

stretch_by : (cycle : ℕ) (go_on : State → State × Stepped) (s : State) (r : State × Stepped) → boundary None s ≡ r →
    ((t : State) → Stretch t (go_on t)) → Stretch s (while_quiet_before cycle go_on r)
stretch_by cycle go_on s (t, stepped.Quiet) e f =
    either_stretch (nat_le cycle t.cycle) s (t, stepped.Quiet) (go_on t) (subst (Stretch s) e (one_stretch s)) (stretch_on s t (go_on t) e (f t))
stretch_by cycle go_on s (t, stepped.Wrote write) e f = subst (Stretch s) e (one_stretch s)
stretch_by cycle go_on s (t, stepped.Stopped why) e f = subst (Stretch s) e (one_stretch s)

within_stretch : (n cycle : ℕ) (s : State) → Stretch s (next_before_within n cycle s)
unfolding next_before_within chain writes_in
within_stretch zero cycle s = (0, record { last = refl; writes = refl })
within_stretch (suc n) cycle s = stretch_by cycle (next_before_within n cycle) s (boundary None s) refl (λ t. within_stretch n cycle t)

before_stretch : (cycle : ℕ) (s : State) → Stretch s (next_before cycle s)
unfolding next_before
before_stretch cycle s = within_stretch (boundaries_left s) cycle s

-- a stretch without live events, up to a cycle, a write or the stop
pub live_stretch : (start now later : State) (tape : List Event) (writes : List ChannelWrite) (cycle : ℕ) (answer : Stepped) →
    IsLive start tape writes now → (later, answer) ≡ next_before cycle now → IsLive start tape (writes ++ written answer) later
live_stretch start now later tape writes cycle answer h e =
    let way : Stretch now (later, answer) = subst (Stretch now) (sym e) (before_stretch cycle now) in
    let more : List (Option What) = replicate way.0 None in
    let on : IsLive start (tape ++ tape_of more now) (writes ++ writes_in (chain more now).answers) (chain more now).last =
    goes_on start now tape writes more h (none_live way.0 now) in
    let taped : tape ++ tape_of more now ≡ tape = ap (λ (t : List Event). tape ++ t) (no_tape way.0 now) ∙ append-nil tape in
    subst (λ (t : List Event). IsLive start t (writes ++ written answer) later) taped
    (subst (λ (w : List ChannelWrite). IsLive start (tape ++ tape_of more now) (writes ++ w) later) way.1.writes
    (subst (λ (s : State). IsLive start (tape ++ tape_of more now) (writes ++ writes_in (chain more now).answers) s) way.1.last on))

-- at the start the events are those of the script
at_start : (s : State) (tape : List (ℕ × Key)) → IsAtStart s → with_tape (map key_event tape) s ≡ replayed tape s
unfolding start_state
at_start s tape h = ap (with_tape (map key_event tape)) h

has_stopped : (start now : State) (tape : List Event) (writes : List ChannelWrite) (why : Stop) (h : IsLive start tape writes now) →
    now.stopped ≡ Some why → IsSome (chain h.lives start).last.stopped
has_stopped start now tape writes why h e =
    subst (λ (o : Option Stop). IsSome o) (sym (ap (λ (s : State). s.stopped) (sym h.last) ∙ e)) refl

-- a live run that has stopped is the run on the script joined with its tape
stopped_run : (start now : State) (tape : List Event) (writes : List ChannelWrite) (why : Stop) → IsLive start tape writes now →
    now.stopped ≡ Some why → run_of (with_tape tape start) ≡ record { writes = writes; last = now }
stopped_run start now tape writes why h e =
    ap (λ (t : List Event). run_of (with_tape t start)) h.taped ∙ live_run_replays h.lives start h.wanted (has_stopped start now tape writes why h e)
    ∙ ap (λ (w : List ChannelWrite). record { writes = w; last = (chain h.lives start).last }) (sym h.written)
    ∙ ap (λ (s : State). record { writes = writes; last = s }) (sym h.last)

-- its tape is taken by that run
stopped_tape : (start now : State) (tape : List Event) (writes : List ChannelWrite) (why : Stop) → IsLive start tape writes now →
    now.stopped ≡ Some why → TakesLive start tape (with_tape tape start)
stopped_tape start now tape writes why h e =
    subst (λ (t : List Event). TakesLive start t (with_tape t start)) (sym h.taped)
    (tape_is_taken h.lives start h.wanted (has_stopped start now tape writes why h e))

-- for keys as live events: one more key
pub live_key : (start now later : State) (tape : List (ℕ × Key)) (writes : List ChannelWrite) (key : Key) (answer : Stepped) →
    IsLive start (map key_event tape) writes now → WantsKey now → (later, answer) ≡ boundary (Some (what.Key key)) now →
    IsLive start (map key_event (tape ++ (now.cycle, key) ∷ [])) (writes ++ written answer) later
live_key start now later tape writes key answer h w e =
    subst (λ (t : List Event). IsLive start t (writes ++ written answer) later) (sym (map-append key_event tape ((now.cycle, key) ∷ [])))
    (live_goes_on start now later (map key_event tape) writes (what.Key key) answer h w e)

-- and at the stop, from the start on
pub live_ends : (start now : State) (tape : List (ℕ × Key)) (writes : List ChannelWrite) (why : Stop) → IsAtStart start →
    IsLive start (map key_event tape) writes now → now.stopped ≡ Some why → run_of (replayed tape start) ≡ record { writes = writes; last = now }
live_ends start now tape writes why at h e = ap run_of (sym (at_start start tape at)) ∙ stopped_run start now (map key_event tape) writes why h e

pub live_tape_is_taken : (start now : State) (tape : List (ℕ × Key)) (writes : List ChannelWrite) (why : Stop) → IsAtStart start →
    IsLive start (map key_event tape) writes now → now.stopped ≡ Some why → TakesTape start tape (replayed tape start)
live_tape_is_taken start now tape writes why at h e =
    subst (λ (s : State). TakesTape start tape s) (at_start start tape at) (stopped_tape start now (map key_event tape) writes why h e)

keys_below : (limit : ℕ) (tape : List (ℕ × Key)) → All (λ live. live.cycle < limit) (map key_event tape) → All (λ entry. entry.0 < limit) tape
keys_below limit [] h = All-nil (λ entry. entry.0 < limit)
keys_below limit (entry ∷ tape) h =
    All-cons (λ entry. entry.0 < limit) entry tape (h 0 (key_event entry) (omega arith))
    (keys_below limit tape (All-tail (λ live. live.cycle < limit) (key_event entry) (map key_event tape) h))

-- its keys come below the limit
pub live_tape_is_below : (start now : State) (tape : List (ℕ × Key)) (writes : List ChannelWrite) → IsLive start (map key_event tape) writes now →
    All (λ entry. entry.0 < start.limit) tape
live_tape_is_below start now tape writes h =
    keys_below start.limit tape
    (subst (λ (t : List Event). All (λ live. live.cycle < start.limit) t) (sym h.taped) (tape_is_below h.lives start h.wanted))
