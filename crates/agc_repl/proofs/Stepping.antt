-- The trace lines of some boundaries, one after another.
use Rattle.std.specs.Prelude.{◌≡◌, ℕ, zero, suc, List, [], ◌∷◌, ◌++◌, Option, None, Some, IsSome, replicate, Bool, true, false, flat_map, if◌then◌else◌}
use Rattle.std.specs.Io.KnownBytes.{Appends}
use Rattle.std.proofs.Common.{refl, ap, sym, subst, ◌∙◌, append_assoc, append-nil}
use Rattle.std.proofs.KnownBytes.{Appends-trans}
use Rattle.agc_word.specs.declared.channel_write.ChannelWrite.{ChannelWrite}
use Rattle.agc_machine.specs.Boundary.{boundary, carried_out, unless_stopped, upcoming_of}
use Rattle.agc_machine.specs.Replay.{chain, writes_in}
use Rattle.agc_machine.specs.State.{State}
use Rattle.agc_machine.specs.declared.answer.Stepped.{Stepped}
use Rattle.agc_machine.specs.declared.answer.Stepped.TheVariants as stepped
use Rattle.agc_machine.specs.declared.answer.Stop.{Stop}
use Rattle.agc_machine.specs.declared.upcoming.Upcoming.{Upcoming}
use Rattle.agc_machine.specs.declared.upcoming.Upcoming.TheVariants as upcoming
use Rattle.agc_machine.proofs.Chain.{stopped_stays}
use Rattle.agc_trace.specs.Entry.{entry_of}
use Rattle.agc_trace.specs.NamedLine.{line_with}
use Rattle.agc_trace.specs.Trace.{is_stop, trace_within}
use Rattle.agc_trace.specs.declared.entry.Entry.{Entry}
use Rattle.agc_trace.proofs.Lines.{IsWritten, nothing_written}
use Rattle.agc_trace.proofs.Steps.{rest_ends, rest_goes_on, reported_by}
use Rattle.agc_repl.specs.Changes.{boundary_text, changes_text, step_text}
use Rattle.agc_repl.specs.Repl.{after_boundaries, after_chain, gone_on}
use Rattle.agc_repl.specs.declared.repl.Repl.{Repl}
use Rattle.agc_repl.proofs.Going.{gone_nowhere, gone_then}
use Rattle.agc_symbols.specs.Symbols.{Symbol}

stops_here : (b : Bool) (more : List ℕ) → b ≡ true → (if b then [] else more) ≡ []
stops_here b more e = rw e refl

no_stop_here : (b : Bool) (more : List ℕ) → b ≡ false → (if b then [] else more) ≡ more
no_stop_here b more e = rw e refl

no_lines : (names : Option (List Symbol)) (cell : Option ℕ) (s : State) → step_text names cell zero s ≡ []
unfolding trace_within changes_text
no_lines names None s = refl
no_lines names (Some cell) s = refl

pub all_taken : (names : Option (List Symbol)) (cell : Option ℕ) (n : ℕ) (s : State) → n ≡ zero → step_text names cell n s ≡ []
all_taken names cell n s e = rw e (no_lines names cell s)

pub none_taken : (names : Option (List Symbol)) (cell : Option ℕ) (n m : ℕ) (s : State) (known : Option (List ℕ)) → n ≡ m
    → IsWritten known known (step_text names cell n s) (step_text names cell m s)
none_taken names cell n m s known e = rw e (nothing_written known (step_text names cell m s))

-- the stop is the last
lines_at_stop : (names : Option (List Symbol)) (cell : Option ℕ) (n : ℕ) (s : State) → is_stop (upcoming_of s) ≡ true
    → step_text names cell (suc n) s ≡ boundary_text names cell s
unfolding trace_within changes_text
lines_at_stop names None n s e =
    ap (λ (more : List Entry). flat_map (line_with names) (entry_of s ∷ more)) (rest_ends (is_stop (upcoming_of s)) (trace_within n (boundary None s).0) e)
    ∙ append-nil (line_with names (entry_of s))
lines_at_stop names (Some cell) n s e =
    ap (λ (more : List ℕ). boundary_text names (Some cell) s ++ more) (stops_here (is_stop (upcoming_of s)) (changes_text names cell n (boundary None s).0) e)
    ∙ append-nil (boundary_text names (Some cell) s)

lines_go_on : (names : Option (List Symbol)) (cell : Option ℕ) (n : ℕ) (s : State) → is_stop (upcoming_of s) ≡ false
    → step_text names cell (suc n) s ≡ boundary_text names cell s ++ step_text names cell n (boundary None s).0
unfolding trace_within changes_text
lines_go_on names None n s e =
    ap (λ (more : List Entry). flat_map (line_with names) (entry_of s ∷ more)) (rest_goes_on (is_stop (upcoming_of s)) (trace_within n (boundary None s).0) e)
lines_go_on names (Some cell) n s e =
    ap (λ (more : List ℕ). boundary_text names (Some cell) s ++ more) (no_stop_here (is_stop (upcoming_of s)) (changes_text names cell n (boundary None s).0) e)

-- the lines of one more boundary are printed, and what remains is that of the boundaries after it
pub one_parsed : (names : Option (List Symbol)) (cell : Option ℕ) (m n : ℕ) (s t : State) (entry : Entry) (text : List ℕ) (start now new : Option (List ℕ)) (whole : List ℕ)
    → m ≡ suc n → entry ≡ entry_of s → t ≡ (boundary None s).0 → is_stop entry.happening ≡ false → text ≡ boundary_text names cell s
    → IsWritten start now (step_text names cell m s) whole → Appends now new text → IsWritten start new (step_text names cell n t) whole
one_parsed names cell m n s t entry text start now new whole count e f stop g h k =
    let next : step_text names cell m s ≡ text ++ step_text names cell n t =
    ap (λ (boundaries : ℕ). step_text names cell boundaries s) count ∙ lines_go_on names cell n s (reported_by false s entry e stop)
    ∙ ap (λ (x : List ℕ). x ++ step_text names cell n (boundary None s).0) (sym g)
    ∙ ap (λ (x : State). text ++ step_text names cell n x) (sym f) in
    (h.0 ++ text, Appends-trans start now new h.0 text h.1 k, append_assoc h.0 text (step_text names cell n t) ∙ ap (λ (xs : List ℕ). h.0 ++ xs) (sym next) ∙ h.2)

-- the lines of the stop are printed
pub stop_parsed : (names : Option (List Symbol)) (cell : Option ℕ) (m n : ℕ) (s : State) (entry : Entry) (text : List ℕ) (start now new : Option (List ℕ)) (whole : List ℕ)
    → m ≡ suc n → entry ≡ entry_of s → is_stop entry.happening ≡ true → text ≡ boundary_text names cell s
    → IsWritten start now (step_text names cell m s) whole → Appends now new text → Appends start new whole
stop_parsed names cell m n s entry text start now new whole count e stop g h k =
    let last : step_text names cell m s ≡ text =
    ap (λ (boundaries : ℕ). step_text names cell boundaries s) count ∙ lines_at_stop names cell n s (reported_by true s entry e stop) ∙ sym g in
    subst (Appends start new) (ap (λ (xs : List ℕ). h.0 ++ xs) (sym last) ∙ h.2)
    (Appends-trans start now new h.0 text h.1 k)

-- where this many boundaries lead: a stop is the last one
stops_then : (u : Upcoming) (s : State) → is_stop u ≡ true → IsSome (carried_out u s).0.stopped
stops_then (upcoming.Stop why) s e = refl
stops_then (upcoming.Event what) s e = cc
stops_then (upcoming.Timer t) s e = cc
stops_then (upcoming.Interrupt r) s e = cc
stops_then (upcoming.Order order) s e = cc

unless_ends : (stopped : Option Stop) (s : State) → s.stopped ≡ stopped → is_stop (upcoming_of s) ≡ true → IsSome (unless_stopped stopped s).0.stopped
unless_ends (Some why) s e f = subst (λ (o : Option Stop). IsSome o) (sym e) refl
unless_ends None s e f = stops_then (upcoming_of s) (record s { begun = true }) f

ends : (s : State) → is_stop (upcoming_of s) ≡ true → IsSome (boundary None s).0.stopped
unfolding boundary
ends s f = unless_ends s.stopped s refl f

written_first : (answer : Stepped) (answers : List Stepped) → writes_in (answer ∷ answers) ≡ writes_in (answer ∷ []) ++ writes_in answers
unfolding writes_in
written_first stepped.Quiet answers = refl
written_first (stepped.Wrote write) answers = refl
written_first (stepped.Stopped why) answers = refl

first_then : (n : ℕ) (s : Repl)
    → after_boundaries (suc n) s
    ≡ gone_on (chain (replicate n None) (boundary None s.session.now).0).last
    (writes_in ((boundary None s.session.now).1 ∷ (chain (replicate n None) (boundary None s.session.now).0).answers)) s
unfolding chain
first_then n s = refl

pub boundaries_on : (m n : ℕ) (s t : Repl) → m ≡ suc n → t.session.now ≡ (boundary None s.session.now).0
    → t ≡ gone_on t.session.now (writes_in ((boundary None s.session.now).1 ∷ [])) s → after_boundaries m s ≡ after_boundaries n t
boundaries_on m n s t c e f =
    let next = boundary None s.session.now in
    let rest = chain (replicate n None) next.0 in
    ap (λ (x : ℕ). after_boundaries x s) c ∙ first_then n s
    ∙ ap (λ (writes : List ChannelWrite). gone_on rest.last writes s) (written_first next.1 rest.answers)
    ∙ sym (gone_then rest.last t.session.now (writes_in (next.1 ∷ [])) (writes_in rest.answers) s)
    ∙ ap (λ (x : Repl). gone_on rest.last (writes_in rest.answers) x) (sym f)
    ∙ ap (λ (x : State). after_chain (chain (replicate n None) x) t) (sym e)

pub no_boundaries : (n : ℕ) (t : Repl) → n ≡ zero → after_boundaries n t ≡ t
unfolding chain writes_in
no_boundaries n t e = ap (λ (x : ℕ). after_boundaries x t) e ∙ gone_nowhere t

stopped_chain : (n : ℕ) (s : State) (why : Stop) → s.stopped ≡ Some why
    → ((chain (replicate n None) s).last ≡ s) × (writes_in (chain (replicate n None) s).answers ≡ [])
unfolding chain writes_in
stopped_chain zero s why e = (refl, refl)
stopped_chain (suc n) s why e =
    let rest = stopped_chain n s why e in
    let stays = stopped_stays s why e in (
      ap (λ (r : State × Stepped). (chain (replicate n None) r.0).last) stays ∙ rest.0,
      ap (λ (r : State × Stepped). writes_in (r.1 ∷ (chain (replicate n None) r.0).answers)) stays ∙ rest.1,
    )

stays_by : (stopped : Option Stop) (n : ℕ) (t : Repl) → t.session.now.stopped ≡ stopped → IsSome stopped → after_boundaries n t ≡ t
stays_by (Some why) n t e h =
    let stays = stopped_chain n t.session.now why e in
    ap (λ (x : State). gone_on x (writes_in (chain (replicate n None) t.session.now).answers) t) stays.0
    ∙ ap (λ (writes : List ChannelWrite). gone_on t.session.now writes t) stays.1 ∙ gone_nowhere t
stays_by None n t e h = cc

-- after the stop nothing more happens
pub none_after_stop : (n : ℕ) (s t : Repl) (entry : Entry) → entry ≡ entry_of s.session.now → t.session.now ≡ (boundary None s.session.now).0
    → is_stop entry.happening ≡ true → after_boundaries n t ≡ t
none_after_stop n s t entry e f stop =
    let stopped : IsSome t.session.now.stopped =
    subst (λ (x : State). IsSome x.stopped) (sym f) (ends s.session.now (reported_by true s.session.now entry e stop)) in
    stays_by t.session.now.stopped n t refl stopped
