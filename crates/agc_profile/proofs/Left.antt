-- The boundaries that a machine still makes, one by one.
use Rattle.std.proofs.Common.{◌≡◌, ℕ, ◌<◌, List, [], ◌∷◌, None, Bool, true, false, refl, ap, sym, ◌∙◌, subst, arith}
use Rattle.std.specs.Prelude.{if◌then◌else◌, ◌&&◌, filter, nat_le}
use Rattle.std.proofs.lemmas.Bool.Decides.{nat_tests}
use Rattle.agc_word.specs.Number.{Number}
use Rattle.agc_machine.specs.Boundary.{boundary, upcoming_of}
use Rattle.agc_machine.specs.State.{State}
use Rattle.agc_machine.specs.declared.upcoming.Upcoming.{Upcoming}
use Rattle.agc_machine.proofs.Kept.{boundary_keeps}
use Rattle.agc_trace.specs.Entry.{entry_of}
use Rattle.agc_trace.specs.Trace.{entries_left, is_stop}
use Rattle.agc_trace.specs.TraceLaws.{NeverGoBack}
use Rattle.agc_trace.specs.declared.entry.Entry.{Entry}
use Rattle.agc_trace.proofs.Forward.{trace_goes_forward}
use Rattle.agc_trace.proofs.Steps.{fewer_entries}
use Rattle.agc_profile.specs.Profile.{count_of, counted, counted_in, counted_one, nothing_counted}
use Rattle.agc_profile.specs.Context.{at_start, mode_after}
use Rattle.agc_profile.specs.Step.{is_in, passage_between, passage_of, passages, steps_in, passages_left}
use Rattle.agc_profile.specs.Readers.{Reported, all_reported, reported_of}
use Rattle.agc_trace.specs.declared.span.Span.{Span}
use Rattle.agc_profile.specs.declared.profile.Profile.{Profile}
use Rattle.agc_profile.specs.declared.context.Context.{Context}
use Rattle.agc_profile.specs.declared.step.Step.{Step}
use Rattle.agc_profile.proofs.Reported.{entries_of, reported_by_one, reported_ends, reported_is_trace, reported_on}

pub begins : (s : State) → (entry_of s).cycle ≡ s.cycle
unfolding entry_of
begins s = refl

none_of : (b : Bool) → (b && false) ≡ false
none_of true = refl
none_of false = refl

takes_by : (b : Bool) (p : Step) (ps : List Step) → b ≡ true → (if b then p ∷ ps else ps) ≡ p ∷ ps
takes_by true p ps e = refl
takes_by false p ps e = cc

leaves_by : (b : Bool) (p : Step) (ps : List Step) → b ≡ false → (if b then p ∷ ps else ps) ≡ ps
leaves_by true p ps e = cc
leaves_by false p ps e = refl

takes_in : (span : Span) (p : Step) (ps : List Step) → is_in span p ≡ true → filter (is_in span) (p ∷ ps) ≡ p ∷ filter (is_in span) ps
takes_in span p ps e = takes_by (is_in span p) p (filter (is_in span) ps) e

not_in : (span : Span) (p : Step) (ps : List Step) → is_in span p ≡ false → filter (is_in span) (p ∷ ps) ≡ filter (is_in span) ps
not_in span p ps e = leaves_by (is_in span p) p (filter (is_in span) ps) e

-- two consecutive entries: the first belongs to this state and the second to the next one
first_of : (mode : Context) (s : State) (reported next : Reported) (rest : List Reported) → reported ≡ reported_of s → next ≡ reported_of (boundary None s).0 →
    passages mode (reported ∷ next ∷ rest) ≡ passage_of mode s ∷ passages (mode_after (upcoming_of s) mode) (next ∷ rest)
unfolding passages passage_of reported_of entry_of
first_of mode s reported next rest e f = cc

-- the boundaries from a state on are its own and those from the next state on
pub passages_go_on : (mode : Context) (s : State) → is_stop (upcoming_of s) ≡ false →
    passages mode (all_reported s) ≡ passage_of mode s ∷ passages (mode_after (upcoming_of s) mode) (all_reported (boundary None s).0)
passages_go_on mode s f =
    let t = (boundary None s).0 in
    let rest = if is_stop (upcoming_of t) then [] else all_reported (boundary None t).0 in
    let two : all_reported s ≡ reported_of s ∷ reported_of t ∷ rest =
    reported_by_one s ∙ ap (λ (xs : List Reported). reported_of s ∷ xs) (reported_on (is_stop (upcoming_of s)) (all_reported t) f ∙ reported_by_one t) in
    ap (λ (xs : List Reported). passages mode xs) two
    ∙ first_of mode s (reported_of s) (reported_of t) rest refl refl
    ∙ ap (λ (xs : List Reported). passage_of mode s ∷ passages (mode_after (upcoming_of s) mode) xs) (sym (reported_by_one t))

-- at the stop there are no more
pub passages_end : (mode : Context) (s : State) → is_stop (upcoming_of s) ≡ true → passages mode (all_reported s) ≡ []
unfolding passages
passages_end mode s f =
    ap (λ (xs : List Reported). passages mode xs)
    (reported_by_one s ∙ ap (λ (xs : List Reported). reported_of s ∷ xs) (reported_ends (is_stop (upcoming_of s)) (all_reported (boundary None s).0) f))

late : (span : Span) (p : Step) → span.to < p.cycle → is_in span p ≡ false
late span p l =
    let long : nat_le p.cycle span.to ≡ false = grind (arith, nat_tests) in
    ap (λ (b : Bool). nat_le span.from p.cycle && b) long ∙ none_of (nat_le span.from p.cycle)

none_late : (span : Span) (mode : Context) (from : ℕ) (all : List Reported) → span.to < from → NeverGoBack from (entries_of all) →
    filter (is_in span) (passages mode all) ≡ []
unfolding passages
none_late span mode from [] l h = refl
none_late span mode from (reported ∷ []) l h = refl
none_late span mode from (reported ∷ next ∷ later) l h =
    not_in span (passage_between mode reported next) (passages (mode_after reported.entry.happening mode) (next ∷ later))
    (late span (passage_between mode reported next) (omega (arith, h.0)))
    ∙ none_late span (mode_after reported.entry.happening mode) reported.entry.cycle (next ∷ later) (omega (arith, h.0)) h.1

forward : (s : State) → NeverGoBack s.cycle (entries_of (all_reported s))
forward s = subst (λ (xs : List Entry). NeverGoBack s.cycle xs) (sym (reported_is_trace s)) (trace_goes_forward s)

-- past the last cycle of the span no boundary is counted
pub none_past : (span : Span) (mode : Context) (s : State) → span.to < s.cycle → passages_left span mode s ≡ []
unfolding passages_left
none_past span mode s l = none_late span mode s.cycle (all_reported s) l (forward s)

-- at the stop none is left
pub none_at_stop : (span : Span) (mode : Context) (s : State) → is_stop (upcoming_of s) ≡ true → passages_left span mode s ≡ []
unfolding passages_left
none_at_stop span mode s f = ap (λ (ps : List Step). filter (is_in span) ps) (passages_end mode s f)

-- a boundary that is not a stop is left with those after it
pub left_after : (span : Span) (mode : Context) (s : State) → is_stop (upcoming_of s) ≡ false →
    passages_left span mode s
    ≡ filter (is_in span) (passage_of mode s ∷ passages (mode_after (upcoming_of s) mode) (all_reported (boundary None s).0))
unfolding passages_left
left_after span mode s f = ap (λ (ps : List Step). filter (is_in span) ps) (passages_go_on mode s f)

pub happens : (mode : Context) (s : State) → (passage_of mode s).happening ≡ upcoming_of s
unfolding passage_of
happens mode s = refl

-- a boundary happens as foreseen
pub happens_reported : (mode : Context) (s : State) (p : Step) (u : Upcoming) → p ≡ passage_of mode s → u ≡ upcoming_of s → p.happening ≡ u
happens_reported mode s p u e f = ap (λ (q : Step). q.happening) e ∙ happens mode s ∙ sym f

counted_by : (b : Bool) (p : Step) (ps : List Step) (c : Profile) →
    counted (if b then counted_one p c else c) ps ≡ counted c (if b then p ∷ ps else ps)
unfolding counted
counted_by true p ps c = refl
counted_by false p ps c = refl

-- a boundary that is not a stop is counted if it is in the span, and those after it are left
pub counted_next : (span : Span) (mode : Context) (s : State) (c : Profile) → is_stop (upcoming_of s) ≡ false →
    counted (counted_in span (passage_of mode s) c) (passages_left span (mode_after (upcoming_of s) mode) (boundary None s).0)
    ≡ counted c (passages_left span mode s)
unfolding passages_left
counted_next span mode s c f =
    let rest = passages (mode_after (upcoming_of s) mode) (all_reported (boundary None s).0) in
    counted_by (is_in span (passage_of mode s)) (passage_of mode s) (filter (is_in span) rest) c
    ∙ sym (ap (λ (ps : List Step). counted c ps) (left_after span mode s f))

-- the same for its part of the profile
pub counted_after : (span : Span) (mode after : Context) (s t : State) (c more : Profile) → t ≡ (boundary None s).0 → is_stop (upcoming_of s) ≡ false →
    after ≡ mode_after (upcoming_of s) mode → more ≡ counted_in span (passage_of mode s) c →
    counted more (passages_left span after t) ≡ counted c (passages_left span mode s)
counted_after span mode after s t c more f stop g h =
    ap (λ (x : Profile). counted x (passages_left span after t)) h
    ∙ ap (λ (x : State). counted (counted_in span (passage_of mode s) c) (passages_left span after x)) f
    ∙ ap (λ (m : Context). counted (counted_in span (passage_of mode s) c) (passages_left span m (boundary None s).0)) g
    ∙ counted_next span mode s c stop

-- a boundary that is not a stop leaves fewer entries
pub fewer_after : (s t : State) → t ≡ (boundary None s).0 → is_stop (upcoming_of s) ≡ false → entries_left t < entries_left s
fewer_after s t f stop = subst (λ (u : State). entries_left u < entries_left s) (sym f) (fewer_entries s stop)

-- and the same rope
pub rope_stays : (s t : State) (words : List Number) → t ≡ (boundary None s).0 → s.processor.store.fixed ≡ words → t.processor.store.fixed ≡ words
rope_stays s t words e f = ap (λ (u : State). u.processor.store.fixed) e ∙ (boundary_keeps None s).0 ∙ f

-- nothing more is counted if nothing is left
pub counted_all : (span : Span) (mode : Context) (s : State) (c whole : Profile) → passages_left span mode s ≡ [] →
    counted c (passages_left span mode s) ≡ whole → c ≡ whole
unfolding counted
counted_all span mode s c whole e h = ap (λ (ps : List Step). counted c ps) (sym e) ∙ h

-- a profile begins empty, in the context of a run's start
pub starts : (span : Span) (s : State) (mode : Context) (c : Profile) → c ≡ nothing_counted → mode ≡ at_start →
    counted c (passages_left span mode s) ≡ count_of (steps_in span s)
starts span s mode c e f =
    ap (λ (d : Profile). counted d (passages_left span mode s)) e ∙ ap (λ (m : Context). counted nothing_counted (passages_left span m s)) f
