-- There is only one merge of a script with injected events.
use Rattle.std.specs.Prelude.{◌≡◌, ◌≤◌, ◌<◌, List, [], ◌∷◌, map, filter_map, All}
use Rattle.std.proofs.Common.{refl, arith, sym, ap, ◌∙◌, inl, inr}
use Rattle.std.proofs.lemmas.List.Elements.{All-tail}
use Rattle.agc_script.specs.declared.event.Event.{Event}
use Rattle.agc_script.specs.Merge.{joined, Entry, event_of, scripted, given_of, ComesBefore, AreInPlace, IsMerge}
use Rattle.agc_script.proofs.Merges.{joined_event_first, joined_given_first, joined_given_last, joined_none}

-- the first injected event after a script's, and the first of the script's after an injected one
first_given : (event : Event) (rest : List Entry) (one : Event) (given : List Event) → All (ComesBefore (inl event)) rest → filter_map given_of rest ≡ one ∷ given
    → event.cycle ≤ one.cycle
first_given event [] one given h e = cc
first_given event (inl other ∷ rest) one given h e = first_given event rest one given (All-tail (ComesBefore (inl event)) (inl other) rest h) e
first_given event (inr other ∷ rest) one given h e =
    let near : event.cycle ≤ other.cycle = h 0 (inr other) (omega arith) in
    let same : other ≡ one = cc in
    rw same at near

first_scripted : (one : Event) (rest : List Entry) (event : Event) (events : List Event) → All (ComesBefore (inr one)) rest → filter_map scripted rest ≡ event ∷ events
    → one.cycle < event.cycle
first_scripted one [] event events h e = cc
first_scripted one (inr other ∷ rest) event events h e = first_scripted one rest event events (All-tail (ComesBefore (inr one)) (inr other) rest h) e
first_scripted one (inl other ∷ rest) event events h e =
    let later : one.cycle < other.cycle = h 0 (inl other) (omega arith) in
    let same : other ≡ event = cc in
    rw same at later

-- the merge continues with an event of the script, or with an injected one
event_next : (event : Event) (events given : List Event) → ((one : Event) (others : List Event) → given ≡ one ∷ others → event.cycle ≤ one.cycle)
    → joined (event ∷ events) given ≡ event ∷ joined events given
event_next event events [] h = joined_none (event ∷ events) ∙ ap (λ (rest : List Event). event ∷ rest) (sym (joined_none events))
event_next event events (one ∷ others) h = joined_event_first event events one others (h one others refl)

given_next : (one : Event) (events given : List Event) → ((event : Event) (others : List Event) → events ≡ event ∷ others → one.cycle < event.cycle)
    → joined events (one ∷ given) ≡ one ∷ joined events given
given_next one [] given h = joined_given_last one given
given_next one (event ∷ others) given h = joined_given_first event others one given (h event others refl)

fixed : (entries : List Entry) → AreInPlace entries → joined (filter_map scripted entries) (filter_map given_of entries) ≡ map event_of entries
unfolding AreInPlace
fixed [] h = joined_none []
fixed (inl event ∷ rest) h =
    event_next event (filter_map scripted rest) (filter_map given_of rest) (λ one others e. first_given event rest one others h.0 e)
    ∙ ap (λ (more : List Event). event ∷ more) (fixed rest h.1)
fixed (inr one ∷ rest) h =
    given_next one (filter_map scripted rest) (filter_map given_of rest) (λ event others e. first_scripted one rest event others h.0 e)
    ∙ ap (λ (more : List Event). one ∷ more) (fixed rest h.1)

pub one_merge : (events given all : List Event) → IsMerge events given all → all ≡ joined events given
one_merge events given all m =
    let same = rw (m.events_are, m.given_are) at (fixed m.entries m.in_place) in
    m.all_are ∙ sym same
