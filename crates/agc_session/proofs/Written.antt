-- A merge of two scripts that is written event by event, and the part of a script from a cycle on.
use Rattle.std.specs.Prelude.{◌≡◌, ℕ, ◌+◌, ◌<◌, ◌≤◌, nat_le, List, [], ◌∷◌, ◌++◌, length, take, drop, position, unwrap_or, Option, Result, Ok, Err, OnOk}
use Rattle.std.specs.List.{flat_map, position_or_len}
use Rattle.std.specs.Io.KnownBytes.{Appends}
use Rattle.std.proofs.Common.{refl, sym, ap, subst, ◌∙◌, append-nil, append_assoc, arith, get_or}
use Rattle.std.proofs.KnownBytes.{Appends-trans}
use Rattle.std.proofs.lemmas.Bool.Decides.{nat_tests}
use Rattle.std.proofs.lemmas.List.Concat.{flat_map-append}
use Rattle.std.proofs.lemmas.List.Sums.{prefix_len-le-length}
use Rattle.agc_script.specs.Merge.{due_at, joined}
use Rattle.agc_script.specs.Written.{event_text}
use Rattle.agc_script.specs.declared.event.Event.{Event}
use Rattle.agc_script.proofs.Merges.{joined-end, joined-next}
use Rattle.agc_session.specs.Session.{since}

-- some events are written, and those that are left complete a list
abbrev pub IsWritten : Option (List ℕ) → Option (List ℕ) → List Event → List Event → Type 0
IsWritten old now left all = (done : List Event) × Appends old now (flat_map event_text done) × (done ++ left ≡ all)

text_of_more : (done due : List Event) (event : Event)
    → flat_map event_text ((done ++ due) ++ event ∷ []) ≡ flat_map event_text done ++ (flat_map event_text due ++ event_text event)
text_of_more done due event =
    flat_map-append event_text (done ++ due) (event ∷ [])
    ∙ ap (λ (text : List ℕ). text ++ (event_text event ++ [])) (flat_map-append event_text done due)
    ∙ ap (λ (text : List ℕ). (flat_map event_text done ++ flat_map event_text due) ++ text) (append-nil (event_text event))
    ∙ append_assoc (flat_map event_text done) (flat_map event_text due) (event_text event)

-- one more injected event, after those that are due
pub given_written : (old now new : Option (List ℕ)) (rest given all : List Event) (i due : ℕ) (event other : Event) → i < length given
    → event ≡ get_or given i other → due ≡ due_at event.cycle rest → IsWritten old now (joined rest (drop i given)) all
    → Appends now new (flat_map event_text (take due rest) ++ event_text event)
    → IsWritten old new (joined (drop due rest) (drop (i + 1) given)) all
given_written old now new rest given all i due event other l e d h k =
    let more : List Event = (h.0 ++ take due rest) ++ event ∷ [] in (
      more,
      subst (λ (text : List ℕ). Appends old new text) (sym (text_of_more h.0 (take due rest) event))
          (Appends-trans old now new (flat_map event_text h.0) (flat_map event_text (take due rest) ++ event_text event) h.1 k),
      joined-next h.0 rest more given i due event other l e d refl ∙ h.2,
    )

-- what follows from a success
pub on_ok_then : {T E : Type 0} (r : Result T E) (P Q : Type 0) → (P → Q) → OnOk r P → OnOk r Q
on_ok_then (Ok x) P Q f h = f h
on_ok_then (Err x) P Q f h = tt

-- no injected event is left, and the rest of the script is written
pub rest_written : (old now new : Option (List ℕ)) (rest given all : List Event) (i : ℕ) → length given ≤ i
    → IsWritten old now (joined rest (drop i given)) all → Appends now new (flat_map event_text rest) → Appends old new (flat_map event_text all)
rest_written old now new rest given all i l h k =
    let whole : h.0 ++ rest ≡ all = ap (λ (left : List Event). h.0 ++ left) (sym (joined-end rest given i l)) ∙ h.2 in
    subst (λ (events : List Event). Appends old new (flat_map event_text events)) whole
    (subst (λ (text : List ℕ). Appends old new text) (sym (flat_map-append event_text h.0 rest))
    (Appends-trans old now new (flat_map event_text h.0) (flat_map event_text rest) h.1 k))

-- the place of the first event at a cycle or later, as the search for it gives it
place_found : (cycle : ℕ) (events : List Event)
    → unwrap_or (position (λ event. nat_le cycle event.cycle) events) (length events) ≡ position_or_len (λ event. nat_le cycle event.cycle) events
place_found cycle events =
    let bound : position_or_len (λ (event : Event). nat_le cycle event.cycle) events ≤ length events = prefix_len-le-length _ events in
    grind (arith, nat_tests)

pub since_found : (cycle : ℕ) (events : List Event)
    → drop (unwrap_or (position (λ event. nat_le cycle event.cycle) events) (length events)) events ≡ since cycle events
since_found cycle events = ap (λ (n : ℕ). drop n events) (place_found cycle events)
