-- A tape stays a tape with one more entry, and its keys as events are a script's.
use Rattle.std.specs.Prelude.{◌≡◌, ℕ, suc, ◌-◌, ◌≤◌, ◌<◌, List, [], ◌∷◌, ◌++◌, length, map, slice_index_or, All}
use Rattle.std.proofs.Common.{arith}
use Rattle.std.proofs.lemmas.List.{length-map}
use Rattle.std.proofs.lemmas.List.Elements.{All-cons, All-map, All-nil, All-push}
use Rattle.agc_script.specs.declared.key.Key.{Key}
use Rattle.agc_script.specs.declared.event.Event.{Event}
use Rattle.agc_script.specs.Event.{IsInRange, IsWhatInRange, last_cycle, most_events}
use Rattle.agc_script.specs.Merge.{key_event}
use Rattle.agc_script.specs.Script.{IsInOrder, IsScript}
use Rattle.agc_script.specs.Tape.{IsRising, IsTape, IsAfter}

-- what comes after the last entry comes after all
all_before : (tape : List (ℕ × Key)) (cycle : ℕ) → IsRising tape → IsAfter tape cycle → All (λ entry. entry.0 < cycle) tape
unfolding IsRising
all_before [] cycle r h = All-nil (λ entry. entry.0 < cycle)
all_before (entry ∷ []) cycle r h = All-cons (λ entry. entry.0 < cycle) entry [] h (All-nil (λ entry. entry.0 < cycle))
all_before (entry ∷ next ∷ tape) cycle r h =
    let k : length (entry ∷ next ∷ tape) - 1 ≡ suc (length (next ∷ tape) - 1) = omega arith in
    let rest = all_before (next ∷ tape) cycle r.1 (rw k at h) in
    let near : entry.0 < next.0 = r.0 0 next (omega arith) in
    let far : next.0 < cycle = rest 0 next (omega arith) in
    All-cons (λ entry. entry.0 < cycle) entry (next ∷ tape) (omega arith) rest

rising_more : (tape : List (ℕ × Key)) (last : ℕ × Key) → IsRising tape → All (λ entry. entry.0 < last.0) tape → IsRising (tape ++ last ∷ [])
unfolding IsRising
rising_more [] last r h = (All-nil (λ later. last.0 < later.0), tt)
rising_more (entry ∷ tape) last r h =
    (All-push (λ later. entry.0 < later.0) tape last r.0 (h 0 entry (omega arith)), rising_more tape last r.1 (λ k d l. h (suc k) d (omega arith)))

-- one more entry
pub tape_more : (tape : List (ℕ × Key)) (cycle : ℕ) (key : Key) → IsTape tape → IsAfter tape cycle → cycle ≤ last_cycle → IsTape (tape ++ (cycle, key) ∷ [])
tape_more tape cycle key t h l = record {
  rising = rising_more tape (cycle, key) t.rising (all_before tape cycle t.rising h);
  in_range = All-push (λ entry. entry.0 ≤ last_cycle) tape (cycle, key) t.in_range l;
}

-- the keys of a tape as events
pub keys-in_order : (tape : List (ℕ × Key)) → IsRising tape → IsInOrder (map key_event tape)
unfolding IsRising IsInOrder
keys-in_order [] r = tt
keys-in_order (entry ∷ tape) r =
    (All-map (λ (later : Event). entry.0 ≤ later.cycle) key_event tape (λ i d l. omega (arith, r.0 i d l)), keys-in_order tape r.1)

key-in_range : (entry : ℕ × Key) → entry.0 ≤ last_cycle → IsInRange (key_event entry)
unfolding IsInRange IsWhatInRange
key-in_range entry h = (h, tt)

pub keys_script : (tape : List (ℕ × Key)) → IsTape tape → length tape ≤ most_events → IsScript (map key_event tape)
keys_script tape t few = record {
  in_range = All-map IsInRange key_event tape (λ i d l. key-in_range (slice_index_or tape i d) (t.in_range i d l));
  in_order = keys-in_order tape t.rising;
  few = omega (arith, length-map tape key_event);
}
