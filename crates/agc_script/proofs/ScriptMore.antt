-- A script stays a script with one more event, and with its first events alone.
use Rattle.std.specs.Prelude.{◌≡◌, ℕ, suc, ◌≤◌, ◌<◌, List, [], ◌∷◌, ◌++◌, length, take, Result, Ok, Err, is_ok, if◌then◌else◌}
use Rattle.std.proofs.Common.{arith}
use Rattle.std.proofs.lemmas.List.{length-take, length_push}
use Rattle.std.proofs.lemmas.List.Elements.{All-nil, All-push, All-take}
use Rattle.agc_script.specs.declared.event.Event.{Event}
use Rattle.agc_script.specs.declared.event.What.{What}
use Rattle.agc_script.specs.Event.{IsInRange, IsWhatInRange, last_cycle}
use Rattle.agc_script.specs.Injection.{parsed_at}
use Rattle.agc_script.specs.Script.{IsInOrder, IsNotBefore, IsScript}
use Rattle.agc_script.proofs.Merges.{take-in_order}

in_order_more : (events : List Event) (last : Event) → IsInOrder events → IsNotBefore events last.cycle → IsInOrder (events ++ last ∷ [])
unfolding IsInOrder
in_order_more [] last r h = (All-nil (λ later. last.cycle ≤ later.cycle), tt)
in_order_more (event ∷ events) last r h =
    (All-push (λ later. event.cycle ≤ later.cycle) events last r.0 (h 0 event (omega arith)), in_order_more events last r.1 (λ k d l. h (suc k) d (omega arith)))

in_range : (cycle : ℕ) (what : What) → cycle ≤ last_cycle → IsWhatInRange what → IsInRange (parsed_at what cycle)
unfolding IsInRange
in_range cycle what c w = (c, w)

pub script_more : (events : List Event) (cycle : ℕ) (what : What) → IsScript events → IsNotBefore events cycle → cycle ≤ last_cycle → IsWhatInRange what → length events < 65536
    → IsScript (events ++ parsed_at what cycle ∷ [])
script_more events cycle what s later c w room = record {
  in_range = All-push IsInRange events (parsed_at what cycle) s.in_range (in_range cycle what c w);
  in_order = in_order_more events (parsed_at what cycle) s.in_order later;
  few = omega (arith, length_push events (parsed_at what cycle));
}

-- a push that may fail
pub script_if : {T E : Type 0} (r : Result T E) (new now old : List Event) → new ≡ (if is_ok r then now else old) → IsScript now → IsScript old → IsScript new
script_if (Ok x) new now old e a b = rw e a
script_if (Err x) new now old e a b = rw e b

-- a number of its first events
pub script_fewer : (n : ℕ) (events : List Event) → IsScript events → IsScript (take n events)
script_fewer n events s = record {
  in_range = All-take IsInRange n events s.in_range;
  in_order = take-in_order n events s.in_order;
  few = omega (arith, length-take n events, s.few);
}
