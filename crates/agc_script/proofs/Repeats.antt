-- The events of one line, one after another.
use Rattle.std.specs.Prelude.{◌≡◌, ℕ, ◌+◌, ◌-◌, ◌*◌, ◌≤◌, ◌<◌, List, [], ◌∷◌, ◌++◌, map, All}
use Rattle.std.specs.List.{range_with_len}
use Rattle.std.proofs.Common.{arith, append_assoc}
use Rattle.std.proofs.Math.Nat.{mul-le-mul_right}
use Rattle.std.proofs.lemmas.List.Elements.{All-push}
use Rattle.std.proofs.lemmas.List.FromFn.{map-range_with_len_more}
use Rattle.agc_script.specs.declared.event.Event.{Event}
use Rattle.agc_script.specs.declared.line.Repeat.{Repeat}
use Rattle.agc_script.specs.Event.{IsInRange, last_cycle}
use Rattle.agc_script.specs.Line.{IsRepeatInRange}
use Rattle.agc_script.specs.Parse.{event_at}

-- each event of a line is in its ranges, since its last one is
event_at-in_range : (repeat : Repeat) (i : ℕ) → IsRepeatInRange repeat → i < repeat.times → IsInRange (event_at repeat i)
unfolding IsInRange
event_at-in_range repeat i h l =
    let before : i ≤ repeat.times - 1 = omega arith in
    let cycle : repeat.start + i * repeat.period ≤ last_cycle = omega (arith, mul-le-mul_right repeat.period before, h.last) in
    (cycle, h.what)

-- all stay in range with the next event of a line
pub All-more_events : (repeat : Repeat) (i : ℕ) (events more : List Event) → IsRepeatInRange repeat → i < repeat.times → All IsInRange events
    → more ≡ events ++ event_at repeat i ∷ [] → All IsInRange more
All-more_events repeat i events more h l all e =
    rw e (All-push IsInRange events (event_at repeat i) all (event_at-in_range repeat i h l))

-- the events of a line up to the next one
pub more_events : (repeat : Repeat) (i : ℕ) (old events more : List Event) → events ≡ old ++ map (event_at repeat) (range_with_len 0 i)
    → more ≡ events ++ event_at repeat i ∷ [] → more ≡ old ++ map (event_at repeat) (range_with_len 0 (i + 1))
more_events repeat i old events more e m =
    rw (m, e, append_assoc, map-range_with_len_more (event_at repeat) 0 i i (omega arith))
