-- What no order changes, so that a cycle below which no timer's step is due stays one whatever
-- orders run.
use Rattle.std.specs.Prelude.{◌≡◌}
use Rattle.agc_word.specs.Channels.{chan13}
use Rattle.agc_processor.specs.declared.processor.Processor.{Processor}
use Rattle.agc_processor.specs.declared.processor.Ran.{Ran}
use Rattle.agc_processor.specs.declared.processor.Ran.TheVariants as ran
use Rattle.agc_processor.specs.Channel.{switch_word}

-- the timers, the requests and TIME6's switch are as they were
abbrev pub IsSame : Processor → Processor → Type 0
IsSame p q =
    (q.timers ≡ p.timers) × (q.requests ≡ p.requests) × (switch_word q ≡ switch_word p)

-- an order leaves them unchanged, unless it writes the channel with that switch
abbrev pub Keeps : Processor → Processor × Ran → Type 0
Keeps p (q, ran.Quiet cycles) = IsSame p q
Keeps p (q, ran.Wrote channel value) = (channel ≡ chan13 → ⊥) → IsSame p q
Keeps p (q, ran.Halted why) = IsSame p q
