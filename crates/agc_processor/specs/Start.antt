-- The processor at the start of a run.
use Rattle.std.specs.Prelude.{ℕ, ◌+◌, false, List, set, replicate}
use Rattle.agc_word.specs.Number.{Number}
use Rattle.agc_word.specs.Channels.{chan30, chan31}
use Rattle.agc_word.specs.Channels.{chan32, chan33}
use Rattle.agc_store.specs.Cells.{narrow_number, start_memory, fetch_of}
use Rattle.agc_processor.specs.declared.processor.Processor.{Processor}
use Rattle.agc_processor.specs.Processor.{◌▷◌, jump}
use Rattle.agc_processor.specs.Signs.{plus_zero}

-- The channels at the start: +0, except the inputs from the spacecraft, whose bits are 1 when
-- nothing is asserted.
unfoldable pub channels_at_start : ℕ → List Number
channels_at_start count =
    let at_30 = set (replicate count plus_zero) chan30 (narrow_number 0o37777) in
    let at_31 = set at_30 chan31 (narrow_number 0o77777) in
    let at_32 = set at_31 chan32 (narrow_number 0o77777) in
    set at_32 chan33 (narrow_number 0o77777)

-- where a run begins
abbrev pub start_address : ℕ
start_address = 0o4000

-- Power on: the order at 4000 octal is in hand and Z is one past it, everything else is at rest.
unfoldable pub start_processor : List Number → Processor
start_processor words =
    let at_rest : Processor =
    record {
      store = start_memory words;
      channels = channels_at_start 0o1000;
      hand = fetch_of (start_memory words) start_address;
      extracode = false;
      uninterruptible = false;
      inhibited = false;
      serving = false;
      requests = replicate 10 false;
      timers = record {
        time1 = 0;
        time3 = 0;
        time4 = 0;
        time5 = 0;
        mark = 0;
      };
    } in
    at_rest ▷ jump (start_address + 1)
