-- What a rope and a script hold: words and banks, events and their cycles.
use Rattle.std.specs.Prelude.{ℕ, ◌-◌, List, length, filter, slice_get}
use Rattle.std.specs.Prelude.{Option, Some, None}
use Rattle.std.specs.List.{range_with_len}
use Rattle.agc_word.specs.Number.{Number}
use Rattle.agc_store.specs.Places.{fixed_banks, fixed_words}
use Rattle.agc_script.specs.declared.event.Event.{Event}
use Rattle.agc_mend.specs.Woven.{has_words, is_woven_at}
use Rattle.agc_check.specs.declared.holdings.RopeHoldings.{RopeHoldings}
use Rattle.agc_check.specs.declared.holdings.ScriptHoldings.{ScriptHoldings}
use Rattle.agc_check.specs.declared.holdings.Span.{Span}

-- how many of the 36,864 words are not +0, and how many of the 36 banks have one
unfoldable pub word_count : List Number → ℕ
word_count words = length (filter (is_woven_at words) (range_with_len 0 fixed_words))

unfoldable pub bank_count : List Number → ℕ
bank_count words = length (filter (has_words words) (range_with_len 0 fixed_banks))

unfoldable pub rope_holdings : List Number → RopeHoldings
rope_holdings words = record { words = word_count words; banks = bank_count words }

-- the cycles of the first and the last of two events
abbrev pub span_between : Option Event → Option Event → Option Span
span_between (Some first) (Some last) = Some (record { first = first.cycle; last = last.cycle })
span_between first last = None

-- the cycles of a script's first and last events
unfoldable pub span_of : List Event → Option Span
span_of events = span_between (slice_get events 0) (slice_get events (length events - 1))

unfoldable pub script_holdings : List Event → ScriptHoldings
script_holdings events = record { events = length events; span = span_of events }
