-- The operand of the order in hand: the place that it addresses while the banks are as they are, and what that place
-- holds before and after the boundary.
use Rattle.std.specs.Prelude.{ℕ, ◌+◌, ◌%◌, ◌<◌, nat_lt, Bool, true, false, List, None, if◌then◌else◌}
use Rattle.agc_word.specs.Arithmetic.{narrow_of}
use Rattle.agc_word.specs.Number.{Number, pattern_of}
use Rattle.agc_store.specs.Memory.{Memory, cell_at, fixed_at, nothing}
use Rattle.agc_store.specs.Places.{erasable_cells, fixed_words}
use Rattle.agc_order.specs.Order.{basic_of, extracode_of}
use Rattle.agc_order.specs.Row.{basic_row, extracode_row}
use Rattle.agc_order.specs.declared.order.Basic.{Basic}
use Rattle.agc_order.specs.declared.order.Basic.TheVariants as basic
use Rattle.agc_order.specs.declared.order.Extracode.{Extracode}
use Rattle.agc_order.specs.declared.order.Extracode.TheVariants as extra
use Rattle.agc_order.specs.declared.row.Takes.{Takes}
use Rattle.agc_order.specs.declared.row.Takes.TheVariants as takes
use Rattle.agc_processor.specs.Channel.{channel_word}
use Rattle.agc_machine.specs.Boundary.{boundary, upcoming_of}
use Rattle.agc_machine.specs.State.{State}
use Rattle.agc_machine.specs.declared.upcoming.InHand.{InHand}
use Rattle.agc_machine.specs.declared.upcoming.Upcoming.{Upcoming}
use Rattle.agc_machine.specs.declared.upcoming.Upcoming.TheVariants as upcoming
use Rattle.agc_listing.specs.Location.{IsReadable, location_in}
use Rattle.agc_listing.specs.declared.location.Location.{Location}
use Rattle.agc_listing.specs.declared.location.Location.TheVariants as location
use Rattle.agc_trace.specs.declared.operand.Addressed.{Addressed}
use Rattle.agc_trace.specs.declared.operand.Addressed.TheVariants as addressed
use Rattle.agc_trace.specs.declared.operand.HeldChannel.{HeldChannel}
use Rattle.agc_trace.specs.declared.operand.HeldWord.{HeldWord}
use Rattle.agc_trace.specs.declared.operand.Operand.{Operand}
use Rattle.agc_trace.specs.declared.operand.Operand.TheVariants as operand

-- the mnemonic by which a line names an order
abbrev pub mnemonic_of : InHand → List ℕ
mnemonic_of order =
    if order.extracode
    then (extracode_row (extracode_of (pattern_of 15 order.word))).mnemonic
    else (basic_row (basic_of (pattern_of 15 order.word))).mnemonic

-- the operand field of an order
abbrev pub takes_of : InHand → Takes
takes_of order =
    if order.extracode
    then (extracode_row (extracode_of (pattern_of 15 order.word))).takes
    else (basic_row (basic_of (pattern_of 15 order.word))).takes

-- what an operand field names. A double word has its upper word one below the lower one, which the order's word names.
abbrev pub field_named : Memory → Takes → ℕ → Addressed
field_named m takes.Nothing word = addressed.Nothing
field_named m takes.Erasable word = addressed.Word (location_in m (word % 0o2000))
field_named m takes.ErasablePair word =
    addressed.Pair (location_in m ((word % 0o2000 + 0o1777) % 0o2000)) (location_in m (word % 0o2000))
field_named m takes.Fixed word = addressed.Target (location_in m (word % 0o10000))
field_named m takes.Memory word = addressed.Word (location_in m (word % 0o10000))
field_named m takes.MemoryPair word =
    addressed.Pair (location_in m ((word % 0o10000 + 0o7777) % 0o10000)) (location_in m (word % 0o10000))
field_named m takes.Channel word = addressed.Channel (word % 0o1000)

-- TC goes to the place that it names, and EDRUPT has no channel
abbrev pub is_tc : Basic → Bool
is_tc basic.Tc = true
is_tc _ = false

abbrev pub is_edrupt : Extracode → Bool
is_edrupt extra.Edrupt = true
is_edrupt _ = false

abbrev pub basic_named : Memory → Basic → ℕ → Addressed
basic_named m order word =
    if is_tc order
    then addressed.Target (location_in m (word % 0o10000))
    else field_named m (basic_row order).takes word

abbrev pub extracode_named : Memory → Extracode → ℕ → Addressed
extracode_named m order word =
    if is_edrupt order then addressed.Nothing else field_named m (extracode_row order).takes word

-- what the order in hand addresses; anything else addresses nothing
unfoldable pub addressed_by : Memory → Upcoming → Addressed
addressed_by m (upcoming.Order order) =
    let word = pattern_of 15 order.word in
    if order.extracode
    then extracode_named m (extracode_of word) word
    else basic_named m (basic_of word) word
addressed_by m (upcoming.Stop why) = addressed.Nothing
addressed_by m (upcoming.Event what) = addressed.Nothing
addressed_by m (upcoming.Timer t) = addressed.Nothing
addressed_by m (upcoming.Interrupt r) = addressed.Nothing

-- the word at a place: that of a cell, or a fixed word; banks above 43 octal have +0 everywhere
unfoldable pub word_at : Memory → Location → Number
word_at m (location.Erasable cell) = cell_at cell m.erasable
word_at m (location.Fixed place) =
    if nat_lt place fixed_words then fixed_at place m.fixed else nothing

-- what a channel shows
abbrev pub channel_at : State → ℕ → Number
channel_at s channel = narrow_of (channel_word s.cycle channel s.processor)

-- a place with what it holds in one state and in another
abbrev pub held_word : State → State → Location → HeldWord
held_word s t at =
    record { at = at; before = word_at s.processor.store at; after = word_at t.processor.store at }

abbrev pub held_channel : State → State → ℕ → HeldChannel
held_channel s t channel =
    record { channel = channel; before = channel_at s channel; after = channel_at t channel }

unfoldable pub operand_between : State → State → Addressed → Operand
operand_between s t addressed.Nothing = operand.Nothing
operand_between s t (addressed.Target at) = operand.Target at
operand_between s t (addressed.Word at) = operand.Word (held_word s t at)
operand_between s t (addressed.Pair upper lower) =
    operand.Pair (held_word s t upper) (held_word s t lower)
operand_between s t (addressed.Channel channel) = operand.Channel (held_channel s t channel)

-- The operand at the boundary that begins in a state: what the order in hand addresses by the banks of that state, with
-- what it holds in that state and after the boundary.
unfoldable pub operand_of : State → Operand
operand_of s =
    operand_between s (boundary None s).0 (addressed_by s.processor.store (upcoming_of s))

-- the same operand, with what it holds in this state as the words after
abbrev pub word_again : State → HeldWord → HeldWord
word_again t word = record word { after = word_at t.processor.store word.at }

abbrev pub channel_again : State → HeldChannel → HeldChannel
channel_again t channel = record channel { after = channel_at t channel.channel }

unfoldable pub operand_again : State → Operand → Operand
operand_again t operand.Nothing = operand.Nothing
operand_again t (operand.Target at) = operand.Target at
operand_again t (operand.Word word) = operand.Word (word_again t word)
operand_again t (operand.Pair upper lower) =
    operand.Pair (word_again t upper) (word_again t lower)
operand_again t (operand.Channel channel) = operand.Channel (channel_again t channel)

-- an operand whose word can be read
abbrev pub CanBeRead : Addressed → Type 0
CanBeRead addressed.Nothing = Unit {0}
CanBeRead (addressed.Target at) = Unit {0}
CanBeRead (addressed.Word at) = IsReadable at
CanBeRead (addressed.Pair upper lower) = IsReadable upper × IsReadable lower
CanBeRead (addressed.Channel channel) = channel < 0o1000

abbrev pub CanBeReadAgain : Operand → Type 0
CanBeReadAgain operand.Nothing = Unit {0}
CanBeReadAgain (operand.Target at) = Unit {0}
CanBeReadAgain (operand.Word word) = IsReadable word.at
CanBeReadAgain (operand.Pair upper lower) = IsReadable upper.at × IsReadable lower.at
CanBeReadAgain (operand.Channel channel) = channel.channel < 0o1000
