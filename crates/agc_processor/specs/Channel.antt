-- The channels as a program and a script see them, and the orders that read and write them. h is
-- the channel's number.
use Rattle.std.specs.Prelude.{ℕ, ◌*◌, ◌/◌, ◌%◌, ◌==◌, ◌&&◌, not, Bool, get_or, set, if◌then◌else◌}
use Rattle.agc_processor.specs.Due.{scaler, time6_periods}
use Rattle.agc_word.specs.Channels.{l_channel, q_channel, hiscalar, loscalar, superbnk, chan13}
use Rattle.agc_word.specs.Number.{Number, pattern_of, bit_of}
use Rattle.agc_word.specs.Arithmetic.{narrow_of}
use Rattle.agc_store.specs.Cells.{narrow_number, superbank_set}
use Rattle.agc_processor.specs.declared.processor.Processor.{Processor}
use Rattle.agc_processor.specs.Signs.{plus_zero}
use Rattle.agc_processor.specs.Processor.{◌▷◌, a_of, l_of, q_of, set_a, set_l, set_q}
use Rattle.agc_processor.specs.Logic.{and_words_of, or_words_of, xor_words_of}

-- the word in a channel's cell, and the state after the cell has taken another
abbrev pub channel_cell : ℕ → Processor → Number
channel_cell h p = get_or p.channels h plus_zero

abbrev pub set_channel_cell : ℕ → Number → Processor → Processor
set_channel_cell h w p = record p { channels = set p.channels h w }

-- What a channel shows at a cycle: L, Q, the scaler's high or low fourteen digits, else its cell.
unfoldable pub channel_word : ℕ → ℕ → Processor → Number
channel_word cycle h p =
    if h == l_channel then l_of p
    else if h == q_channel then q_of p
    else if h == hiscalar then narrow_number (scaler cycle / 0o40000 % 0o40000)
    else if h == loscalar then narrow_number (scaler cycle % 0o40000)
    else channel_cell h p

-- the superbank goes on or off
abbrev pub set_superbank : Bool → Processor → Processor
set_superbank on p = record p { store = superbank_set p.store on }

-- The superbank's channel keeps bits 7 to 5; bit 7 is the superbank.
abbrev pub superbank_switched : Number → Processor → Processor
superbank_switched w p =
    let kept = narrow_number (pattern_of 15 w / 0o20 % 0o10 * 0o20) in
    p ▷ set_channel_cell superbnk kept ▷ set_superbank (bit_of 7 w == 1)

-- TIME6's switch is bit 15 of its channel's word.
abbrev pub switch_word : Processor → Number
switch_word p = channel_cell chan13 p

abbrev pub is_on : Number → Bool
is_on switch = bit_of 15 switch == 1

-- If the switch goes from off to on, all periods passed count as taken.
abbrev pub mark_after : ℕ → Number → Number → ℕ → ℕ
mark_after cycle old new mark = if is_on new && not (is_on old) then time6_periods cycle else mark

abbrev pub set_mark : ℕ → Processor → Processor
set_mark mark p = record p { timers = record p.timers { mark = mark } }

abbrev pub time6_switched : ℕ → Number → Processor → Processor
time6_switched cycle w p =
    p ▷ set_mark (mark_after cycle (switch_word p) w p.timers.mark)
    ▷ set_channel_cell chan13 w

-- A word enters a channel's cell, from the program or from outside.
unfoldable pub set_channel : ℕ → ℕ → Number → Processor → Processor
set_channel cycle h w p =
    if h == superbnk then p ▷ superbank_switched w
    else if h == chan13 then p ▷ time6_switched cycle w
    else (p ▷ set_channel_cell h w)

-- What a program's write does: it sets L or Q, the scaler ignores it, and otherwise the channel's
-- cell takes the corrected word.
unfoldable pub write_channel : ℕ → ℕ → Number → Processor → Processor
write_channel cycle h w p =
    if h == l_channel then p ▷ set_l (narrow_of w)
    else if h == q_channel then p ▷ set_q w
    else if h == hiscalar then p
    else if h == loscalar then p
    else (p ▷ set_channel cycle h (narrow_of w))

-- READ sets A, and WRITE the channel.
unfoldable pub read_order : ℕ → ℕ → Processor → Processor
read_order cycle h p = p ▷ set_a (channel_word cycle h p)

unfoldable pub write_order : ℕ → ℕ → Processor → Processor
write_order cycle h p = p ▷ write_channel cycle h (a_of p)

-- RAND, ROR and RXOR set only A; logic is wide on Q.
unfoldable pub rand_order : ℕ → ℕ → Processor → Processor
rand_order cycle h p =
    p ▷ set_a (and_words_of (h == q_channel) (a_of p) (channel_word cycle h p))

unfoldable pub ror_order : ℕ → ℕ → Processor → Processor
ror_order cycle h p =
    p ▷ set_a (or_words_of (h == q_channel) (a_of p) (channel_word cycle h p))

unfoldable pub rxor_order : ℕ → ℕ → Processor → Processor
rxor_order cycle h p =
    p ▷ set_a (xor_words_of (h == q_channel) (a_of p) (channel_word cycle h p))

-- WAND and WOR put the result into the channel and into A, which takes it whole.
unfoldable pub wand_order : ℕ → ℕ → Processor → Processor
wand_order cycle h p =
    let r = and_words_of (h == q_channel) (a_of p) (channel_word cycle h p) in
    p ▷ write_channel cycle h r ▷ set_a r

unfoldable pub wor_order : ℕ → ℕ → Processor → Processor
wor_order cycle h p =
    let r = or_words_of (h == q_channel) (a_of p) (channel_word cycle h p) in
    p ▷ write_channel cycle h r ▷ set_a r
