-- Named places: cells of the first erasable bank, and the address windows.
use Rattle.std.specs.Prelude.{ℕ}

-- A, the accumulator: sixteen bits; the two highest show overflow
abbrev pub a_cell : ℕ
a_cell = 0o0

-- L, the low register: the lower half of a double word that A begins
abbrev pub l_cell : ℕ
l_cell = 0o1

-- Q, where TC puts the return address: sixteen bits
abbrev pub q_cell : ℕ
q_cell = 0o2

-- EB, the erasable bank register: bits 11 to 9
abbrev pub eb_cell : ℕ
eb_cell = 0o3

-- FB, the fixed bank register: bits 15 to 11
abbrev pub fb_cell : ℕ
fb_cell = 0o4

-- Z, the address of the next order
abbrev pub z_cell : ℕ
z_cell = 0o5

-- BB, both bank registers: FB's bits 15 to 11, and EB's bank in bits 3 to 1
abbrev pub bb_cell : ℕ
bb_cell = 0o6

-- ZERO, which always reads +0
abbrev pub zero_cell : ℕ
zero_cell = 0o7

-- ZRUPT, which saves Z while an interrupt runs
abbrev pub zrupt_cell : ℕ
zrupt_cell = 0o15

-- BRUPT, which saves the order that an interrupt preceded
abbrev pub brupt_cell : ℕ
brupt_cell = 0o17

-- CYR, which rotates a word right one place
abbrev pub cyr_cell : ℕ
cyr_cell = 0o20

-- SR, which shifts a word right one place and keeps the sign
abbrev pub sr_cell : ℕ
sr_cell = 0o21

-- CYL, which rotates a word left one place
abbrev pub cyl_cell : ℕ
cyl_cell = 0o22

-- EDOP, which keeps bits 14 to 8 of a word as its bits 7 to 1
abbrev pub edop_cell : ℕ
edop_cell = 0o23

-- TIME2, the clock's upper word, which counts TIME1's overflows
abbrev pub time2_cell : ℕ
time2_cell = 0o24

-- TIME1, the clock's lower word, in hundredths of a second
abbrev pub time1_cell : ℕ
time1_cell = 0o25

-- TIME3, whose overflow requests T3RUPT: the Waitlist's timer
abbrev pub time3_cell : ℕ
time3_cell = 0o26

-- TIME4, whose overflow requests T4RUPT: the timer of the displays
abbrev pub time4_cell : ℕ
time4_cell = 0o27

-- TIME5, whose overflow requests T5RUPT: the autopilot's timer
abbrev pub time5_cell : ℕ
time5_cell = 0o30

-- TIME6, which counts down to T6RUPT in steps of 1/1600 of a second: the jets' timer
abbrev pub time6_cell : ℕ
time6_cell = 0o31

-- INLINK, into which the uplink shifts its words
abbrev pub inlink_cell : ℕ
inlink_cell = 0o45

-- the cells of an erasable bank
abbrev pub erasable_bank_size : ℕ
erasable_bank_size = 0o400

-- the erasable cells, in eight banks
abbrev pub erasable_cells : ℕ
erasable_cells = 0o4000

-- the words of a fixed bank
abbrev pub fixed_bank_size : ℕ
fixed_bank_size = 0o2000

-- the fixed banks, 00 to 43 octal
abbrev pub fixed_banks : ℕ
fixed_banks = 36

-- the fixed words: a place in the rope is below this number, 2000 octal times the bank, plus the offset
abbrev pub fixed_words : ℕ
fixed_words = 36864

-- the places of forty fixed banks: all that the bank registers and the superbank can name
abbrev pub fixed_places : ℕ
fixed_places = 40960

-- the first address of the window onto the erasable bank that EB names
abbrev pub erasable_window : ℕ
erasable_window = 0o1400

-- the first address of the window onto the fixed bank that FB names, and of all fixed memory
abbrev pub fixed_window : ℕ
fixed_window = 0o2000

-- the first address of fixed-fixed memory: the banks 02 and 03, which can always be addressed
abbrev pub fixed_fixed : ℕ
fixed_fixed = 0o4000
