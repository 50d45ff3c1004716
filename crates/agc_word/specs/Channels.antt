-- The channels by their names in the AGC, and the range that connects the computer to the outside.
use Rattle.std.specs.Prelude.{ℕ, ◌≤◌, nat_le, Bool, ◌&&◌}

-- the first such channel: below it are L, Q and the two halves of the scaler
abbrev pub first_io_channel : ℕ
first_io_channel = 0o5

-- the last channel that an order's nine bits can name
abbrev pub last_io_channel : ℕ
last_io_channel = 0o777

-- a channel whose writes the outside sees, and which it may set
abbrev pub IsIoChannel : ℕ → Type 0
IsIoChannel channel = (first_io_channel ≤ channel) × (channel ≤ last_io_channel)

-- whether a channel is one of these
abbrev pub is_io_channel : ℕ → Bool
is_io_channel channel = nat_le first_io_channel channel && nat_le channel last_io_channel

-- L and Q, which are channels too
abbrev pub l_channel : ℕ
l_channel = 0o1

abbrev pub q_channel : ℕ
q_channel = 0o2

-- the two halves of the scaler
abbrev pub hiscalar : ℕ
hiscalar = 0o3

abbrev pub loscalar : ℕ
loscalar = 0o4

-- bit 7 is the superbank
abbrev pub superbnk : ℕ
superbnk = 0o7

-- the relay words of the display
abbrev pub out0 : ℕ
out0 = 0o10

-- the lamps of the display that have no relay, and the flash
abbrev pub dsalmout : ℕ
dsalmout = 0o11

-- bit 15 is TIME6's switch
abbrev pub chan13 : ℕ
chan13 = 0o13

-- the code of the last key pressed
abbrev pub mnkeyin : ℕ
mnkeyin = 0o15

-- the inputs from the spacecraft; the third has the PRO key
abbrev pub chan30 : ℕ
chan30 = 0o30

abbrev pub chan31 : ℕ
chan31 = 0o31

abbrev pub chan32 : ℕ
chan32 = 0o32

abbrev pub chan33 : ℕ
chan33 = 0o33
