-- The vocabulary of the orders: contents, registers, and what an order changes first and last.
use Rattle.std.specs.Prelude.{ℕ, ◌+◌, ◌%◌, Bool, true, false, Option, Some, None, ◌==◌, ◌||◌}
use Rattle.agc_word.specs.Number.{Number}
use Rattle.agc_store.specs.Memory.{read_of}
use Rattle.agc_store.specs.Cells.{narrow_number, put_of, write_of, fetch_of, poke_of, reedit_of, named_cell}
use Rattle.agc_store.specs.Places.{a_cell, l_cell, q_cell, z_cell}
use Rattle.agc_store.specs.Registers.{register, z_of}
use Rattle.agc_processor.specs.declared.processor.Processor.{Processor}

-- What f makes of p: a chain of changes reads in the order in which they happen.
infixl 10 ◌▷◌
abbrev pub ◌▷◌ : {A B : Type 0} → A → (A → B) → B
p ▷ f = f p

-- A, L and Q: A and Q are wide
abbrev pub a_of : Processor → Number
a_of p = register a_cell p.store

abbrev pub l_of : Processor → Number
l_of p = register l_cell p.store

abbrev pub q_of : Processor → Number
q_of p = register q_cell p.store

-- the address in Z, that of the next order to fetch
abbrev pub z_at : Processor → ℕ
z_at p = z_of p.store

abbrev pub set_a : Number → Processor → Processor
set_a w p = record p { store = put_of p.store a_cell w }

abbrev pub set_l : Number → Processor → Processor
set_l w p = record p { store = put_of p.store l_cell w }

abbrev pub set_q : Number → Processor → Processor
set_q w p = record p { store = put_of p.store q_cell w }

-- Z is set to an address, which wraps at twelve bits
abbrev pub jump : ℕ → Processor → Processor
jump k p = record p { store = put_of p.store z_cell (narrow_number (k % 0o10000)) }

-- the next orders are skipped, this many
abbrev pub skip : ℕ → Processor → Processor
skip n p = p ▷ jump (z_at p + n)

-- this word is the order in hand
abbrev pub set_hand : Number → Processor → Processor
set_hand w p = record p { hand = w }

-- the content of what an address names
abbrev pub content : ℕ → Processor → Number
content k p = read_of p.store k

-- a word is written where an address below 2000 octal names a cell
abbrev pub put : ℕ → Number → Processor → Processor
put k w p = record p { store = write_of p.store k w }

-- a word is stored in a cell unedited, by bank and offset
abbrev pub poke : ℕ → ℕ → Number → Processor → Processor
poke bank offset w p = record p { store = poke_of p.store bank offset w }

-- an editing register that the order has read is edited again
abbrev pub edit_again : ℕ → Processor → Processor
edit_again k p = record p { store = reedit_of p.store k }

-- "Names" goes by the cell: 1402 octal with EB 0 names Q.
abbrev pub is_cell : ℕ → Option ℕ → Bool
is_cell n (Some cell) = cell == n
is_cell n None = false

-- the address names this cell
abbrev pub names : ℕ → ℕ → Processor → Bool
names n k p = is_cell n (named_cell p.store k)

-- the address names A or Q, whose words are wide
abbrev pub names_wide : ℕ → Processor → Bool
names_wide k p = names a_cell k p || names q_cell k p

-- The next order is fetched: the word at Z is taken in hand, and then Z is incremented.
unfoldable pub fetched : Processor → Processor
fetched p = p ▷ set_hand (fetch_of p.store (z_at p)) ▷ skip 1

-- INHINT is in force, or no longer
abbrev pub inhibit : Bool → Processor → Processor
inhibit on p = record p { inhibited = on }

-- the service of an interrupt begins, or ends
abbrev pub serve : Bool → Processor → Processor
serve on p = record p { serving = on }

-- The next order is a basic one, and an interrupt may come before it.
abbrev pub plain : Processor → Processor
plain p = record p { extracode = false; uninterruptible = false }

-- The next order belongs to INDEX, and is a basic one.
abbrev pub indexed : Processor → Processor
indexed p = record p { extracode = false; uninterruptible = true }

-- The next order belongs to EXTEND or to the extracode INDEX, and is an extracode.
abbrev pub extended : Processor → Processor
extended p = record p { extracode = true; uninterruptible = true }
