-- The interrupts, when one is taken, and what that does.
use Rattle.std.specs.Prelude.{ℕ, ◌+◌, ◌-◌, ◌*◌, ◌&&◌, not, Bool, true, false, List, [], ◌∷◌}
use Rattle.std.specs.Prelude.{codes, get_or, set, position, Option, None, option_map, if◌then◌else◌}
use Rattle.agc_word.specs.Arithmetic.{over_of}
use Rattle.agc_word.specs.declared.wide.Over.{Over}
use Rattle.agc_word.specs.declared.wide.Over.TheVariants as over
use Rattle.agc_store.specs.Cells.{narrow_number, fetch_of}
use Rattle.agc_store.specs.Places.{zrupt_cell, brupt_cell}
use Rattle.agc_processor.specs.declared.interrupt.Rupt.{Rupt}
use Rattle.agc_processor.specs.declared.interrupt.Rupt.TheVariants as rupt
use Rattle.agc_processor.specs.declared.processor.Processor.{Processor}
use Rattle.agc_processor.specs.Processor.{◌▷◌, a_of, z_at, jump, set_hand, serve, poke}

-- an interrupt's name
abbrev pub rupt_name : Rupt → List ℕ
rupt_name rupt.T6rupt = codes "T6RUPT"
rupt_name rupt.T5rupt = codes "T5RUPT"
rupt_name rupt.T3rupt = codes "T3RUPT"
rupt_name rupt.T4rupt = codes "T4RUPT"
rupt_name rupt.Keyrupt1 = codes "KEYRUPT1"
rupt_name rupt.Keyrupt2 = codes "KEYRUPT2"
rupt_name rupt.Uprupt = codes "UPRUPT"
rupt_name rupt.Downrupt = codes "DOWNRUPT"
rupt_name rupt.Radarupt = codes "RADARUPT"
rupt_name rupt.Rupt10 = codes "RUPT10"

-- an interrupt's number, from 1
abbrev pub rupt_number : Rupt → ℕ
rupt_number rupt.T6rupt = 1
rupt_number rupt.T5rupt = 2
rupt_number rupt.T3rupt = 3
rupt_number rupt.T4rupt = 4
rupt_number rupt.Keyrupt1 = 5
rupt_number rupt.Keyrupt2 = 6
rupt_number rupt.Uprupt = 7
rupt_number rupt.Downrupt = 8
rupt_number rupt.Radarupt = 9
rupt_number rupt.Rupt10 = 10

-- the interrupts in the order of their numbers
abbrev pub rupts : List Rupt
rupts =
    rupt.T6rupt ∷ rupt.T5rupt ∷ rupt.T3rupt ∷ rupt.T4rupt ∷ rupt.Keyrupt1 ∷ rupt.Keyrupt2
    ∷ rupt.Uprupt ∷ rupt.Downrupt ∷ rupt.Radarupt ∷ rupt.Rupt10 ∷ []

-- an interrupt by its position in this order, and by its number
abbrev pub rupt_at : ℕ → Rupt
rupt_at place = get_or rupts place rupt.Rupt10

abbrev pub rupt_numbered : ℕ → Rupt
rupt_numbered number = rupt_at (number - 1)

-- Each has four words for its program, past this address: those of number 1 begin at 4004 octal.
abbrev pub before_vectors : ℕ
before_vectors = 0o4000

abbrev pub vector_of : Rupt → ℕ
vector_of r = before_vectors + 4 * rupt_number r

-- an interrupt is requested; if it is already requested, nothing changes
abbrev pub request : Rupt → Processor → Processor
request r p = record p { requests = set p.requests (rupt_number r - 1) true }

-- its request is cleared
abbrev pub withdraw : Rupt → Processor → Processor
withdraw r p = record p { requests = set p.requests (rupt_number r - 1) false }

-- the requested interrupt with the lowest vector
abbrev pub first_request : Processor → Option Rupt
first_request p = option_map rupt_at (position (λ waits. waits) p.requests)

-- no overflow, which a service could not save
abbrev pub is_none_over : Over → Bool
is_none_over over.None = true
is_none_over over.Plus = false
is_none_over over.Minus = false

-- An interrupt waits while another is served, while INHINT is in force, while A has overflow, and
-- between EXTEND or INDEX and the order that belongs to it.
abbrev pub is_allowed : Processor → Bool
is_allowed p = not p.serving && not p.inhibited && not p.uninterruptible && is_none_over (over_of (a_of p))

-- the interrupt that is taken, if one is
unfoldable pub pending : Processor → Option Rupt
pending p = if is_allowed p then first_request p else None

-- the cycles that an interrupt takes
abbrev pub interrupt_cycles : ℕ
interrupt_cycles = 3

-- ZRUPT and BRUPT save Z and the order in hand; the order at the vector is fetched, and a service
-- begins.
unfoldable pub interrupted : Rupt → Processor → Processor
interrupted r p =
    let saved =
    p ▷ poke 0 zrupt_cell (narrow_number (z_at p)) ▷ poke 0 brupt_cell p.hand in
    saved ▷ set_hand (fetch_of saved.store (vector_of r)) ▷ withdraw r ▷ serve true
    ▷ jump (vector_of r + 1)
