-- If lines are consecutive, a listing reads them as extracodes where the source does.
use Rattle.std.specs.Prelude.{◌≡◌, ℕ, ◌+◌, ◌*◌, ◌/◌, ◌%◌, ◌<◌, ◌≤◌, ◌==◌, nat_le, Bool, true, false, not, ◌&&◌, List, Ok, Err, IfOk, if◌then◌else◌, get_or, set, length}
use Rattle.std.proofs.Common.{refl, sym, ap, ◌∙◌, arith, length-set, get_or-set_same}
use Rattle.std.proofs.Math.Bool.{and-true}
use Rattle.std.proofs.lemmas.Bool.{and_right}
use Rattle.std.proofs.lemmas.Bool.Decides.{nat_tests}
use Rattle.agc_word.specs.Number.{Number, pattern_of}
use Rattle.agc_store.specs.Memory.{fixed_at}
use Rattle.agc_listing.specs.List.{starts_run, is_extracode_at}
use Rattle.agc_listing.specs.Order.{next_is_extracode}
use Rattle.agc_listing.proofs.RopeLines.{extracode_next}
use Rattle.agc_encode.specs.LocationCounter.{after_cells, after_range, after_words, bank_end, in_bank, location_at, moved_to, resumed, room_at, stretch_end}
use Rattle.agc_asm.specs.OrderLines.{place_of}
use Rattle.agc_encode.specs.declared.location_counter.At.{At}
use Rattle.agc_encode.specs.declared.location_counter.At.TheVariants as at
use Rattle.agc_encode.specs.declared.location_counter.LocationCounter.{LocationCounter}
use Rattle.agc_encode.specs.declared.line_kind.LineKind.TheVariants as kind
use Rattle.agc_vocabulary.specs.declared.source_fault.SourceFault.TheVariants as fault
use Rattle.agc_listing.specs.declared.location.Location.{Location}
use Rattle.agc_listing.specs.declared.location.Location.TheVariants as location
use Rattle.agc_encode.proofs.Held.{GoesIntoRope}
use Rattle.agc_interpretive.specs.Pending.{nothing_due}
use Rattle.agc_interpretive.specs.declared.pending.Pending.{Pending}

-- at the place of the next line a listing reads an extracode if one is expected
abbrev pub Agrees : List Number → List ℕ → Bool → At → Type 0
Agrees words left leads (at.Bank bank) = get_or left bank 0 < bank_end bank → is_extracode_at words (0o2000 * bank + get_or left bank 0) ≡ leads
Agrees words left leads (at.Cell cell) = Unit {0}

abbrev pub IsBank : At → Type 0
IsBank (at.Bank bank) = bank < 36
IsBank (at.Cell cell) = Unit {0}

pub record Sound (words : List Number) (since : ℕ) (counter : LocationCounter) (leads : Bool) : Type 0 where
  pub banks : length counter.left ≡ 36
  pub bank : IsBank counter.at
  pub along : is_extracode_at words since ≡ false → Agrees words counter.left leads counter.at

-- a line of words has a place, and room there
pub record Room (bank left count place : ℕ) : Type 0 where
  pub fits : left + count ≤ bank_end bank
  pub here : place ≡ 0o2000 * bank + left

room_by : (bank left count place : ℕ) (room : Bool) → nat_le (left + count) (bank_end bank) ≡ room → (if room then Ok (0o2000 * bank + left) else Err fault.Full) ≡ Ok place → Room bank left count place
room_by bank left count place true e is = record { fits = grind (arith, nat_tests); here = cc }
room_by bank left count place false e is = absurd cc

has_room : (bank left count place : ℕ) → (if nat_le (left + count) (bank_end bank) then Ok (0o2000 * bank + left) else Err fault.Full) ≡ Ok place → Room bank left count place
has_room bank left count place is = room_by bank left count place (nat_le (left + count) (bank_end bank)) refl is

-- the place after a word
leads_same : (leads : Bool) (a b : Number) → pattern_of 15 a ≡ pattern_of 15 b → next_is_extracode leads a ≡ next_is_extracode leads b
unfolding next_is_extracode
leads_same true a b same = rw same refl
leads_same false a b same = rw same refl

inside_two : (left : ℕ) (first : Bool) → left + 1 < 0o4000 → ((0o4000 + left + 1) % 0o2000 == 0) ≡ first → (first && not (0o4000 + left + 1 == 0o6000)) ≡ false
inside_two left false h e = refl
inside_two left true h e =
    let here : left + 1 ≡ 0o2000 = grind (arith, nat_tests) in
    let same : 0o4000 + left + 1 ≡ 0o6000 = omega arith in
    rw same refl

inside_one : (bank left : ℕ) → left + 1 < 0o2000 → ((0o2000 * bank + left + 1) % 0o2000 == 0) ≡ false
inside_one bank left h = grind (arith, nat_tests)

inside_by : (bank left : ℕ) (two : Bool) → (bank == 2) ≡ two → left + 1 < (if two then 0o4000 else 0o2000) → starts_run (0o2000 * bank + left + 1) ≡ false
unfolding starts_run
inside_by bank left true e h =
    let is : bank ≡ 2 = grind (arith, nat_tests) in
    rw is (inside_two left ((0o4000 + left + 1) % 0o2000 == 0) h refl)
inside_by bank left false e h = rw (inside_one bank left h) refl

goes_on : (bank left : ℕ) → left + 1 < bank_end bank → starts_run (0o2000 * bank + left + 1) ≡ false
goes_on bank left h = inside_by bank left (bank == 2) refl h

next_read : (words : List Number) (bank left : ℕ) (leads : Bool) (word : Number) → left + 1 < bank_end bank → is_extracode_at words (0o2000 * bank + left) ≡ leads
    → pattern_of 15 (fixed_at (0o2000 * bank + left) words) ≡ pattern_of 15 word → is_extracode_at words (0o2000 * bank + (left + 1)) ≡ next_is_extracode leads word
next_read words bank left leads word inside is same =
    let place = 0o2000 * bank + left in
    let here = fixed_at place words in
    let led = next_is_extracode leads here in
    let next : led && not (starts_run (place + 1)) ≡ is_extracode_at words (place + 1) = extracode_next words place leads led here (sym is) refl refl in
    let on : starts_run (place + 1) ≡ false = goes_on bank left inside in
    let plain : is_extracode_at words (place + 1) ≡ led = sym (rw on at next) ∙ and-true led in
    let sum : 0o2000 * bank + (left + 1) ≡ place + 1 = omega arith in
    ap (is_extracode_at words) sum ∙ plain ∙ leads_same leads here word same

-- what is read at the place of a line
pub read_here : (words : List Number) (since : ℕ) (left used : List ℕ) (due : Pending) (here : At) (leads : Bool) (count place : ℕ) → 0 < count → Sound words since (record { left = left; used = used; at = here; due = due }) leads
    → room_at (record { left = left; used = used; at = here; due = due }) here count ≡ Ok place → is_extracode_at words since ≡ false → is_extracode_at words place ≡ leads
read_here words since left used due (at.Cell cell) leads count place some h is none = absurd cc
read_here words since left used due (at.Bank bank) leads count place some h is none =
    let r = has_room bank (get_or left bank 0) count place is in
    rw r.here (h.along none (omega (arith, r.fits)))

-- and that place is in the rope
end_in_rope : (bank : ℕ) (two : Bool) → (bank == 2) ≡ two → bank < 36 → 0o2000 * bank + (if two then 0o4000 else 0o2000) ≤ 0o110000
end_in_rope bank true e h = grind (arith, nat_tests)
end_in_rope bank false e h = omega arith

pub place_inside : (words : List Number) (since : ℕ) (left used : List ℕ) (due : Pending) (here : At) (leads : Bool) (count place : ℕ) → 0 < count → Sound words since (record { left = left; used = used; at = here; due = due }) leads
    → room_at (record { left = left; used = used; at = here; due = due }) here count ≡ Ok place → place + count ≤ 0o110000
place_inside words since left used due (at.Cell cell) leads count place some h is = absurd cc
place_inside words since left used due (at.Bank bank) leads count place some h is =
    let r = has_room bank (get_or left bank 0) count place is in
    let below : bank < 36 = h.bank in
    let whole : 0o2000 * bank + bank_end bank ≤ 0o110000 = end_in_rope bank (bank == 2) refl below in
    omega (arith, r.fits, r.here, whole)

-- after a line of one word
pub after_one : (words : List Number) (since : ℕ) (left used : List ℕ) (due : Pending) (here : At) (leads : Bool) (place : ℕ) (word : Number) → Sound words since (record { left = left; used = used; at = here; due = due }) leads
    → room_at (record { left = left; used = used; at = here; due = due }) here 1 ≡ Ok place → pattern_of 15 (fixed_at place words) ≡ pattern_of 15 word
    → Sound words since (after_words (record { left = left; used = used; at = here; due = due }) here 1) (next_is_extracode leads word)
after_one words since left used due (at.Cell cell) leads place word h is same = absurd cc
after_one words since left used due (at.Bank bank) leads place word h is same =
    let l = get_or left bank 0 in
    let r = has_room bank l 1 place is in
    let below : bank < 36 = h.bank in
    let set_there : get_or (set left bank (l + 1)) bank 0 ≡ l + 1 = get_or-set_same left bank (l + 1) 0 (omega (arith, h.banks)) in
    record {
      banks = length-set left bank (l + 1) ∙ h.banks;
      bank = h.bank;
      along = λ none inside.
          let small : l + 1 < bank_end bank = rw set_there at inside in
          rw set_there (next_read words bank l leads word small (h.along none (omega arith)) (rw r.here at same));
    }

-- after data
pub after_data : (words : List Number) (since : ℕ) (left used : List ℕ) (due : Pending) (here : At) (leads : Bool) (count place : ℕ) → Sound words since (record { left = left; used = used; at = here; due = due }) leads
    → room_at (record { left = left; used = used; at = here; due = due }) here count ≡ Ok place
    → Sound words (place_of (location_at (after_words (record { left = left; used = used; at = here; due = due }) here count) (after_words (record { left = left; used = used; at = here; due = due }) here count).at)) (after_words (record { left = left; used = used; at = here; due = due }) here count) false
after_data words since left used due (at.Cell cell) leads count place h is = absurd cc
after_data words since left used due (at.Bank bank) leads count place h is =
    record {
      banks = length-set left bank (get_or left bank 0 + count) ∙ h.banks;
      bank = h.bank;
      along = λ none inside. none;
    }

-- after a line without words
abbrev at_cell : List ℕ → List ℕ → ℕ → LocationCounter
at_cell left used cell = record { left = left; used = used; at = at.Cell cell; due = nothing_due }

after_cells_by : (words : List Number) (since : ℕ) (left used : List ℕ) (due : Pending) (cell : ℕ) (leads room : Bool) → Sound words since (record { left = left; used = used; at = at.Cell cell; due = due }) leads → (more : ℕ)
    → IfOk (if room then Ok (at_cell left used more) else Err fault.Full) (λ next. Sound words since next (leads && true))
after_cells_by words since left used due cell leads true h more = record { banks = h.banks; bank = tt; along = λ none. tt }
after_cells_by words since left used due cell leads false h more = tt

-- after words in erasable memory
cells_any_by : (words : List Number) (left used : List ℕ) (other : LocationCounter → ℕ) (more : ℕ) (leads room : Bool) → length left ≡ 36
    → IfOk (if room then Ok (at_cell left used more) else Err fault.Full) (λ next. Sound words (other next) next leads)
cells_any_by words left used other more leads true h = record { banks = h; bank = tt; along = λ none. tt }
cells_any_by words left used other more leads false h = tt

pub after_cells_any : (words : List Number) (left used : List ℕ) (due : Pending) (here : At) (other : LocationCounter → ℕ) (cell count : ℕ) (leads : Bool) → length left ≡ 36
    → IfOk (after_cells (record { left = left; used = used; at = here; due = due }) (at.Cell cell) count) (λ next. Sound words (other next) next leads)
after_cells_any words left used due here other cell count leads h =
    cells_any_by words left used other (cell + count) leads (nat_le (cell + count) 0o4000 && nat_le (cell + count) (stretch_end cell)) h

pub after_cell_line : (words : List Number) (since : ℕ) (left used : List ℕ) (due : Pending) (here : At) (leads : Bool) (count : ℕ) → Sound words since (record { left = left; used = used; at = here; due = due }) leads
    → IfOk (after_cells (record { left = left; used = used; at = here; due = due }) here count) (λ next. Sound words since next (leads && true))
after_cell_line words since left used due (at.Bank bank) leads count h = tt
after_cell_line words since left used due (at.Cell cell) leads count h = after_cells_by words since left used due cell leads (nat_le (cell + count) 0o4000 && nat_le (cell + count) (stretch_end cell)) h (cell + count)

pub after_name_line : (words : List Number) (since : ℕ) (counter : LocationCounter) (leads : Bool) → Sound words since counter leads → Sound words since counter (leads && true)
after_name_line words since counter leads h = rw (and-true leads) h

-- after a line that moves to another place
pub after_move : (words : List Number) (since : ℕ) (counter : LocationCounter) (leads : Bool) (place : Location) → Sound words since counter leads → GoesIntoRope (kind.Moves place)
    → Sound words (place_of (location_at (moved_to counter place) (moved_to counter place).at)) (moved_to counter place) (leads && false)
after_move words since counter leads (location.Fixed place) h goes =
    record {
      banks = length-set counter.left (place / 0o2000) (place % 0o2000) ∙ h.banks;
      bank = omega arith;
      along = λ none inside. rw (and_right leads false refl) none;
    }
after_move words since counter leads (location.Erasable cell) h goes = record { banks = h.banks; bank = tt; along = λ none. tt }

pub after_bank : (words : List Number) (since : ℕ) (counter : LocationCounter) (leads : Bool) (bank : ℕ) → Sound words since counter leads → bank < 36
    → Sound words (place_of (location_at (in_bank counter bank) (in_bank counter bank).at)) (in_bank counter bank) (leads && false)
after_bank words since counter leads bank h goes =
    record {
      banks = length-set counter.left bank (get_or counter.used bank 0) ∙ h.banks;
      bank = goes;
      along = λ none inside. rw (and_right leads false refl) none;
    }

-- after BANK without a number
pub after_resumed : (words : List Number) (since : ℕ) (left used : List ℕ) (due : Pending) (here : At) (leads : Bool) → Sound words since (record { left = left; used = used; at = here; due = due }) leads
    → IfOk (resumed (record { left = left; used = used; at = here; due = due }) here) (λ next. Sound words (place_of (location_at next next.at)) next (leads && false))
after_resumed words since left used due (at.Cell cell) leads h = tt
after_resumed words since left used due (at.Bank bank) leads h = after_bank words since (record { left = left; used = used; at = at.Bank bank; due = due }) leads bank h h.bank

-- after a range of cells
pub after_range_line : (words : List Number) (since : ℕ) (left used : List ℕ) (due : Pending) (here : At) (leads : Bool) (end : ℕ) → Sound words since (record { left = left; used = used; at = here; due = due }) leads
    → IfOk (after_range (record { left = left; used = used; at = here; due = due }) here end) (λ next. Sound words since next (leads && true))
after_range_line words since left used due (at.Bank bank) leads end h = tt
after_range_line words since left used due (at.Cell cell) leads end h = record { banks = h.banks; bank = tt; along = λ none. tt }
