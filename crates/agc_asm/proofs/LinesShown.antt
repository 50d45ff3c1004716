-- The rope and its listing have the orders that lines write, line by line.
use Rattle.std.specs.Prelude.{◌≡◌, ℕ, ◌+◌, Bool, true, false, ◌&&◌, All, List, [], ◌∷◌, ◌++◌, Option, Some, None, Result, Ok, Err, IfOk, IfSome}
use Rattle.std.proofs.Common.{refl, ◌∙◌, arith}
use Rattle.std.proofs.lemmas.List.{map-append}
use Rattle.std.proofs.lemmas.List.Elements.{All-append}
use Rattle.agc_word.specs.Number.{Number, pattern_of}
use Rattle.agc_store.specs.Memory.{fixed_at}
use Rattle.agc_listing.specs.Line.{line_named}
use Rattle.agc_listing.specs.declared.fault.LineFault.{LineFault}
use Rattle.agc_listing.specs.declared.line.PlacedWord.{PlacedWord}
use Rattle.agc_vocabulary.specs.Name.{Naming}
use Rattle.agc_listing.specs.Text.{after_first, are_listed, parsed_by}
use Rattle.agc_listing.specs.Order.{next_is_extracode}
use Rattle.agc_vocabulary.specs.Body.{body_in, spelled, plain_line}
use Rattle.agc_encode.specs.Operand.{location_in}
use Rattle.agc_encode.specs.declared.encode.Banks.{Banks}
use Rattle.agc_vocabulary.specs.declared.source_fault.SourceFault.{SourceFault}
use Rattle.agc_encode.specs.LocationCounter.{after_words, due_there, room_at, after_cells}
use Rattle.agc_encode.specs.Encode.{cell_in, encode_pair, place_in, encode_word, writes_order}
use Rattle.agc_asm.specs.OrderLines.{OrderLine, mnemonic_in, mnemonic_of, order_of, order_placed, order_words, orders_from, since_after, mnemonic_at, mnemonics_from, basic_stays, is_interpretive, is_other}
use Rattle.agc_encode.specs.LineKind.{counter_after, kind_of}
use Rattle.agc_encode.specs.Interpretive.{due_behind, role_of, spoken_meaning, spoken_words}
use Rattle.agc_encode.specs.declared.role.Role.{Role}
use Rattle.agc_encode.specs.declared.role.Role.TheVariants as role
use Rattle.agc_interpretive.specs.declared.fault.Fault.{Fault}
use Rattle.agc_interpretive.specs.declared.pending.Pending.{Pending}
use Rattle.agc_asm.specs.Source.{fault_before, spoken_at, spoken_in_cell, spoken_in_rope, spoken_next, spoken_placed, unless_missing, woven_as, ebank_parsed, assemble_line, listed_woven, no_word, one_word, pair_placed, sbank_parsed, shape_woven, stays_put, two_words, with_banks, word_placed, words_from, in_cells, word_at_counter, pair_at_counter, word_in_cell, pair_in_cells}
use Rattle.agc_encode.specs.declared.location_counter.At.{At as Where}
use Rattle.agc_encode.specs.declared.location_counter.At.TheVariants as at
use Rattle.agc_encode.specs.declared.location_counter.LocationCounter.{LocationCounter}
use Rattle.agc_encode.specs.declared.encode.Pair.{Pair}
use Rattle.agc_encode.specs.declared.line_kind.LineKind.{LineKind}
use Rattle.agc_encode.specs.declared.line_kind.LineKind.TheVariants as kind
use Rattle.agc_asm.specs.declared.pass2.State.{State}
use Rattle.agc_asm.specs.declared.pass2.Step.{Step}
use Rattle.agc_asm.proofs.Along.{Sound, after_bank, after_cell_line, after_data, after_move, after_name_line, after_one, after_range_line, after_resumed, place_inside, read_here, after_cells_any}
use Rattle.agc_asm.proofs.FileHolds.{HasWord}
use Rattle.agc_encode.proofs.Fits.{word_fits}
use Rattle.agc_encode.proofs.Held.{GoesIntoRope, goes_into_rope}
use Rattle.agc_asm.proofs.Stepped.{all_before, both, holds, stepped}
use Rattle.agc_asm.proofs.OrdersShown.{AreShown, At, IsNoWord, no_order, none_shown, word_shown}
use Rattle.agc_asm.proofs.OrderShown.{Shown}

-- the state after a line
pub record Done (words : List Number) (naming : Naming) (since : ℕ) (state : State) (line : List ℕ) (step : Step) : Type 0 where
  pub sound : Sound words (since_after naming state.counter.due since line step.state.counter) step.state.counter step.state.leads
  pub orders : AreShown words (order_of naming since state line) (mnemonic_at state.counter.due state.counter.at line)

abbrev LineDone : List Number → Naming → ℕ → State → List ℕ → Step → Type 0
LineDone words naming since state line step = IfSome step.first (HasWord words) → IfSome step.second (HasWord words) → Done words naming since state line step

none_other : (due : Pending) (line : List ℕ) → role_of due line ≡ role.Basic → are_listed (parsed_by line) ≡ false → is_other due line ≡ false
unfolding is_other
none_other due line basic unlisted = rw (basic, unlisted) refl

-- a line of the basic language
record Plain (words : List Number) (naming : Naming) (since : ℕ) (state : State) (line : List ℕ) (s : LineKind) : Type 0 where
  other : is_other state.counter.due line ≡ false
  basic : role_of state.counter.due line ≡ role.Basic
  unlisted : are_listed (parsed_by line) ≡ false
  takes : kind_of naming (spelled (body_in line)) ≡ Ok s
  sound : Sound words since state.counter state.leads

-- words in erasable memory are no orders of the rope
no_order_in_cell : (naming : Naming) (since cell : ℕ) (state : State) (line : List ℕ) → is_other state.counter.due line ≡ false → state.counter.at ≡ at.Cell cell → order_of naming since state line ≡ []
unfolding order_of
no_order_in_cell naming since cell state line unlisted e = rw (unlisted, e) refl

orders_at : (words : List Number) (naming : Naming) (since : ℕ) (state : State) (line : List ℕ) (here : Where) → is_other state.counter.due line ≡ false → state.counter.at ≡ here
    → AreShown words (order_of naming since state line) (mnemonic_of state.counter.due line) → AreShown words (order_of naming since state line) (mnemonic_at state.counter.due here line)
orders_at words naming since state line (at.Bank bank) unlisted e h = h
orders_at words naming since state line (at.Cell cell) unlisted e h = rw (no_order_in_cell naming since cell state line unlisted e) (none_shown words)

orders_read : (words : List Number) (naming : Naming) (since : ℕ) (state : State) (line : List ℕ) (room : Result ℕ SourceFault) → is_other state.counter.due line ≡ false → room_at state.counter state.counter.at 1 ≡ room
    → AreShown words (order_placed naming since state.leads room (order_words (body_in line))) (mnemonic_in (order_words (body_in line))) → AreShown words (order_of naming since state line) (mnemonic_of state.counter.due line)
unfolding order_of mnemonic_of
orders_read words naming since state line room unlisted e h = rw (unlisted, e) h

orders_placed : (words : List Number) (naming : Naming) (since : ℕ) (state : State) (line : List ℕ) (room : Result ℕ SourceFault) → is_other state.counter.due line ≡ false → room_at state.counter state.counter.at 1 ≡ room
    → AreShown words (order_placed naming since state.leads room (order_words (body_in line))) (mnemonic_in (order_words (body_in line))) → AreShown words (order_of naming since state line) (mnemonic_at state.counter.due state.counter.at line)
orders_placed words naming since state line room unlisted e h =
    orders_at words naming since state line state.counter.at unlisted refl (orders_read words naming since state line room unlisted e h)

no_orders : (words : List Number) (naming : Naming) (since : ℕ) (state : State) (line : List ℕ) (s : LineKind) → IsNoWord s → Plain words naming since state line s
    → AreShown words (order_of naming since state line) (mnemonic_at state.counter.due state.counter.at line)
no_orders words naming since state line s none p =
    orders_placed words naming since state line (room_at state.counter state.counter.at 1) p.other refl
    (no_order words naming since state.leads (room_at state.counter state.counter.at 1) s (body_in line) none p.takes)

-- of one word
word_sound : (words : List Number) (naming : Naming) (since : ℕ) (state : State) (line : List ℕ) (place : ℕ) (word : Number) (order : Bool) → Plain words naming since state line kind.Word
    → room_at state.counter state.counter.at 1 ≡ Ok place → writes_order (body_in line) ≡ order → pattern_of 15 (fixed_at place words) ≡ pattern_of 15 word
    → Sound words (since_after naming state.counter.due since line (after_words state.counter state.counter.at 1)) (after_words state.counter state.counter.at 1) (order && next_is_extracode state.leads word)
word_sound words naming since state line place word true p room e same =
    rw (p.basic, p.unlisted, p.takes, e) (after_one words since state.counter.left state.counter.used state.counter.due state.counter.at state.leads place word p.sound room same)
word_sound words naming since state line place word false p room e same =
    rw (p.basic, p.unlisted, p.takes, e) (after_data words since state.counter.left state.counter.used state.counter.due state.counter.at state.leads 1 place p.sound room)

meaning_done : (words : List Number) (naming : Naming) (since : ℕ) (state : State) (line : List ℕ) (place : ℕ) (meaning : Result Number SourceFault) → Plain words naming since state line kind.Word
    → room_at state.counter state.counter.at 1 ≡ Ok place → encode_word naming place state.leads state.banks (body_in line) ≡ meaning
    → IfOk (one_word state place (body_in line) meaning) (LineDone words naming since state line)
meaning_done words naming since state line place (Err why) p room is = tt
meaning_done words naming since state line place (Ok word) p room is =
    λ first second.
    let left = state.counter.left in
    let used = state.counter.used in
    let due = state.counter.due in
    let here = state.counter.at in
    let body = body_in line in
    let inside = place_inside words since left used due here state.leads 1 place (omega arith) p.sound room in
    let same : pattern_of 15 (fixed_at place words) ≡ pattern_of 15 word = first (omega arith) (word_fits naming place state.leads state.banks body word is) in
    let at_place : At words since state.leads place word = record { same = same; along = read_here words since left used due here state.leads 1 place (omega arith) p.sound room } in
    record {
      sound = word_sound words naming since state line place word (writes_order body) p room refl same;
      orders = orders_placed words naming since state line (Ok place) p.other room (word_shown words naming since place state.leads state.banks body word at_place is);
    }

word_done : (words : List Number) (naming : Naming) (since : ℕ) (state : State) (line : List ℕ) (room : Result ℕ SourceFault) → Plain words naming since state line kind.Word
    → room_at state.counter state.counter.at 1 ≡ room → IfOk (word_placed naming state (body_in line) room) (LineDone words naming since state line)
word_done words naming since state line (Err why) p e = tt
word_done words naming since state line (Ok place) p e =
    meaning_done words naming since state line place (encode_word naming place state.leads state.banks (body_in line)) p e refl

-- of two words
two_done : (words : List Number) (naming : Naming) (since : ℕ) (state : State) (line : List ℕ) (place : ℕ) (pair : Result Pair SourceFault) → Plain words naming since state line kind.Pair
    → room_at state.counter state.counter.at 2 ≡ Ok place → IfOk (two_words state place (body_in line) pair) (LineDone words naming since state line)
two_done words naming since state line place (Err why) p room = tt
two_done words naming since state line place (Ok pair) p room =
    λ first second.
    record {
      sound = rw (p.basic, p.unlisted, p.takes) (after_data words since state.counter.left state.counter.used state.counter.due state.counter.at state.leads 2 place p.sound room);
      orders = no_orders words naming since state line kind.Pair tt p;
    }

pair_done : (words : List Number) (naming : Naming) (since : ℕ) (state : State) (line : List ℕ) (room : Result ℕ SourceFault) → Plain words naming since state line kind.Pair
    → room_at state.counter state.counter.at 2 ≡ room → IfOk (pair_placed naming state (body_in line) room) (LineDone words naming since state line)
pair_done words naming since state line (Err why) p e = tt
pair_done words naming since state line (Ok place) p e = two_done words naming since state line place (encode_pair naming place state.banks (body_in line)) p e

-- of words in erasable memory
cells_done : (words : List Number) (naming : Naming) (since : ℕ) (state : State) (line : List ℕ) (leads : Bool) (next : Result LocationCounter SourceFault)
    → AreShown words (order_of naming since state line) (mnemonic_at state.counter.due state.counter.at line) → IfOk next (λ counter. Sound words (since_after naming state.counter.due since line counter) counter leads)
    → IfOk (in_cells state (body_in line) leads next) (LineDone words naming since state line)
cells_done words naming since state line leads (Err why) orders h = tt
cells_done words naming since state line leads (Ok counter) orders h = λ first second. record { sound = h; orders = orders }

none_in_cell : (words : List Number) (naming : Naming) (since cell : ℕ) (state : State) (line : List ℕ) → is_other state.counter.due line ≡ false → state.counter.at ≡ at.Cell cell
    → AreShown words (order_of naming since state line) (mnemonic_at state.counter.due state.counter.at line)
none_in_cell words naming since cell state line unlisted e =
    let none = no_order_in_cell naming since cell state line unlisted e in
    rw (none, e) (none_shown words)

word_cell_done : (words : List Number) (naming : Naming) (since cell : ℕ) (state : State) (line : List ℕ) (meaning : Result Number SourceFault) → Plain words naming since state line kind.Word
    → state.counter.at ≡ at.Cell cell → IfOk (word_in_cell state (body_in line) (after_cells state.counter (at.Cell cell) 1) meaning) (LineDone words naming since state line)
word_cell_done words naming since cell state line (Err why) p e = tt
word_cell_done words naming since cell state line (Ok word) p e =
    let leads = writes_order (body_in line) && next_is_extracode state.leads word in
    cells_done words naming since state line leads (after_cells state.counter (at.Cell cell) 1) (none_in_cell words naming since cell state line p.other e)
    (after_cells_any words state.counter.left state.counter.used state.counter.due state.counter.at (since_after naming state.counter.due since line) cell 1 leads p.sound.banks)

word_at_done : (words : List Number) (naming : Naming) (since : ℕ) (state : State) (line : List ℕ) (here : Where) → Plain words naming since state line kind.Word → state.counter.at ≡ here
    → IfOk (word_at_counter naming state (body_in line) here) (LineDone words naming since state line)
word_at_done words naming since state line (at.Bank bank) p e = word_done words naming since state line (room_at state.counter (at.Bank bank) 1) p (rw e refl)
word_at_done words naming since state line (at.Cell cell) p e =
    word_cell_done words naming since cell state line (encode_word naming 0o4000 state.leads state.banks (body_in line)) p e

pair_cell_done : (words : List Number) (naming : Naming) (since cell : ℕ) (state : State) (line : List ℕ) (pair : Result Pair SourceFault) → Plain words naming since state line kind.Pair
    → state.counter.at ≡ at.Cell cell → IfOk (pair_in_cells state (body_in line) (after_cells state.counter (at.Cell cell) 2) pair) (LineDone words naming since state line)
pair_cell_done words naming since cell state line (Err why) p e = tt
pair_cell_done words naming since cell state line (Ok pair) p e =
    cells_done words naming since state line false (after_cells state.counter (at.Cell cell) 2) (none_in_cell words naming since cell state line p.other e)
    (after_cells_any words state.counter.left state.counter.used state.counter.due state.counter.at (since_after naming state.counter.due since line) cell 2 false p.sound.banks)

pair_at_done : (words : List Number) (naming : Naming) (since : ℕ) (state : State) (line : List ℕ) (here : Where) → Plain words naming since state line kind.Pair → state.counter.at ≡ here
    → IfOk (pair_at_counter naming state (body_in line) here) (LineDone words naming since state line)
pair_at_done words naming since state line (at.Bank bank) p e = pair_done words naming since state line (room_at state.counter (at.Bank bank) 2) p (rw e refl)
pair_at_done words naming since state line (at.Cell cell) p e =
    pair_cell_done words naming since cell state line (encode_pair naming 0o4000 state.banks (body_in line)) p e

-- that names banks
banks_done : (words : List Number) (naming : Naming) (since : ℕ) (state : State) (line : List ℕ) (s : LineKind) (banks : Banks) → IsNoWord s → Plain words naming since state line s
    → since_after naming state.counter.due since line state.counter ≡ since → LineDone words naming since state line (with_banks state banks)
banks_done words naming since state line s banks none p same =
    λ first second. record { sound = rw same p.sound; orders = no_orders words naming since state line s none p }

ebank_done : (words : List Number) (naming : Naming) (since : ℕ) (state : State) (line : List ℕ) (cell : Result ℕ SourceFault) → Plain words naming since state line kind.Ebank
    → IfOk (ebank_parsed state cell) (LineDone words naming since state line)
ebank_done words naming since state line (Err why) p = tt
ebank_done words naming since state line (Ok cell) p = banks_done words naming since state line kind.Ebank _ tt p (rw (p.basic, p.unlisted, p.takes) refl)

sbank_done : (words : List Number) (naming : Naming) (since : ℕ) (state : State) (line : List ℕ) (place : Result ℕ SourceFault) → Plain words naming since state line kind.Sbank
    → IfOk (sbank_parsed state place) (LineDone words naming since state line)
sbank_done words naming since state line (Err why) p = tt
sbank_done words naming since state line (Ok place) p = banks_done words naming since state line kind.Sbank _ tt p (rw (p.basic, p.unlisted, p.takes) refl)

-- without words
next_done : (words : List Number) (naming : Naming) (since : ℕ) (state : State) (line : List ℕ) (s : LineKind) (next : Result LocationCounter SourceFault) → IsNoWord s → Plain words naming since state line s
    → IfOk next (λ counter. Sound words (since_after naming state.counter.due since line counter) counter (state.leads && stays_put s)) → IfOk (no_word state s next) (LineDone words naming since state line)
next_done words naming since state line s (Err why) none p h = tt
next_done words naming since state line s (Ok counter) none p h = λ first second. record { sound = h; orders = no_orders words naming since state line s none p }

shape_done : (words : List Number) (naming : Naming) (since : ℕ) (state : State) (line : List ℕ) (s : LineKind) → Plain words naming since state line s → GoesIntoRope s
    → IfOk (shape_woven naming state (body_in line) (Ok s)) (LineDone words naming since state line)
shape_done words naming since state line kind.Word p goes = word_at_done words naming since state line state.counter.at p refl
shape_done words naming since state line kind.Pair p goes = pair_at_done words naming since state line state.counter.at p refl
shape_done words naming since state line (kind.Cells count) p goes =
    next_done words naming since state line (kind.Cells count) (counter_after state.counter (kind.Cells count)) tt p
    (rw (p.basic, p.unlisted, p.takes) (after_cell_line words since state.counter.left state.counter.used state.counter.due state.counter.at state.leads count p.sound))
shape_done words naming since state line (kind.StandsFor place) p goes =
    next_done words naming since state line (kind.StandsFor place) (Ok state.counter) tt p
    (rw (p.basic, p.unlisted, p.takes) (after_name_line words since state.counter state.leads p.sound))
shape_done words naming since state line (kind.Moves place) p goes =
    next_done words naming since state line (kind.Moves place) (counter_after state.counter (kind.Moves place)) tt p
    (rw (p.basic, p.unlisted, p.takes) (after_move words since state.counter state.leads place p.sound goes))
shape_done words naming since state line (kind.Bank bank) p goes =
    next_done words naming since state line (kind.Bank bank) (counter_after state.counter (kind.Bank bank)) tt p
    (rw (p.basic, p.unlisted, p.takes) (after_bank words since state.counter state.leads bank p.sound goes))
shape_done words naming since state line (kind.StandsBeside by) p goes =
    next_done words naming since state line (kind.StandsBeside by) (Ok state.counter) tt p
    (rw (p.basic, p.unlisted, p.takes) (after_name_line words since state.counter state.leads p.sound))
shape_done words naming since state line (kind.StandsApart place) p goes =
    next_done words naming since state line (kind.StandsApart place) (Ok state.counter) tt p
    (rw (p.basic, p.unlisted, p.takes) (after_name_line words since state.counter state.leads p.sound))
shape_done words naming since state line (kind.Checks place) p goes =
    next_done words naming since state line (kind.Checks place) (Ok state.counter) tt p
    (rw (p.basic, p.unlisted, p.takes) (after_name_line words since state.counter state.leads p.sound))
shape_done words naming since state line kind.StandsHere p goes =
    next_done words naming since state line kind.StandsHere (Ok state.counter) tt p
    (rw (p.basic, p.unlisted, p.takes) (after_name_line words since state.counter state.leads p.sound))
shape_done words naming since state line kind.Nothing p goes =
    next_done words naming since state line kind.Nothing (Ok state.counter) tt p
    (rw (p.basic, p.unlisted, p.takes) (after_name_line words since state.counter state.leads p.sound))
shape_done words naming since state line (kind.Range from end) p goes =
    next_done words naming since state line (kind.Range from end) (counter_after state.counter (kind.Range from end)) tt p
    (rw (p.basic, p.unlisted, p.takes) (after_range_line words since state.counter.left state.counter.used state.counter.due state.counter.at state.leads end p.sound))
shape_done words naming since state line kind.Resumes p goes =
    next_done words naming since state line kind.Resumes (counter_after state.counter kind.Resumes) tt p
    (rw (p.basic, p.unlisted, p.takes) (after_resumed words since state.counter.left state.counter.used state.counter.due state.counter.at state.leads p.sound))
shape_done words naming since state line kind.Ebank p goes =
    ebank_done words naming since state line (cell_in (location_in naming (after_first (spelled (body_in line))))) p
shape_done words naming since state line kind.Sbank p goes =
    sbank_done words naming since state line (place_in (location_in naming (after_first (spelled (body_in line))))) p

plain_done : (words : List Number) (naming : Naming) (since : ℕ) (state : State) (line : List ℕ) (s : Result LineKind SourceFault) → role_of state.counter.due line ≡ role.Basic → are_listed (parsed_by line) ≡ false
    → kind_of naming (spelled (body_in line)) ≡ s → Sound words since state.counter state.leads → IfOk (shape_woven naming state (body_in line) s) (LineDone words naming since state line)
plain_done words naming since state line (Err why) basic unlisted e sound = tt
plain_done words naming since state line (Ok s) basic unlisted e sound =
    shape_done words naming since state line s (record { other = none_other state.counter.due line basic unlisted; basic = basic; unlisted = unlisted; takes = e; sound = sound })
    (goes_into_rope naming (spelled (body_in line)) s e)

missing_done : (missing : Option Fault) (woven : Result Step SourceFault) (P : Step → Type 0) → IfOk woven P → IfOk (unless_missing missing woven) P
missing_done (Some why) woven P h = tt
missing_done None woven P h = h

-- a line of a listing or of the interpretive language
pub other_none : (due : Pending) (line : List ℕ) (here : Where) → is_other due line ≡ true → mnemonic_at due here line ≡ []
unfolding mnemonic_of
other_none due line (at.Bank bank) other = rw other refl
other_none due line (at.Cell cell) other = refl

no_order_other : (naming : Naming) (since : ℕ) (state : State) (line : List ℕ) → is_other state.counter.due line ≡ true → order_of naming since state line ≡ []
unfolding order_of
no_order_other naming since state line other = rw other refl

other_orders : (words : List Number) (naming : Naming) (since : ℕ) (state : State) (line : List ℕ) → is_other state.counter.due line ≡ true → AreShown words (order_of naming since state line) (mnemonic_at state.counter.due state.counter.at line)
other_orders words naming since state line other =
    rw (no_order_other naming since state line other, other_none state.counter.due line state.counter.at other) (none_shown words)

listed_other : (due : Pending) (line : List ℕ) → role_of due line ≡ role.Basic → are_listed (parsed_by line) ≡ true → is_other due line ≡ true
unfolding is_other
listed_other due line basic listed = rw (basic, listed) refl

listed_done : (words : List Number) (naming : Naming) (since : ℕ) (state : State) (line : List ℕ) (parsed : Result (Option PlacedWord) LineFault) → role_of state.counter.due line ≡ role.Basic → are_listed (parsed_by line) ≡ true
    → Sound words since state.counter state.leads → IfOk (listed_woven state parsed) (LineDone words naming since state line)
listed_done words naming since state line (Err why) basic listed sound = tt
listed_done words naming since state line (Ok parsed) basic listed sound =
    λ first second.
    record {
      sound = rw (basic, listed) sound;
      orders = other_orders words naming since state line (listed_other state.counter.due line basic listed);
    }

basic_done : (words : List Number) (naming : Naming) (since : ℕ) (state : State) (line : List ℕ) (listed : Bool) → role_of state.counter.due line ≡ role.Basic → are_listed (parsed_by line) ≡ listed
    → Sound words since state.counter state.leads → IfOk (woven_as naming state line role.Basic) (LineDone words naming since state line)
basic_done words naming since state line true basic e sound = rw e (listed_done words naming since state line (line_named line) basic e sound)
basic_done words naming since state line false basic e sound =
    let s = kind_of naming (spelled (body_in line)) in
    rw e
    (missing_done (fault_before state.counter.due s) (shape_woven naming state (body_in line) s) (LineDone words naming since state line)
    (plain_done words naming since state line s basic e refl sound))

-- a line of the interpretive language
record Spoken (words : List Number) (naming : Naming) (since : ℕ) (state : State) (line : List ℕ) (r : Role) : Type 0 where
  other : is_other state.counter.due line ≡ true
  moves : basic_stays naming line r ≡ false
  role : role_of state.counter.due line ≡ r
  sound : Sound words since state.counter state.leads

spoken_is : (words : List Number) (naming : Naming) (since : ℕ) (state : State) (line : List ℕ) (r : Role) → is_interpretive r ≡ true → basic_stays naming line r ≡ false → role_of state.counter.due line ≡ r
    → Sound words since state.counter state.leads → Spoken words naming since state line r
unfolding is_other
spoken_is words naming since state line r h moves e sound = record { other = rw (e, h) refl; moves = moves; role = e; sound = sound }

again : (words : List Number) (since : ℕ) (counter : LocationCounter) (due : Pending) (leads : Bool) → Sound words since counter leads → Sound words since (due_there due counter) leads
again words since counter due leads s = record { banks = s.banks; bank = s.bank; along = s.along }

spoken_placed_done : (words : List Number) (naming : Naming) (since : ℕ) (state : State) (line : List ℕ) (r : Role) (due : Pending) (place : ℕ) (meaning : Result ℕ SourceFault) → Spoken words naming since state line r
    → room_at state.counter state.counter.at 1 ≡ Ok place → IfOk (spoken_placed state due place meaning) (LineDone words naming since state line)
spoken_placed_done words naming since state line r due place (Err why) p room = tt
spoken_placed_done words naming since state line r due place (Ok word) p room =
    λ first second.
    record {
      sound =
          rw (p.role, p.moves)
          (again words _ _ due false
          (after_data words since state.counter.left state.counter.used state.counter.due state.counter.at state.leads 1 place p.sound room));
      orders = other_orders words naming since state line p.other;
    }

spoken_rope_done : (words : List Number) (naming : Naming) (since : ℕ) (state : State) (line : List ℕ) (r : Role) (spoken : List (List ℕ)) (room : Result ℕ SourceFault) → Spoken words naming since state line r
    → room_at state.counter state.counter.at 1 ≡ room → IfOk (spoken_in_rope naming state r spoken room) (LineDone words naming since state line)
spoken_rope_done words naming since state line r spoken (Err why) p e = tt
spoken_rope_done words naming since state line r spoken (Ok place) p e =
    spoken_placed_done words naming since state line r (due_behind state.counter.due r spoken) place (spoken_meaning naming place state.counter.due r spoken) p e

spoken_next_done : (words : List Number) (naming : Naming) (since : ℕ) (state : State) (line : List ℕ) (r : Role) (due : Pending) (next : Result LocationCounter SourceFault) → Spoken words naming since state line r
    → IfOk next (λ counter. Sound words (since_after naming state.counter.due since line (due_there due counter)) counter false) → IfOk (spoken_next state due next) (LineDone words naming since state line)
spoken_next_done words naming since state line r due (Err why) p h = tt
spoken_next_done words naming since state line r due (Ok counter) p h =
    λ first second. record { sound = again words _ counter due false h; orders = other_orders words naming since state line p.other }

spoken_cell_done : (words : List Number) (naming : Naming) (since cell : ℕ) (state : State) (line : List ℕ) (r : Role) (due : Pending) (meaning : Result ℕ SourceFault) → Spoken words naming since state line r
    → IfOk (spoken_in_cell state due (after_cells state.counter (at.Cell cell) 1) meaning) (LineDone words naming since state line)
spoken_cell_done words naming since cell state line r due (Err why) p = tt
spoken_cell_done words naming since cell state line r due (Ok word) p =
    spoken_next_done words naming since state line r due (after_cells state.counter (at.Cell cell) 1) p
    (after_cells_any words state.counter.left state.counter.used state.counter.due state.counter.at (λ counter. since_after naming state.counter.due since line (due_there due counter)) cell 1 false p.sound.banks)

spoken_done : (words : List Number) (naming : Naming) (since : ℕ) (state : State) (line : List ℕ) (r : Role) (spoken : List (List ℕ)) (here : Where) → Spoken words naming since state line r → state.counter.at ≡ here
    → IfOk (spoken_at naming state r spoken here) (LineDone words naming since state line)
spoken_done words naming since state line r spoken (at.Bank bank) p e = spoken_rope_done words naming since state line r spoken (room_at state.counter (at.Bank bank) 1) p (rw e refl)
spoken_done words naming since state line r spoken (at.Cell cell) p e =
    spoken_cell_done words naming since cell state line r (due_behind state.counter.due r spoken) (spoken_meaning naming 0o4000 state.counter.due r spoken) p

line_as : (words : List Number) (naming : Naming) (since : ℕ) (state : State) (line : List ℕ) (r : Role) → role_of state.counter.due line ≡ r → Sound words since state.counter state.leads
    → IfOk (woven_as naming state line r) (LineDone words naming since state line)
line_as words naming since state line role.Basic e sound = basic_done words naming since state line (are_listed (parsed_by line)) e refl sound
line_as words naming since state line role.Operand e sound =
    spoken_done words naming since state line role.Operand (spoken_words line) state.counter.at (spoken_is words naming since state line role.Operand refl refl e sound) refl
line_as words naming since state line (role.Operation o) e sound =
    spoken_done words naming since state line (role.Operation o) (spoken_words line) state.counter.at (spoken_is words naming since state line (role.Operation o) refl refl e sound) refl

line_by : (words : List Number) (naming : Naming) (since : ℕ) (state : State) (line : List ℕ) → Sound words since state.counter state.leads
    → IfOk (assemble_line naming state line) (LineDone words naming since state line)
unfolding assemble_line
line_by words naming since state line sound = line_as words naming since state line (role_of state.counter.due line) refl sound

line_done : (words : List Number) (naming : Naming) (since : ℕ) (state : State) (line : List ℕ) (step : Step) → assemble_line naming state line ≡ Ok step → Sound words since state.counter state.leads
    → LineDone words naming since state line step
line_done words naming since state line step e sound =
    let all = line_by words naming since state line sound in
    rw e at all

-- one line after the other
pub orders_more : (naming : Naming) (since : ℕ) (state : State) (line : List ℕ) (lines : List (List ℕ)) (step : Step) → assemble_line naming state (plain_line line) ≡ Ok step
    → orders_from naming since state (line ∷ lines) ≡ order_of naming since state (plain_line line) ++ orders_from naming (since_after naming state.counter.due since (plain_line line) step.state.counter) step.state lines
unfolding orders_from
orders_more naming since state line lines step e = rw (e, orders_from) refl

both_shown : (words : List Number) (first rest : List OrderLine) (name : List (List ℕ)) (names : List (List ℕ)) → AreShown words first name → AreShown words rest names → AreShown words (first ++ rest) (name ++ names)
both_shown words first rest name names f r =
    record {
      shown = All-append (Shown words) first rest f.shown r.shown;
      named = map-append (λ (line : OrderLine). line.written) first rest ∙ rw (f.named, r.named) refl;
    }

pub mnemonics_more : (naming : Naming) (state : State) (line : List ℕ) (lines : List (List ℕ)) (step : Step) → assemble_line naming state (plain_line line) ≡ Ok step
    → mnemonics_from naming state (line ∷ lines) ≡ mnemonic_at state.counter.due state.counter.at (plain_line line) ++ mnemonics_from naming step.state lines
unfolding mnemonics_from
mnemonics_more naming state line lines step e = rw (e, mnemonics_from) refl

pub shown_from : (words : List Number) (lines : List (List ℕ)) (n : ℕ) (naming : Naming) (since : ℕ) (state : State) (parsed final : List PlacedWord) → words_from n naming state parsed lines ≡ Ok final
    → All (HasWord words) final → Sound words since state.counter state.leads → AreShown words (orders_from naming since state lines) (mnemonics_from naming state lines)
unfolding orders_from mnemonics_from
shown_from words [] n naming since state parsed final is has sound = none_shown words
shown_from words (line ∷ lines) n naming since state parsed final is has sound =
    let s = stepped n naming state parsed final line lines is in
    let more = all_before (HasWord words) lines (n + 1) naming s.step.state s.more final s.rest has in
    let b = both parsed s.more s.step.first s.step.second s.both in
    let second = holds (HasWord words) b.between s.more s.step.second b.other more in
    let first = holds (HasWord words) parsed b.between s.step.first b.one second.before in
    let done = line_done words naming since state (plain_line line) s.step s.woven sound first.here second.here in
    let since_next = since_after naming state.counter.due since (plain_line line) s.step.state.counter in
    let rest = shown_from words lines (n + 1) naming since_next s.step.state s.more final s.rest has done.sound in
    rw (orders_more naming since state line lines s.step s.woven, mnemonics_more naming state line lines s.step s.woven)
    (both_shown words (order_of naming since state (plain_line line)) (orders_from naming since_next s.step.state lines) (mnemonic_at state.counter.due state.counter.at (plain_line line)) (mnemonics_from naming s.step.state lines) done.orders rest)
