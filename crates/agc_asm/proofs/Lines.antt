-- Where the lines of a rope's source are read, in both passes.
use Rattle.std.specs.Prelude.{◌≡◌, ℕ, ◌+◌, ◌-◌, ◌*◌, ◌/◌, ◌%◌, ◌<◌, ◌==◌, nat_le, Bool, true, false, not, ◌&&◌, List, [], ◌∷◌, ◌++◌, codes, length, get_or, Option, Some, None, Ok, Err, if◌then◌else◌}
use Rattle.std.specs.List.{list_all, list_any}
use Rattle.std.proofs.Common.{refl, ap, ◌∙◌, arith}
use Rattle.std.proofs.lemmas.Bool.{and_parts, and_right, both_ways}
use Rattle.std.proofs.lemmas.List.{get_or-set_same, length-set}
use Rattle.std.proofs.lemmas.Bool.Decides.{nat_tests}
use Rattle.agc_word.specs.Number.{Number}
use Rattle.agc_listing.specs.Laws.{has_line}
use Rattle.agc_listing.specs.Order.{next_is_extracode}
use Rattle.agc_listing.specs.Line.{is_no_text}
use Rattle.agc_encode.specs.LocationCounter.{after_words, bank_end, left_in, moved_to, room_at}
use Rattle.agc_encode.specs.Disassemble.{follows_word}
use Rattle.agc_listing.proofs.Prints.{all_text, prints}
use Rattle.agc_listing.specs.Weave.{is_named}
use Rattle.agc_listing.specs.declared.line.PlacedWord.{PlacedWord}
use Rattle.agc_encode.specs.LineKind.{kind_by, kind_of, after_line_words}
use Rattle.agc_encode.specs.Interpretive.{column_of, is_basic, is_basic_word, role_by, role_of, spoken_words}
use Rattle.agc_vocabulary.specs.Mnemonic.{directive_named, is_order}
use Rattle.agc_encode.specs.UnknownOperation.{unknown_operation}
use Rattle.agc_encode.specs.declared.line_kind.LineKind.{LineKind}
use Rattle.agc_vocabulary.specs.declared.mnemonic.Directive.{Directive}
use Rattle.agc_encode.specs.declared.role.Role.TheVariants as role
use Rattle.agc_interpretive.specs.Pending.{fault_at_end, nothing_due, takes_line}
use Rattle.agc_interpretive.specs.declared.pending.Pending.{Pending}
use Rattle.agc_asm.specs.Source.{two_added, define_label, assemble_line, names_from, naming_after, due_from, word_at, words_from}
use Rattle.agc_encode.specs.declared.line_kind.LineKind.TheVariants as kind
use Rattle.agc_asm.specs.declared.pass2.State.{State}
use Rattle.agc_vocabulary.specs.Name.{Naming}
use Rattle.agc_listing.specs.Text.{are_listed, body_of, label_of, parsed_by}
use Rattle.agc_asm.proofs.Orders.{IsPlain, Says}
use Rattle.agc_vocabulary.specs.Body.{line_label, body_in, spelled, plain_line, has_non_ascii_comment, is_include}
use Rattle.agc_encode.specs.Encode.{banks_after, is_banked}
use Rattle.agc_asm.proofs.Passes.{next_due, next_named, next_woven}
use Rattle.agc_encode.specs.declared.location_counter.At.TheVariants as at
use Rattle.agc_vocabulary.specs.declared.source_fault.SourceFault.TheVariants as fault
use Rattle.agc_encode.specs.declared.location_counter.LocationCounter.{LocationCounter}
use Rattle.agc_listing.specs.declared.location.Location.TheVariants as location

-- the next line goes to a place
pub record IsHere (place : ℕ) (counter : LocationCounter) : Type 0 where
  pub bank : counter.at ≡ at.Bank (place / 0o2000)
  pub left : get_or counter.left (place / 0o2000) 0 ≡ place % 0o2000
  pub due : counter.due ≡ nothing_due

-- and it does if a word precedes that place
pub record Stands (words : List Number) (place : ℕ) (counter : LocationCounter) : Type 0 where
  pub banks : length counter.left ≡ 36
  pub due : counter.due ≡ nothing_due
  pub here : follows_word words place ≡ true → IsHere place counter

room_by : (left bank : ℕ) (two : Bool) → left < 0o2000 → nat_le (left + 1) (if two then 0o4000 else 0o2000) ≡ true
room_by left bank true h = grind (arith, nat_tests)
room_by left bank false h = grind (arith, nat_tests)

room_in_bank : (place : ℕ) (room : Bool) → nat_le (place % 0o2000 + 1) (bank_end (place / 0o2000)) ≡ room → (if room then Ok (0o2000 * (place / 0o2000) + place % 0o2000) else Err fault.Full) ≡ Ok place
room_in_bank place true e = let same : 0o2000 * (place / 0o2000) + place % 0o2000 ≡ place = omega arith in rw same refl
room_in_bank place false e = absurd (both_ways _ e (room_by (place % 0o2000) (place / 0o2000) (place / 0o2000 == 2) (omega arith)))

pub has_room : (place : ℕ) (counter : LocationCounter) → IsHere place counter → room_at counter (at.Bank (place / 0o2000)) 1 ≡ Ok place
has_room place counter h = rw (h.left) (room_in_bank place (nat_le (place % 0o2000 + 1) (bank_end (place / 0o2000))) refl)

words_here : (place : ℕ) (counter : LocationCounter) → IsHere place counter → after_line_words counter counter.at 1 ≡ Ok (after_words counter counter.at 1)
words_here place counter h = rw (h.bank, has_room place counter h) refl

-- after a word
next_here : (place : ℕ) (counter : LocationCounter) → IsHere place counter → length counter.left ≡ 36 → place < 0o110000 → not ((place + 1) % 0o2000 == 0) ≡ true
    → IsHere (place + 1) (after_words counter counter.at 1)
next_here place counter h banks inside same =
    let bank : (place + 1) / 0o2000 ≡ place / 0o2000 = grind (arith, nat_tests) in
    let offset : (place + 1) % 0o2000 ≡ place % 0o2000 + 1 = grind (arith, nat_tests) in
    let is_in : place / 0o2000 < length counter.left = omega arith in
    record {
      bank = rw (h.bank, bank) refl;
      left = rw (h.bank, h.left, bank, offset) (get_or-set_same counter.left (place / 0o2000) (place % 0o2000 + 1) 0 is_in);
      due = rw h.bank refl;
    }

same_bank : (words : List Number) (place : ℕ) → follows_word words (place + 1) ≡ true → not ((place + 1) % 0o2000 == 0) ≡ true
same_bank words place h = (and_parts _ _ h).0

after_length : (counter : LocationCounter) (bank : ℕ) → counter.at ≡ at.Bank bank → length (after_words counter counter.at 1).left ≡ length counter.left
after_length counter bank h = rw h (length-set counter.left bank (left_in counter bank + 1))

pub after_word : (words : List Number) (place : ℕ) (counter : LocationCounter) → IsHere place counter → length counter.left ≡ 36 → place < 0o110000
    → Stands words (place + 1) (after_words counter counter.at 1)
after_word words place counter h banks inside = record {
  banks = after_length counter (place / 0o2000) h.bank ∙ banks;
  due = rw h.bank refl;
  here = λ follows. next_here place counter h banks inside (same_bank words place follows);
}

-- after a SETLOC line
pub moved_here : (place : ℕ) (counter : LocationCounter) → length counter.left ≡ 36 → place < 0o110000 → IsHere place (moved_to counter (location.Fixed place))
moved_here place counter banks inside = record {
  bank = refl;
  left = get_or-set_same counter.left (place / 0o2000) (place % 0o2000) 0 (omega arith);
  due = refl;
}

pub moved_banks : (place : ℕ) (counter : LocationCounter) → length counter.left ≡ 36 → length (moved_to counter (location.Fixed place)).left ≡ 36
moved_banks place counter banks = length-set counter.left (place / 0o2000) (place % 0o2000) ∙ banks

-- a place without a word
pub skips : (words : List Number) (place : ℕ) (counter : LocationCounter) → Stands words place counter → has_line words place ≡ false → Stands words (place + 1) counter
skips words place counter h none = record {
  banks = h.banks;
  due = h.due;
  here = λ follows.
      let before : place + 1 - 1 ≡ place = omega arith in
      let has : has_line words (place + 1 - 1) ≡ true = (and_parts _ _ follows).1 in
      absurd (both_ways (has_line words place) none (rw before at has));
}

-- a line of the source has no name and is not a listing line
pub record IsLine (line : List ℕ) : Type 0 where
  pub text : list_any is_no_text line ≡ false
  pub own : is_include line ≡ false
  pub unlisted : are_listed (parsed_by line) ≡ false
  pub label : line_label line ≡ None
  pub body : body_in line ≡ parsed_by line

pub is_line : (rest : List ℕ) → list_all prints (codes "        " ++ rest) ≡ true → are_listed (parsed_by (codes "        " ++ rest)) ≡ false
    → IsPlain (parsed_by (codes "        " ++ rest)) → IsLine (codes "        " ++ rest)
unfolding label_of line_label body_of body_in
is_line rest h unlisted plain = record { text = all_text (codes "        " ++ rest) h; own = refl; unlisted = unlisted; label = refl; body = plain }

-- and it is read as it is
pub plain_is : (line : List ℕ) → IsLine line → plain_line line ≡ line
unfolding plain_line has_non_ascii_comment
plain_is line h = rw h.text refl

-- It is one of the basic language.
known_by : (naming : Naming) (d : Option Directive) (word : List ℕ) (words : List (List ℕ)) (order : Bool) (s : LineKind) → is_order word ≡ order → kind_by naming d word words ≡ Ok s → is_basic_word d word ≡ true
known_by naming (Some d) word words order s e is = refl
known_by naming None word words true s e is = e
known_by naming None word words false s e is = let faulty : Err (unknown_operation word) ≡ Ok s = rw e at is in absurd cc

is_known : (naming : Naming) (words : List (List ℕ)) (s : LineKind) → kind_of naming words ≡ Ok s → is_basic words ≡ true
is_known naming [] s is = absurd cc
is_known naming (word ∷ words) s is = known_by naming (directive_named word) word words (is_order word) s refl is

role_as : (column : ℕ) (listed : Bool) (words : List (List ℕ)) → role_by nothing_due column true listed words ≡ role.Basic
unfolding takes_line
role_as column listed [] = refl
role_as column listed (word ∷ words) = refl

pub basic_line : (naming : Naming) (due : Pending) (line : List ℕ) (s : LineKind) → IsLine line → due ≡ nothing_due → kind_of naming (spelled (parsed_by line)) ≡ Ok s → role_of due line ≡ role.Basic
unfolding role_of
basic_line naming due line s h none is =
    rw (h.own, none, h.body, is_known naming (spelled (parsed_by line)) s is) (role_as (column_of line) (are_listed (parsed_by line)) (spoken_words line))

-- the first pass
labelled_word : (naming : Naming) (counter : LocationCounter) (place : ℕ) (line : List ℕ) → IsLine line → kind_of naming (spelled (parsed_by line)) ≡ Ok kind.Word → IsHere place counter
    → define_label naming counter line ≡ Ok (record { counter = after_words counter counter.at 1; place = None })
unfolding define_label
labelled_word naming counter place line h takes here =
    rw (basic_line naming counter.due line kind.Word h here.due takes, h.unlisted, h.text, h.own, h.label, h.body, takes, words_here place counter here) refl

labelled_move : (naming : Naming) (counter : LocationCounter) (place : ℕ) (line : List ℕ) → IsLine line → counter.due ≡ nothing_due → kind_of naming (spelled (parsed_by line)) ≡ Ok (kind.Moves (location.Fixed place))
    → define_label naming counter line ≡ Ok (record { counter = moved_to counter (location.Fixed place); place = None })
unfolding define_label
labelled_move naming counter place line h none moves =
    rw (basic_line naming counter.due line (kind.Moves (location.Fixed place)) h none moves, h.unlisted, h.text, h.own, h.label, h.body, moves) refl

no_name : (naming : Naming) (line : List ℕ) → IsLine line → naming_after naming (line_label (plain_line line)) None ≡ naming
no_name naming line h = rw (plain_is line h, h.label) refl

pub names_word : (n : ℕ) (naming : Naming) (counter : LocationCounter) (place : ℕ) (line : List ℕ) (lines : List (List ℕ)) → IsLine line → kind_of naming (spelled (parsed_by line)) ≡ Ok kind.Word → IsHere place counter
    → names_from n naming counter (line ∷ lines) ≡ names_from (n + 1) naming (after_words counter counter.at 1) lines
names_word n naming counter place line lines h takes here =
    next_named n naming counter line lines (record { counter = after_words counter counter.at 1; place = None })
    (rw (plain_is line h) (labelled_word naming counter place line h takes here))
    ∙ ap (λ (names : Naming). names_from (n + 1) names (after_words counter counter.at 1) lines) (no_name naming line h)

pub names_move : (n : ℕ) (naming : Naming) (counter : LocationCounter) (place : ℕ) (line : List ℕ) (lines : List (List ℕ)) → IsLine line → counter.due ≡ nothing_due → kind_of naming (spelled (parsed_by line)) ≡ Ok (kind.Moves (location.Fixed place))
    → names_from n naming counter (line ∷ lines) ≡ names_from (n + 1) naming (moved_to counter (location.Fixed place)) lines
names_move n naming counter place line lines h none moves =
    next_named n naming counter line lines (record { counter = moved_to counter (location.Fixed place); place = None })
    (rw (plain_is line h) (labelled_move naming counter place line h none moves))
    ∙ ap (λ (names : Naming). names_from (n + 1) names (moved_to counter (location.Fixed place)) lines) (no_name naming line h)

-- the second pass
abbrev pub state_after : State → Bool → Number → List (List ℕ) → State
state_after state order word parsed = record {
  counter = after_words state.counter state.counter.at 1;
  leads = order && next_is_extracode state.leads word;
  banks = banks_after (is_banked parsed) state.banks;
}

abbrev pub state_moved : State → ℕ → State
state_moved state place = record { counter = moved_to state.counter (location.Fixed place); leads = false; banks = state.banks }

woven_word : (naming : Naming) (state : State) (place : ℕ) (order : Bool) (word : Number) (line : List ℕ) → IsLine line → Says state.leads order word (parsed_by line) → IsHere place state.counter
    → assemble_line naming state line ≡ Ok (record { state = state_after state order word (parsed_by line); first = word_at place word; second = None })
unfolding assemble_line fault_at_end
woven_word naming state place order word line h says here =
    rw (basic_line naming state.counter.due line kind.Word h here.due (says.takes_up naming), h.unlisted, h.body, says.takes_up naming, here.due, here.bank, has_room place state.counter here, says.means naming place state.banks, says.writes) refl

woven_move : (naming : Naming) (state : State) (place : ℕ) (line : List ℕ) → IsLine line → state.counter.due ≡ nothing_due → kind_of naming (spelled (parsed_by line)) ≡ Ok (kind.Moves (location.Fixed place))
    → assemble_line naming state line ≡ Ok (record { state = state_moved state place; first = None; second = None })
unfolding assemble_line fault_at_end
woven_move naming state place line h none moves =
    rw (basic_line naming state.counter.due line (kind.Moves (location.Fixed place)) h none moves, h.unlisted, h.body, moves, none, and_right state.leads false refl) refl

both_once : (parsed : List PlacedWord) (place : ℕ) (word : Number) → is_named place parsed ≡ false → two_added parsed (word_at place word) None ≡ Ok (parsed ++ (record { place = place; word = word }) ∷ [])
both_once parsed place word h = rw h refl

pub words_word : (n : ℕ) (naming : Naming) (state : State) (parsed : List PlacedWord) (place : ℕ) (order : Bool) (word : Number) (line : List ℕ) (lines : List (List ℕ)) → IsLine line → Says state.leads order word (parsed_by line)
    → IsHere place state.counter → is_named place parsed ≡ false
    → words_from n naming state parsed (line ∷ lines) ≡ words_from (n + 1) naming (state_after state order word (parsed_by line)) (parsed ++ (record { place = place; word = word }) ∷ []) lines
words_word n naming state parsed place order word line lines h says here none =
    next_woven n naming state parsed (parsed ++ (record { place = place; word = word }) ∷ []) line lines (record { state = state_after state order word (parsed_by line); first = word_at place word; second = None })
    (rw (plain_is line h) (woven_word naming state place order word line h says here)) (both_once parsed place word none)

pub words_move : (n : ℕ) (naming : Naming) (state : State) (parsed : List PlacedWord) (place : ℕ) (line : List ℕ) (lines : List (List ℕ)) → IsLine line → state.counter.due ≡ nothing_due → kind_of naming (spelled (parsed_by line)) ≡ Ok (kind.Moves (location.Fixed place))
    → words_from n naming state parsed (line ∷ lines) ≡ words_from (n + 1) naming (state_moved state place) parsed lines
words_move n naming state parsed place line lines h none moves =
    next_woven n naming state parsed parsed line lines (record { state = state_moved state place; first = None; second = None }) (rw (plain_is line h) (woven_move naming state place line h none moves)) refl

-- what is due behind them
pub due_word : (naming : Naming) (state : State) (place : ℕ) (order : Bool) (word : Number) (line : List ℕ) (lines : List (List ℕ)) → IsLine line → Says state.leads order word (parsed_by line) → IsHere place state.counter
    → due_from naming state (line ∷ lines) ≡ due_from naming (state_after state order word (parsed_by line)) lines
due_word naming state place order word line lines h says here =
    next_due naming state line lines (record { state = state_after state order word (parsed_by line); first = word_at place word; second = None })
    (rw (plain_is line h) (woven_word naming state place order word line h says here))

pub due_move : (naming : Naming) (state : State) (place : ℕ) (line : List ℕ) (lines : List (List ℕ)) → IsLine line → state.counter.due ≡ nothing_due → kind_of naming (spelled (parsed_by line)) ≡ Ok (kind.Moves (location.Fixed place))
    → due_from naming state (line ∷ lines) ≡ due_from naming (state_moved state place) lines
due_move naming state place line lines h none moves =
    next_due naming state line lines (record { state = state_moved state place; first = None; second = None }) (rw (plain_is line h) (woven_move naming state place line h none moves))
