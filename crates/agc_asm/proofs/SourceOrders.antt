-- The rope that a source assembles to, and its listing, have the orders that the source writes.
use Rattle.agc_asm.proofs.Back.{plain_listed, listed_is}
use Rattle.agc_vocabulary.specs.Body.{plain_line}
use Rattle.std.specs.Prelude.{◌≡◌, ℕ, Bool, true, false, ◌||◌, All, List, [], ◌∷◌, length, map, Option, Some, None, Result, Ok, Err}
use Rattle.std.specs.List.{list_all}
use Rattle.std.proofs.Common.{refl, ◌∙◌, arith}
use Rattle.std.proofs.lemmas.Bool.{and_parts}
use Rattle.std.proofs.lemmas.List.{length-replicate}
use Rattle.std.proofs.lemmas.List.Elements.{All-nil, All-weaker}
use Rattle.agc_word.specs.Number.{Number}
use Rattle.agc_store.specs.RopeFile.{rope_words}
use Rattle.agc_store.specs.declared.rope_file.RopeForm.{RopeForm}
use Rattle.agc_word.specs.Text.{lines_of}
use Rattle.agc_listing.specs.Weave.{woven_file}
use Rattle.agc_listing.specs.declared.line.PlacedWord.{PlacedWord}
use Rattle.agc_encode.specs.Interpretive.{role_of}
use Rattle.agc_vocabulary.specs.Name.{Naming}
use Rattle.agc_interpretive.specs.Pending.{fault_at_end}
use Rattle.agc_interpretive.specs.declared.fault.Fault.{Fault}
use Rattle.agc_interpretive.specs.declared.pending.Pending.{Pending}
use Rattle.agc_encode.specs.declared.location_counter.At.{At}
use Rattle.agc_vocabulary.specs.declared.source_fault.SourceFault.{SourceFault}
use Rattle.agc_asm.specs.declared.fault.AssemblyFault.{AssemblyFault}
use Rattle.agc_asm.specs.OrderLines.{HasOrder, IsListed, IsReadAlong, OrderLine, mnemonics_in, order_of, orders_by, orders_from, orders_in, since_after, mnemonic_at, mnemonics_from, mnemonics_by, is_interpretive, is_other}
use Rattle.agc_asm.specs.Source.{IsSourceWoven, first_state, is_listing, assemble_line, names_in, source_in, words_after_names, words_from, words_in, closed, due_from, ended, is_listing_line}
use Rattle.agc_asm.specs.declared.pass2.State.{State}
use Rattle.agc_asm.specs.declared.pass2.Step.{Step}
use Rattle.agc_asm.proofs.Along.{Sound}
use Rattle.agc_asm.proofs.FileHolds.{HasWord, Kept, StandsIn, has_word, kept_from}
use Rattle.agc_asm.proofs.LinesShown.{orders_more, shown_from, other_none, mnemonics_more}
use Rattle.agc_asm.proofs.OrderShown.{Shown}
use Rattle.agc_asm.proofs.OrdersShown.{AreShown, none_shown}

-- the state before the first line
at_first : (words : List Number) → Sound words 0o4000 first_state.counter first_state.leads
at_first words = record { banks = length-replicate {A = ℕ} 36 0; bank = omega arith; along = λ none inside. none }

-- a text whose second pass yields words
closed_is : (n : ℕ) (due : Pending) (pass : Result (List PlacedWord) AssemblyFault) (parsed : List PlacedWord) (short : Option Fault) → fault_at_end due false ≡ short → closed n due pass ≡ Ok parsed → pass ≡ Ok parsed
closed_is n due (Err why) parsed short e is = absurd cc
closed_is n due (Ok words) parsed (Some why) e is = let faulty : ended n (Some why) words ≡ Ok parsed = rw e at is in absurd cc
closed_is n due (Ok words) parsed None e is = rw e at is

words_are : (naming : Naming) (lines : List (List ℕ)) (parsed : List PlacedWord) → words_in naming lines ≡ Ok parsed → words_from 1 naming first_state [] lines ≡ Ok parsed
unfolding words_in
words_are naming lines parsed is =
    closed_is (length lines) (due_from naming first_state lines) (words_from 1 naming first_state [] lines) parsed (fault_at_end (due_from naming first_state lines) false) refl is

way_shown : (form : RopeForm) (text file : List ℕ) (naming : Naming) (parsed : List PlacedWord) → words_in naming (lines_of text) ≡ Ok parsed → file ≡ woven_file form parsed
    → AreShown (rope_words form file) (orders_from naming 0o4000 first_state (lines_of text)) (mnemonics_from naming first_state (lines_of text))
way_shown form text file naming parsed all woven =
    let words = rope_words form file in
    let is = words_are naming (lines_of text) parsed all in
    let kept : Kept form parsed = kept_from form (lines_of text) 1 naming first_state [] parsed is (All-nil (StandsIn form (woven_file form []))) in
    let stand : All (StandsIn form file) parsed = rw woven kept in
    let has = All-weaker (StandsIn form file) (HasWord words) (λ word h. has_word form file word h) parsed stand in
    shown_from words (lines_of text) 1 naming 0o4000 first_state [] parsed is has (at_first words)

named_shown : (form : RopeForm) (text file : List ℕ) (names : Result Naming AssemblyFault) (parsed : List PlacedWord) → words_after_names (lines_of text) names ≡ Ok parsed → file ≡ woven_file form parsed
    → AreShown (rope_words form file) (orders_by names (lines_of text)) (mnemonics_by names (lines_of text))
named_shown form text file (Err why) parsed is woven = absurd cc
named_shown form text file (Ok naming) parsed is woven = way_shown form text file naming parsed is woven

-- a listing writes no orders
or_true : (a : Bool) → a || true ≡ true
or_true true = refl
or_true false = refl

is_listed_other : (due : Pending) (line : List ℕ) → is_listing_line line ≡ true → is_other due line ≡ true
unfolding is_other
is_listed_other due line listed = rw (listed_is line listed) (or_true (is_interpretive (role_of due line)))

no_order : (naming : Naming) (since : ℕ) (state : State) (line : List ℕ) → is_listing_line line ≡ true → order_of naming since state (plain_line line) ≡ []
unfolding order_of
no_order naming since state line listed = rw (plain_listed line listed, is_listed_other state.counter.due line listed) refl

abbrev WriteNone : List (List ℕ) → Type 0
WriteNone lines = (naming : Naming) (since : ℕ) (state : State) → orders_from naming since state lines ≡ []

faulty_line : (naming : Naming) (since : ℕ) (state : State) (line : List ℕ) (lines : List (List ℕ)) (why : SourceFault) → assemble_line naming state (plain_line line) ≡ Err why → orders_from naming since state (line ∷ lines) ≡ []
unfolding orders_from
faulty_line naming since state line lines why e = rw (e, orders_from) refl

no_orders_by : (naming : Naming) (since : ℕ) (state : State) (line : List ℕ) (lines : List (List ℕ)) (woven : Result Step SourceFault) → is_listing_line line ≡ true → WriteNone lines → assemble_line naming state (plain_line line) ≡ woven
    → orders_from naming since state (line ∷ lines) ≡ []
no_orders_by naming since state line lines (Err why) listed rest e = faulty_line naming since state line lines why e
no_orders_by naming since state line lines (Ok step) listed rest e =
    orders_more naming since state line lines step e ∙ rw (no_order naming since state line listed) (rest naming (since_after naming state.counter.due since (plain_line line) step.state.counter) step.state)

no_orders : (lines : List (List ℕ)) → list_all (λ line. is_listing_line line) lines ≡ true → WriteNone lines
unfolding orders_from
no_orders [] h naming since state = refl
no_orders (line ∷ lines) h naming since state =
    let parts = and_parts (is_listing_line line) (list_all (λ other. is_listing_line other) lines) h in
    no_orders_by naming since state line lines (assemble_line naming state (plain_line line)) parts.0 (no_orders lines parts.1) refl

abbrev NameNone : List (List ℕ) → Type 0
NameNone lines = (naming : Naming) (state : State) → mnemonics_from naming state lines ≡ []

faulty_name : (naming : Naming) (state : State) (line : List ℕ) (lines : List (List ℕ)) (why : SourceFault) → assemble_line naming state (plain_line line) ≡ Err why → mnemonics_from naming state (line ∷ lines) ≡ []
unfolding mnemonics_from
faulty_name naming state line lines why e = rw (e, mnemonics_from) refl

no_mnemonic : (due : Pending) (line : List ℕ) (here : At) → is_listing_line line ≡ true → mnemonic_at due here (plain_line line) ≡ []
no_mnemonic due line here listed = rw (plain_listed line listed) (other_none due line here (is_listed_other due line listed))

no_mnemonics_by : (naming : Naming) (state : State) (line : List ℕ) (lines : List (List ℕ)) (woven : Result Step SourceFault) → is_listing_line line ≡ true → NameNone lines → assemble_line naming state (plain_line line) ≡ woven
    → mnemonics_from naming state (line ∷ lines) ≡ []
no_mnemonics_by naming state line lines (Err why) listed rest e = faulty_name naming state line lines why e
no_mnemonics_by naming state line lines (Ok step) listed rest e =
    mnemonics_more naming state line lines step e ∙ rw (no_mnemonic state.counter.due line state.counter.at listed) (rest naming step.state)

no_mnemonics : (lines : List (List ℕ)) → list_all (λ line. is_listing_line line) lines ≡ true → NameNone lines
unfolding mnemonics_from
no_mnemonics [] h naming state = refl
no_mnemonics (line ∷ lines) h naming state =
    let parts = and_parts (is_listing_line line) (list_all (λ other. is_listing_line other) lines) h in
    no_mnemonics_by naming state line lines (assemble_line naming state (plain_line line)) parts.0 (no_mnemonics lines parts.1) refl

listing_shown : (words : List Number) (lines : List (List ℕ)) (names : Result Naming AssemblyFault) → list_all (λ line. is_listing_line line) lines ≡ true → AreShown words (orders_by names lines) (mnemonics_by names lines)
listing_shown words lines (Err why) h = none_shown words
listing_shown words lines (Ok naming) h = rw (no_orders lines h naming 0o4000 first_state, no_mnemonics lines h naming first_state) (none_shown words)

text_shown : (form : RopeForm) (text file : List ℕ) (parsed : List PlacedWord) (listing : Bool) → is_listing text ≡ listing → source_in text ≡ Ok parsed → file ≡ woven_file form parsed
    → AreShown (rope_words form file) (orders_in text) (mnemonics_in text)
unfolding source_in is_listing orders_in mnemonics_in
text_shown form text file parsed true listing is woven = listing_shown (rope_words form file) (lines_of text) (names_in (lines_of text)) listing
text_shown form text file parsed false listing is woven =
    let way : words_after_names (lines_of text) (names_in (lines_of text)) ≡ Ok parsed = rw listing at is in
    named_shown form text file (names_in (lines_of text)) parsed way woven

source_shown : (form : RopeForm) (text file : List ℕ) → IsSourceWoven form text file → AreShown (rope_words form file) (orders_in text) (mnemonics_in text)
source_shown form text file h = text_shown form text file h.0 (is_listing text) refl h.1 h.2

-- the clauses of the law
pub none_left_out : (form : RopeForm) (text file : List ℕ) → IsSourceWoven form text file → map (λ (line : OrderLine). line.written) (orders_in text) ≡ mnemonics_in text
none_left_out form text file h = (source_shown form text file h).named

pub words_have : (form : RopeForm) (text file : List ℕ) → IsSourceWoven form text file → All (HasOrder (rope_words form file)) (orders_in text)
words_have form text file h =
    let words = rope_words form file in
    All-weaker (Shown words) (HasOrder words) (λ line shown. shown.has) (orders_in text) (source_shown form text file h).shown

pub listing_shows : (form : RopeForm) (text file : List ℕ) → IsSourceWoven form text file → All (IsListed (rope_words form file)) (orders_in text)
listing_shows form text file h =
    let words = rope_words form file in
    All-weaker (Shown words) (IsListed words) (λ line shown. shown.listed) (orders_in text) (source_shown form text file h).shown

pub read_along : (form : RopeForm) (text file : List ℕ) → IsSourceWoven form text file → All (IsReadAlong (rope_words form file)) (orders_in text)
read_along form text file h =
    let words = rope_words form file in
    All-weaker (Shown words) (IsReadAlong words) (λ line shown. shown.along) (orders_in text) (source_shown form text file h).shown
