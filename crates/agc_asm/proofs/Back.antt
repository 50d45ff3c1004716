-- The source of a rope names the words of the rope, and so assembles to it.
use Rattle.agc_vocabulary.specs.Body.{body_in, plain_line, has_non_ascii_comment, is_include, spelled}
use Rattle.agc_encode.specs.Interpretive.{column_of, is_basic, role_by, role_of, spoken_words}
use Rattle.agc_encode.specs.declared.role.Role.{Role}
use Rattle.agc_encode.specs.declared.role.Role.TheVariants as role
use Rattle.agc_interpretive.specs.Pending.{fault_at_end, nothing_due, takes_line}
use Rattle.agc_interpretive.specs.declared.pending.Pending.{Pending}
use Rattle.std.specs.Prelude.{◌≡◌, ℕ, ◌+◌, ◌^◌, ◌<◌, ◌≤◌, Bool, true, false, List, [], ◌∷◌, ◌++◌, length, Option, Some, None, Result, Ok, Err, not, if◌then◌else◌}
use Rattle.std.specs.List.{list_all}
use Rattle.std.proofs.Common.{refl, ap, sym, ◌∙◌, arith, inl, inr}
use Rattle.std.proofs.lemmas.Bool.{and_parts, both_ways, cases_lt}
use Rattle.std.proofs.lemmas.List.{get_or_past, length-replicate}
use Rattle.std.proofs.lemmas.List.Elements.{All-get_or}
use Rattle.agc_word.specs.Number.{Number}
use Rattle.agc_store.specs.Memory.{fixed_at, nothing}
use Rattle.agc_listing.specs.Laws.{AreRopeWords, words_below, words_listed}
use Rattle.agc_encode.specs.LocationCounter.{first_counter}
use Rattle.agc_encode.specs.Disassemble.{resolve_range, rope_source}
use Rattle.agc_encode.specs.declared.location_counter.LocationCounter.{LocationCounter}
use Rattle.agc_asm.proofs.Lines.{Stands}
use Rattle.agc_asm.proofs.Stretches.{StandsIn, due_none, finds_none, finds_words}
use Rattle.agc_word.specs.Text.{lines_of}
use Rattle.agc_listing.specs.Line.{line_named}
use Rattle.agc_listing.specs.Weave.{is_named, parsed_from, parsed_in, parsed_next, unless_named, woven_file}
use Rattle.agc_listing.specs.declared.fault.LineFault.TheVariants as line_fault
use Rattle.agc_listing.specs.declared.fault.WeaveFault.TheVariants as weave
use Rattle.agc_listing.proofs.Listings.{rope_of_words}
use Rattle.agc_asm.specs.Laws.{WeavesTo}
use Rattle.agc_listing.proofs.Woven.{next_parsed}
use Rattle.agc_vocabulary.specs.declared.source_fault.SourceFault.{SourceFault}
use Rattle.agc_vocabulary.specs.declared.source_fault.SourceFault.TheVariants as fault
use Rattle.agc_asm.specs.declared.fault.AssemblyFault.TheVariants as trouble
use Rattle.agc_asm.proofs.Passes.{next_woven}
use Rattle.agc_asm.specs.declared.pass2.Step.{Step}
use Rattle.agc_listing.specs.declared.fault.LineFault.{LineFault}
use Rattle.agc_listing.specs.declared.line.PlacedWord.{PlacedWord}
use Rattle.agc_asm.specs.Source.{as_source, two_added, first_names, first_state, is_listing, assemble_line, listed_woven, IsSourceWoven, names_in, source_in, words_from, words_in, due_from, is_listing_line}
use Rattle.agc_asm.specs.declared.pass2.State.{State}
use Rattle.agc_vocabulary.specs.Name.{Naming}
use Rattle.agc_listing.specs.Text.{are_listed, parsed_by}

-- A line of a listing is read as it is.
plain_by : (odd : Bool) (line : List ℕ) → has_non_ascii_comment line ≡ odd → not odd ≡ true → plain_line line ≡ line
unfolding plain_line
plain_by true line e h = absurd cc
plain_by false line e h = rw e refl

pub plain_listed : (line : List ℕ) → is_listing_line line ≡ true → plain_line line ≡ line
plain_listed line h = plain_by (has_non_ascii_comment line) line refl (and_parts (are_listed (parsed_by line)) (not (has_non_ascii_comment line)) h).1

pub listed_is : (line : List ℕ) → is_listing_line line ≡ true → are_listed (parsed_by line) ≡ true
listed_is line h = (and_parts (are_listed (parsed_by line)) (not (has_non_ascii_comment line)) h).0

-- In the second pass the lines of a listing mean what they mean in a listing.
abbrev AgreeOn : Naming → State → List (List ℕ) → Type 0
AgreeOn naming state lines = (n : ℕ) (parsed : List PlacedWord) → words_from n naming state parsed lines ≡ as_source (parsed_from n parsed lines)

-- a faulty line, and a word whose place is taken
faulty_line : (n : ℕ) (naming : Naming) (state : State) (parsed : List PlacedWord) (line : List ℕ) (lines : List (List ℕ)) (why : SourceFault) → assemble_line naming state (plain_line line) ≡ Err why
    → words_from n naming state parsed (line ∷ lines) ≡ Err (trouble.Line n why)
unfolding words_from
faulty_line n naming state parsed line lines why e = rw (e, words_from) refl

wrong_word : (n : ℕ) (naming : Naming) (state : State) (parsed : List PlacedWord) (line : List ℕ) (lines : List (List ℕ)) (step : Step) (why : SourceFault) → assemble_line naming state (plain_line line) ≡ Ok step
    → two_added parsed step.first step.second ≡ Err why → words_from n naming state parsed (line ∷ lines) ≡ Err (trouble.Line n why)
unfolding words_from
wrong_word n naming state parsed line lines step why e f = rw (e, words_from) (rw f refl)

faulty_parsed : (n : ℕ) (parsed : List PlacedWord) (line : List ℕ) (lines : List (List ℕ)) (why : LineFault) → parsed_next parsed line ≡ Err why → parsed_from n parsed (line ∷ lines) ≡ Err (weave.Line n why)
unfolding parsed_from
faulty_parsed n parsed line lines why e = rw (e, parsed_from) refl

role_as : (column : ℕ) (basic : Bool) (words : List (List ℕ)) → role_by nothing_due column basic true words ≡ role.Basic
unfolding takes_line
role_as column basic [] = refl
role_as column true (word ∷ words) = refl
role_as column false (word ∷ words) = refl

role_or : (include : Bool) (r : Role) → r ≡ role.Basic → (if include then role.Basic else r) ≡ role.Basic
role_or true r e = refl
role_or false r e = e

listed_role : (due : Pending) (line : List ℕ) → due ≡ nothing_due → are_listed (parsed_by line) ≡ true → role_of due line ≡ role.Basic
unfolding role_of
listed_role due line none listed =
    rw (none, listed) (role_or (is_include line) _ (role_as (column_of line) (is_basic (spelled (body_in line))) (spoken_words line)))

listed_line : (naming : Naming) (state : State) (line : List ℕ) (says : Result (Option PlacedWord) LineFault) → state.counter.due ≡ nothing_due → is_listing_line line ≡ true → line_named line ≡ says
    → assemble_line naming state (plain_line line) ≡ listed_woven state says
unfolding assemble_line
listed_line naming state line says none listed is =
    rw (plain_listed line listed, listed_role state.counter.due line none (listed_is line listed), listed_is line listed, is) refl

next_of : (parsed : List PlacedWord) (line : List ℕ) (says : Result (Option PlacedWord) LineFault) → line_named line ≡ says → parsed_next parsed line ≡ unless_named parsed says
unfolding parsed_next
next_of parsed line says is = rw is refl

agree_word : (naming : Naming) (state : State) (line : List ℕ) (lines : List (List ℕ)) (n : ℕ) (parsed : List PlacedWord) (word : PlacedWord) (twice : Bool) → state.counter.due ≡ nothing_due → is_listing_line line ≡ true
    → line_named line ≡ Ok (Some word) → is_named word.place parsed ≡ twice → AgreeOn naming state lines → words_from n naming state parsed (line ∷ lines) ≡ as_source (parsed_from n parsed (line ∷ lines))
agree_word naming state line lines n parsed word true none listed is named rest =
    let step : Step = record { state = state; first = Some word; second = None } in
    let both : two_added parsed (Some word) None ≡ Err (fault.Listed line_fault.NamedTwice) = rw named refl in
    let next : parsed_next parsed line ≡ Err line_fault.NamedTwice = next_of parsed line (Ok (Some word)) is ∙ rw named refl in
    wrong_word n naming state parsed line lines step (fault.Listed line_fault.NamedTwice) (listed_line naming state line (Ok (Some word)) none listed is) both
    ∙ sym (ap as_source (faulty_parsed n parsed line lines line_fault.NamedTwice next))
agree_word naming state line lines n parsed word false none listed is named rest =
    let step : Step = record { state = state; first = Some word; second = None } in
    let both : two_added parsed (Some word) None ≡ Ok (parsed ++ word ∷ []) = rw named refl in
    let next : parsed_next parsed line ≡ Ok (Some word) = next_of parsed line (Ok (Some word)) is ∙ rw named refl in
    next_woven n naming state parsed (parsed ++ word ∷ []) line lines step (listed_line naming state line (Ok (Some word)) none listed is) both
    ∙ rest (n + 1) (parsed ++ word ∷ [])
    ∙ sym (ap as_source (next_parsed n parsed line lines (Some word) next))

agree_line : (naming : Naming) (state : State) (line : List ℕ) (lines : List (List ℕ)) (n : ℕ) (parsed : List PlacedWord) (says : Result (Option PlacedWord) LineFault) → state.counter.due ≡ nothing_due → is_listing_line line ≡ true
    → line_named line ≡ says → AgreeOn naming state lines → words_from n naming state parsed (line ∷ lines) ≡ as_source (parsed_from n parsed (line ∷ lines))
agree_line naming state line lines n parsed (Err why) none listed is rest =
    faulty_line n naming state parsed line lines (fault.Listed why) (listed_line naming state line (Err why) none listed is)
    ∙ sym (ap as_source (faulty_parsed n parsed line lines why (next_of parsed line (Err why) is)))
agree_line naming state line lines n parsed (Ok None) none listed is rest =
    let step : Step = record { state = state; first = None; second = None } in
    next_woven n naming state parsed parsed line lines step (listed_line naming state line (Ok None) none listed is) refl
    ∙ rest (n + 1) parsed
    ∙ sym (ap as_source (next_parsed n parsed line lines None (next_of parsed line (Ok None) is)))
agree_line naming state line lines n parsed (Ok (Some word)) none listed is rest = agree_word naming state line lines n parsed word (is_named word.place parsed) none listed is refl rest

pub agree_on : (naming : Naming) (state : State) (lines : List (List ℕ)) → state.counter.due ≡ nothing_due → list_all (λ line. is_listing_line line) lines ≡ true → AgreeOn naming state lines
unfolding words_from parsed_from
agree_on naming state [] none h n parsed = refl
agree_on naming state (line ∷ lines) none h n parsed =
    let parts = and_parts (is_listing_line line) (list_all (λ other. is_listing_line other) lines) h in
    agree_line naming state line lines n parsed (line_named line) none parts.0 refl (agree_on naming state lines none parts.1)

-- So a text without faults in both passes names the words of the second pass.
all_closed : (naming : Naming) (lines : List (List ℕ)) (parsed : List PlacedWord) → due_from naming first_state lines ≡ nothing_due → words_from 1 naming first_state [] lines ≡ Ok parsed → words_in naming lines ≡ Ok parsed
unfolding words_in fault_at_end
all_closed naming lines parsed none says = rw (none, says) refl

source_by : (text : List ℕ) (parsed : List PlacedWord) (listing : Bool) → is_listing text ≡ listing → names_in (lines_of text) ≡ Ok (first_names (lines_of text)) → due_from (first_names (lines_of text)) first_state (lines_of text) ≡ nothing_due
    → words_from 1 (first_names (lines_of text)) first_state [] (lines_of text) ≡ Ok parsed → source_in text ≡ Ok parsed
unfolding source_in is_listing parsed_in
source_by text parsed true listing named none says = rw listing (sym (agree_on (first_names (lines_of text)) first_state (lines_of text) refl listing 1 []) ∙ says)
source_by text parsed false listing named none says = rw (listing, named) (all_closed (first_names (lines_of text)) (lines_of text) parsed none says)

-- a rope's words are narrow, also past its end
narrow_at : (words : List Number) → AreRopeWords words → (place : ℕ) → (fixed_at place words).magnitude < 2 ^ 14
unfolding fixed_at
narrow_at words h place =
    elim (cases_lt place (length words)) [
      | inl inside ↦ All-get_or (λ (word : Number). word.magnitude < 2 ^ 14) words place nothing inside h.narrow
      | inr past ↦ rw (get_or_past words place nothing past) (omega arith)
    ]

-- the source of a rope, read in both passes
no_word_before : (words : List Number) (counter : LocationCounter) → length counter.left ≡ 36 → counter.due ≡ nothing_due → Stands words 0 counter
no_word_before words counter banks none = record { banks = banks; due = none; here = λ follows. absurd (both_ways false refl follows) }

at_first : (words : List Number) → StandsIn words 0 first_state
at_first words = record { counter = no_word_before words first_counter (length-replicate {A = ℕ} 36 0) refl; leads = λ follows. absurd (both_ways false refl follows) }

places_say : (words : List Number) → ((place : ℕ) → (fixed_at place words).magnitude < 2 ^ 14) → (count : ℕ) → count ≤ 0o110000
    → source_in (resolve_range count None words) ≡ Ok (words_below count words)
unfolding resolve_range names_in words_below
places_say words narrow count room =
    let text = resolve_range count None words in
    source_by text (words_below count words) (is_listing text) refl
    (finds_none words narrow count 0 (omega arith) 1 (first_names (lines_of text)) first_counter (at_first words).counter)
    (due_none words narrow count 0 (omega arith) (first_names (lines_of text)) first_state (at_first words))
    (finds_words words narrow count 0 (omega arith) 1 (first_names (lines_of text)) first_state [] (at_first words) (record { none = λ place from. refl }))

pub source_says : (words : List Number) → AreRopeWords words → source_in (rope_source None words) ≡ Ok (words_listed words)
unfolding rope_source words_listed
source_says words h = places_say words (narrow_at words h) 0o110000 (omega arith)

-- and so the source assembles to the rope
pub weaves_to : (words : List Number) (text : List ℕ) → text ≡ rope_source None words → AreRopeWords words → WeavesTo words text
weaves_to words text is h form =
    let says : source_in text ≡ Ok (words_listed words) = rw is (source_says words h) in
    let woven : IsSourceWoven form text (woven_file form (words_listed words)) = (words_listed words, says, refl) in
    (woven_file form (words_listed words), woven, rope_of_words form words h)

-- the text of all places is the source
pub whole_source : (bank : Option ℕ) (words : List Number) (start text : List ℕ) → bank ≡ None → start ≡ [] → text ≡ start ++ rope_source bank words → text ≡ rope_source None words
whole_source bank words start text all nothing is = rw (is, nothing, all) refl
