-- A symbol file reads back as the names that it was written from.
use Rattle.std.specs.Prelude.{◌≡◌, ℕ, ◌+◌, ◌-◌, ◌<◌, ◌==◌, Bool, true, false, not, ◌&&◌, ◌||◌, List, [], ◌∷◌, ◌++◌, length, Some, Ok}
use Rattle.std.specs.List.{list_all, list_any, slice_split, All}
use Rattle.std.specs.Str.Lines.{strip_carriage_return}
use Rattle.std.proofs.Common.{refl, ap, sym, ◌∙◌, arith, get_or, append_assoc, append-nil}
use Rattle.std.proofs.lemmas.Bool.Decides.{nat_tests}
use Rattle.std.proofs.lemmas.List.Elements.{All-weaker}
use Rattle.std.proofs.lemmas.List.Folds.{list_any-append}
use Rattle.std.proofs.lemmas.List.Splits.{length-slice_split, slice_split_at}
use Rattle.std.proofs.lemmas.List.Sums.{AllPass-from_list_all}
use Rattle.agc_listing.specs.Line.{is_no_text}
use Rattle.agc_listing.proofs.LinesBack.{no_lines_of}
use Rattle.agc_listing.proofs.Prints.{all_text, is_solid, no_blank}
use Rattle.agc_word.specs.Text.{is_blank, is_empty_part, is_line_feed, lines_of, without_empty_end, words_of}
use Rattle.agc_listing.specs.Text.{is_name, parsed_by}
use Rattle.agc_listing.specs.declared.location.Location.{Location}
use Rattle.agc_symbols.specs.Symbols.{Symbol, is_place_name, line_named, names_from, names_in}
use Rattle.agc_symbols.specs.Writing.{AreSayable, IsSayable, line_for, names_text}
use Rattle.agc_symbols.proofs.Lines.{next_named}
use Rattle.agc_symbols.proofs.PlaceRead.{line_body, line_is, location_no_comment, location_prints, location_read, location_solid, location_some, location_text}

-- Lines.

abbrev is_text : ℕ → Bool
is_text b = not (is_no_text b)

test_of : (b : Bool) → b ≡ false → not b ≡ true
test_of true h = absurd cc
test_of false h = refl

split_any : (b c : Bool) → (b || c) ≡ false → (b ≡ false) × (c ≡ false)
split_any b c e = grind (arith, nat_tests)

all_text_of : (line : List ℕ) → list_any is_no_text line ≡ false → list_all is_text line ≡ true
all_text_of [] h = refl
all_text_of (b ∷ bs) h =
    let two = split_any (is_no_text b) (list_any is_no_text bs) h in
    rw (two.0, all_text_of bs two.1) refl

text_is_in_line : (b : ℕ) → is_text b ≡ true → is_line_feed b ≡ false
text_is_in_line b h = grind (arith, nat_tests)

no_return : (b : ℕ) → is_text b ≡ true → (b == 13) ≡ false
no_return b h = grind (arith, nat_tests)

no_return_at : (line : List ℕ) → list_all is_text line ≡ true → (get_or line (length line - 1) 0 == 13) ≡ false
no_return_at [] h = refl
no_return_at (b ∷ bs) h = no_return _ (AllPass-from_list_all is_text (b ∷ bs) h (length (b ∷ bs) - 1) 0 (omega arith))

whole_line : (line : List ℕ) → list_all is_text line ≡ true → strip_carriage_return line ≡ line
whole_line line h = rw (no_return_at line h) refl

in_line : (line : List ℕ) → list_all is_text line ≡ true → All (λ b. is_line_feed b ≡ false) line
in_line line h = All-weaker (λ b. is_text b ≡ true) (λ b. is_line_feed b ≡ false) text_is_in_line line (AllPass-from_list_all is_text line h)

part_before : (part : List ℕ) (parts : List (List ℕ)) → 0 < length parts → without_empty_end (part ∷ parts) ≡ part ∷ without_empty_end parts
unfolding without_empty_end
part_before part [] h = absurd (omega arith)
part_before part (next ∷ parts) h = refl

-- a line of text before others
line_more : (line rest : List ℕ) → list_any is_no_text line ≡ false → lines_of (line ++ 0x0A ∷ rest) ≡ line ∷ lines_of rest
unfolding lines_of
line_more line rest h =
    let text = all_text_of line h in
    let some : 0 < length (slice_split is_line_feed rest) = omega (arith, length-slice_split is_line_feed rest) in
    rw (slice_split_at is_line_feed line 0x0A rest (in_line line text) refl, part_before line (slice_split is_line_feed rest) some, whole_line line text) refl

-- The line of a name.

both_so : (b c : Bool) → (b && not c) ≡ true → c ≡ false
both_so b c e = grind (arith, nat_tests)

neither : (b c : Bool) → b ≡ false → c ≡ false → (b || c) ≡ false
neither b c f g = rw (f, g) refl

body_is_text : (at : Location) (name : List ℕ) → is_place_name name ≡ true → list_any is_no_text (line_body at name) ≡ false
body_is_text at name h =
    list_any-append is_no_text (location_text at) (0x20 ∷ name)
    ∙ neither _ _ (all_text (location_text at) (location_prints at)) (both_so (is_name name) (list_any is_no_text name) h)

word_before : (part rest : List ℕ) → list_all is_solid part ≡ true → is_empty_part part ≡ false → words_of (part ++ 0x20 ∷ rest) ≡ part ∷ words_of rest
unfolding words_of
word_before part rest solid some = rw (slice_split_at is_blank part 0x20 rest (no_blank part solid) refl, some) refl

body_says : (at : Location) (name : List ℕ) → parsed_by (line_body at name) ≡ location_text at ∷ parsed_by name
unfolding parsed_by
body_says at name = rw (word_before (location_text at) name (location_solid at) (location_some at), location_no_comment at) refl

line_read : (named : Symbol) → IsSayable named → line_named (line_body named.place named.name) ≡ Ok (Some named)
unfolding line_named
line_read named h =
    rw (body_is_text named.place named.name h.name, body_says named.place named.name, h.word, location_read named.place h.place, h.name) refl

-- All lines, after others.

line_first : (named : Symbol) (rest : List ℕ) → IsSayable named → lines_of (line_for named ++ rest) ≡ line_body named.place named.name ∷ lines_of rest
line_first named rest h =
    rw (line_is named.place named.name h.place)
    (ap lines_of (append_assoc (line_body named.place named.name) (0x0A ∷ []) rest)
    ∙ line_more (line_body named.place named.name) rest (body_is_text named.place named.name h.name))

names_read_after : (names : List Symbol) (n : ℕ) (before : List Symbol) → AreSayable names → names_from n before (lines_of (names_text names)) ≡ Ok (before ++ names)
unfolding names_text names_from
names_read_after [] n before h = rw no_lines_of (ap (λ (all : List Symbol). Ok all) (sym (append-nil before)))
names_read_after (named ∷ names) n before h =
    ap (names_from n before) (line_first named (names_text names) h.0)
    ∙ next_named n before (line_body named.place named.name) (lines_of (names_text names)) (Some named) (line_read named h.0)
    ∙ names_read_after names (n + 1) (before ++ named ∷ []) h.1
    ∙ ap (λ (all : List Symbol). Ok all) (append_assoc before (named ∷ []) names)

pub names_read : (names : List Symbol) → AreSayable names → names_in (names_text names) ≡ Ok names
unfolding names_in
names_read names h = names_read_after names 1 [] h
