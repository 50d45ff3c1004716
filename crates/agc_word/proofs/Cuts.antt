-- The first line of a file and the first word of a line, and what is left after them.
use Rattle.std.specs.Prelude.{◌≡◌, ℕ, zero, suc, ◌+◌, ◌≤◌, ◌<◌, min, Bool, true, false, not, List, [], ◌∷◌, length, take, drop, position, Option, Some, None, unwrap_or}
use Rattle.std.specs.List.{slice_split, onto_first, position_or_len}
use Rattle.std.specs.Str.Lines.{strip_carriage_return}
use Rattle.std.proofs.Common.{refl, arith, ap, ◌∙◌, sym, cond, get_or, add-one, one-add, drop-cons}
use Rattle.std.proofs.Math.Seq.{take-length, drop-length}
use Rattle.std.proofs.Math.ListN.{drop_of_length-le}
use Rattle.std.proofs.lemmas.Bool.Decides.{nat_tests}
use Rattle.std.proofs.lemmas.List.Splits.{slice_split-cons_yes, slice_split_none, slice_split_first}
use Rattle.std.proofs.lemmas.List.Sums.{fails_before_first, passes_at_first}
use Rattle.agc_word.specs.Text.{is_line_feed, is_blank, without_empty_end, lines_of, words_of}

place_of : (p : ℕ → Bool) (xs : List ℕ) (i : ℕ) → position p xs ≡ Some i → (i ≡ position_or_len p xs) × (position_or_len p xs < length xs)
place_of p xs i h = grind (arith, nat_tests)

no_place : (p : ℕ → Bool) (xs : List ℕ) → position p xs ≡ None → length xs ≤ position_or_len p xs
no_place p xs h = grind (arith, nat_tests)

-- the first part reaches up to the first element that passes
first_part : (p : ℕ → Bool) (xs : List ℕ) (i : ℕ) → position p xs ≡ Some i → slice_split p xs ≡ take i xs ∷ slice_split p (drop (i + 1) xs)
first_part p xs i h = let k = place_of p xs i h in rw k.0 (slice_split_first p xs 0 k.1)

-- if none passes there is one part
only_part : (p : ℕ → Bool) (xs : List ℕ) → position p xs ≡ None → slice_split p xs ≡ xs ∷ []
only_part p xs h = let l : length xs ≤ position_or_len p xs = no_place p xs h in slice_split_none p xs (λ k d b. fails_before_first p xs k d (omega arith))

-- there is always a part
cond_part : (b : Bool) (x : ℕ) (all : List (List ℕ)) → (part : List ℕ) × ((parts : List (List ℕ)) × (cond b ([] ∷ all) (onto_first x all) ≡ part ∷ parts))
cond_part true x all = ([], (all, refl))
cond_part false x [] = (x ∷ [], ([], refl))
cond_part false x (q ∷ qs) = (x ∷ q, (qs, refl))

some_part : (p : ℕ → Bool) (xs : List ℕ) → (part : List ℕ) × ((parts : List (List ℕ)) × (slice_split p xs ≡ part ∷ parts))
some_part p [] = ([], ([], refl))
some_part p (x ∷ xs) = cond_part (p x) x (slice_split p xs)

-- a line that ends in a line feed
line_fed : (file : List ℕ) (end : ℕ) → position is_line_feed file ≡ Some end → lines_of file ≡ strip_carriage_return (take end file) ∷ lines_of (drop (end + 1) file)
unfolding lines_of without_empty_end
line_fed file end h =
    let more = some_part is_line_feed (drop (end + 1) file) in
    rw (first_part is_line_feed file end h, more.1.1)

-- a last line without a line feed
line_last : (file : List ℕ) → 0 < length file → position is_line_feed file ≡ None → lines_of file ≡ strip_carriage_return file ∷ []
unfolding lines_of without_empty_end
line_last [] h e = absurd (omega arith)
line_last (b ∷ bs) h e = rw (only_part is_line_feed (b ∷ bs) e)

-- nothing has no line
pub no_line : (file : List ℕ) → length file ≡ 0 → lines_of file ≡ []
unfolding lines_of without_empty_end
no_line [] h = refl
no_line (b ∷ bs) h = absurd (omega arith)

line_to : (file : List ℕ) (found : Option ℕ) (end : ℕ) → 0 < length file → position is_line_feed file ≡ found → end ≡ unwrap_or found (length file)
    → lines_of file ≡ strip_carriage_return (take end file) ∷ lines_of (drop (min (length file) (end + 1)) file)
line_to file None end h p e =
    let m : min (length file) (length file + 1) ≡ length file = omega arith in
    rw (e, m, take-length file, drop-length file, no_line [] refl) (line_last file h p)
line_to file (Some i) end h p e =
    let k = place_of is_line_feed file i p in
    let m : min (length file) (i + 1) ≡ i + 1 = omega arith in
    rw (e, m) (line_fed file i p)

-- the first line of a file, up to its first line feed or to its end
pub first_line : (file : List ℕ) (end : ℕ) → 0 < length file → end ≡ unwrap_or (position is_line_feed file) (length file)
    → lines_of file ≡ strip_carriage_return (take end file) ∷ lines_of (drop (min (length file) (end + 1)) file)
first_line file end h e = line_to file (position is_line_feed file) end h refl e

-- a blank at the front begins no word
words_of-blank : (b : ℕ) (bs : List ℕ) → is_blank b ≡ true → words_of (b ∷ bs) ≡ words_of bs
unfolding words_of
words_of-blank b bs h = rw (slice_split-cons_yes is_blank b bs h)

skip_one : (b : ℕ) (bs : List ℕ) (t : Bool) → is_blank b ≡ t
    → words_of (drop (position_or_len (λ c. not (is_blank c)) bs) bs) ≡ words_of bs
    → words_of (drop (position_or_len (λ c. not (is_blank c)) (b ∷ bs)) (b ∷ bs)) ≡ words_of (b ∷ bs)
skip_one b bs true h e = rw (h, one-add) (e ∙ sym (words_of-blank b bs h))
skip_one b bs false h e = rw h

-- blanks at the front begin no word
words_of-skip : (text : List ℕ) → words_of (drop (position_or_len (λ b. not (is_blank b)) text) text) ≡ words_of text
words_of-skip [] = refl
words_of-skip (b ∷ bs) = skip_one b bs (is_blank b) refl (words_of-skip bs)

-- blanks alone are no word
pub no_word : (text : List ℕ) → position (λ b. not (is_blank b)) text ≡ None → words_of text ≡ []
unfolding words_of
no_word text e =
    let all : length text ≤ position_or_len (λ b. not (is_blank b)) text = no_place (λ b. not (is_blank b)) text e in
    sym (words_of-skip text) ∙ ap words_of (drop_of_length-le text all)

-- nothing has no word
no_bytes : words_of [] ≡ []
unfolding words_of
no_bytes = refl

-- a part that begins with a byte is a word
one_word : (c : ℕ) (cs : List ℕ) → slice_split is_blank (c ∷ cs) ≡ (c ∷ cs) ∷ [] → words_of (c ∷ cs) ≡ (c ∷ cs) ∷ []
unfolding words_of
one_word c cs e = rw e

word_and_rest : (c : ℕ) (cs rest xs : List ℕ) → slice_split is_blank xs ≡ (c ∷ cs) ∷ slice_split is_blank rest → words_of xs ≡ (c ∷ cs) ∷ words_of rest
unfolding words_of
word_and_rest c cs rest xs e = rw e

-- at a blank the words are those after it
words_of-at_blank : (xs : List ℕ) (i : ℕ) → position is_blank xs ≡ Some i → words_of (drop i xs) ≡ words_of (drop (i + 1) xs)
words_of-at_blank xs i p =
    let k = place_of is_blank xs i p in
    let l : i < length xs = omega arith in
    let blank : is_blank (get_or xs i 0) ≡ true = rw k.0 (passes_at_first is_blank xs 0 k.1) in
    rw (add-one, drop-cons xs i 0 l) (words_of-blank (get_or xs i 0) (drop (suc i) xs) blank)

-- a word up to a blank, or up to the end
word_at_front : (c : ℕ) (cs : List ℕ) (found : Option ℕ) (end : ℕ) → is_blank c ≡ false → position is_blank (c ∷ cs) ≡ found → end ≡ unwrap_or found (length (c ∷ cs))
    → words_of (c ∷ cs) ≡ take end (c ∷ cs) ∷ words_of (drop end (c ∷ cs))
word_at_front c cs None end h p e =
    rw (e, take-length (c ∷ cs), drop-length (c ∷ cs), no_bytes) (one_word c cs (only_part is_blank (c ∷ cs) p))
word_at_front c cs (Some zero) end h p e =
    let k = place_of is_blank (c ∷ cs) zero p in
    let n = rw h at k.0 in absurd (omega (arith, n))
word_at_front c cs (Some (suc i)) end h p e =
    rw (e, words_of-at_blank (c ∷ cs) (suc i) p) (word_and_rest c (take i cs) (drop (suc i + 1) (c ∷ cs)) (c ∷ cs) (first_part is_blank (c ∷ cs) (suc i) p))

is_false : (b : Bool) → not b ≡ true → b ≡ false
is_false true h = cc
is_false false h = refl

-- a byte that is no blank begins a word, which goes up to the next blank
pub first_word : (text rest : List ℕ) (start end : ℕ) → position (λ b. not (is_blank b)) text ≡ Some start → rest ≡ drop start text
    → end ≡ unwrap_or (position is_blank rest) (length rest)
    → words_of text ≡ take end rest ∷ words_of (drop end rest)
first_word text rest start end s r e =
    let k = place_of (λ b. not (is_blank b)) text start s in
    let l : start < length text = omega arith in
    let other : is_blank (get_or text start 0) ≡ false = is_false _ (rw k.0 (passes_at_first (λ b. not (is_blank b)) text 0 k.1)) in
    let cut : rest ≡ get_or text start 0 ∷ drop (suc start) text = r ∙ drop-cons text start 0 l in
    let same : words_of text ≡ words_of rest = rw r (rw k.0 (sym (words_of-skip text))) in
    same ∙ rw cut (word_at_front (get_or text start 0) (drop (suc start) text) (position is_blank (get_or text start 0 ∷ drop (suc start) text)) end other refl (rw cut at e))
