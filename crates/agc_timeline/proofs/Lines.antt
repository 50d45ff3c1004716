-- The lines of a text one by one, and what is printed of them.
use Rattle.std.proofs.Common.{◌≡◌, ℕ, suc, ◌+◌, ◌<◌, List, [], ◌∷◌, ◌++◌, length, length-drop, drop, take, Bool, true, false, refl, ap, sym, ◌∙◌, append_assoc, append-nil, arith, Option}
use Rattle.std.specs.Prelude.{if◌then◌else◌, cond, flat_map, not, ◌==◌}
use Rattle.std.specs.List.{after_first, before_first, position_or_len}
use Rattle.std.specs.Str.{bytes_eq}
use Rattle.agc_symbols.specs.Symbols.{Symbol}
use Rattle.agc_timeline.specs.Lines.{changed_lines, line_at, lines_at, lines_in, onto_first}

abbrev pub is_feed : ℕ → Bool
is_feed b = b == 10

-- the place of the first line feed in a text with one more byte in front, which may be one itself
abbrev place_by : Bool → List ℕ → ℕ
place_by c bs = cond (not c) (1 + position_or_len is_feed bs) 0

one_first : (n : ℕ) → 1 + n ≡ suc n
one_first n = omega arith

one_more : (n : ℕ) → suc n + 1 ≡ suc (n + 1)
one_more n = omega arith

first_by : (c : Bool) (b : ℕ) (bs : List ℕ) →
    (c ≡ false → lines_in bs ≡ before_first is_feed bs ∷ lines_in (after_first is_feed bs)) →
    (if c then [] ∷ lines_in bs else onto_first b (lines_in bs)) ≡ take (place_by c bs) (b ∷ bs) ∷ lines_in (drop (place_by c bs + 1) (b ∷ bs))
first_by true b bs h = refl
first_by false b bs h = rw (one_first (position_or_len is_feed bs), one_more (position_or_len is_feed bs)) (ap (onto_first b) (h refl))

shorter_by : (c : Bool) (b : ℕ) (bs : List ℕ) → c ≡ false → place_by c bs < length (b ∷ bs) → position_or_len is_feed bs < length bs
shorter_by true b bs e l = cc
shorter_by false b bs e l = omega (arith, l)

-- a text with a line feed is its first line, and the lines after it
pub first_is_line : (text : List ℕ) → position_or_len is_feed text < length text →
    lines_in text ≡ before_first is_feed text ∷ lines_in (after_first is_feed text)
unfolding lines_in
first_is_line [] l = absurd (omega (arith, l))
first_is_line (b ∷ bs) l = first_by (is_feed b) b bs (λ e. first_is_line bs (shorter_by (is_feed b) b bs e l))

last_by : (c : Bool) (b : ℕ) (bs : List ℕ) → place_by c bs ≡ length (b ∷ bs) →
    (position_or_len is_feed bs ≡ length bs → onto_first b (lines_in bs) ≡ (b ∷ bs) ∷ []) →
    (if c then [] ∷ lines_in bs else onto_first b (lines_in bs)) ≡ (b ∷ bs) ∷ []
last_by true b bs e h = absurd (omega (arith, e))
last_by false b bs e h = h (omega (arith, e))

-- a text without one is one line
unended : (b : ℕ) (bs : List ℕ) → position_or_len is_feed (b ∷ bs) ≡ length (b ∷ bs) → lines_in (b ∷ bs) ≡ (b ∷ bs) ∷ []
unfolding lines_in
unended b [] e = last_by (is_feed b) b [] e (λ _. refl)
unended b (x ∷ xs) e = last_by (is_feed b) b (x ∷ xs) e (λ f. ap (onto_first b) (unended x xs f))

pub no_line : (text : List ℕ) → text ≡ [] → lines_in text ≡ []
unfolding lines_in
no_line text e = rw e refl

pub only_line : (text : List ℕ) → position_or_len is_feed text ≡ length text → 0 < length text → lines_in text ≡ text ∷ lines_in []
only_line [] e l = absurd (omega (arith, l))
only_line (b ∷ bs) e l = unended b bs e ∙ ap (λ (lines : List (List ℕ)). (b ∷ bs) ∷ lines) (sym (no_line [] refl))

pub shorter_after : (text : List ℕ) → position_or_len is_feed text < length text → length (after_first is_feed text) < length text
shorter_after text l = omega (arith, length-drop (position_or_len is_feed text + 1) text)

-- What is printed of lines one by one.
both_by : (names : Option (List Symbol)) (b : Bool) (cycle : ℕ) (line text : List ℕ) (lines : List (List ℕ)) →
    (text ++ (if b then [] else line_at names cycle line)) ++ flat_map (line_at names cycle) lines ≡ text ++ flat_map (line_at names cycle) (if b then lines else line ∷ lines)
both_by names true cycle line text lines = ap (λ (front : List ℕ). front ++ flat_map (line_at names cycle) lines) (append-nil text)
both_by names false cycle line text lines = append_assoc text (line_at names cycle line) (flat_map (line_at names cycle) lines)

pub both_pushed : (names : Option (List Symbol)) (cycle : ℕ) (old line text new : List ℕ) (olds lines befores afters : List (List ℕ)) → befores ≡ old ∷ olds → afters ≡ line ∷ lines →
    new ≡ text ++ (if bytes_eq old line then [] else line_at names cycle line) → new ++ lines_at names cycle olds lines ≡ text ++ lines_at names cycle befores afters
unfolding changed_lines
both_pushed names cycle old line text new olds lines befores afters b a e =
    rw (b, a, e) (both_by names (bytes_eq old line) cycle line text (changed_lines olds lines))

all_new : (lines : List (List ℕ)) → changed_lines [] lines ≡ lines
unfolding changed_lines
all_new [] = refl
all_new (line ∷ lines) = refl

pub new_pushed : (names : Option (List Symbol)) (cycle : ℕ) (line text new : List ℕ) (lines befores afters : List (List ℕ)) → befores ≡ [] → afters ≡ line ∷ lines →
    new ≡ text ++ line_at names cycle line → new ++ lines_at names cycle befores lines ≡ text ++ lines_at names cycle befores afters
new_pushed names cycle line text new lines befores afters b a e =
    rw (b, a, e)
    (ap (λ (reported : List (List ℕ)). (text ++ line_at names cycle line) ++ flat_map (line_at names cycle) reported) (all_new lines)
    ∙ append_assoc text (line_at names cycle line) (flat_map (line_at names cycle) lines)
    ∙ ap (λ (reported : List (List ℕ)). text ++ flat_map (line_at names cycle) reported) (sym (all_new (line ∷ lines))))

pub none_pushed : (names : Option (List Symbol)) (cycle : ℕ) (text : List ℕ) (befores afters : List (List ℕ)) → afters ≡ [] → text ≡ text ++ lines_at names cycle befores afters
unfolding changed_lines
none_pushed names cycle text befores afters a = rw a (sym (append-nil text))

pub line_of_whole : (text : List ℕ) → position_or_len is_feed text ≡ length text → 0 < length text → (line rest : List ℕ) → line ≡ text → rest ≡ [] →
    lines_in text ≡ line ∷ lines_in rest
line_of_whole text e l line rest f g = rw (f, g) (only_line text e l)
