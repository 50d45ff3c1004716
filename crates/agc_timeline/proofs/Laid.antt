-- Lines that replace those with their names.
use Rattle.std.proofs.Common.{◌≡◌, Bool, true, false, List, [], ◌∷◌, ℕ, refl, ap, sym, ◌∙◌}
use Rattle.std.specs.Prelude.{fold, map, not, ◌&&◌, if◌then◌else◌}
use Rattle.std.specs.Str.{bytes_eq}
use Rattle.std.proofs.lemmas.Bool.Decides.{not_from_Decides}
use Rattle.std.proofs.lemmas.Slice.Eq.{bytes_eq-Decides}
use Rattle.agc_timeline.specs.Lines.{changed_lines}
use Rattle.agc_timeline.specs.Printed.{entry_name, with_line}

-- a name is not one of these
abbrev pub is_apart : List ℕ → List (List ℕ) → Bool
is_apart name [] = true
is_apart name (other ∷ names) = not (bytes_eq other name) && is_apart name names

-- no name occurs twice
abbrev pub are_apart : List (List ℕ) → Bool
are_apart [] = true
are_apart (name ∷ names) = is_apart name names && are_apart names

both : (a b : Bool) → (a && b) ≡ true → (a ≡ true) × (b ≡ true)
both true true e = (refl, refl)
both true false e = cc
both false b e = cc

not_true : (b : Bool) → not b ≡ true → b ≡ false
not_true true e = cc
not_true false e = refl

-- a line with another name leaves lines as they are
others_stay : (lines : List (List ℕ)) (line : List ℕ) → is_apart (entry_name line) (map entry_name lines) ≡ true → with_line lines line ≡ lines
unfolding with_line
others_stay [] line h = refl
others_stay (old ∷ lines) line h =
    let parts = both (not (bytes_eq (entry_name old) (entry_name line))) (is_apart (entry_name line) (map entry_name lines)) h in
    let other : bytes_eq (entry_name old) (entry_name line) ≡ false = not_true (bytes_eq (entry_name old) (entry_name line)) parts.0 in
    ap (λ (b : Bool). (if b then line else old) ∷ with_line lines line) other ∙ ap (λ (ls : List (List ℕ)). old ∷ ls) (others_stay lines line parts.1)

-- a line in place of the first one
first_laid : (old line : List ℕ) (lines : List (List ℕ)) → entry_name old ≡ entry_name line → is_apart (entry_name line) (map entry_name lines) ≡ true →
    with_line (old ∷ lines) line ≡ line ∷ lines
unfolding with_line
first_laid old line lines e h =
    let same : bytes_eq (entry_name old) (entry_name line) ≡ true = (bytes_eq-Decides (entry_name old) (entry_name line)).1 e in
    ap (λ (b : Bool). (if b then line else old) ∷ with_line lines line) same ∙ ap (λ (ls : List (List ℕ)). line ∷ ls) (others_stay lines line h)

-- lines with other names leave the first one as it is
abbrev pub names_apart : List ℕ → List (List ℕ) → Bool
names_apart first lines = is_apart first (map entry_name lines)

false_by : (b : Bool) → (b ≡ true → ⊥) → b ≡ false
false_by true f = absurd (f refl)
false_by false f = refl

apart_back : (a b : List ℕ) → not (bytes_eq a b) ≡ true → bytes_eq b a ≡ false
apart_back a b h =
    let differ = not_from_Decides _ (bytes_eq-Decides a b) (not_true (bytes_eq a b) h) in
    false_by (bytes_eq b a) (λ e. differ (sym ((bytes_eq-Decides b a).0 e)))

one_past_first : (first : List ℕ) (lines : List (List ℕ)) (line : List ℕ) → not (bytes_eq (entry_name line) (entry_name first)) ≡ true →
    with_line (first ∷ lines) line ≡ first ∷ with_line lines line
unfolding with_line
one_past_first first lines line h =
    ap (λ (b : Bool). (if b then line else first) ∷ with_line lines line) (apart_back (entry_name line) (entry_name first) h)

first_stays : (first : List ℕ) (lines news : List (List ℕ)) → names_apart (entry_name first) news ≡ true →
    fold with_line (first ∷ lines) news ≡ first ∷ fold with_line lines news
first_stays first lines [] h = refl
first_stays first lines (line ∷ news) h =
    let parts = both (not (bytes_eq (entry_name line) (entry_name first))) (names_apart (entry_name first) news) h in
    ap (λ (ls : List (List ℕ)). fold with_line ls news) (one_past_first first lines line parts.0)
    ∙ first_stays first (with_line lines line) news parts.1

-- lines that changed have the names of all
changed_by : (b : Bool) (one line : List ℕ) (news rest : List (List ℕ)) → names_apart one (line ∷ news) ≡ true → names_apart one rest ≡ true →
    names_apart one (if b then rest else line ∷ rest) ≡ true
changed_by true one line news rest h k = k
changed_by false one line news rest h k =
    let parts = both (not (bytes_eq (entry_name line) one)) (names_apart one news) h in
    ap (λ (a : Bool). a && names_apart one rest) parts.0 ∙ k

changed_apart : (one : List ℕ) (olds news : List (List ℕ)) → names_apart one news ≡ true → names_apart one (changed_lines olds news) ≡ true
unfolding changed_lines
changed_apart one olds [] h = refl
changed_apart one [] (line ∷ news) h = h
changed_apart one (old ∷ olds) (line ∷ news) h =
    let parts = both (not (bytes_eq (entry_name line) one)) (names_apart one news) h in
    changed_by (bytes_eq old line) one line news (changed_lines olds news) h (changed_apart one olds news parts.1)

-- a line is there afterwards, whether it changed or not
one_laid : (b : Bool) (old line : List ℕ) (olds rest : List (List ℕ)) → entry_name old ≡ entry_name line → (b ≡ true → old ≡ line) →
    names_apart (entry_name line) olds ≡ true → names_apart (entry_name line) rest ≡ true →
    fold with_line (old ∷ olds) (if b then rest else line ∷ rest) ≡ line ∷ fold with_line olds rest
one_laid true old line olds rest e f h k =
    ap (λ (first : List ℕ). fold with_line (first ∷ olds) rest) (f refl) ∙ first_stays line olds rest k
one_laid false old line olds rest e f h k =
    ap (λ (ls : List (List ℕ)). fold with_line ls rest) (first_laid old line olds e h) ∙ first_stays line olds rest k

-- the changed lines of a text, put in place of those before, give its lines
pub laid : (olds news : List (List ℕ)) → map entry_name olds ≡ map entry_name news → are_apart (map entry_name news) ≡ true →
    fold with_line olds (changed_lines olds news) ≡ news
unfolding changed_lines
laid [] [] e h = refl
laid [] (line ∷ news) e h = cc
laid (old ∷ olds) [] e h = cc
laid (old ∷ olds) (line ∷ news) e h =
    let parts = both (is_apart (entry_name line) (map entry_name news)) (are_apart (map entry_name news)) h in
    let first : entry_name old ≡ entry_name line = cc in
    let names : map entry_name olds ≡ map entry_name news = cc in
    let olds_apart : names_apart (entry_name line) olds ≡ true = ap (is_apart (entry_name line)) names ∙ parts.0 in
    one_laid (bytes_eq old line) old line olds (changed_lines olds news) first (bytes_eq-Decides old line).0 olds_apart
    (changed_apart (entry_name line) olds news parts.0)
    ∙ ap (λ (ls : List (List ℕ)). line ∷ ls) (laid olds news names parts.1)
