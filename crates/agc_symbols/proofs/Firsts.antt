-- The first of the names at a number.
use Rattle.std.proofs.Common.{◌≡◌, ℕ, ◌+◌, ◌≤◌, ◌<◌, List, [], ◌∷◌, ◌++◌, length, take, get_or, Option, Some, None, Bool, sym, ap, ◌∙◌, cond, ◌==◌, add-one, arith, length-append}
use Rattle.std.specs.Prelude.{if◌then◌else◌, nat_lt, option_map, slice_get}
use Rattle.std.specs.List.{find, position, position_or_len}
use Rattle.std.proofs.Math.Seq.{take-suc}
use Rattle.std.proofs.lemmas.Bool.Decides.{nat_tests}
use Rattle.std.proofs.lemmas.List.{length-take-le}
use Rattle.std.proofs.lemmas.Option.{slice_get-get_or, slice_get_past}
use Rattle.std.proofs.lemmas.List.Folds.{find_at, position_or_len_push}
use Rattle.std.proofs.lemmas.List.Sums.{prefix_len-le-length}
use Rattle.agc_symbols.specs.Symbols.{Symbol}
use Rattle.agc_symbols.specs.Index.{AreFirst, first_or, number_of, stands_at}

push_by : (b : Bool) (n len : ℕ) → n ≤ len
    → cond (nat_lt (cond (n == len) (len + cond b 0 1) n) (len + 1)) (Some (cond (n == len) (len + cond b 0 1) n)) None
    ≡ cond b (first_or (cond (nat_lt n len) (Some n) None) len) (cond (nat_lt n len) (Some n) None)
push_by b n len l = grind (arith, nat_tests)

-- one more name
pub position_push : (p : Symbol → Bool) (names : List Symbol) (named : Symbol)
    → position p (names ++ named ∷ []) ≡ cond (p named) (first_or (position p names) (length names)) (position p names)
position_push p names named =
    rw (position_or_len_push p names named, length-append names (named ∷ []))
    (push_by (p named) (position_or_len p names) (length names) (prefix_len-le-length _ names))

-- the names so far and the next one
pub first_more : (first more : List (Option ℕ)) (names : List Symbol) (i : ℕ) (here : Symbol) (number : ℕ) → i < length names → here ≡ get_or names i here → number ≡ number_of here.place
    → AreFirst first (take i names) → ((k : ℕ) → get_or more k None ≡ (if number == k then first_or (get_or first k None) i else get_or first k None)) → AreFirst more (take (i + 1) names)
first_more first more names i here number l is at h new = λ k.
    new k
    ∙ ap (λ (f : Option ℕ). if number == k then first_or f i else f) (h k)
    ∙ ap (λ (n : ℕ). if n == k then first_or (position (stands_at k) (take i names)) i else position (stands_at k) (take i names)) at
    ∙ ap (λ (n : ℕ). cond (stands_at k here) (first_or (position (stands_at k) (take i names)) n) (position (stands_at k) (take i names))) (sym (length-take-le i names (omega arith)))
    ∙ sym (position_push (stands_at k) (take i names) here)
    ∙ ap (λ (n : Symbol). position (stands_at k) (take i names ++ n ∷ [])) is
    ∙ ap (λ (ns : List Symbol). position (stands_at k) ns) (sym (rw add-one (take-suc names i here l)))

found_by : (n len i : ℕ) → cond (nat_lt n len) (Some n) None ≡ Some i → (i < len) × (n ≡ i)
found_by n len i e = grind (arith, nat_tests)

-- the name at the first index is the one that is found
pub find_first : (p : Symbol → Bool) (names : List Symbol) (i : ℕ) (d : Symbol) → position p names ≡ Some i → (i < length names) × (find p names ≡ Some (get_or names i d))
find_first p names i d e =
    let h = found_by (position_or_len p names) (length names) i e in
    (h.0, find_at p names ∙ ap (λ (n : ℕ). slice_get names n) h.1 ∙ slice_get-get_or names i d h.0)

past_by : (n len : ℕ) → cond (nat_lt n len) (Some n) None ≡ None → len ≤ n
past_by n len e = grind (arith, nat_tests)

-- if there is no index, no name is found
pub find_none : (p : Symbol → Bool) (names : List Symbol) → position p names ≡ None → find p names ≡ None
find_none p names e = find_at p names ∙ slice_get_past names (position_or_len p names) (past_by (position_or_len p names) (length names) e)

-- the name that a table finds, and when it finds none
pub first_is : (first : List (Option ℕ)) (names self : List Symbol) (number index : ℕ) (named : Symbol) (name : List ℕ) → AreFirst first names → names ≡ self
    → get_or first number None ≡ Some index → named ≡ get_or names index named → name ≡ named.name → Some name ≡ option_map (λ n. n.name) (find (stands_at number) self)
first_is first names self number index named name are same at is called =
    let found = find_first (stands_at number) names index named (sym (are number) ∙ at) in
    ap (λ (n : List ℕ). Some n) called ∙ ap (λ (n : Symbol). Some n.name) is
    ∙ sym (ap (λ (n : Option Symbol). option_map (λ (n : Symbol). n.name) n) found.1)
    ∙ ap (λ (ns : List Symbol). option_map (λ (n : Symbol). n.name) (find (stands_at number) ns)) same

pub none_is : (first : List (Option ℕ)) (names self : List Symbol) (number : ℕ) → AreFirst first names → names ≡ self
    → get_or first number None ≡ None → None ≡ option_map (λ (n : Symbol). n.name) (find (stands_at number) self)
none_is first names self number are same at =
    sym (ap (λ (n : Option Symbol). option_map (λ (n : Symbol). n.name) n) (find_none (stands_at number) names (sym (are number) ∙ at)))
    ∙ ap (λ (ns : List Symbol). option_map (λ (n : Symbol). n.name) (find (stands_at number) ns)) same
