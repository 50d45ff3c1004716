-- Keys one after another, as long as all are present.
use Rattle.std.proofs.Common.{◌≡◌, ◌<◌, ◌+◌, ◌∙◌, ℕ, suc, List, [], ◌∷◌, ◌++◌, length, get_or, take, drop, drop-cons, take-append-drop, refl, ap, subst, sym}
use Rattle.std.proofs.lemmas.List.{take_more}
use Rattle.std.specs.Prelude.{Option, Some, None}
use Rattle.agc_script.specs.declared.key.Key.{Key}
use Rattle.agc_load.specs.Keys.{all_there}

-- what one key before others changes
first_more : (first key : Key) (found : List (Option Key)) (keys : List Key) (there : Option (List Key)) → all_there found ≡ there
    → ((all : List Key) → all_there found ≡ Some all → all_there (found ++ Some key ∷ []) ≡ Some (all ++ key ∷ []))
    → all_there (Some first ∷ found) ≡ Some keys → all_there (Some first ∷ (found ++ Some key ∷ [])) ≡ Some (keys ++ key ∷ [])
unfolding all_there
first_more first key found keys None e more h = let bad = rw e at h in cc
first_more first key found keys (Some all) e more h =
    let whole = rw e at h in
    let same : first ∷ all ≡ keys = cc in
    rw (more all e, ← same) refl

first_none : (first : Key) (found later : List (Option Key)) (keys : List Key) (there : Option (List Key)) → all_there found ≡ there
    → ((all : List Key) → all_there found ≡ Some all → all_there (found ++ None ∷ later) ≡ None)
    → all_there (Some first ∷ found) ≡ Some keys → all_there (Some first ∷ (found ++ None ∷ later)) ≡ None
unfolding all_there
first_none first found later keys None e none h = let bad = rw e at h in cc
first_none first found later keys (Some all) e none h = rw (none all e) refl

-- one more key
pub there_more : (found : List (Option Key)) (keys : List Key) (key : Key) → all_there found ≡ Some keys → all_there (found ++ Some key ∷ []) ≡ Some (keys ++ key ∷ [])
unfolding all_there
there_more [] keys key h =
    let none : [] ≡ keys = cc in
    rw (← none) refl
there_more (None ∷ found) keys key h = cc
there_more (Some first ∷ found) keys key h = first_more first key found keys (all_there found) refl (λ all e. there_more found all key e) h

-- a key that is missing, whatever follows
pub there_none : (found later : List (Option Key)) (keys : List Key) → all_there found ≡ Some keys → all_there (found ++ None ∷ later) ≡ None
unfolding all_there
there_none [] later keys h = refl
there_none (None ∷ found) later keys h = cc
there_none (Some first ∷ found) later keys h = first_none first found later keys (all_there found) refl (λ all e. there_none found later all e) h

-- the same at a position in a list
pub there_more_at : (found : List (Option Key)) (place : ℕ) (keys : List Key) (key : Key) → place < length found → all_there (take place found) ≡ Some keys
    → get_or found place None ≡ Some key → all_there (take (place + 1) found) ≡ Some (keys ++ key ∷ [])
there_more_at found place keys key h e is = rw (take_more found place None h, is) (there_more (take place found) keys key e)

pub there_none_at : (found : List (Option Key)) (place : ℕ) (keys : List Key) → place < length found → all_there (take place found) ≡ Some keys
    → get_or found place None ≡ None → all_there found ≡ None
there_none_at found place keys h e is =
    let rest : drop place found ≡ None ∷ drop (suc place) found = drop-cons found place None h ∙ ap (λ (key : Option Key). key ∷ drop (suc place) found) is in
    let whole : take place found ++ None ∷ drop (suc place) found ≡ found =
    ap (λ (later : List (Option Key)). take place found ++ later) (sym rest) ∙ take-append-drop place found in
    subst (λ (all : List (Option Key)). all_there all ≡ None) whole (there_none (take place found) (drop (suc place) found) keys e)
