-- A list with a given entry at each position.
use Rattle.std.proofs.Common.{◌≡◌, ◌∙◌, ◌<◌, ◌≤◌, ℕ, List, arith, get_or, length, map, sym, take}
use Rattle.std.specs.List.{range_with_len}
use Rattle.std.proofs.lemmas.List.{ext_get_or, get_or-take, length-take-le, take_all}
use Rattle.std.proofs.lemmas.List.FromFn.{get_or-map-range_with_len, length-map-range_with_len}
use Rattle.agc_panel.specs.Tables.{entries}

-- its first entries
pub filled : {A : Type 0} (d : A) (n : ℕ) (entry : ℕ → A) (xs : List A) → n ≤ length xs
    → ((k : ℕ) → k < n → get_or xs k d ≡ entry k) → take n xs ≡ entries n entry
unfolding entries
filled d n entry xs long each =
    let same = λ (k : ℕ) (h : k < length (take n xs)).
    let below : k < n = omega (arith, length-take-le n xs long) in
    get_or-take n xs k d below ∙ each k below ∙ sym (get_or-map-range_with_len entry 0 n k k d below (omega arith)) in
    ext_get_or d (take n xs) (map entry (range_with_len 0 n)) (length-take-le n xs long ∙ sym (length-map-range_with_len entry 0 n)) same

-- all of it
pub filled_up : {A : Type 0} (d : A) (n : ℕ) (entry : ℕ → A) (xs : List A) → length xs ≡ n
    → ((k : ℕ) → k < n → get_or xs k d ≡ entry k) → xs ≡ entries n entry
filled_up d n entry xs long each = sym (take_all n xs (omega arith)) ∙ filled d n entry xs (omega arith) each
