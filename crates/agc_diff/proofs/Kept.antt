-- The last five of a list that grows.
use Rattle.std.proofs.Common.{◌≡◌, ℕ, ◌+◌, ◌-◌, ◌≤◌, List, [], ◌∷◌, ◌++◌, length, drop, ap, sym, ◌∙◌, arith, length-append, length-drop}
use Rattle.std.proofs.lemmas.List.{drop-append-le, drop-drop}
use Rattle.circular_buffer.specs.Buffer.{keep_last}

drop_seam : {A : Type 0} (n k : ℕ) (xs : List A) (x : A) → n ≤ length xs → drop k (drop n xs ++ x ∷ []) ≡ drop (n + k) (xs ++ x ∷ [])
drop_seam n k xs x h = ap (drop k) (sym (drop-append-le n xs (x ∷ []) h)) ∙ drop-drop k n (xs ++ x ∷ [])

-- the last five stay the last five
pub keep_one : {A : Type 0} (xs : List A) (x : A) → keep_last 5 (keep_last 5 xs ++ x ∷ []) ≡ keep_last 5 (xs ++ x ∷ [])
keep_one xs x =
    let a = length-append (drop (length xs - 5) xs) (x ∷ []) in
    let b = length-drop (length xs - 5) xs in
    let c = length-append xs (x ∷ []) in
    drop_seam (length xs - 5) (length (drop (length xs - 5) xs ++ x ∷ []) - 5) xs x (omega arith)
    ∙ ap (λ n. drop n (xs ++ x ∷ [])) (omega (arith, a, b, c))
