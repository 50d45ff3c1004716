-- The key ring: the keys taken are on the tape, and the others are left.
use Rattle.std.proofs.Common.{◌≡◌, ℕ, ◌+◌, ◌-◌, ◌≤◌, ◌<◌, suc, zero, List, [], ◌∷◌, ◌++◌, length, take, drop, Bool, false, refl, ap, sym, ◌∙◌, subst}
use Rattle.std.proofs.lemmas.List.{append_assoc}
use Rattle.std.specs.Prelude.{map, slice_get, IfSome}
use Rattle.agc_script.specs.declared.key.Key.{Key}
use Rattle.agc_machine.specs.Taken.{AreApart}
use Rattle.agc_machine.proofs.Taken.{apart_snoc}
use Rattle.agc_pipe.specs.Keys.{key_in}

-- what a taker keeps: its keys are far enough apart, and while the tape has memory they are those received
abbrev pub Keeps : ℕ → List (ℕ × Key) → Bool → List Key → Type 0
Keeps spacing tape refused received = (0 < spacing) × AreApart spacing tape × (refused ≡ false → map key_in tape ≡ received)

pub keeps_nothing : (spacing : ℕ) (tape : List (ℕ × Key)) (received : List Key) → 0 < spacing → tape ≡ [] → received ≡ [] →
    Keeps spacing tape false received
unfolding AreApart
keeps_nothing spacing tape received s e f =
    (s, subst (AreApart spacing) (sym e) tt, λ h. ap (λ (t : List (ℕ × Key)). map key_in t) e ∙ sym f)

keys_snoc : (tape : List (ℕ × Key)) (entry : ℕ × Key) → map key_in (tape ++ entry ∷ []) ≡ map key_in tape ++ entry.1 ∷ []
keys_snoc [] entry = refl
keys_snoc (first ∷ tape) entry = ap (λ (keys : List Key). first.1 ∷ keys) (keys_snoc tape entry)

pub keeps_key : (spacing : ℕ) (tape longer : List (ℕ × Key)) (refused : Bool) (received more : List Key) (cycle : ℕ) (key : Key) →
    Keeps spacing tape refused received → IfSome (slice_get tape (length tape - 1)) (λ last. last.0 + spacing ≤ cycle) →
    longer ≡ tape ++ (cycle, key) ∷ [] → more ≡ received ++ key ∷ [] → Keeps spacing longer refused more
keeps_key spacing tape longer refused received more cycle key h far e f = (
  h.0,
  subst (AreApart spacing) (sym e) (apart_snoc spacing tape (cycle, key) h.1 far),
  λ kept. ap (λ (t : List (ℕ × Key)). map key_in t) e ∙ keys_snoc tape (cycle, key) ∙ ap (λ (keys : List Key). keys ++ key ∷ []) (h.2 kept) ∙ sym f,
)

drop_first : (front after : List Key) → drop (length front) (front ++ after) ≡ after
drop_first [] after = refl
drop_first (key ∷ front) after = drop_first front after

length_keys : (tape : List (ℕ × Key)) → length (map key_in tape) ≡ length tape
length_keys [] = refl
length_keys (entry ∷ tape) = ap suc (length_keys tape)

take_and_drop : (n : ℕ) (keys : List Key) → take n keys ++ drop n keys ≡ keys
take_and_drop zero keys = refl
take_and_drop (suc n) [] = refl
take_and_drop (suc n) (key ∷ keys) = ap (λ (rest : List Key). key ∷ rest) (take_and_drop n keys)

-- the tape's keys and those left after as many are the caller's keys
pub no_key_is_lost : (tape : List (ℕ × Key)) (keys received left rest : List Key) (fed : ℕ) → map key_in tape ≡ received →
    received ++ left ≡ take fed keys → rest ≡ drop (length tape) keys → map key_in tape ++ rest ≡ keys
no_key_is_lost tape keys received left rest fed e f g =
    let all : keys ≡ map key_in tape ++ (left ++ drop fed keys) =
    sym (take_and_drop fed keys) ∙ ap (λ (front : List Key). front ++ drop fed keys) (sym f) ∙ append_assoc received left (drop fed keys)
    ∙ ap (λ (front : List Key). front ++ (left ++ drop fed keys)) (sym e) in
    let after : rest ≡ left ++ drop fed keys =
    g ∙ ap (λ (n : ℕ). drop n keys) (sym (length_keys tape)) ∙ ap (drop (length (map key_in tape))) all ∙ drop_first (map key_in tape) (left ++ drop fed keys) in
    ap (λ (r : List Key). map key_in tape ++ r) after ∙ sym all
