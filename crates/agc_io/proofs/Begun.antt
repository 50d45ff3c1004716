-- What was written when a write failed is a beginning of the text.
use Rattle.std.proofs.Common.{◌≡◌, ℕ, List, [], ◌∷◌, ◌++◌, Option, true, refl, ap, sym, ◌∙◌, subst, append_assoc, append-nil, take, drop, take-append-drop, arith, ◌-◌, length-drop}
use Rattle.std.specs.Prelude.{Result, Ok, Err, None, Some, OnErr, ◌==◌, length}
use Rattle.std.proofs.lemmas.Bool.Decides.{nat_tests}
use Rattle.std.proofs.lemmas.List.{take_all}
use Rattle.std.specs.Io.KnownBytes.{Appends, Keeps}
use Rattle.std.proofs.KnownBytes.{Appends-kept, Appends-nil, Appends-trans}
use Rattle.agc_io.specs.Output.{IsBegun}

-- nothing was written
pub none_begun : (known : Option (List ℕ)) (text : List ℕ) → IsBegun known known text
none_begun known text = record { written = []; left = text; appends = Appends-nil known; whole = refl }

pub kept_begun : (before after : Option (List ℕ)) (text : List ℕ) → Keeps before after → IsBegun before after text
kept_begun before after text h = record { written = []; left = text; appends = Appends-kept before before after [] (Appends-nil before) h; whole = refl }

-- a part was written
pub part_begun : (before after : Option (List ℕ)) (part rest text : List ℕ) → part ++ rest ≡ text → Appends before after part → IsBegun before after text
part_begun before after part rest text e h = record { written = part; left = rest; appends = h; whole = e }

-- a part was written, and then a beginning of what is left
pub more_begun : (start now new : Option (List ℕ)) (part rest text : List ℕ) → part ++ rest ≡ text → Appends start now part → IsBegun now new rest → IsBegun start new text
more_begun start now new part rest text e h k = record {
  written = part ++ k.written;
  left = k.left;
  appends = Appends-trans start now new part k.written h k.appends;
  whole = append_assoc part k.written k.left ∙ ap (λ (xs : List ℕ). part ++ xs) k.whole ∙ e;
}

-- a beginning of the first part
pub first_begun : (before after : Option (List ℕ)) (part rest text : List ℕ) → part ++ rest ≡ text → IsBegun before after part → IsBegun before after text
first_begun before after part rest text e h = record {
  written = h.written;
  left = h.left ++ rest;
  appends = h.appends;
  whole = sym (append_assoc h.written h.left rest) ∙ ap (λ (xs : List ℕ). xs ++ rest) h.whole ∙ e;
}

-- what was written so far, and then the rest, are the text
abbrev pub IsPart : Option (List ℕ) → Option (List ℕ) → List ℕ → List ℕ → Type 0
IsPart start now rest text = (part : List ℕ) × Appends start now part × (part ++ rest ≡ text)

-- nothing is left
pub whole_written : (start now : Option (List ℕ)) (rest text : List ℕ) → (length rest == 0) ≡ true → IsPart start now rest text → Appends start now text
whole_written start now [] text e h = subst (λ (xs : List ℕ). Appends start now xs) (sym (append-nil h.0) ∙ h.2) h.1
whole_written start now (x ∷ xs) text e h = let none : length (x ∷ xs) ≡ 0 = grind (arith, nat_tests) in absurd (omega (arith, none))

-- the first bytes of the rest were written
pub front_written : (start now new : Option (List ℕ)) (n : ℕ) (rest text : List ℕ) → IsPart start now rest text → Appends now new (take n rest) →
    IsPart start new (take (length rest - n) (drop n rest)) text
front_written start now new n rest text h k =
    let tail : take (length rest - n) (drop n rest) ≡ drop n rest = take_all (length rest - n) (drop n rest) (omega (arith, length-drop n rest)) in (
      h.0 ++ take n rest,
      Appends-trans start now new h.0 (take n rest) h.1 k,
      append_assoc h.0 (take n rest) (take (length rest - n) (drop n rest))
          ∙ ap (λ (xs : List ℕ). h.0 ++ (take n rest ++ xs)) tail ∙ ap (λ (xs : List ℕ). h.0 ++ xs) (take-append-drop n rest) ∙ h.2,
    )

-- no byte was written
pub no_byte : (before after : Option (List ℕ)) (n : ℕ) (bytes : List ℕ) → n ≡ 0 → Appends before after (take n bytes) → Keeps before after
no_byte None after n bytes e h = tt
no_byte (Some xs) None n bytes e h = absurd h
no_byte (Some xs) (Some ys) n bytes e h = h ∙ ap (λ (k : ℕ). xs ++ take k bytes) e ∙ append-nil xs

pub no_byte_taken : (before after : Option (List ℕ)) (bytes : List ℕ) → Keeps before after → Appends before after (take 0 bytes)
no_byte_taken before after bytes h = Appends-kept before before after [] (Appends-nil before) h

-- nothing more was written
pub none_more : (start now new : Option (List ℕ)) (rest text : List ℕ) → IsPart start now rest text → Keeps now new → IsPart start new rest text
none_more start now new rest text h k = (h.0, Appends-kept start now new h.0 h.1 k, h.2)

pub begun_by_part : (start now : Option (List ℕ)) (rest text : List ℕ) → IsPart start now rest text → IsBegun start now text
begun_by_part start now rest text h = record { written = h.0; left = rest; appends = h.1; whole = h.2 }

-- the same text
pub begun_as : (before after : Option (List ℕ)) (text same : List ℕ) → text ≡ same → IsBegun before after text → IsBegun before after same
begun_as before after text same e h = subst (λ (xs : List ℕ). IsBegun before after xs) e h

-- a property on Err implies a weaker one
pub on_err : {X Y A B : Type 0} (r : Result X Y) → (A → B) → OnErr r A → OnErr r B
on_err (Ok x) f h = tt
on_err (Err y) f h = f h

pub any_err : {X Y A : Type 0} (r : Result X Y) → A → OnErr r A
any_err (Ok x) h = tt
any_err (Err y) h = h
