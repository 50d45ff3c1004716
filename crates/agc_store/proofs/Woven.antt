-- A rope's view reads as its words do, also after its end.
use Rattle.std.proofs.Common.{◌≡◌, ℕ, ◌≤◌, ◌<◌, List, get_or, take, ◌∙◌, sym, arith, inl, inr}
use Rattle.std.proofs.lemmas.List.{get_or-take, get_or_past, get_or_default, length-take}
use Rattle.std.proofs.lemmas.Bool.{cases_lt}
use Rattle.agc_word.specs.Number.{Number}
use Rattle.agc_store.specs.Memory.{nothing, fixed_at}
use Rattle.agc_store.specs.Rope.{IsWoven}

-- a list whose places from n on read +0 may be cut there
pub get_or-cut : (n : ℕ) (words : List Number) → ((place : ℕ) → n ≤ place → get_or words place nothing ≡ nothing) → (place : ℕ) → get_or (take n words) place nothing ≡ get_or words place nothing
get_or-cut n words empty place =
    elim (cases_lt place n) [
      | inl below ↦ get_or-take n words place nothing below
      | inr past ↦ get_or_past (take n words) place nothing (omega (arith, length-take n words)) ∙ sym (empty place past)
    ]

-- a word that was read from a rope
pub fixed_at_read : (words : List Number) (place : ℕ) (x : Number) → IsWoven words → place < 40960 → x ≡ get_or words place x → x ≡ fixed_at place (take 36864 words)
unfolding fixed_at
fixed_at_read words place x woven inside is =
    is ∙ get_or_default words place x nothing (omega (arith, woven.count)) ∙ sym (get_or-cut 36864 words woven.empty place)
