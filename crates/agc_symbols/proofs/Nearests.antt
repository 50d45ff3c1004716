-- The nearest name: what it is, and that a search downwards from the place finds it.
use Rattle.std.proofs.Common.{◌≡◌, ℕ, ◌+◌, ◌-◌, ◌*◌, ◌%◌, ◌≤◌, ◌<◌, List, [], ◌∷◌, ◌++◌, Option, Some, None, Bool, true, false, refl, ap, inl, inr, ◌⊎◌, sym, ◌∙◌, subst, min, cond, ◌==◌, arith}
use Rattle.std.specs.Prelude.{if◌then◌else◌, nat_lt, MatchOption, find, option_map}
use borrow.Author.Count.{below_more}
use Rattle.std.proofs.lemmas.Bool.Decides.{nat_tests}
use Rattle.agc_listing.specs.declared.location.Location.{Location}
use Rattle.agc_listing.specs.declared.location.Location.TheVariants as location
use Rattle.agc_symbols.specs.Symbols.{Symbol}
use Rattle.agc_symbols.specs.Index.{number_of, room_below, stands_at}
use Rattle.agc_symbols.specs.Nearest.{AllAbove, IsAbove, IsNearest, IsNotBelow, Nearby, NoneBelow, NoneReaches, beyond, beyond_in, nearby, nearer, nearest}

-- distances by numbers

fixed_within : (from at d : ℕ) → beyond_in 0o2000 from at ≡ Some d → (from + d ≡ at) × (d ≤ min (at % 0o2000) 0o100)
fixed_within from at d e = grind (arith, nat_tests)

fixed_stands : (from at d : ℕ) → from + d ≡ at → d ≤ min (at % 0o2000) 0o100 → beyond_in 0o2000 from at ≡ Some d
fixed_stands from at d e l = grind (arith, nat_tests)

cell_within : (from at d : ℕ) → beyond_in 0o400 from at ≡ Some d → (from + d ≡ at) × (d ≤ min (at % 0o400) 0o100)
cell_within from at d e = grind (arith, nat_tests)

cell_stands : (from at d : ℕ) → from + d ≡ at → d ≤ min (at % 0o400) 0o100 → beyond_in 0o400 from at ≡ Some d
cell_stands from at d e l = grind (arith, nat_tests)

-- a name this far below has this number
reaches : (from at : Location) (d : ℕ) → beyond from at ≡ Some d → (d ≤ room_below at) × (number_of from ≡ number_of at - 2 * d)
reaches (location.Fixed from) (location.Fixed at) d e = let h = fixed_within from at d e in (h.1, omega arith)
reaches (location.Erasable from) (location.Erasable at) d e = let h = cell_within from at d e in (h.1, omega arith)
reaches (location.Fixed from) (location.Erasable at) d e = absurd cc
reaches (location.Erasable from) (location.Fixed at) d e = absurd cc

-- and a name with this number is this far below
stands : (from at : Location) (d : ℕ) → d ≤ room_below at → number_of from ≡ number_of at - 2 * d → beyond from at ≡ Some d
stands (location.Fixed from) (location.Fixed at) d l e = fixed_stands from at d (omega arith) l
stands (location.Erasable from) (location.Erasable at) d l e = cell_stands from at d (omega arith) l
stands (location.Fixed from) (location.Erasable at) d l e = absurd (omega arith)
stands (location.Erasable from) (location.Fixed at) d l e = absurd (omega arith)

-- no name is nearer than this many words below a place
abbrev pub NoneNearer : List Symbol → Location → ℕ → Type 0
NoneNearer names at least = (d : ℕ) → d < least → find (stands_at (number_of at - 2 * d)) names ≡ None

split_none : (b : Bool) (named : Symbol) (rest : Option Symbol) → cond b (Some named) rest ≡ None → (b ≡ false) × (rest ≡ None)
split_none true named rest e = absurd cc
split_none false named rest e = (refl, e)

same_number : (a b : ℕ) → a ≡ b → (a == b) ≡ false → ⊥
same_number a b e f = grind (arith, nat_tests)

module _ (named : Symbol) (names : List Symbol) (at : Location) where
  none_in_rest : (least : ℕ) → NoneNearer (named ∷ names) at least → NoneNearer names at least
  none_in_rest least h = λ d l. (split_none (stands_at (number_of at - 2 * d) named) named _ (h d l)).1

  not_here : (least d : ℕ) → NoneNearer (named ∷ names) at least → d < least → beyond named.place at ≡ Some d → ⊥
  not_here least d h l e =
      same_number (number_of named.place) (number_of at - 2 * d) (reaches named.place at d e).1
      (split_none (stands_at (number_of at - 2 * d) named) named _ (h d l)).0

not_less : (a b : ℕ) → (b < a → ⊥) → a ≤ b
not_less a b h = omega (arith, h)

-- a name is not nearer than those already searched
head_by : (named : Symbol) (names : List Symbol) (at : Location) (least : ℕ) (far : Option ℕ) → beyond named.place at ≡ far → NoneNearer (named ∷ names) at least → IsNotBelow least far
head_by named names at least None e h = tt
head_by named names at least (Some d) e h = not_less least d (λ l. not_here named names at least d h l e)

-- nor is the nearest one
abbrev pub IsNoNearer : ℕ → Option Nearby → Type 0
IsNoNearer least (Some near) = least ≤ near.offset
IsNoNearer least None = Unit {0}

either_no_nearer : (b : Bool) (least : ℕ) (first second : Nearby) → least ≤ first.offset → least ≤ second.offset → IsNoNearer least (if b then Some second else Some first)
either_no_nearer true least first second h k = k
either_no_nearer false least first second h k = h

not_second : (b : Bool) (first second : Nearby) → b ≡ false → (if b then Some second else Some first) ≡ Some first
not_second true first second e = absurd cc
not_second false first second e = refl

second : (b : Bool) (first other : Nearby) → b ≡ true → (if b then Some other else Some first) ≡ Some other
second true first other e = refl
second false first other e = absurd cc

no_nearer_by : (least : ℕ) (name : List ℕ) (far : Option ℕ) (rest : Option Nearby) → IsNotBelow least far → IsNoNearer least rest → IsNoNearer least (nearer (nearby name far) rest)
no_nearer_by least name None None h k = tt
no_nearer_by least name None (Some near) h k = k
no_nearer_by least name (Some d) None h k = h
no_nearer_by least name (Some d) (Some near) h k = either_no_nearer (nat_lt near.offset d) least (record { name = name; offset = d }) near h k

no_nearer : (names : List Symbol) (at : Location) (least : ℕ) → NoneNearer names at least → IsNoNearer least (nearest names at)
unfolding nearest
no_nearer [] at least h = tt
no_nearer (named ∷ names) at least h =
    no_nearer_by least named.name (beyond named.place at) (nearest names at)
    (head_by named names at least (beyond named.place at) refl h) (no_nearer names at least (none_in_rest named names at least h))

-- the first of the nearest names is the one that is found
first_wins : (name : List ℕ) (d : ℕ) (rest : Option Nearby) → IsNoNearer d rest → nearer (Some (record { name = name; offset = d })) rest ≡ Some (record { name = name; offset = d })
first_wins name d None h = refl
first_wins name d (Some near) h = not_second (nat_lt near.offset d) _ _ (grind (arith, nat_tests))

second_wins : (name : List ℕ) (far : Option ℕ) (near : Nearby) → IsAbove near.offset far → nearer (nearby name far) (Some near) ≡ Some near
second_wins name None near h = refl
second_wins name (Some d) near h = second (nat_lt near.offset d) _ _ (grind (arith, nat_tests))

above : (least d : ℕ) → least ≤ d → (d ≡ least → ⊥) → least < d
above least d l h = omega (arith, h)

farther_by : (named : Symbol) (at : Location) (least : ℕ) (far : Option ℕ) → beyond named.place at ≡ far → IsNotBelow least far
    → stands_at (number_of at - 2 * least) named ≡ false → IsAbove least far
farther_by named at least None e h f = tt
farther_by named at least (Some d) e h f =
    above least d h
    (λ same. same_number (number_of named.place) (number_of at - 2 * least)
    ((reaches named.place at d e).1 ∙ ap (λ (n : ℕ). number_of at - 2 * n) same) f)

found_by : (b : Bool) (named : Symbol) (rest : Option Symbol) (found : Symbol) → cond b (Some named) rest ≡ Some found → ((b ≡ true) × (named ≡ found)) ⊎ ((b ≡ false) × (rest ≡ Some found))
found_by true named rest found e = inl (refl, cc)
found_by false named rest found e = inr (refl, e)

test_number : (a b : ℕ) → (a == b) ≡ true → a ≡ b
test_number a b e = grind (arith, nat_tests)

pub nearest_found : (names : List Symbol) (at : Location) (d : ℕ) (found : Symbol) → d ≤ room_below at → NoneNearer names at d
    → find (stands_at (number_of at - 2 * d)) names ≡ Some found → nearest names at ≡ Some (record { name = found.name; offset = d })
unfolding nearest
nearest_found [] at d found l h e = absurd cc
nearest_found (named ∷ names) at d found l h e =
    elim (found_by (stands_at (number_of at - 2 * d) named) named (find (stands_at (number_of at - 2 * d)) names) found e) as (λ _. nearer (nearby named.name (beyond named.place at)) (nearest names at) ≡ Some (record { name = found.name; offset = d })) [
      | inl here ↦
          ap (λ (far : Option ℕ). nearer (nearby named.name far) (nearest names at)) (stands named.place at d l (test_number _ _ here.0))
          ∙ first_wins named.name d (nearest names at) (no_nearer names at d (none_in_rest named names at d h))
          ∙ ap (λ (n : Symbol). Some (record { name = n.name; offset = d })) here.1
      | inr there ↦
          ap (λ (near : Option Nearby). nearer (nearby named.name (beyond named.place at)) near) (nearest_found names at d found l (none_in_rest named names at d h) there.1)
          ∙ second_wins named.name (beyond named.place at) (record { name = found.name; offset = d })
          (farther_by named at d (beyond named.place at) refl (head_by named names at d (beyond named.place at) refl h) there.0)
    ]

-- if none is found, none is near
no_head_by : (named : Symbol) (names : List Symbol) (at : Location) (far : Option ℕ) → beyond named.place at ≡ far → NoneNearer (named ∷ names) at (room_below at + 1) → far ≡ None
no_head_by named names at None e h = refl
no_head_by named names at (Some d) e h =
    absurd (not_here named names at (room_below at + 1) d h (omega (arith, (reaches named.place at d e).0)) e)

pub none_found : (names : List Symbol) (at : Location) → NoneNearer names at (room_below at + 1) → nearest names at ≡ None
unfolding nearest
none_found [] at h = refl
none_found (named ∷ names) at h =
    ap (λ (far : Option ℕ). nearer (nearby named.name far) (nearest names at)) (no_head_by named names at (beyond named.place at) refl h)
    ∙ none_found names at (none_in_rest named names at (room_below at + 1) h)

none_named : (found : Option Symbol) → None ≡ option_map (λ (n : Symbol). n.name) found → found ≡ None
none_named None e = refl
none_named (Some named) e = absurd cc

one_named : (found : Option Symbol) (name : List ℕ) → Some name ≡ option_map (λ (n : Symbol). n.name) found → (named : Symbol) × (found ≡ Some named) × (name ≡ named.name)
one_named None name e = absurd cc
one_named (Some named) name e = (named, refl, cc)

-- the search so far
pub looked_on : (names : List Symbol) (at : Location) (number d : ℕ) → number ≡ number_of at → NoneNearer names at d
    → None ≡ option_map (λ (n : Symbol). n.name) (find (stands_at (number - 2 * d)) names) → NoneNearer names at (d + 1)
looked_on names at number d same h e =
    below_more (λ k. find (stands_at (number_of at - 2 * k)) names ≡ None) d h
    (subst (λ (n : ℕ). find (stands_at (n - 2 * d)) names ≡ None) same (none_named _ e))

pub near_is : (names : List Symbol) (at : Location) (number d : ℕ) (name : List ℕ) → number ≡ number_of at → d ≤ room_below at → NoneNearer names at d
    → Some name ≡ option_map (λ (n : Symbol). n.name) (find (stands_at (number - 2 * d)) names) → Some (record { name = name; offset = d }) ≡ nearest names at
near_is names at number d name same l h e =
    let one = one_named _ name e in
    ap (λ (n : List ℕ). Some (record { name = n; offset = d })) one.2
    ∙ sym (nearest_found names at d one.0 l h (subst (λ (n : ℕ). find (stands_at (n - 2 * d)) names ≡ Some one.0) same one.1))

-- what the nearest name is

none_below : (least : ℕ) (names : List Symbol) (at : Location) → NoneReaches names at → NoneBelow least names at
none_below least [] at h = tt
none_below least (named ∷ names) at h = (subst (λ (far : Option ℕ). IsNotBelow least far) (sym h.0) tt, none_below least names at h.1)

not_below_by : (least more : ℕ) (far : Option ℕ) → least ≤ more → IsNotBelow more far → IsNotBelow least far
not_below_by least more None l h = tt
not_below_by least more (Some d) l h = omega arith

above_not_below : (least more : ℕ) (far : Option ℕ) → least ≤ more → IsAbove more far → IsNotBelow least far
above_not_below least more None l h = tt
above_not_below least more (Some d) l h = omega arith

none_below_after : (least more : ℕ) (names : List Symbol) (at : Location) → least ≤ more → NoneBelow more names at → NoneBelow least names at
none_below_after least more [] at l h = tt
none_below_after least more (named ∷ names) at l h = (not_below_by least more (beyond named.place at) l h.0, none_below_after least more names at l h.1)

none_below_in : (least more : ℕ) (before : List Symbol) (named : Symbol) (after : List Symbol) (at : Location) → least ≤ more
    → AllAbove more before at → beyond named.place at ≡ Some more → NoneBelow more after at → NoneBelow least (before ++ named ∷ after) at
none_below_in least more [] named after at l h e k =
    (subst (λ (far : Option ℕ). IsNotBelow least far) (sym e) l, none_below_after least more after at l k)
none_below_in least more (first ∷ before) named after at l h e k =
    (above_not_below least more (beyond first.place at) l h.0, none_below_in least more before named after at l h.1 e k)

abbrev pub Is : List Symbol → Location → Option Nearby → Type 0
Is names at near = MatchOption near (NoneReaches names at) (IsNearest names at)

one_farther : (named : Symbol) (names : List Symbol) (at : Location) (near : Nearby) → IsAbove near.offset (beyond named.place at) → IsNearest names at near → IsNearest (named ∷ names) at near
one_farther named names at near l h = record {
  before = named ∷ h.before;
  named = h.named;
  after = h.after;
  all = ap (λ (ns : List Symbol). named ∷ ns) h.all;
  name = h.name;
  offset = h.offset;
  first = (l, h.first);
  least = h.least;
}

one_nearest : (named : Symbol) (names : List Symbol) (at : Location) (d : ℕ) → beyond named.place at ≡ Some d → NoneBelow d names at
    → IsNearest (named ∷ names) at (record { name = named.name; offset = d })
one_nearest named names at d e h = record {
  before = [];
  named = named;
  after = names;
  all = refl;
  name = refl;
  offset = e;
  first = tt;
  least = h;
}

either_is : (named : Symbol) (names : List Symbol) (at : Location) (d : ℕ) (near : Nearby) (b : Bool) → nat_lt near.offset d ≡ b → beyond named.place at ≡ Some d → IsNearest names at near
    → Is (named ∷ names) at (if b then Some near else Some (record { name = named.name; offset = d }))
either_is named names at d near true t e h =
    one_farther named names at near (subst (λ (far : Option ℕ). IsAbove near.offset far) (sym e) (grind (arith, nat_tests))) h
either_is named names at d near false t e h =
    one_nearest named names at d e
    (subst (λ (ns : List Symbol). NoneBelow d ns at) (sym h.all) (none_below_in d near.offset h.before h.named h.after at (grind (arith, nat_tests)) h.first h.offset h.least))

nearest_by : (named : Symbol) (names : List Symbol) (at : Location) (far : Option ℕ) (rest : Option Nearby) → beyond named.place at ≡ far → Is names at rest → Is (named ∷ names) at (nearer (nearby named.name far) rest)
nearest_by named names at None None e h = (e, h)
nearest_by named names at None (Some near) e h = one_farther named names at near (subst (λ (far : Option ℕ). IsAbove near.offset far) (sym e) tt) h
nearest_by named names at (Some d) None e h = one_nearest named names at d e (none_below d names at h)
nearest_by named names at (Some d) (Some near) e h = either_is named names at d near (nat_lt near.offset d) refl e h

pub nearest_is : (names : List Symbol) (at : Location) → MatchOption (nearest names at) (NoneReaches names at) (IsNearest names at)
unfolding nearest
nearest_is [] at = tt
nearest_is (named ∷ names) at = nearest_by named names at (beyond named.place at) (nearest names at) refl (nearest_is names at)
