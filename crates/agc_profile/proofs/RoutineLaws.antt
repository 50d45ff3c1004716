-- A routine is from one name to the next, and the sums of all routines add up.
use Rattle.std.proofs.Common.{◌≡◌, ◌≢◌, ℕ, zero, suc, ◌+◌, ◌<◌, ◌≤◌, ◌/◌, ◌%◌, List, [], ◌∷◌, length, Bool, true, false, refl, ap, sym, ◌∙◌, subst, arith}
use Rattle.std.specs.Prelude.{if◌then◌else◌, ◌==◌, ◌||◌, get_or, map}
use Rattle.std.specs.List.{range_with_len, sum_by}
use Rattle.std.proofs.lemmas.Bool.Decides.{nat_tests}
use Rattle.std.proofs.lemmas.List.FromFn.{fill_by_all, sum_by-map-range_with_len_more}
use Rattle.agc_store.specs.Places.{erasable_cells, fixed_places}
use Rattle.agc_symbols.specs.Symbols.{Symbol}
use Rattle.agc_profile.specs.Laws.{OrdersAddUp}
use Rattle.agc_profile.specs.Profile.{count_of, counted, counted_one, nothing_counted}
use Rattle.agc_profile.specs.Routine.{IsRoutineOf, RoutinesAddUp, bank_size, begins, is_named, last_below, location_of, routine_of, routine_tallies, routine_tally, size_of, sum_below}
use Rattle.agc_profile.specs.Tally.{cycles_in, nothing, once, plus, tally_at, times_in}
use Rattle.agc_profile.specs.declared.profile.Profile.{Profile}
use Rattle.agc_profile.specs.declared.routine.MemoryKind.{MemoryKind}
use Rattle.agc_profile.specs.declared.routine.MemoryKind.TheVariants as memory
use Rattle.agc_profile.specs.declared.step.Step.{Step}
use Rattle.agc_profile.specs.declared.tally.Tally.{Tally}
use Rattle.agc_profile.proofs.Places.{cells_length, empty_length, fixed_length, no_cells, no_fixed, tables_after}

-- where the last of some places that pass a test is
start_by : (b : Bool) (starts : ℕ → Bool) (place last : ℕ) → starts place ≡ b → starts last ≡ true → starts (if b then place else last) ≡ true
start_by true starts place last e h = e
start_by false starts place last e h = h

is_start : (starts : ℕ → Bool) (place : ℕ) → starts 0 ≡ true → starts (last_below starts (suc place)) ≡ true
unfolding last_below
is_start starts zero e = start_by (starts 0) starts 0 0 refl e
is_start starts (suc place) e = start_by (starts (suc place)) starts (suc place) (last_below starts (suc place)) refl (is_start starts place e)

below_by : (b : Bool) (place last : ℕ) → last ≤ place → (if b then place else last) ≤ place
below_by true place last l = omega arith
below_by false place last l = l

is_below : (starts : ℕ → Bool) (place : ℕ) → last_below starts (suc place) ≤ place
unfolding last_below
is_below starts zero = below_by (starts 0) 0 0 (omega arith)
is_below starts (suc place) = below_by (starts (suc place)) (suc place) (last_below starts (suc place)) (omega (arith, is_below starts place))

at_or_before : (c : Bool) (starts : ℕ → Bool) (place at : ℕ) → (at == place) ≡ c → starts place ≡ false → at ≤ place →
    (at < place → starts at ≡ false) → starts at ≡ false
at_or_before true starts place at e f l h = subst (λ (n : ℕ). starts n ≡ false) (grind (arith, nat_tests)) f
at_or_before false starts place at e f l h = h (grind (arith, nat_tests))

between_by : (b : Bool) (starts : ℕ → Bool) (place last at : ℕ) → starts place ≡ b → (if b then place else last) < at → at ≤ place →
    (last < at → at < place → starts at ≡ false) → starts at ≡ false
between_by true starts place last at e l k h = absurd (omega (arith, l, k))
between_by false starts place last at e l k h = at_or_before (at == place) starts place at refl e k (λ m. h l m)

none_between : (starts : ℕ → Bool) (place at : ℕ) → last_below starts (suc place) < at → at ≤ place → starts at ≡ false
unfolding last_below
none_between starts zero at l k = between_by (starts 0) starts 0 0 at refl l k (λ m n. absurd (omega (arith, n)))
none_between starts (suc place) at l k =
    between_by (starts (suc place)) starts (suc place) (last_below starts (suc place)) at refl l k (λ m n. none_between starts place at m (omega (arith, n)))

-- no bank begins between a place and the first of its routine
first_false : (a b : Bool) → (a || b) ≡ false → a ≡ false
first_false true b e = cc
first_false false b e = refl

second_false : (a b : Bool) → (a || b) ≡ false → b ≡ false
second_false true b e = cc
second_false false b e = e

first_true : (a b : Bool) → a ≡ true → (a || b) ≡ true
first_true true b e = refl
first_true false b e = cc

same_bank_of : (memory : MemoryKind) (place : ℕ) → (suc place % bank_size memory == 0) ≡ false → place / bank_size memory ≡ suc place / bank_size memory
same_bank_of memory.Fixed place e = let apart : suc place % 1024 ≢ 0 = λ same. grind (arith, nat_tests) in omega (arith, apart)
same_bank_of memory.Erasable place e = let apart : suc place % 256 ≢ 0 = λ same. grind (arith, nat_tests) in omega (arith, apart)

bank_by : (b : Bool) (size place last : ℕ) → (b ≡ false → last / size ≡ place / size) → (if b then place else last) / size ≡ place / size
bank_by true size place last h = refl
bank_by false size place last h = h refl

no_bank_begins : (names : List Symbol) (memory : MemoryKind) (place : ℕ) → begins names memory place ≡ false → (place % bank_size memory == 0) ≡ false
unfolding begins
no_bank_begins names memory place e = first_false (place % bank_size memory == 0) (is_named names (location_of memory place)) e

in_bank : (names : List Symbol) (memory : MemoryKind) (place : ℕ) → last_below (begins names memory) (suc place) / bank_size memory ≡ place / bank_size memory
unfolding last_below
in_bank names memory zero = bank_by (begins names memory 0) (bank_size memory) 0 0 (λ e. refl)
in_bank names memory (suc place) =
    bank_by (begins names memory (suc place)) (bank_size memory) (suc place) (last_below (begins names memory) (suc place))
    (λ e. in_bank names memory place ∙ same_bank_of memory place (no_bank_begins names memory (suc place) e))

zero_begins : (memory : MemoryKind) → (0 % bank_size memory == 0) ≡ true
zero_begins memory.Fixed = refl
zero_begins memory.Erasable = refl

bank_begins : (names : List Symbol) (memory : MemoryKind) → begins names memory 0 ≡ true
unfolding begins
bank_begins names memory = first_true (0 % bank_size memory == 0) (is_named names (location_of memory 0)) (zero_begins memory)

no_name : (names : List Symbol) (memory : MemoryKind) (place : ℕ) → begins names memory place ≡ false → is_named names (location_of memory place) ≡ false
unfolding begins
no_name names memory place e = second_false (place % bank_size memory == 0) (is_named names (location_of memory place)) e

one_more : (place : ℕ) → place + 1 ≡ suc place
one_more place = omega arith

routine_is : (names : List Symbol) (memory : MemoryKind) (place : ℕ) → routine_of names memory place ≡ last_below (begins names memory) (suc place)
unfolding routine_of
routine_is names memory place = ap (last_below (begins names memory)) (one_more place)

-- the routine of a place begins at the nearest name at or below it in its bank, or with the bank
pub from_name : (names : List Symbol) (memory : MemoryKind) (place : ℕ) → IsRoutineOf names memory place (routine_of names memory place)
from_name names memory place =
    subst (λ (first : ℕ). IsRoutineOf names memory place first) (sym (routine_is names memory place))
    (record {
      below = is_below (begins names memory) place;
      bank = in_bank names memory place;
      start = is_start (begins names memory) place (bank_begins names memory);
      nearest = λ at l k. no_name names memory at (none_between (begins names memory) place at l k);
    })

-- The sums of all routines, and the sum of all places.
module _ (f : Tally → ℕ) (adds : (x y : Tally) → f (plus x y) ≡ f x + f y) (none : f nothing ≡ 0) where
  more : (g : ℕ → Tally) (m : ℕ) → sum_by f (map g (range_with_len 0 (suc m))) ≡ sum_by f (map g (range_with_len 0 m)) + f (g m)
  more g m =
      ap (λ (k : ℕ). sum_by f (map g (range_with_len 0 k))) (sym (one_more m)) ∙ sum_by-map-range_with_len_more f g 0 m m (omega arith)

  of_none : (m : ℕ) → sum_by f (map (λ first. nothing) (range_with_len 0 m)) ≡ 0
  of_none zero = refl
  of_none (suc m) = omega (arith, more (λ first. nothing) m, of_none m, none)

  abbrev with_one : ℕ → Tally → (ℕ → Tally) → ℕ → Tally
  with_one k t g first = if k == first then plus (g first) t else g first

  added_there : (b : Bool) (t x : Tally) → b ≡ true → f (if b then plus x t else x) ≡ f x + f t
  added_there true t x e = adds x t
  added_there false t x e = cc

  not_added : (b : Bool) (t x : Tally) → b ≡ false → f (if b then plus x t else x) ≡ f x
  not_added true t x e = cc
  not_added false t x e = refl

  outside : (k m : ℕ) (t : Tally) (g : ℕ → Tally) → m ≤ k →
      sum_by f (map (with_one k t g) (range_with_len 0 m)) ≡ sum_by f (map g (range_with_len 0 m))
  outside k zero t g l = refl
  outside k (suc m) t g l =
      omega (arith, more (with_one k t g) m, more g m, outside k m t g (omega (arith, l)), not_added (k == m) t (g m) (grind (arith, nat_tests)))

  inside_by : (b : Bool) (k m : ℕ) (t : Tally) (g : ℕ → Tally) → (k == m) ≡ b → k < suc m →
      (k < m → sum_by f (map (with_one k t g) (range_with_len 0 m)) ≡ sum_by f (map g (range_with_len 0 m)) + f t) →
      sum_by f (map (with_one k t g) (range_with_len 0 (suc m))) ≡ sum_by f (map g (range_with_len 0 (suc m))) + f t
  inside_by true k m t g e l h =
      omega (arith, more (with_one k t g) m, more g m, outside k m t g (grind (arith, nat_tests)), added_there (k == m) t (g m) e)
  inside_by false k m t g e l h =
      omega (arith, more (with_one k t g) m, more g m, h (grind (arith, nat_tests)), not_added (k == m) t (g m) e)

  inside : (k m : ℕ) (t : Tally) (g : ℕ → Tally) → k < m →
      sum_by f (map (with_one k t g) (range_with_len 0 m)) ≡ sum_by f (map g (range_with_len 0 m)) + f t
  inside k zero t g l = absurd (omega (arith, l))
  inside k (suc m) t g l = inside_by (k == m) k m t g refl l (λ e. inside k m t g e)

  routines_total : (routine : ℕ → ℕ) (table : List Tally) (m n : ℕ) → ((place : ℕ) → place < n → routine place < m) →
      sum_by f (map (λ first. sum_below routine first table n) (range_with_len 0 m))
      ≡ sum_by f (map (λ place. tally_at place table) (range_with_len 0 n))
  unfolding sum_below
  routines_total routine table m zero l = of_none m
  routines_total routine table m (suc n) l =
      inside (routine n) m (tally_at n table) (λ first. sum_below routine first table n) (l n (omega arith))
      ∙ ap (λ (k : ℕ). k + f (tally_at n table)) (routines_total routine table m n (λ place k. l place (omega (arith, k))))
      ∙ sym (more (λ place. tally_at place table) n)

  table_total : (table : List Tally) (n : ℕ) → length table ≡ n →
      sum_by f (map (λ place. tally_at place table) (range_with_len 0 n)) ≡ sum_by f table
  unfolding tally_at
  table_total table n long = ap (sum_by f) (sym (fill_by_all (λ place. get_or table place nothing) table n nothing long (λ k l. refl)))

  all_routines : (names : List Symbol) (memory : MemoryKind) (table : List Tally) → length table ≡ size_of memory →
      sum_by f (routine_tallies names memory table) ≡ sum_by f table
  unfolding routine_tallies routine_tally
  all_routines names memory table long =
      routines_total (routine_of names memory) table (size_of memory) (size_of memory) (λ place l. omega (arith, l, (from_name names memory place).below))
      ∙ table_total table (size_of memory) long

times_of : (names : List Symbol) (memory : MemoryKind) (table : List Tally) → length table ≡ size_of memory →
    times_in (routine_tallies names memory table) ≡ times_in table
times_of = all_routines (λ (x : Tally). x.times) (λ x y. refl) refl

cycles_of : (names : List Symbol) (memory : MemoryKind) (table : List Tally) → length table ≡ size_of memory →
    cycles_in (routine_tallies names memory table) ≡ cycles_in table
cycles_of = all_routines (λ (x : Tally). x.cycles) (λ x y. refl) refl

-- counting keeps the sizes of the tables
module _ (table : Profile → List Tally) (keeps : (p : Step) (c : Profile) → length (table (counted_one p c)) ≡ length (table c)) where
  all_keep : (c : Profile) (ps : List Step) → length (table (counted c ps)) ≡ length (table c)
  unfolding counted
  all_keep c [] = refl
  all_keep c (p ∷ ps) = all_keep (counted_one p c) ps ∙ keeps p c

fixed_size : (ps : List Step) → length (count_of ps).fixed ≡ fixed_places
fixed_size ps =
    all_keep (λ (c : Profile). c.fixed)
    (λ p c. ap (λ (xs : List Tally). length xs) (tables_after p c).fixed ∙ fixed_length p.happening (once p.cycles) c) nothing_counted ps
    ∙ ap (λ (xs : List Tally). length xs) no_fixed ∙ empty_length fixed_places

erasable_size : (ps : List Step) → length (count_of ps).erasable ≡ erasable_cells
erasable_size ps =
    all_keep (λ (c : Profile). c.erasable)
    (λ p c. ap (λ (xs : List Tally). length xs) (tables_after p c).erasable ∙ cells_length p.happening (once p.cycles) c) nothing_counted ps
    ∙ ap (λ (xs : List Tally). length xs) no_cells ∙ empty_length erasable_cells

add_up : (names : List Symbol) (c : Profile) → length c.fixed ≡ fixed_places → length c.erasable ≡ erasable_cells → OrdersAddUp c → RoutinesAddUp names c
add_up names c long wide h =
    record {
      orders = record {
        times = omega (arith, times_of names memory.Fixed c.fixed long, times_of names memory.Erasable c.erasable wide, h.0.times);
        cycles = omega (arith, cycles_of names memory.Fixed c.fixed long, cycles_of names memory.Erasable c.erasable wide, h.0.cycles);
      };
      cycles = omega (arith, cycles_of names memory.Fixed c.fixed long, cycles_of names memory.Erasable c.erasable wide, h.0.cycles);
    }

pub routines_add_up : (names : List Symbol) (ps : List Step) → OrdersAddUp (count_of ps) → RoutinesAddUp names (count_of ps)
routines_add_up names ps h = add_up names (count_of ps) (fixed_size ps) (erasable_size ps) h
