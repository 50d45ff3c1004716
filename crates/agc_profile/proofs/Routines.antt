-- Where routines begin, and what their sums are.
use Rattle.std.proofs.Common.{◌≡◌, ℕ, ◌+◌, ◌<◌, List, length, Bool, true, false, refl, ap, sym, ◌∙◌, add-one, arith}
use Rattle.std.specs.Prelude.{if◌then◌else◌, ◌==◌}
use Rattle.std.proofs.lemmas.Bool.Decides.{nat_tests}
use Rattle.agc_symbols.specs.Symbols.{Symbol}
use Rattle.agc_profile.specs.Routine.{AreSums, begins, last_below, routine_of, routine_tally, size_of, sum_below}
use Rattle.agc_profile.specs.Tally.{added, empty_table, plus, tally_at}
use Rattle.agc_profile.specs.declared.routine.MemoryKind.{MemoryKind}
use Rattle.agc_profile.specs.declared.tally.Tally.{Tally}
use Rattle.agc_profile.proofs.Places.{added_elsewhere, added_here, empty_tally}

last_more : (starts : ℕ → Bool) (place : ℕ) → last_below starts (place + 1) ≡ (if starts place then place else last_below starts place)
unfolding last_below
last_more starts place = rw add-one refl

-- where the routine of a place begins, from where that of the place before it does
pub start_is : (names : List Symbol) (memory : MemoryKind) (place before start : ℕ) → before ≡ last_below (begins names memory) place →
    start ≡ (if begins names memory place then place else before) → start ≡ routine_of names memory place
unfolding routine_of
start_is names memory place before start e f =
    f ∙ ap (λ (n : ℕ). if begins names memory place then place else n) e ∙ sym (last_more (begins names memory) place)

pub none_begun : (starts : ℕ → Bool) → 0 ≡ last_below starts 0
unfolding last_below
none_begun starts = refl

pub last_is_routine : (names : List Symbol) (memory : MemoryKind) (place start : ℕ) → start ≡ routine_of names memory place → start ≡ last_below (begins names memory) (place + 1)
unfolding routine_of
last_is_routine names memory place start e = e

pub nothing_summed : (routine : ℕ → ℕ) (table sums : List Tally) (size first : ℕ) → sums ≡ empty_table size → first < size →
    tally_at first sums ≡ sum_below routine first table 0
unfolding sum_below
nothing_summed routine table sums size first e l = ap (tally_at first) e ∙ empty_tally size first l

sum_more : (routine : ℕ → ℕ) (first : ℕ) (table : List Tally) (place : ℕ) → sum_below routine first table (place + 1)
    ≡ (if routine place == first then plus (sum_below routine first table place) (tally_at place table) else sum_below routine first table place)
unfolding sum_below
sum_more routine first table place = rw add-one refl

added_if : (b : Bool) (first at : ℕ) (t before : Tally) (sums : List Tally) → (at == first) ≡ b → first < length sums → tally_at first sums ≡ before →
    tally_at first (added at t sums) ≡ (if b then plus before t else before)
added_if true first at t before sums e l f = added_here first at t sums (grind (arith, nat_tests)) l ∙ ap (λ (x : Tally). plus x t) f
added_if false first at t before sums e l f = added_elsewhere first at t sums (λ same. grind (arith, nat_tests)) ∙ f

-- one more place is added to the sum of its routine
pub one_summed : (routine : ℕ → ℕ) (table sums more : List Tally) (size place at first : ℕ) (t : Tally) → at ≡ routine place → t ≡ tally_at place table →
    more ≡ added at t sums → length sums ≡ size → first < size → tally_at first sums ≡ sum_below routine first table place →
    tally_at first more ≡ sum_below routine first table (place + 1)
one_summed routine table sums more size place at first t e f g long l h =
    ap (tally_at first) (g ∙ ap (λ (n : ℕ). added n t sums) e ∙ ap (λ (x : Tally). added (routine place) x sums) f)
    ∙ added_if (routine place == first) first (routine place) (tally_at place table) (sum_below routine first table place) sums refl (omega (arith, l, long)) h
    ∙ sym (sum_more routine first table place)

pub all_summed : (names : List Symbol) (memory : MemoryKind) (table sums : List Tally) (place : ℕ) → place ≡ size_of memory →
    ((first : ℕ) → first < size_of memory → tally_at first sums ≡ sum_below (routine_of names memory) first table place) →
    AreSums names memory table sums
unfolding routine_tally
all_summed names memory table sums place e h =
    record { each = λ first l. h first l ∙ ap (λ (n : ℕ). sum_below (routine_of names memory) first table n) e }
