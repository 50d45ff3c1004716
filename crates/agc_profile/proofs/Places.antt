-- The tally of a place, and the boundaries that ran the order there.
use Rattle.std.proofs.Common.{◌≡◌, ◌≢◌, ℕ, ◌+◌, ◌<◌, List, [], ◌∷◌, length, Option, Some, None, Bool, true, false, refl, ap, ◌∙◌, subst, arith}
use Rattle.std.specs.Prelude.{if◌then◌else◌, ◌&&◌, filter, get_or, nat_le, set}
use Rattle.std.specs.List.{sum_by}
use Rattle.std.proofs.lemmas.Bool.Decides.{nat_tests}
use Rattle.std.proofs.lemmas.List.{get_or-replicate, get_or-set_other, get_or-set_same, length-replicate, length-set}
use Rattle.std.proofs.lemmas.List.Sums.{sum_by-cons}
use Rattle.agc_machine.specs.declared.upcoming.Upcoming.{Upcoming}
use Rattle.agc_machine.specs.declared.upcoming.Upcoming.TheVariants as upcoming
use Rattle.agc_processor.specs.declared.interrupt.Rupt.{Rupt}
use Rattle.agc_listing.specs.Location.{location_at}
use Rattle.agc_listing.specs.declared.location.Location.{Location}
use Rattle.agc_listing.specs.declared.location.Location.TheVariants as location
use Rattle.agc_listing.specs.Ranges.{is_from_to}
use Rattle.agc_trace.specs.Selection.{runs_at}
use Rattle.agc_profile.specs.Profile.{count_of, counted, counted_as, counted_at, counted_data, counted_happening, counted_inhibited, counted_one, counted_read, counted_serving, nothing_counted}
use Rattle.agc_profile.specs.Laws.{ran_at, tally_of}
use Rattle.agc_profile.specs.Opcode.{named_of}
use Rattle.agc_profile.specs.Step.{service_of}
use Rattle.agc_profile.specs.Tally.{added, empty_table, nothing, once, plus, tally_at}
use Rattle.agc_profile.specs.declared.profile.Profile.{Profile}
use Rattle.agc_profile.specs.declared.data.DataReads.{DataReads}
use Rattle.agc_profile.specs.declared.opcode.Opcode.{Opcode}
use Rattle.agc_profile.specs.declared.opcode.Opcode.TheVariants as named
use Rattle.agc_profile.specs.declared.step.Step.{Step}
use Rattle.agc_profile.specs.declared.tally.Tally.{Tally}

-- one more boundary, if it passes a test
abbrev pub more_if : Bool → ℕ → Tally → Tally
more_if true cycles tally = plus tally (once cycles)
more_if false cycles tally = tally

abbrev pub tally : ℕ → ℕ → Tally
tally times cycles = record { times = times; cycles = cycles }

pub same_tally : (a b c d : ℕ) → a ≡ c → b ≡ d → tally a b ≡ tally c d
same_tally a b c d e f = ap (λ (n : ℕ). tally n b) e ∙ ap (λ (n : ℕ). tally c n) f

pub plus_nothing : (t : Tally) → t ≡ plus t nothing
plus_nothing t = same_tally t.times t.cycles (t.times + 0) (t.cycles + 0) (omega arith) (omega arith)

pub nothing_plus : (t : Tally) → plus nothing t ≡ t
nothing_plus t = same_tally (0 + t.times) (0 + t.cycles) t.times t.cycles (omega arith) (omega arith)

joined : (b : Bool) (t : Tally) (p : Step) (ps : List Step) →
    plus (more_if b p.cycles t) (tally_of ps) ≡ plus t (tally_of (if b then p ∷ ps else ps))
joined true t p ps =
    same_tally (t.times + 1 + length ps) (t.cycles + p.cycles + sum_by (λ q. q.cycles) ps) (t.times + length (p ∷ ps)) (t.cycles + sum_by (λ q. q.cycles) (p ∷ ps))
    (omega arith) (omega (arith, sum_by-cons (λ (q : Step). q.cycles) p ps))
joined false t p ps = refl

pub added_length : (place : ℕ) (t : Tally) (xs : List Tally) → length (added place t xs) ≡ length xs
unfolding added
added_length place t xs = length-set xs place (plus (get_or xs place nothing) t)

pub added_here : (here place : ℕ) (t : Tally) (xs : List Tally) → here ≡ place → here < length xs → tally_at here (added place t xs) ≡ plus (tally_at here xs) t
unfolding added tally_at
added_here here place t xs e l =
    subst (λ (n : ℕ). get_or (set xs n (plus (get_or xs n nothing) t)) here nothing ≡ plus (get_or xs here nothing) t) e
    (get_or-set_same xs here (plus (get_or xs here nothing) t) nothing l)

pub added_elsewhere : (here place : ℕ) (t : Tally) (xs : List Tally) → here ≢ place → tally_at here (added place t xs) ≡ tally_at here xs
unfolding added tally_at
added_elsewhere here place t xs e = get_or-set_other xs place here (plus (get_or xs place nothing) t) nothing e

pub added_by : (b : Bool) (here place cycles : ℕ) (xs : List Tally) → (nat_le here place && nat_le place here) ≡ b → here < length xs →
    tally_at here (added place (once cycles) xs) ≡ more_if b cycles (tally_at here xs)
added_by true here place cycles xs e l = added_here here place (once cycles) xs (grind (arith, nat_tests)) l
added_by false here place cycles xs e l = added_elsewhere here place (once cycles) xs (λ same. grind (arith, nat_tests))

pub empty_length : (size : ℕ) → length (empty_table size) ≡ size
unfolding empty_table
empty_length size = length-replicate size nothing

pub empty_tally : (size place : ℕ) → place < size → tally_at place (empty_table size) ≡ nothing
unfolding empty_table tally_at
empty_tally size place l = get_or-replicate size place nothing nothing l

-- If each boundary adds to a place what a test selects, the table has there what all boundaries add.
module _ (table : Profile → List Tally) (test : Step → Bool) (place : ℕ)
    (keeps : (p : Step) (c : Profile) → length (table (counted_one p c)) ≡ length (table c))
    (adds : (p : Step) (c : Profile) → place < length (table c) →
    tally_at place (table (counted_one p c)) ≡ more_if (test p) p.cycles (tally_at place (table c))) where
  all_added : (c : Profile) (ps : List Step) → place < length (table c) →
      tally_at place (table (counted c ps)) ≡ plus (tally_at place (table c)) (tally_of (filter test ps))
  unfolding counted
  all_added c [] l = plus_nothing (tally_at place (table c))
  all_added c (p ∷ ps) l =
      all_added (counted_one p c) ps (omega (arith, keeps p c))
      ∙ ap (λ (t : Tally). plus t (tally_of (filter test ps))) (adds p c l)
      ∙ joined (test p) (tally_at place (table c)) p (filter test ps)

  all_from_empty : (size : ℕ) (ps : List Step) → table nothing_counted ≡ empty_table size → place < size →
      tally_at place (table (count_of ps)) ≡ tally_of (filter test ps)
  all_from_empty size ps e l =
      let long : length (table nothing_counted) ≡ size = ap (λ (xs : List Tally). length xs) e ∙ empty_length size in
      all_added nothing_counted ps (omega (arith, long))
      ∙ ap (λ (xs : List Tally). plus (tally_at place xs) (tally_of (filter test ps))) e
      ∙ ap (λ (t : Tally). plus t (tally_of (filter test ps))) (empty_tally size place l)
      ∙ nothing_plus (tally_of (filter test ps))

-- what an order adds apart from its place, and a boundary apart from what happens, changes neither table
pub record SamePlaces (c d : Profile) : Type 0 where
  pub fixed : d.fixed ≡ c.fixed
  pub erasable : d.erasable ≡ c.erasable

same_places : (c d e : Profile) → SamePlaces c d → SamePlaces d e → SamePlaces c e
same_places c d e h k = record { fixed = k.fixed ∙ h.fixed; erasable = k.erasable ∙ h.erasable }

as_same : (name : Opcode) (one : Tally) (c : Profile) → SamePlaces c (counted_as name one c)
as_same (named.Basic order) one c = record { fixed = refl; erasable = refl }
as_same (named.Extracode order) one c = record { fixed = refl; erasable = refl }

serving_same : (o : Option Rupt) (p : Step) (c : Profile) → SamePlaces c (counted_serving o p c)
serving_same (Some r) p c = record { fixed = refl; erasable = refl }
serving_same None p c = record { fixed = refl; erasable = refl }

inhibited_same : (b : Bool) (one : Tally) (c : Profile) → SamePlaces c (counted_inhibited b one c)
inhibited_same true one c = record { fixed = refl; erasable = refl }
inhibited_same false one c = record { fixed = refl; erasable = refl }

read_same : (o : Option Location) (one : Tally) (c : Profile) → SamePlaces c (counted_read o one c)
read_same (Some (location.Fixed place)) one c = record { fixed = refl; erasable = refl }
read_same (Some (location.Erasable cell)) one c = record { fixed = refl; erasable = refl }
read_same None one c = record { fixed = refl; erasable = refl }

data_same : (words : DataReads) (one : Tally) (c : Profile) → SamePlaces c (counted_data words one c)
data_same words one c = same_places _ _ _ (read_same words.at one c) (read_same words.before one (counted_read words.at one c))

one_same : (p : Step) (c : Profile) → SamePlaces (counted_happening p.happening (once p.cycles) c) (counted_one p c)
unfolding counted_one
one_same p c =
    let served = counted_serving (service_of p) p (counted_happening p.happening (once p.cycles) c) in
    same_places _ _ _ (serving_same (service_of p) p (counted_happening p.happening (once p.cycles) c))
    (same_places _ _ _ (inhibited_same p.mode.inhibited (once p.cycles) served)
    (data_same p.reads (once p.cycles) (counted_inhibited p.mode.inhibited (once p.cycles) served)))

-- the tables after a boundary are those after its order, if it is one
abbrev pub counted_there : Upcoming → Tally → Profile → Profile
counted_there (upcoming.Order order) one c = counted_at (location_at order.bank order.address) one c
counted_there (upcoming.Stop why) one c = c
counted_there (upcoming.Event what) one c = c
counted_there (upcoming.Timer t) one c = c
counted_there (upcoming.Interrupt r) one c = c

there_same : (u : Upcoming) (one : Tally) (c : Profile) → SamePlaces (counted_there u one c) (counted_happening u one c)
there_same (upcoming.Order order) one c =
    let placed = counted_at (location_at order.bank order.address) one c in
    let named = as_same (named_of order) one (record placed { orders = plus placed.orders one }) in
    record { fixed = named.fixed; erasable = named.erasable }
there_same (upcoming.Stop why) one c = record { fixed = refl; erasable = refl }
there_same (upcoming.Event what) one c = record { fixed = refl; erasable = refl }
there_same (upcoming.Timer t) one c = record { fixed = refl; erasable = refl }
there_same (upcoming.Interrupt r) one c = record { fixed = refl; erasable = refl }

pub tables_after : (p : Step) (c : Profile) → SamePlaces (counted_there p.happening (once p.cycles) c) (counted_one p c)
tables_after p c = same_places _ _ _ (there_same p.happening (once p.cycles) c) (one_same p c)

-- fixed memory
fixed_at_length : (l : Location) (one : Tally) (c : Profile) → length (counted_at l one c).fixed ≡ length c.fixed
fixed_at_length (location.Fixed q) one c = added_length q one c.fixed
fixed_at_length (location.Erasable q) one c = refl

pub fixed_length : (u : Upcoming) (one : Tally) (c : Profile) → length (counted_there u one c).fixed ≡ length c.fixed
fixed_length (upcoming.Order order) one c = fixed_at_length (location_at order.bank order.address) one c
fixed_length (upcoming.Stop why) one c = refl
fixed_length (upcoming.Event what) one c = refl
fixed_length (upcoming.Timer t) one c = refl
fixed_length (upcoming.Interrupt r) one c = refl

fixed_at : (l : Location) (place cycles : ℕ) (c : Profile) → place < length c.fixed →
    tally_at place (counted_at l (once cycles) c).fixed
    ≡ more_if (is_from_to (location.Fixed place) (location.Fixed place) l) cycles (tally_at place c.fixed)
fixed_at (location.Fixed q) place cycles c l = added_by (nat_le place q && nat_le q place) place q cycles c.fixed refl l
fixed_at (location.Erasable q) place cycles c l = refl

fixed_there : (u : Upcoming) (place cycles : ℕ) (c : Profile) → place < length c.fixed →
    tally_at place (counted_there u (once cycles) c).fixed
    ≡ more_if (runs_at (record { first = location.Fixed place; last = location.Fixed place }) u) cycles (tally_at place c.fixed)
fixed_there (upcoming.Order order) place cycles c l = fixed_at (location_at order.bank order.address) place cycles c l
fixed_there (upcoming.Stop why) place cycles c l = refl
fixed_there (upcoming.Event what) place cycles c l = refl
fixed_there (upcoming.Timer t) place cycles c l = refl
fixed_there (upcoming.Interrupt r) place cycles c l = refl

pub no_fixed : nothing_counted.fixed ≡ empty_table 0o120000
unfolding nothing_counted
no_fixed = refl

pub fixed_has : (place : ℕ) (ps : List Step) → place < 0o120000 →
    tally_at place (count_of ps).fixed ≡ tally_of (filter (ran_at (location.Fixed place)) ps)
fixed_has place ps l =
    all_from_empty (λ (c : Profile). c.fixed) (ran_at (location.Fixed place)) place
    (λ p c. ap (λ (xs : List Tally). length xs) (tables_after p c).fixed ∙ fixed_length p.happening (once p.cycles) c)
    (λ p c l. ap (λ (xs : List Tally). tally_at place xs) (tables_after p c).fixed ∙ fixed_there p.happening place p.cycles c l)
    0o120000 ps no_fixed l

-- erasable memory
cells_at_length : (l : Location) (one : Tally) (c : Profile) → length (counted_at l one c).erasable ≡ length c.erasable
cells_at_length (location.Fixed q) one c = refl
cells_at_length (location.Erasable q) one c = added_length q one c.erasable

pub cells_length : (u : Upcoming) (one : Tally) (c : Profile) → length (counted_there u one c).erasable ≡ length c.erasable
cells_length (upcoming.Order order) one c = cells_at_length (location_at order.bank order.address) one c
cells_length (upcoming.Stop why) one c = refl
cells_length (upcoming.Event what) one c = refl
cells_length (upcoming.Timer t) one c = refl
cells_length (upcoming.Interrupt r) one c = refl

cells_at : (l : Location) (place cycles : ℕ) (c : Profile) → place < length c.erasable →
    tally_at place (counted_at l (once cycles) c).erasable
    ≡ more_if (is_from_to (location.Erasable place) (location.Erasable place) l) cycles (tally_at place c.erasable)
cells_at (location.Fixed q) place cycles c l = refl
cells_at (location.Erasable q) place cycles c l = added_by (nat_le place q && nat_le q place) place q cycles c.erasable refl l

cells_there : (u : Upcoming) (place cycles : ℕ) (c : Profile) → place < length c.erasable →
    tally_at place (counted_there u (once cycles) c).erasable
    ≡ more_if (runs_at (record { first = location.Erasable place; last = location.Erasable place }) u) cycles (tally_at place c.erasable)
cells_there (upcoming.Order order) place cycles c l = cells_at (location_at order.bank order.address) place cycles c l
cells_there (upcoming.Stop why) place cycles c l = refl
cells_there (upcoming.Event what) place cycles c l = refl
cells_there (upcoming.Timer t) place cycles c l = refl
cells_there (upcoming.Interrupt r) place cycles c l = refl

pub no_cells : nothing_counted.erasable ≡ empty_table 0o4000
unfolding nothing_counted
no_cells = refl

pub cells_have : (cell : ℕ) (ps : List Step) → cell < 0o4000 →
    tally_at cell (count_of ps).erasable ≡ tally_of (filter (ran_at (location.Erasable cell)) ps)
cells_have cell ps l =
    all_from_empty (λ (c : Profile). c.erasable) (ran_at (location.Erasable cell)) cell
    (λ p c. ap (λ (xs : List Tally). length xs) (tables_after p c).erasable ∙ cells_length p.happening (once p.cycles) c)
    (λ p c l. ap (λ (xs : List Tally). tally_at cell xs) (tables_after p c).erasable ∙ cells_there p.happening cell p.cycles c l)
    0o4000 ps no_cells l
