-- The data tally of a place, and the boundaries that read there.
use Rattle.std.proofs.Common.{◌≡◌, ℕ, ◌<◌, List, [], ◌∷◌, length, Option, Some, None, Bool, true, false, refl, ap, ◌∙◌, arith}
use Rattle.std.specs.Prelude.{if◌then◌else◌, ◌&&◌, filter, nat_le}
use Rattle.std.proofs.lemmas.List.Sums.{sum_by-cons}
use Rattle.agc_machine.specs.declared.upcoming.Upcoming.{Upcoming}
use Rattle.agc_machine.specs.declared.upcoming.Upcoming.TheVariants as upcoming
use Rattle.agc_processor.specs.declared.interrupt.Rupt.{Rupt}
use Rattle.agc_listing.specs.Location.{location_at}
use Rattle.agc_listing.specs.declared.location.Location.{Location}
use Rattle.agc_listing.specs.declared.location.Location.TheVariants as location
use Rattle.agc_profile.specs.Profile.{count_of, counted, counted_as, counted_at, counted_data, counted_happening, counted_inhibited, counted_one, counted_read, counted_serving, nothing_counted}
use Rattle.agc_profile.specs.Laws.{is_read, read_at, read_before, tally_of, tally_of_both}
use Rattle.agc_profile.specs.Opcode.{named_of}
use Rattle.agc_profile.specs.Step.{service_of}
use Rattle.agc_profile.specs.Tally.{empty_table, once, plus, tally_at}
use Rattle.agc_profile.specs.declared.profile.Profile.{Profile}
use Rattle.agc_profile.specs.declared.opcode.Opcode.{Opcode}
use Rattle.agc_profile.specs.declared.opcode.Opcode.TheVariants as named
use Rattle.agc_profile.specs.declared.step.Step.{Step}
use Rattle.agc_profile.specs.declared.tally.Tally.{Tally}
use Rattle.agc_profile.proofs.Places.{added_by, added_length, empty_length, empty_tally, more_if, nothing_plus, plus_nothing, same_tally}

same_both : (t u : Tally) → t.times ≡ u.times → t.cycles ≡ u.cycles → t ≡ u
same_both t u e f = same_tally t.times t.cycles u.times u.cycles e f

-- one more boundary, which either test may select
both_joined : (b d : Bool) (t : Tally) (p : Step) (xs ys : List Step) →
    plus (more_if d p.cycles (more_if b p.cycles t)) (plus (tally_of xs) (tally_of ys))
    ≡ plus t (plus (tally_of (if b then p ∷ xs else xs)) (tally_of (if d then p ∷ ys else ys)))
both_joined true true t p xs ys =
    same_both _ _ (omega arith) (omega (arith, sum_by-cons (λ (q : Step). q.cycles) p xs, sum_by-cons (λ (q : Step). q.cycles) p ys))
both_joined true false t p xs ys = same_both _ _ (omega arith) (omega (arith, sum_by-cons (λ (q : Step). q.cycles) p xs))
both_joined false true t p xs ys = same_both _ _ (omega arith) (omega (arith, sum_by-cons (λ (q : Step). q.cycles) p ys))
both_joined false false t p xs ys = refl

-- if each boundary adds to a place what two tests select, the table has there what all boundaries add
module _ (table : Profile → List Tally) (test other : Step → Bool) (place : ℕ)
    (keeps : (p : Step) (c : Profile) → length (table (counted_one p c)) ≡ length (table c))
    (adds : (p : Step) (c : Profile) → place < length (table c) →
    tally_at place (table (counted_one p c)) ≡ more_if (other p) p.cycles (more_if (test p) p.cycles (tally_at place (table c)))) where
  both_added : (c : Profile) (ps : List Step) → place < length (table c) →
      tally_at place (table (counted c ps)) ≡ plus (tally_at place (table c)) (tally_of_both test other ps)
  unfolding counted
  both_added c [] l = plus_nothing (tally_at place (table c))
  both_added c (p ∷ ps) l =
      both_added (counted_one p c) ps (omega (arith, keeps p c))
      ∙ ap (λ (t : Tally). plus t (tally_of_both test other ps)) (adds p c l)
      ∙ both_joined (test p) (other p) (tally_at place (table c)) p (filter test ps) (filter other ps)

  both_from_empty : (size : ℕ) (ps : List Step) → table nothing_counted ≡ empty_table size → place < size →
      tally_at place (table (count_of ps)) ≡ tally_of_both test other ps
  both_from_empty size ps e l =
      let long : length (table nothing_counted) ≡ size = ap (λ (xs : List Tally). length xs) e ∙ empty_length size in
      both_added nothing_counted ps (omega (arith, long))
      ∙ ap (λ (xs : List Tally). plus (tally_at place xs) (tally_of_both test other ps)) e
      ∙ ap (λ (t : Tally). plus t (tally_of_both test other ps)) (empty_tally size place l)
      ∙ nothing_plus (tally_of_both test other ps)

-- everything that a boundary adds except its reads leaves these unchanged
record SameReads (c d : Profile) : Type 0 where
  fixed : d.fixed_data ≡ c.fixed_data
  erasable : d.erasable_data ≡ c.erasable_data

same_reads : (c d e : Profile) → SameReads c d → SameReads d e → SameReads c e
same_reads c d e h k = record { fixed = k.fixed ∙ h.fixed; erasable = k.erasable ∙ h.erasable }

at_same : (l : Location) (one : Tally) (c : Profile) → SameReads c (counted_at l one c)
at_same (location.Fixed place) one c = record { fixed = refl; erasable = refl }
at_same (location.Erasable cell) one c = record { fixed = refl; erasable = refl }

as_same : (name : Opcode) (one : Tally) (c : Profile) → SameReads c (counted_as name one c)
as_same (named.Basic order) one c = record { fixed = refl; erasable = refl }
as_same (named.Extracode order) one c = record { fixed = refl; erasable = refl }

happening_same : (u : Upcoming) (one : Tally) (c : Profile) → SameReads c (counted_happening u one c)
happening_same (upcoming.Order order) one c =
    let placed = counted_at (location_at order.bank order.address) one c in
    let before = at_same (location_at order.bank order.address) one c in
    let named = as_same (named_of order) one (record placed { orders = plus placed.orders one }) in
    record { fixed = named.fixed ∙ before.fixed; erasable = named.erasable ∙ before.erasable }
happening_same (upcoming.Stop why) one c = record { fixed = refl; erasable = refl }
happening_same (upcoming.Event what) one c = record { fixed = refl; erasable = refl }
happening_same (upcoming.Timer t) one c = record { fixed = refl; erasable = refl }
happening_same (upcoming.Interrupt r) one c = record { fixed = refl; erasable = refl }

serving_same : (o : Option Rupt) (p : Step) (c : Profile) → SameReads c (counted_serving o p c)
serving_same (Some r) p c = record { fixed = refl; erasable = refl }
serving_same None p c = record { fixed = refl; erasable = refl }

inhibited_same : (b : Bool) (one : Tally) (c : Profile) → SameReads c (counted_inhibited b one c)
inhibited_same true one c = record { fixed = refl; erasable = refl }
inhibited_same false one c = record { fixed = refl; erasable = refl }

-- what a boundary adds before its reads
abbrev but_reads : Step → Profile → Profile
but_reads p c =
    counted_inhibited p.mode.inhibited (once p.cycles) (counted_serving (service_of p) p (counted_happening p.happening (once p.cycles) c))

others_same : (p : Step) (c : Profile) → SameReads c (but_reads p c)
others_same p c =
    let happened = counted_happening p.happening (once p.cycles) c in
    same_reads _ _ _ (happening_same p.happening (once p.cycles) c)
    (same_reads _ _ _ (serving_same (service_of p) p happened)
    (inhibited_same p.mode.inhibited (once p.cycles) (counted_serving (service_of p) p happened)))

reads_last : (p : Step) (c : Profile) → counted_one p c ≡ counted_data p.reads (once p.cycles) (but_reads p c)
unfolding counted_one
reads_last p c = refl

-- fixed memory
fixed_length : (o : Option Location) (one : Tally) (c : Profile) → length (counted_read o one c).fixed_data ≡ length c.fixed_data
fixed_length (Some (location.Fixed q)) one c = added_length q one c.fixed_data
fixed_length (Some (location.Erasable q)) one c = refl
fixed_length None one c = refl

fixed_more : (o : Option Location) (place cycles : ℕ) (c : Profile) → place < length c.fixed_data →
    tally_at place (counted_read o (once cycles) c).fixed_data ≡ more_if (is_read o (location.Fixed place)) cycles (tally_at place c.fixed_data)
fixed_more (Some (location.Fixed q)) place cycles c l = added_by (nat_le place q && nat_le q place) place q cycles c.fixed_data refl l
fixed_more (Some (location.Erasable q)) place cycles c l = refl
fixed_more None place cycles c l = refl

fixed_keeps : (p : Step) (c : Profile) → length (counted_one p c).fixed_data ≡ length c.fixed_data
fixed_keeps p c =
    let first = counted_read p.reads.at (once p.cycles) (but_reads p c) in
    ap (λ (d : Profile). length d.fixed_data) (reads_last p c) ∙ fixed_length p.reads.before (once p.cycles) first
    ∙ fixed_length p.reads.at (once p.cycles) (but_reads p c) ∙ ap (λ (xs : List Tally). length xs) (others_same p c).fixed

fixed_adds : (place : ℕ) (p : Step) (c : Profile) → place < length c.fixed_data →
    tally_at place (counted_one p c).fixed_data
    ≡ more_if (read_before (location.Fixed place) p) p.cycles (more_if (read_at (location.Fixed place) p) p.cycles (tally_at place c.fixed_data))
fixed_adds place p c l =
    let same = (others_same p c).fixed in
    let first = counted_read p.reads.at (once p.cycles) (but_reads p c) in
    let long : length (but_reads p c).fixed_data ≡ length c.fixed_data = ap (λ (xs : List Tally). length xs) same in
    ap (λ (d : Profile). tally_at place d.fixed_data) (reads_last p c)
    ∙ fixed_more p.reads.before place p.cycles first (omega (arith, l, long, fixed_length p.reads.at (once p.cycles) (but_reads p c)))
    ∙ ap (λ (t : Tally). more_if (read_before (location.Fixed place) p) p.cycles t)
    (fixed_more p.reads.at place p.cycles (but_reads p c) (omega (arith, l, long))
    ∙ ap (λ (xs : List Tally). more_if (read_at (location.Fixed place) p) p.cycles (tally_at place xs)) same)

no_fixed : nothing_counted.fixed_data ≡ empty_table 0o120000
unfolding nothing_counted
no_fixed = refl

pub fixed_read : (place : ℕ) (ps : List Step) → place < 0o120000 →
    tally_at place (count_of ps).fixed_data ≡ tally_of_both (read_at (location.Fixed place)) (read_before (location.Fixed place)) ps
fixed_read place ps l =
    both_from_empty (λ (c : Profile). c.fixed_data) (read_at (location.Fixed place)) (read_before (location.Fixed place)) place
    fixed_keeps (fixed_adds place) 0o120000 ps no_fixed l

-- erasable memory
cells_length : (o : Option Location) (one : Tally) (c : Profile) → length (counted_read o one c).erasable_data ≡ length c.erasable_data
cells_length (Some (location.Fixed q)) one c = refl
cells_length (Some (location.Erasable q)) one c = added_length q one c.erasable_data
cells_length None one c = refl

cells_more : (o : Option Location) (cell cycles : ℕ) (c : Profile) → cell < length c.erasable_data →
    tally_at cell (counted_read o (once cycles) c).erasable_data
    ≡ more_if (is_read o (location.Erasable cell)) cycles (tally_at cell c.erasable_data)
cells_more (Some (location.Fixed q)) cell cycles c l = refl
cells_more (Some (location.Erasable q)) cell cycles c l = added_by (nat_le cell q && nat_le q cell) cell q cycles c.erasable_data refl l
cells_more None cell cycles c l = refl

cells_keep : (p : Step) (c : Profile) → length (counted_one p c).erasable_data ≡ length c.erasable_data
cells_keep p c =
    let first = counted_read p.reads.at (once p.cycles) (but_reads p c) in
    ap (λ (d : Profile). length d.erasable_data) (reads_last p c) ∙ cells_length p.reads.before (once p.cycles) first
    ∙ cells_length p.reads.at (once p.cycles) (but_reads p c) ∙ ap (λ (xs : List Tally). length xs) (others_same p c).erasable

cells_add : (cell : ℕ) (p : Step) (c : Profile) → cell < length c.erasable_data →
    tally_at cell (counted_one p c).erasable_data
    ≡ more_if (read_before (location.Erasable cell) p) p.cycles (more_if (read_at (location.Erasable cell) p) p.cycles (tally_at cell c.erasable_data))
cells_add cell p c l =
    let same = (others_same p c).erasable in
    let first = counted_read p.reads.at (once p.cycles) (but_reads p c) in
    let long : length (but_reads p c).erasable_data ≡ length c.erasable_data = ap (λ (xs : List Tally). length xs) same in
    ap (λ (d : Profile). tally_at cell d.erasable_data) (reads_last p c)
    ∙ cells_more p.reads.before cell p.cycles first (omega (arith, l, long, cells_length p.reads.at (once p.cycles) (but_reads p c)))
    ∙ ap (λ (t : Tally). more_if (read_before (location.Erasable cell) p) p.cycles t)
    (cells_more p.reads.at cell p.cycles (but_reads p c) (omega (arith, l, long))
    ∙ ap (λ (xs : List Tally). more_if (read_at (location.Erasable cell) p) p.cycles (tally_at cell xs)) same)

no_cells : nothing_counted.erasable_data ≡ empty_table 0o4000
unfolding nothing_counted
no_cells = refl

pub cells_read : (cell : ℕ) (ps : List Step) → cell < 0o4000 →
    tally_at cell (count_of ps).erasable_data ≡ tally_of_both (read_at (location.Erasable cell)) (read_before (location.Erasable cell)) ps
cells_read cell ps l =
    both_from_empty (λ (c : Profile). c.erasable_data) (read_at (location.Erasable cell)) (read_before (location.Erasable cell)) cell
    cells_keep (cells_add cell) 0o4000 ps no_cells l
