-- The tables of a profile add up to its orders.
use Rattle.std.proofs.Common.{◌≡◌, ℕ, ◌+◌, ◌*◌, ◌<◌, List, length, Option, Some, None, Bool, true, false, refl, ap, sym, ◌∙◌, subst, arith}
use Rattle.std.specs.Prelude.{if◌then◌else◌, get_or}
use Rattle.std.specs.List.{sum_by}
use Rattle.std.proofs.lemmas.List.Folds.{sum_by-replicate}
use Rattle.std.proofs.lemmas.List.Sums.{sum_by-set}
use Rattle.agc_order.specs.declared.order.Basic.{Basic}
use Rattle.agc_order.specs.declared.order.Basic.TheVariants as basic
use Rattle.agc_order.specs.declared.order.Extracode.{Extracode}
use Rattle.agc_order.specs.declared.order.Extracode.TheVariants as extra
use Rattle.agc_machine.specs.Boundary.{upcoming_of}
use Rattle.agc_machine.specs.State.{State}
use Rattle.agc_machine.specs.declared.upcoming.Upcoming.{Upcoming}
use Rattle.agc_machine.specs.declared.upcoming.Upcoming.TheVariants as upcoming
use Rattle.agc_processor.specs.declared.interrupt.Rupt.{Rupt}
use Rattle.agc_listing.specs.Location.{location_at}
use Rattle.agc_listing.specs.declared.location.Location.{Location}
use Rattle.agc_listing.specs.declared.location.Location.TheVariants as location
use Rattle.agc_profile.specs.Profile.{counted_as, counted_at, counted_data, counted_happening, counted_in, counted_inhibited, counted_one, counted_read, counted_serving, nothing_counted}
use Rattle.agc_profile.specs.Laws.{OrdersAddUp}
use Rattle.agc_profile.specs.Opcode.{named_of}
use Rattle.agc_profile.specs.Number.{basic_number, extracode_number}
use Rattle.agc_profile.specs.Step.{HasTally, IsPlaced, is_in, passage_of, service_of}
use Rattle.agc_profile.specs.Sums.{AddsUp, Halves}
use Rattle.agc_profile.specs.Tally.{added, cycles_in, empty_table, nothing, once, plus, times_in}
use Rattle.agc_profile.specs.declared.profile.Profile.{Profile}
use Rattle.agc_profile.specs.declared.data.DataReads.{DataReads}
use Rattle.agc_profile.specs.declared.context.Context.{Context}
use Rattle.agc_profile.specs.declared.opcode.Opcode.{Opcode}
use Rattle.agc_profile.specs.declared.opcode.Opcode.TheVariants as named
use Rattle.agc_profile.specs.declared.step.Step.{Step}
use Rattle.agc_trace.specs.declared.span.Span.{Span}
use Rattle.agc_profile.specs.declared.tally.Tally.{Tally}
use Rattle.agc_profile.proofs.Left.{happens}
use Rattle.agc_profile.proofs.Places.{added_length, empty_length}

pub law_of : (c : Profile) → AddsUp c → OrdersAddUp c
law_of c h = (h.0.up, h.1.up)

sum_added : (f : Tally → ℕ) (place : ℕ) (t : Tally) (xs : List Tally) → ((x y : Tally) → f (plus x y) ≡ f x + f y) → place < length xs →
    sum_by f (added place t xs) ≡ sum_by f xs + f t
unfolding added
sum_added f place t xs h l =
    omega (arith, sum_by-set f xs place (plus (get_or xs place nothing) t) nothing l, h (get_or xs place nothing) t)

times_added : (place : ℕ) (t : Tally) (xs : List Tally) → place < length xs → times_in (added place t xs) ≡ times_in xs + t.times
times_added place t xs l = sum_added (λ (x : Tally). x.times) place t xs (λ x y. refl) l

cycles_added : (place : ℕ) (t : Tally) (xs : List Tally) → place < length xs → cycles_in (added place t xs) ≡ cycles_in xs + t.cycles
cycles_added place t xs l = sum_added (λ (x : Tally). x.cycles) place t xs (λ x y. refl) l

left_more : (size rest place : ℕ) (t : Tally) (xs ys : List Tally) (all : Tally) → place < size → Halves size rest xs ys all →
    Halves size rest (added place t xs) ys (plus all t)
left_more size rest place t xs ys all l h =
    record {
      length_is = added_length place t xs ∙ h.length_is;
      others_length = h.others_length;
      up = record {
        times = omega (arith, times_added place t xs (omega (arith, h.length_is)), h.up.times);
        cycles = omega (arith, cycles_added place t xs (omega (arith, h.length_is)), h.up.cycles);
      };
    }

right_more : (size rest place : ℕ) (t : Tally) (xs ys : List Tally) (all : Tally) → place < rest → Halves size rest xs ys all →
    Halves size rest xs (added place t ys) (plus all t)
right_more size rest place t xs ys all l h =
    record {
      length_is = h.length_is;
      others_length = added_length place t ys ∙ h.others_length;
      up = record {
        times = omega (arith, times_added place t ys (omega (arith, h.others_length)), h.up.times);
        cycles = omega (arith, cycles_added place t ys (omega (arith, h.others_length)), h.up.cycles);
      };
    }

no_product : (n m : ℕ) → m ≡ 0 → n * m ≡ 0
no_product n m e = grind arith

sum_of_none : (f : Tally → ℕ) (size : ℕ) → f nothing ≡ 0 → sum_by f (empty_table size) ≡ 0
unfolding empty_table
sum_of_none f size e = sum_by-replicate f size nothing ∙ no_product size (f nothing) e

none_halves : (size rest : ℕ) → Halves size rest (empty_table size) (empty_table rest) nothing
none_halves size rest =
    record {
      length_is = empty_length size;
      others_length = empty_length rest;
      up = record {
        times = omega (arith, sum_of_none (λ (x : Tally). x.times) size refl, sum_of_none (λ (x : Tally). x.times) rest refl);
        cycles = omega (arith, sum_of_none (λ (x : Tally). x.cycles) size refl, sum_of_none (λ (x : Tally). x.cycles) rest refl);
      };
    }

nothing_adds_up : AddsUp nothing_counted
unfolding nothing_counted
nothing_adds_up = (none_halves 0o120000 0o4000, none_halves 19 20)

-- at the start everything is zero
pub none_add_up : (c : Profile) → c ≡ nothing_counted → AddsUp c
none_add_up c e = subst (λ (d : Profile). AddsUp d) (sym e) nothing_adds_up

basic_below : (b : Basic) → basic_number b < 19
basic_below basic.Tc = omega arith
basic_below basic.Relint = omega arith
basic_below basic.Inhint = omega arith
basic_below basic.Extend = omega arith
basic_below basic.Ccs = omega arith
basic_below basic.Tcf = omega arith
basic_below basic.Das = omega arith
basic_below basic.Lxch = omega arith
basic_below basic.Incr = omega arith
basic_below basic.Ads = omega arith
basic_below basic.Ca = omega arith
basic_below basic.Cs = omega arith
basic_below basic.Index = omega arith
basic_below basic.Resume = omega arith
basic_below basic.Dxch = omega arith
basic_below basic.Ts = omega arith
basic_below basic.Xch = omega arith
basic_below basic.Ad = omega arith
basic_below basic.Mask = omega arith

extracode_below : (e : Extracode) → extracode_number e < 20
extracode_below extra.Read = omega arith
extracode_below extra.Write = omega arith
extracode_below extra.Rand = omega arith
extracode_below extra.Wand = omega arith
extracode_below extra.Ror = omega arith
extracode_below extra.Wor = omega arith
extracode_below extra.Rxor = omega arith
extracode_below extra.Edrupt = omega arith
extracode_below extra.Dv = omega arith
extracode_below extra.Bzf = omega arith
extracode_below extra.Msu = omega arith
extracode_below extra.Qxch = omega arith
extracode_below extra.Aug = omega arith
extracode_below extra.Dim = omega arith
extracode_below extra.Dca = omega arith
extracode_below extra.Dcs = omega arith
extracode_below extra.Index = omega arith
extracode_below extra.Su = omega arith
extracode_below extra.Bzmf = omega arith
extracode_below extra.Mp = omega arith

-- an order at its place, with all orders: its opcode is counted after it
abbrev Placed : Profile → Tally → Type 0
Placed c all = Halves 0o120000 0o4000 c.fixed c.erasable all

at_place : (l : Location) (one : Tally) (c : Profile) → HasTally l → Placed c c.orders → Placed (counted_at l one c) (plus c.orders one)
at_place (location.Fixed place) one c l h = left_more 0o120000 0o4000 place one c.fixed c.erasable c.orders l h
at_place (location.Erasable cell) one c l h = right_more 0o120000 0o4000 cell one c.fixed c.erasable c.orders l h

abbrev Names : Profile → Tally → Type 0
Names c all = Halves 19 20 c.basics c.extracodes all

at_names : (l : Location) (one all : Tally) (c : Profile) → Names c all → Names (counted_at l one c) all
at_names (location.Fixed place) one all c h = h
at_names (location.Erasable cell) one all c h = h

at_orders : (l : Location) (one : Tally) (c : Profile) → (counted_at l one c).orders ≡ c.orders
at_orders (location.Fixed place) one c = refl
at_orders (location.Erasable cell) one c = refl

either_adds : (b : Bool) (c d : Profile) → AddsUp c → AddsUp d → AddsUp (if b then c else d)
either_adds true c d h k = h
either_adds false c d h k = k

as_named : (name : Opcode) (one all : Tally) (c : Profile) → c.orders ≡ plus all one → Placed c (plus all one) → Names c all → AddsUp (counted_as name one c)
as_named (named.Basic order) one all c e h k = (
  subst (λ (t : Tally). Placed c t) (sym e) h,
  subst (λ (t : Tally). Halves 19 20 (added (basic_number order) one c.basics) c.extracodes t) (sym e)
      (left_more 19 20 (basic_number order) one c.basics c.extracodes all (basic_below order) k),
)
as_named (named.Extracode order) one all c e h k = (
  subst (λ (t : Tally). Placed c t) (sym e) h,
  subst (λ (t : Tally). Halves 19 20 c.basics (added (extracode_number order) one c.extracodes) t) (sym e)
      (right_more 19 20 (extracode_number order) one c.basics c.extracodes all (extracode_below order) k),
)

happening_adds : (u : Upcoming) (one : Tally) (c : Profile) → IsPlaced u → AddsUp c → AddsUp (counted_happening u one c)
happening_adds (upcoming.Order order) one c l h =
    let here = location_at order.bank order.address in
    let placed = counted_at here one c in
    as_named (named_of order) one c.orders (record placed { orders = plus placed.orders one }) (ap (λ (t : Tally). plus t one) (at_orders here one c))
    (at_place here one c l h.0) (at_names here one c.orders c h.1)
happening_adds (upcoming.Timer t) one c l h = h
happening_adds (upcoming.Event what) one c l h = h
happening_adds (upcoming.Interrupt r) one c l h = h
happening_adds (upcoming.Stop why) one c l h = h

serving_adds : (o : Option Rupt) (p : Step) (c : Profile) → AddsUp c → AddsUp (counted_serving o p c)
serving_adds (Some r) p c h = h
serving_adds None p c h = h

inhibited_adds : (b : Bool) (one : Tally) (c : Profile) → AddsUp c → AddsUp (counted_inhibited b one c)
inhibited_adds true one c h = h
inhibited_adds false one c h = h

read_adds : (o : Option Location) (one : Tally) (c : Profile) → AddsUp c → AddsUp (counted_read o one c)
read_adds (Some (location.Fixed place)) one c h = h
read_adds (Some (location.Erasable cell)) one c h = h
read_adds None one c h = h

data_adds : (words : DataReads) (one : Tally) (c : Profile) → AddsUp c → AddsUp (counted_data words one c)
data_adds words one c h = read_adds words.before one (counted_read words.at one c) (read_adds words.at one c h)

one_adds : (p : Step) (c : Profile) → IsPlaced p.happening → AddsUp c → AddsUp (counted_one p c)
unfolding counted_one
one_adds p c l h =
    let happened = counted_happening p.happening (once p.cycles) c in
    data_adds p.reads (once p.cycles) _
    (inhibited_adds p.mode.inhibited (once p.cycles) (counted_serving (service_of p) p happened)
    (serving_adds (service_of p) p happened (happening_adds p.happening (once p.cycles) c l h)))

-- one more boundary adds up too
pub one_adds_up : (span : Span) (mode : Context) (s : State) (c more : Profile) → IsPlaced (upcoming_of s) → more ≡ counted_in span (passage_of mode s) c → AddsUp c → AddsUp more
one_adds_up span mode s c more l e h =
    let p = passage_of mode s in
    subst (λ (d : Profile). AddsUp d) (sym e)
    (either_adds (is_in span p) (counted_one p c) c (one_adds p c (subst IsPlaced (sym (happens mode s)) l) h) h)
