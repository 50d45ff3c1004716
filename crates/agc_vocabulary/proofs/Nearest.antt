-- The rounded quotient is nearest; if it rounds to a limit, the largest integer below the limit is.
use Rattle.std.specs.Prelude.{◌≡◌, ℕ, ◌+◌, ◌-◌, ◌*◌, ◌/◌, ◌%◌, ◌^◌, ◌<◌, ◌≤◌, nat_lt, zero, suc, Bool, true, false, Some, None, if◌then◌else◌}
use Rattle.std.proofs.Common.{refl, ap, sym, arith, ◌∙◌}
use Rattle.std.proofs.lemmas.Bool.Decides.{nat_tests}
use Rattle.std.proofs.Math.Nat.{mul-one, mul_assoc, mul_comm, one-le-pow, pow-le-pow_right, pow-suc, pow-zero}
use Rattle.std.proofs.lemmas.Nat.{div-add-mod', div_below, le-div, mod_below, mul-le, one_shl, row_fits}
use Rattle.agc_vocabulary.specs.Numeral.{IsNearest, apart, nearest, raised, rounded}
use Rattle.agc_vocabulary.specs.declared.numeral.Quotient.{Quotient}

double : (q u : ℕ) → q * (2 * u) ≡ 2 * (q * u)
double q u = omega arith

gap_below : (a b u over : ℕ) → b + u ≤ a → 2 * a ≤ 2 * over + u → apart a over ≤ apart b over
gap_below a b u over h k = omega arith

gap_above : (a b u over : ℕ) → a + u ≤ b → 2 * over ≤ 2 * a + u → apart a over ≤ apart b over
gap_above a b u over h k = omega arith

-- an integer near a quotient is nearer than any other
near_by : (over under m k : ℕ) (less more : Bool) → nat_lt k m ≡ less → nat_lt m k ≡ more → 2 * (m * under) ≤ 2 * over + under → 2 * over ≤ 2 * (m * under) + under
    → apart (m * under) over ≤ apart (k * under) over
near_by over under m k true more e f low high =
    let below : k < m = grind (arith, nat_tests) in
    gap_below (m * under) (k * under) under over (row_fits k under m under below (omega arith)) low
near_by over under m k false true e f low high =
    let above : m < k = grind (arith, nat_tests) in
    gap_above (m * under) (k * under) under over (row_fits m under k under above (omega arith)) high
near_by over under m k false false e f low high =
    let same : m ≡ k = grind (arith, nat_tests) in
    rw same (omega arith)

near : (over under m k : ℕ) → 2 * (m * under) ≤ 2 * over + under → 2 * over ≤ 2 * (m * under) + under → apart (m * under) over ≤ apart (k * under) over
near over under m k low high = near_by over under m k (nat_lt k m) (nat_lt m k) refl refl low high

-- the rounded quotient
low_end : (over under : ℕ) → 2 * ((2 * over + under) / (2 * under) * under) ≤ 2 * over + under
low_end over under =
    let n = 2 * over + under in
    let q = n / (2 * under) in
    let whole : q * (2 * under) + n % (2 * under) ≡ n = div-add-mod' n (2 * under) in
    let twice : q * (2 * under) ≡ 2 * (q * under) = double q under in
    omega arith

high_end : (over under : ℕ) → 0 < under → 2 * over ≤ 2 * ((2 * over + under) / (2 * under) * under) + under
high_end over under some =
    let n = 2 * over + under in
    let q = n / (2 * under) in
    let whole : q * (2 * under) + n % (2 * under) ≡ n = div-add-mod' n (2 * under) in
    let rest : n % (2 * under) < 2 * under = mod_below n (2 * under) (omega arith) in
    let twice : q * (2 * under) ≡ 2 * (q * under) = double q under in
    omega arith

-- if it is the limit or more
top : (limit over under k q : ℕ) → k < limit → limit ≤ q → 2 * (q * under) ≤ 2 * over + under → apart ((limit - 1) * under) over ≤ apart (k * under) over
top limit over under k q inside more low =
    let last = limit - 1 in
    let high : limit * under ≤ q * under = mul-le limit under q under more (omega arith) in
    let next : last * under + under ≤ limit * under = row_fits last under limit under (omega arith) (omega arith) in
    let under_last : k * under ≤ last * under = mul-le k under last under (omega arith) (omega arith) in
    omega arith

by_limit : (limit over under k q : ℕ) (below : Bool) → nat_lt q limit ≡ below → k < limit → 2 * (q * under) ≤ 2 * over + under → 2 * over ≤ 2 * (q * under) + under
    → apart ((if below then q else limit - 1) * under) over ≤ apart (k * under) over
by_limit limit over under k q true e inside low high = near over under q k low high
by_limit limit over under k q false e inside low high = top limit over under k q inside (grind (arith, nat_tests)) low

pub nearest_is : (limit over under k : ℕ) → 0 < under → k < limit
    → apart ((if nat_lt ((2 * over + under) / (2 * under)) limit then (2 * over + under) / (2 * under) else limit - 1) * under) over ≤ apart (k * under) over
nearest_is limit over under k some inside =
    let q = (2 * over + under) / (2 * under) in
    by_limit limit over under k q (nat_lt q limit) refl inside (low_end over under) (high_end over under some)

-- whether a quotient is below a limit
below_by : (limit over under : ℕ) (product : Bool) → nat_lt over (limit * under) ≡ product → 0 < under → nat_lt (over / under) limit ≡ product
below_by limit over under true e some =
    let inside : over < limit * under = grind (arith, nat_tests) in
    let less : over / under < limit = div_below over under limit some inside in
    grind (arith, nat_tests)
below_by limit over under false e some =
    let outside : limit * under ≤ over = grind (arith, nat_tests) in
    let more : limit ≤ over / under = le-div limit over under some outside in
    grind (arith, nat_tests)

pub below_is : (limit over under : ℕ) → 0 < under → nat_lt (over / under) limit ≡ nat_lt over (limit * under)
below_is limit over under some = below_by limit over under (nat_lt over (limit * under)) refl some

-- a power of two within 28 bits
pub shifted : (bits : ℕ) → bits ≤ 28 → 1 * 2 ^ bits % 2 ^ 128 ≡ 2 ^ bits
shifted bits h = one_shl bits 128 (omega arith)

pub at_most : (bits : ℕ) → bits ≤ 28 → 2 ^ bits ≤ 2 ^ 28
at_most bits h = pow-le-pow_right {n = 2} (omega arith) {i = bits} {j = 28} h

pub positive : (bits : ℕ) → 0 < 2 ^ bits
positive bits = one-le-pow bits 2 (omega arith)

-- the number that a quotient rounds to
nearest_some : (limit : ℕ) (r : Quotient) (n : ℕ) (inside : Bool) → 0 < r.under
    → (if inside then Some (if nat_lt (rounded r) limit then rounded r else limit - 1) else None) ≡ Some n → IsNearest limit r n
nearest_some limit r n true some is =
    let same : (if nat_lt (rounded r) limit then rounded r else limit - 1) ≡ n = cc in
    λ k below. rw (← same) (nearest_is limit r.over r.under k some below)
nearest_some limit r n false some is = absurd cc

pub nearest_by : (limit : ℕ) (r : Quotient) (n : ℕ) → 0 < r.under → nearest limit r ≡ Some n → IsNearest limit r n
unfolding nearest
nearest_by limit r n some is = nearest_some limit r n (nat_lt r.over (limit * r.under)) some is

-- a number times a power
step : (n base times : ℕ) → n * base * base ^ times ≡ n * base ^ suc times
step n base times = mul_assoc n base (base ^ times) ∙ ap (λ (p : ℕ). n * p) (mul_comm base (base ^ times) ∙ sym (pow-suc base times))

raised_by : (n base times more : ℕ) (inside : Bool) → ((product : ℕ) → raised product base times ≡ Some more → more ≡ product * base ^ times)
    → elim (if inside then Some (n * base) else None) [ Some product ↦ raised product base times | None ↦ None ] ≡ Some more → more ≡ n * base ^ suc times
raised_by n base times more true rest is = rest (n * base) is ∙ step n base times
raised_by n base times more false rest is = absurd cc

pub raised_is : (n base times more : ℕ) → raised n base times ≡ Some more → more ≡ n * base ^ times
unfolding raised
raised_is n base zero more is = let same : n ≡ more = cc in rw (← same) (sym (ap (λ (p : ℕ). n * p) (pow-zero base) ∙ mul-one n))
raised_is n base (suc times) more is = raised_by n base times more (nat_lt (n * base) (2 ^ 124)) (λ product h. raised_is product base times more h) is
