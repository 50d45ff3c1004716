-- The pair that the code finds meets the law of division, so no other does, and the law has a pair.
use Rattle.std.proofs.Common.{true≢false, arith}
use Rattle.std.proofs.lemmas.Grind.{common_steps}
use Rattle.agc_word.specs.Products.{IsDivision}
use Rattle.agc_word.proofs.Divisions.{IsDivision-only}
use Rattle.agc_word.proofs.division.quotient.Goals as goal

pub returns-clause-only : goal.returns-clause-only
returns-clause-only c =
    let law : IsDivision c.args.a c.args.l c.args.k c.signed.result c.signed-2.result =
    record { divisor = grind arith; fits = grind arith; whole = grind arith; rest = grind arith; quotient_sign = grind (arith, common_steps); remainder_sign = grind (arith, common_steps) } in
    (law, λ p s other. IsDivision-only _ _ _ _ _ p s law other)

pub returns-clause-none : goal.returns-clause-none
returns-clause-none c = (λ e. absurd (true≢false e), λ never. absurd (never _ _ (returns-clause-only c).0))
