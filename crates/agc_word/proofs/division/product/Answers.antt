-- The pair of the formula meets the law.
use Rattle.std.proofs.Common.{◌≡◌, ◌*ℤ◌, sym, subst, arith, rules}
use Rattle.std.proofs.lemmas.Grind.{common_steps}
use Rattle.agc_word.specs.Number.{Number, value}
use Rattle.agc_word.specs.Products.{product_of, dividend_of}
use Rattle.agc_word.proofs.Multiplications.{product_of-law}
use Rattle.agc_word.proofs.division.product.Goals as goal

pub returns-clause-pair : goal.returns-clause-pair
unfolding product_of
returns-clause-pair c = first_of (search rules, grind (arith, common_steps))

pub returns-clause-law : goal.returns-clause-law
returns-clause-law c =
    subst (λ (p : Number × Number). dividend_of p.0 p.1 ≡ value c.args.a *ℤ value c.args.k) (sym (returns-clause-pair c)) (product_of-law c.args.a c.args.k)
