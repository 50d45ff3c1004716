-- The code's word is the shorter way, and that meets the law.
use Rattle.std.proofs.Common.{ℕ, ◌^◌, ◌<◌, sym, subst, arith, rules}
use Rattle.std.proofs.lemmas.Grind.{common_steps}
use Rattle.agc_word.specs.Number.{Number, pattern_of}
use Rattle.agc_word.specs.Angles.{modular_difference_of, IsModularDifference}
use Rattle.agc_word.proofs.Angles.{modular_difference_of-law, IsModularDifference-only}
use Rattle.agc_word.proofs.angle.modular_difference.Goals as goal

pub returns-clause-value : goal.returns-clause-value
unfolding modular_difference_of
returns-clause-value c = first_of (search rules, grind (arith, common_steps))

pub returns-clause-law : goal.returns-clause-law
returns-clause-law c =
    let a = c.args.a in
    let k = c.args.k in
    let fits_a : pattern_of 15 a < 2 ^ 15 = subst (λ (p : ℕ). p < 2 ^ 15) c.bits.ensures.pattern c.bits.ensures.range in
    let fits_k : pattern_of 15 k < 2 ^ 15 = subst (λ (p : ℕ). p < 2 ^ 15) c.bits-2.ensures.pattern c.bits-2.ensures.range in
    subst (λ (d : Number). IsModularDifference a k d) (sym (returns-clause-value c)) (modular_difference_of-law a k fits_a fits_k)

pub returns-clause-only : goal.returns-clause-only
returns-clause-only c = λ d other. IsModularDifference-only _ _ d _ other (returns-clause-law c)
