use Rattle.std.proofs.Common.{arith, refl}
use Rattle.agc_session.proofs.Counting.{finds_earlier, finds_fewer, finds_last}
use Rattle.agc_session.proofs.search.search_stretch.Goals as goal

pub returns-then-all-number-clause-searched : goal.returns-then-all-number-clause-searched
returns-then-all-number-clause-searched g c = λ n at.
    finds_fewer _ n _ _ _ _ _ (c.in_ok-all.ensures n at) c.is_short.ensures c.if-all-number.true

pub returns-then-number-eq1-clause-searched : goal.returns-then-number-eq1-clause-searched
returns-then-number-eq1-clause-searched g c = λ n at.
    finds_last _ n _ _ _ _ _ (c.in_ok-all.ensures n at) c.is_short.ensures c.if-number-eq1.true (omega (arith, c.if-all-number.false))

pub returns-clause-searched : goal.returns-clause-searched
returns-clause-searched g c = λ n at.
    finds_earlier _ n _ _ _ _ _ _ _ (c.in_ok-all.ensures n at) c.is_short.ensures (c.in_ok-first.ensures n at) c.requires.some (omega (arith, c.if-all-number.false)) refl
