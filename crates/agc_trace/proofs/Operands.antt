-- The operand of an order, read before and after a boundary.
use Rattle.std.proofs.Common.{◌≡◌, None, refl, ap, ◌∙◌}
use Rattle.agc_store.specs.Memory.{Memory}
use Rattle.agc_machine.specs.Boundary.{boundary, upcoming_of}
use Rattle.agc_machine.specs.State.{State}
use Rattle.agc_machine.specs.declared.upcoming.Upcoming.{Upcoming}
use Rattle.agc_trace.specs.Operand.{addressed_by, operand_again, operand_between, operand_of}
use Rattle.agc_trace.specs.declared.operand.Addressed.{Addressed}
use Rattle.agc_trace.specs.declared.operand.Addressed.TheVariants as addressed
use Rattle.agc_trace.specs.declared.operand.Operand.{Operand}

again : (s t : State) (what : Addressed) → operand_again t (operand_between s s what) ≡ operand_between s t what
unfolding operand_again operand_between
again s t addressed.Nothing = refl
again s t (addressed.Target at) = refl
again s t (addressed.Word at) = refl
again s t (addressed.Pair upper lower) = refl
again s t (addressed.Channel channel) = refl

-- what is addressed in a state, read in it and after the boundary
pub read_before_and_after : (s t : State) (m : Memory) (u : Upcoming) (what : Addressed) (before after : Operand) → u ≡ upcoming_of s → m ≡ s.processor.store
    → what ≡ addressed_by m u → before ≡ operand_between s s what → t ≡ (boundary None s).0 → after ≡ operand_again t before → after ≡ operand_of s
unfolding operand_of
read_before_and_after s t m u what before after e f h k n p =
    p ∙ ap (operand_again t) k ∙ again s t what ∙ ap (λ (x : State). operand_between s x what) n
    ∙ ap (operand_between s (boundary None s).0) (h ∙ ap (λ (x : Memory). addressed_by x u) f ∙ ap (addressed_by s.processor.store) e)
