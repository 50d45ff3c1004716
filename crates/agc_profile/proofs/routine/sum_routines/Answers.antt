use Rattle.std.proofs.Common.{◌≡◌, List, length, ap, ◌∙◌, rules, arith}
use Rattle.agc_profile.specs.Routine.{begins, routine_of, size_of}
use Rattle.agc_profile.specs.declared.tally.Tally.{Tally}
use Rattle.agc_profile.proofs.Places.{added_length, empty_length}
use Rattle.agc_profile.proofs.Routines.{all_summed, last_is_routine, none_begun, nothing_summed, one_summed}
use Rattle.agc_profile.proofs.routine.sum_routines.Goals as goal

pub loop-place-init : goal.loop-place-init
loop-place-init c = (
  none_begun (begins c.args.names.now c.args.memory),
  ap (λ (xs : List Tally). length xs) c.in_ok-sums.ensures ∙ empty_length c.size.result ∙ c.size.ensures,
  λ first l. nothing_summed (routine_of c.args.names.now c.args.memory) c.args.table.now c.in_ok-sums.sums c.size.result first c.in_ok-sums.ensures (omega (arith, l, c.size.ensures)),
)

pub loop-place-preserved : goal.loop-place-preserved
loop-place-preserved c = (
  last_is_routine c.args.names.now c.args.memory c.loop-place.place _ c.start_of-first.ensures,
  ap (λ (xs : List Tally). length xs) c.in_ok-add.ensures ∙ added_length _ _ _ ∙ c.loop-place.invariant.1,
  λ first l. one_summed (routine_of c.args.names.now c.args.memory) c.args.table.now _ _ (size_of c.args.memory) c.loop-place.place _ first _
      c.start_of-first.ensures c.at.ensures c.in_ok-add.ensures c.loop-place.invariant.1 l (c.loop-place.invariant.2 first l),
)

pub returns : goal.returns
returns c =
    let done : c.loop-place.place ≡ size_of c.args.memory = search rules in
    all_summed c.args.names.now c.args.memory c.args.table.now c.loop-place.sums c.loop-place.place done c.loop-place.invariant.2
