use Rattle.std.proofs.Common.{rules}
use Rattle.std.proofs.lemmas.List.Sorted.{answers_always}
use Rattle.std.proofs.lemmas.Result.{on_ok_weaker}
use Rattle.agc_script.specs.declared.event.Event.{Event}
use Rattle.agc_script.proofs.Arranged.{arranged_by_sort}
use Rattle.agc_script.proofs.parse.arrange.Goals as goal

pub returns-clause-ok : goal.returns-clause-ok
returns-clause-ok c =
    on_ok_weaker c.sort_by_key.result
    (λ sorted. arranged_by_sort _ _
    (sorted (λ (e : Event). e.cycle) (answers_always _ _ _ (λ f a r g h. search rules)))
    (c.sort_by_key.ensures.stable (λ (e : Event). e.cycle) (answers_always _ _ _ (λ f a r g h. search rules))))
    c.sort_by_key.ensures.sorted
