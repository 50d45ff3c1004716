use Rattle.std.proofs.Common.{◌∷◌, ◌+◌, drop, ap, subst, sym, ◌∙◌}
use Rattle.std.proofs.lemmas.List.{drop_all, drop_more}
use Rattle.std.proofs.lemmas.List.Elements.{All-get_or}
use Rattle.agc_session.specs.Condition.{IsConditionInRange}
use Rattle.agc_session.specs.declared.condition.Armed.{Armed}
use Rattle.agc_session.proofs.FirstHit.{hit_there, none_left, pass_by}
use Rattle.agc_session.proofs.condition.first_hit.Goals as goal

pub is_hit-requires-clause-range : goal.is_hit-requires-clause-range
is_hit-requires-clause-range c =
    subst (λ (a : Armed). IsConditionInRange a.condition) (sym c.one-item.is)
    (All-get_or (λ (a : Armed). IsConditionInRange a.condition) c.args.armed.now c.loop-one.one-index c.one-item.result c.loop-one-test.true c.requires.range)

pub returns-then-is_hit : goal.returns-then-is_hit
returns-then-is_hit c =
    let armed = c.args.armed.now in
    let at = c.loop-one.one-index in
    let next = drop_more armed at c.one-item.result c.loop-one-test.true ∙ ap (λ (one : Armed). one ∷ drop (at + 1) armed) (sym c.one-item.is) in
    sym (hit_there _ _ _ _ _ _ next (sym c.is_hit.ensures ∙ c.if-is_hit.true)) ∙ c.loop-one.invariant

pub loop-one-preserved : goal.loop-one-preserved
loop-one-preserved c =
    let armed = c.args.armed.now in
    let at = c.loop-one.one-index in
    let next = drop_more armed at c.one-item.result c.loop-one-test.true ∙ ap (λ (one : Armed). one ∷ drop (at + 1) armed) (sym c.one-item.is) in
    sym (pass_by _ _ _ _ _ _ next (sym c.is_hit.ensures ∙ c.if-is_hit.false)) ∙ c.loop-one.invariant

pub returns : goal.returns
returns c = sym (none_left _ _ _ _ (drop_all _ _ c.loop-one-test.false)) ∙ c.loop-one.invariant
