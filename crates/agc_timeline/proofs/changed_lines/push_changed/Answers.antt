use Rattle.std.proofs.Common.{◌∙◌, rules}
use Rattle.agc_timeline.proofs.Lines.{both_pushed, new_pushed, none_pushed}
use Rattle.agc_timeline.proofs.changed_lines.push_changed.Goals as goal

pub loop-old-preserved-in-Some-Some : goal.loop-old-preserved-in-Some-Some
loop-old-preserved-in-Some-Some c = (
  both_pushed c.args.names.now c.args.cycle _ _ _ _ _ _ _ _ c.in-Some-Some.ensures.line c.in-Some-Some.ensures'.line c.in_ok-push_where_other-in-Some-Some.ensures
      ∙ c.loop-old.invariant.0,
  search rules,
  search rules,
)

pub loop-old-preserved : goal.loop-old-preserved
loop-old-preserved c = (
  new_pushed c.args.names.now c.args.cycle _ _ _ _ _ _ c.in-None-Some.ensures.line c.in-None-Some.ensures'.line c.in_ok-push_line-in-None-Some.ensures
      ∙ c.loop-old.invariant.0,
  search rules,
  search rules,
)

pub returns-in-Some-None : goal.returns-in-Some-None
returns-in-Some-None c = none_pushed c.args.names.now c.args.cycle _ _ _ c.in-Some-None.ensures'.line ∙ c.loop-old.invariant.0

pub returns-in-None-None : goal.returns-in-None-None
returns-in-None-None c = none_pushed c.args.names.now c.args.cycle _ _ _ c.in-None-None.ensures'.line ∙ c.loop-old.invariant.0
