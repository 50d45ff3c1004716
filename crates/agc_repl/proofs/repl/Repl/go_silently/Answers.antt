use Rattle.std.specs.Prelude.{[]}
use Rattle.std.proofs.Common.{sym, ◌∙◌}
use Rattle.agc_repl.proofs.Going.{under_way}
use Rattle.agc_repl.proofs.Runs.{followed_up, follows, follows_on, never_comes}
use Rattle.agc_repl.proofs.repl.Repl.go_silently.Goals as goal

pub loop-self-init : goal.loop-self-init
loop-self-init c = follows [] _ _

pub advance-requires-clause-short : goal.advance-requires-clause-short
advance-requires-clause-short c = sym c.is_before.ensures ∙ c.loop-self-test.true

pub loop-self-preserved : goal.loop-self-preserved
loop-self-preserved c =
    follows_on [] _ _ _ _ c.advance.result.stepped c.advance.result.hit c.loop-self.invariant (c.advance.ensures.run, c.advance.ensures.shown) (c.advance.ensures.hit ∙ never_comes _ _ _)

pub loop-self-smaller : goal.loop-self-smaller
loop-self-smaller c = c.advance.ensures.advances (under_way c.args.cycle c.loop-self.self.session.now (sym c.is_before.ensures ∙ c.loop-self-test.true)).1

pub returns : goal.returns
returns c = followed_up [] _ _ _ c.loop-self.invariant (sym c.is_before.ensures ∙ c.loop-self-test.false)
