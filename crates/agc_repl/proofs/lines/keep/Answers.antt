use Rattle.std.proofs.Common.{◌∙◌, arith}
use Rattle.agc_repl.proofs.Input.{kept_full, kept_more}
use Rattle.agc_repl.proofs.lines.keep.Goals as goal

pub returns-in_ok-push : goal.returns-in_ok-push
returns-in_ok-push c part e =
    c.in_ok-push.ensures.items ∙ kept_more part c.args.line.now.items c.args.byte (omega (arith, c.if-len-lt-KEPT.true, c.len.ensures)) e

pub returns-else-len-lt-KEPT : goal.returns-else-len-lt-KEPT
returns-else-len-lt-KEPT c part e =
    kept_full part c.args.line.now.items c.args.byte (omega (arith, c.if-len-lt-KEPT.false, c.len.ensures)) e
