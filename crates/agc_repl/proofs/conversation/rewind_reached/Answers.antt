use Rattle.std.proofs.Common.{inl, inr, ◌∙◌}
use Rattle.agc_repl.proofs.Answering.{back_written, when_kept, when_left}
use Rattle.agc_repl.proofs.conversation.rewind_reached.Goals as goal

pub returns-in_default : goal.returns-in_default
returns-in_default g c = when_left _ c.refuse.result c.refuse.ensures (λ t short. inr (short.0, short.1))

pub returns-in-Ok-back : goal.returns-in-Ok-back
returns-in-Ok-back g c =
    when_kept _ c.write_back-reported.result c.in-Ok-back.earlier c.keep_if.result c.keep_if.ensures c.write_back-reported.ensures
    (λ written. inl (back_written c.args.way c.args.repl c.in-Ok-back.earlier _ _ _ _ c.in-Ok-back.ensures.ok c.in-Ok.ensures c.as_slice.ensures.value written))

pub returns : goal.returns
returns g c =
    when_left _ c.refuse-in-Err.result c.refuse-in-Err.ensures (λ t short. inr (short.0 ∙ c.in-Err.ensures.err, short.1))
