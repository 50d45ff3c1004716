use Rattle.std.proofs.Common.{◌∙◌}
use Rattle.agc_asm.proofs.SameRope.{read_back}
use Rattle.agc_asm.proofs.listing_style.makes_rope.Goals as goal

pub returns-in-Ok : goal.returns-in-Ok
returns-in-Ok c = λ yes h.
    read_back c.args.form c.args.store.now.fixed _ _ _ _ c.new.ensures (c.as_slice.ensures.value ∙ c.in_ok-file.ensures) c.in-Ok.ensures.words c.in-Ok.ensures.accepted h
    (c.has_same_words-in-Ok.ensures yes)
