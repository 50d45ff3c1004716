use Rattle.std.proofs.Common.{sym, ◌∙◌}
use Rattle.agc_asm.proofs.SameRope.{weaves_parsed}
use Rattle.agc_asm.proofs.listing_style.is_source_of.Goals as goal

pub returns : goal.returns
returns c = λ parity h.
    let classic = rw c.words-words.ensures.words at (c.in_ok-makes_rope.ensures c.if-not-branch.false h) in
    let other = rw c.words-words.ensures.words at (c.in_ok-parity.ensures parity h) in
    weaves_parsed c.args.store.now.fixed c.args.text.now _ (sym c.is_listing.ensures ∙ c.if-is_listing.false) c.in-Ok.ensures.words classic other
