use Rattle.agc_asm.proofs.listing_style.yul_source.Goals as goal

pub returns-then-branch : goal.returns-then-branch
returns-then-branch c = record { weaves = λ none h. rw c.as_bytes.ensures.value at (c.in_ok-is_source_of.ensures c.if-branch.true h) }
