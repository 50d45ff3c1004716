use Rattle.agc_asm.proofs.Back.{weaves_to, whole_source}
use Rattle.agc_asm.proofs.disassemble.rope_source.Goals as goal

pub returns-clause-weaves : goal.returns-clause-weaves
returns-clause-weaves c = λ all h.
    weaves_to c.args.store.now.fixed _ (whole_source c.args.bank c.args.store.now.fixed _ _ all c.new-text.ensures.bytes c.in_ok-push_source_lines.ensures) h
