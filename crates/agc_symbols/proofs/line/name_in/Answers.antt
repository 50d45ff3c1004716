use Rattle.std.proofs.Common.{◌∙◌, sym}
use Rattle.agc_symbols.proofs.Lines.{name_is_utf8}
use Rattle.agc_symbols.proofs.line.name_in.Goals as goal

pub returns-in-Err : goal.returns-in-Err
returns-in-Err c = absurd (c.in-Err.ensures.cases.0 (name_is_utf8 c.args.word.now (sym c.is_place_name.ensures ∙ c.if-not-is_place_name.false)))
