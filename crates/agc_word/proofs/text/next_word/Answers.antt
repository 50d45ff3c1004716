use Rattle.std.proofs.Common.{sym, refl}
use Rattle.std.proofs.lemmas.List.{take_rest}
use Rattle.agc_word.proofs.Cuts.{no_word, first_word}
use Rattle.agc_word.proofs.text.next_word.Goals as goal

pub returns-in_err-start : goal.returns-in_err-start
returns-in_err-start c = rw c.from_residual.ensures (no_word c.args.text.now (sym c.in_err-start.ensures.place))

pub returns : goal.returns
returns c =
    let end = rw (c.first_blank.ensures.place, take_rest) at c.unwrap_or-end.ensures in
    rw (take_rest, take_rest) (first_word c.args.text.now _ c.in_ok-start.start c.unwrap_or-end.result (sym c.in_ok-start.ensures.place) refl end)
