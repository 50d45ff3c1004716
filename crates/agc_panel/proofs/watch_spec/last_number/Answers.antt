use Rattle.std.proofs.Common.{sym, ap, ◌∙◌, ◌≡◌, None, Some}
use Rattle.agc_word.specs.Numeral.{octal_number}
use Rattle.agc_panel.proofs.Numbers.{last_number}
use Rattle.agc_panel.proofs.watch_spec.last_number.Goals as goal

pub returns-in_err-number : goal.returns-in_err-number
returns-in_err-number c =
    let read : octal_number 6 c.args.text.now ≡ None = sym (c.read_octal.ensures.number ∙ ap (octal_number 6) c.as_bytes.ensures.value) ∙ c.in_err-number.was in
    let last = last_number c.args.text.now in
    let more = rw read at last in
    rw c.from_residual.ensures more

pub returns : goal.returns
returns c =
    let read : octal_number 6 c.args.text.now ≡ Some c.in_ok-number.number = sym (c.read_octal.ensures.number ∙ ap (octal_number 6) c.as_bytes.ensures.value) ∙ c.in_ok-number.was in
    let last = last_number c.args.text.now in
    rw read at last
