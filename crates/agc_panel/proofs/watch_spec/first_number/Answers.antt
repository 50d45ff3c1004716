use Rattle.std.proofs.Common.{arith, sym, ap, ◌∙◌, ◌≡◌, None, Some}
use Rattle.std.specs.List.{before_first}
use Rattle.std.proofs.lemmas.Str.Pattern.{split_once_first}
use Rattle.agc_word.specs.Numeral.{octal_number}
use Rattle.agc_panel.specs.WatchSpec.{is_separator, numbers_in, with_number}
use Rattle.agc_panel.proofs.Numbers.{first_number, fewer_without_number, fewer_without_comma}
use Rattle.agc_panel.proofs.watch_spec.first_number.Goals as goal

pub returns-in_err-number : goal.returns-in_err-number
returns-in_err-number c =
    let cut = split_once_first 44 c.args.text.now c.split_once.result c.split_once.ensures.cases (omega arith) in
    let none = rw c.in_err-number.was at cut in
    rw c.from_residual.ensures (fewer_without_comma c.args.text.now none)

pub returns-in_err-number-2 : goal.returns-in_err-number-2
returns-in_err-number-2 c =
    let cut = split_once_first 44 c.args.text.now c.split_once.result c.split_once.ensures.cases (omega arith) in
    let parts = rw c.in_ok-number.was at cut in
    let read : octal_number 6 (before_first is_separator c.args.text.now) ≡ None = sym (c.read_octal.ensures.number ∙ ap (octal_number 6) (c.as_bytes.ensures.value ∙ parts.1)) ∙ c.in_err-number-2.was in
    rw c.from_residual-in_err-number-2.ensures (fewer_without_number c.args.text.now parts.0 read)

pub returns : goal.returns
returns c =
    let cut = split_once_first 44 c.args.text.now c.split_once.result c.split_once.ensures.cases (omega arith) in
    let parts = rw c.in_ok-number.was at cut in
    let read : octal_number 6 (before_first is_separator c.args.text.now) ≡ Some c.in_ok-number-2.number = sym (c.read_octal.ensures.number ∙ ap (octal_number 6) (c.as_bytes.ensures.value ∙ parts.1)) ∙ c.in_ok-number-2.was in
    first_number c.args.text.now c.in_ok-number-2.number parts.0 read ∙ ap (λ rest. with_number c.in_ok-number-2.number (numbers_in rest)) (sym parts.2)
