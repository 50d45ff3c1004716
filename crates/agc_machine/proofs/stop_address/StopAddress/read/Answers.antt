use Rattle.std.proofs.Common.{arith, sym}
use Rattle.std.proofs.lemmas.Str.Pattern.{split_once_first}
use Rattle.agc_machine.proofs.Place.{cut_at_comma}
use Rattle.agc_machine.proofs.stop_address.StopAddress.read.Goals as goal

pub returns-in-Some : goal.returns-in-Some
returns-in-Some c =
    let cut = cut_at_comma c.args.text.now c.split_once.result (split_once_first 44 c.args.text.now c.split_once.result c.split_once.ensures.cases (omega arith)) in
    let parts = rw c.in-Some.is at cut in
    rw (c.in_range.ensures, c.read_octal.ensures.number, c.read_octal-in-Some.ensures.number, c.as_bytes.ensures.value, c.as_bytes-in-Some.ensures.value) (sym parts)

pub returns-in-None : goal.returns-in-None
returns-in-None c =
    let cut = cut_at_comma c.args.text.now c.split_once.result (split_once_first 44 c.args.text.now c.split_once.result c.split_once.ensures.cases (omega arith)) in
    let none = rw c.in-None.is at cut in
    sym none
