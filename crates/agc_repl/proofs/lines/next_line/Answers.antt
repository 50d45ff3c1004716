use Rattle.std.proofs.Common.{◌≡◌, ◌<◌, length, arith}
use Rattle.std.specs.Prelude.{Some}
use Rattle.std.proofs.lemmas.Bool.Decides.{nat_tests}
use Rattle.agc_repl.proofs.Input.{empty_items, ended_line, fed_line, no_more_lines, one_more_byte, read_as, some_items}
use Rattle.agc_repl.proofs.lines.next_line.Goals as goal

pub returns-in-Some-eq10 : goal.returns-in-Some-eq10
returns-in-Some-eq10 g c names =
    let fed : c.in_ok-next_byte.field-0 ≡ Some 10 = cc (c.in-Some-eq10.is, c.in-Some-eq10.field-0-is, c.in-Some-eq10.field-0-test) in
    fed_line names _ _ _ _ _ c.loop-byte.invariant (read_as _ _ _ _ fed c.in_ok-next_byte.ensures) c.without_return.ensures

pub returns-in-None : goal.returns-in-None
returns-in-None g c names =
    no_more_lines names _ _ _ _ c.loop-byte.invariant (read_as _ _ _ _ c.in-None.is c.in_ok-next_byte.ensures)
    (empty_items c.loop-byte.line.items (grind (arith, nat_tests)))

pub returns-in-None-2 : goal.returns-in-None-2
returns-in-None-2 g c names =
    let some : 0 < length c.loop-byte.line.items = grind (arith, nat_tests) in
    ended_line names _ _ _ _ _ c.loop-byte.invariant (read_as _ _ _ _ c.in-None-2.is c.in_ok-next_byte.ensures) (some_items c.loop-byte.line.items some)
    c.without_return-in-None-2.ensures

pub loop-byte-preserved : goal.loop-byte-preserved
loop-byte-preserved g c =
    one_more_byte _ _ _ _ _ c.in-Some.byte c.loop-byte.invariant (read_as _ _ _ _ c.in-Some.is c.in_ok-next_byte.ensures)
    (λ e. c.in-Some.byte-test.1 e) c.in_ok-keep-in-Some.ensures
