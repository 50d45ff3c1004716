use Rattle.std.proofs.Common.{◌∙◌, ◌+◌, arith, sym}
use Rattle.agc_symbols.specs.Symbols.{option_named}
use Rattle.agc_symbols.proofs.Lines.{all_named, faulty_named, next_named}
use Rattle.agc_symbols.proofs.symbol_table.read_names.Goals as goal

pub returns-in-Err-clause-fault : goal.returns-in-Err-clause-fault
returns-in-Err-clause-fault c = λ other.
    let same = rw c.in-Some.ensures.lines at c.loop-line.invariant.same in
    faulty_named _ _ _ _ _ _ same (sym c.in-Err.ensures)

pub loop-line-preserved : goal.loop-line-preserved
loop-line-preserved c =
    let same = rw c.in-Some.ensures.lines at c.loop-line.invariant.same in
    let next = next_named (c.loop-line.lines + 1) c.loop-line.names.items _ _ (option_named c.in-Ok.parsed) (sym c.in-Ok.ensures) in
    record {
      same = rw c.in_ok-add_parsed-in-Ok.ensures (sym next ∙ same);
      bytes = omega (arith, c.in-Some.ensures.shorter);
    }

pub returns-clause-names : goal.returns-clause-names
returns-clause-names c =
    let same = rw c.in_default.ensures.lines at c.loop-line.invariant.same in
    all_named _ _ _ same
