use Rattle.std.proofs.Common.{arith, sym}
use Rattle.agc_symbols.proofs.Nearests.{looked_on, near_is, none_found}
use Rattle.agc_symbols.proofs.symbol_table.SymbolTable.named_at.Goals as goal

pub returns-in-Some : goal.returns-in-Some
returns-in-Some c =
    near_is c.args.self.now c.args.at c.number_of-number.result c.loop-offset.offset c.in-Some.name.now c.number_of-number.ensures.number
    (omega arith) c.loop-offset.invariant c.in-Some.ensures

pub loop-offset-preserved : goal.loop-offset-preserved
loop-offset-preserved c =
    looked_on c.args.self.now c.args.at c.number_of-number.result c.loop-offset.offset c.number_of-number.ensures.number c.loop-offset.invariant c.in_default.ensures

pub returns : goal.returns
returns c = sym (none_found c.args.self.now c.args.at (λ d l. c.loop-offset.invariant d (omega arith)))
