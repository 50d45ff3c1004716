-- The law of the table, put together from the cells and the rest.
use Rattle.std.proofs.Common.{ℕ}
use Rattle.agc_order.specs.declared.order.Basic.{Basic}
use Rattle.agc_order.specs.declared.order.Extracode.{Extracode}
use Rattle.agc_processor.specs.declared.processor.Processor.{Processor}
use Rattle.agc_processor.specs.Effect.{basic_effect, extracode_effect}
use Rattle.agc_processor.proofs.Fixed.{basic_fixed, extracode_fixed}
use Rattle.agc_processor.specs.Row.{ChangesItsRow}
use Rattle.agc_processor.specs.Table.{basic_row, extracode_row}
use Rattle.agc_processor.proofs.Frame.{basic_cells, extracode_cells}
use Rattle.agc_processor.proofs.Still.{basic_rest, extracode_rest}

pub basic_changes : (o : Basic) (p : Processor) → ChangesItsRow (basic_row o) p (basic_effect o p).0
basic_changes o p =
    let others = basic_rest o p in
    record {
      cells = λ c z s r. (basic_cells o p c z s r).same;
      fixed = basic_fixed o p;
      channels = others.channels;
      superbank = others.superbank;
      mark = others.mark;
      counts = others.counts;
      requests = others.requests;
    }

pub extracode_changes : (o : Extracode) (n : ℕ) (p : Processor) → ChangesItsRow (extracode_row o) p (extracode_effect o n p).0
extracode_changes o n p =
    let others = extracode_rest o n p in
    record {
      cells = λ c z s r. (extracode_cells o n p c z s r).same;
      fixed = extracode_fixed o n p;
      channels = others.channels;
      superbank = others.superbank;
      mark = others.mark;
      counts = others.counts;
      requests = others.requests;
    }
