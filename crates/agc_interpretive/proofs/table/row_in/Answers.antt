use Rattle.std.proofs.Common.{ap, sym}
use Rattle.std.proofs.lemmas.List.{get_or-map}
use Rattle.agc_interpretive.specs.Operation.{Row, seen_row}
use Rattle.agc_interpretive.proofs.table.row_in.Goals as goal

pub returns-clause-name : goal.returns-clause-name
returns-clause-name c = ap (λ (r : Row). r.name) (sym (get_or-map seen_row c.args.table.now c.args.place _ _ c.requires))

pub returns-clause-code : goal.returns-clause-code
returns-clause-code c = ap (λ (r : Row). r.code) (sym (get_or-map seen_row c.args.table.now c.args.place _ _ c.requires))

pub returns-clause-form : goal.returns-clause-form
returns-clause-form c = ap (λ (r : Row). r.form) (sym (get_or-map seen_row c.args.table.now c.args.place _ _ c.requires))
