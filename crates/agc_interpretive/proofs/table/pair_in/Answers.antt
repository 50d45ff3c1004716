use Rattle.std.specs.Prelude.{ℕ, List}
use Rattle.std.proofs.Common.{ap, sym}
use Rattle.std.proofs.lemmas.List.{get_or-map}
use Rattle.agc_interpretive.specs.Operation.{seen_pair}
use Rattle.agc_interpretive.proofs.table.pair_in.Goals as goal

pub returns-clause-first : goal.returns-clause-first
returns-clause-first c = ap (λ (r : List ℕ × List ℕ). r.0) (sym (get_or-map seen_pair c.args.table.now c.args.place _ _ c.requires))

pub returns-clause-second : goal.returns-clause-second
returns-clause-second c = ap (λ (r : List ℕ × List ℕ). r.1) (sym (get_or-map seen_pair c.args.table.now c.args.place _ _ c.requires))
