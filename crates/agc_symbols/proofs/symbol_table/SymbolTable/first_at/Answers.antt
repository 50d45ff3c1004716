use Rattle.std.proofs.Common.{List, ℕ, Option, None, ap, get_or, sym, ◌∙◌}
use Rattle.agc_symbols.proofs.Firsts.{first_is, none_is}
use Rattle.agc_symbols.proofs.symbol_table.SymbolTable.first_at.Goals as goal

pub returns-in-Some : goal.returns-in-Some
returns-in-Some c =
    first_is c.self.inside.first.items c.self.inside.names.items c.args.self.now c.args.number c.in-Some.index c.index.result.now c.name.result.now c.self.invariant c.self.view_is
    (ap (λ (xs : List (Option ℕ)). get_or xs c.args.number None) (sym c.as_slice.ensures.value) ∙ sym c.first_index.ensures ∙ c.in-Some.is)
    c.index.ensures c.name.ensures

pub returns-in-None : goal.returns-in-None
returns-in-None c =
    none_is c.self.inside.first.items c.self.inside.names.items c.args.self.now c.args.number c.self.invariant c.self.view_is
    (ap (λ (xs : List (Option ℕ)). get_or xs c.args.number None) (sym c.as_slice.ensures.value) ∙ sym c.first_index.ensures ∙ c.in-None.is)
