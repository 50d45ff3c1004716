use Rattle.std.proofs.Common.{◌∙◌, ◌<◌, ℕ, Bool, false, List, [], ◌∷◌, ap, sym, arith, length}
use Rattle.std.proofs.lemmas.List.{ext_get_or, get_or-map}
use Rattle.agc_panel.specs.Lamp.{lit_after, printed_order}
use Rattle.agc_panel.specs.declared.lamp.Lamp.TheVariants.{CompActy}
use Rattle.agc_panel.proofs.lamp.Lamps.take.Goals as goal

pub returns : goal.returns
returns c =
    let lit_next = lit_after c.args.self.now (c.args.write.now ∷ []) in
    let each = λ (k : ℕ) (h : k < length c.loop-lamp.lit).
    c.loop-lamp.invariant.done k (omega arith) ∙ sym (get_or-map lit_next printed_order k CompActy false (omega arith)) in
    ap (λ (lit : List Bool). record { lit = lit }) (ext_get_or false _ _ c.loop-lamp.invariant.long each)
