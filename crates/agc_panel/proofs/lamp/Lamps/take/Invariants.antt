use Rattle.std.proofs.Common.{◌≡◌, ◌<◌, ℕ, false, [], ◌∷◌, get_or, length}
use Rattle.agc_panel.specs.Lamp.{lit_after, printed_order}
use Rattle.agc_panel.specs.declared.lamp.Lamp.TheVariants.{CompActy}
use Rattle.agc_panel.proofs.lamp.Lamps.take.Given as goal

abbrev pub invariant-loop-lamp : goal.invariant-loop-lamp
invariant-loop-lamp l = record {
  long : length l.lit ≡ length printed_order;
  done : (k : ℕ) → k < l.lamp-index → get_or l.lit k false ≡ lit_after l.self (l.write ∷ []) (get_or printed_order k CompActy);
}
