-- Lamps that a write does not name stay as they are.
use Rattle.std.proofs.Common.{◌≡◌, ◌∙◌, ◌<◌, ℕ, ap, arith, Bool, false, get_or, length, List, [], ◌∷◌, map, refl, sym}
use Rattle.std.specs.List.{range_with_len}
use Rattle.std.proofs.lemmas.List.{ext_get_or}
use Rattle.std.proofs.lemmas.List.FromFn.{get_or-map-range_with_len}
use Rattle.agc_word.specs.declared.channel_write.ChannelWrite.{ChannelWrite}
use Rattle.agc_panel.specs.Lamp.{bit_given, is_from, is_lit, lamps_after, lit_after, printed_order}
use Rattle.agc_panel.specs.Field.{field_after}
use Rattle.agc_panel.specs.declared.lamp.Lamps.{Lamps}
use Rattle.agc_panel.specs.declared.lamp.Source.TheVariants.{Dsalmout, LampRow}

-- the states of the lamps, in order, are all that is kept of them
pub lit_in_order : (lamps : Lamps) → length lamps.lit ≡ length printed_order → lamps.lit ≡ map (is_lit lamps) printed_order
lit_in_order lamps long =
    let lit = λ (k : ℕ). get_or lamps.lit k false in
    let each = λ (k : ℕ) (h : k < length lamps.lit). sym (get_or-map-range_with_len lit 0 (length printed_order) k k false (omega (arith, long)) (omega arith)) in
    ext_get_or false lamps.lit (map lit (range_with_len 0 (length printed_order))) long each

-- if a write is neither of the words that light lamps
pub no_lamp_named : (lamps : Lamps) (write : ChannelWrite) → length lamps.lit ≡ length printed_order → is_from LampRow write ≡ false → is_from Dsalmout write ≡ false
    → lamps_after lamps (write ∷ []) ≡ lamps
unfolding bit_given field_after
no_lamp_named lamps write long row dsalmout =
    let same : map (lit_after lamps (write ∷ [])) printed_order ≡ map (is_lit lamps) printed_order = rw (row, dsalmout) refl in
    ap (λ (lit : List Bool). record { lit = lit }) (same ∙ sym (lit_in_order lamps long))
