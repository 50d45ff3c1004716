-- The entry of a boundary that was begun.
use Rattle.std.proofs.Common.{◌≡◌, ◌<◌, Some, None, ap, sym, ◌∙◌, subst, arith}
use Rattle.agc_machine.specs.Boundary.{HasPlace, boundary, upcoming_of}
use Rattle.agc_machine.specs.Laws.{HasChannel}
use Rattle.agc_machine.specs.State.{State}
use Rattle.agc_machine.specs.declared.answer.Stepped.{Stepped}
use Rattle.agc_machine.specs.declared.answer.Stepped.TheVariants as stepped
use Rattle.agc_machine.specs.declared.upcoming.InHand.{InHand}
use Rattle.agc_machine.specs.declared.upcoming.Upcoming.TheVariants as upcoming
use Rattle.agc_trace.specs.Entry.{FitsWrite, entry_of, registers_of, write_shown}
use Rattle.agc_trace.specs.declared.entry.Entry.{Entry}
use Rattle.agc_diff.specs.Turn.{HasBegun, HasRun, IsTaken, MayHaveRun}
use Rattle.agc_diff.specs.declared.turn.Turn.{Turn}

fits_shown : (did : Stepped) → HasChannel did → FitsWrite (write_shown did)
fits_shown stepped.Quiet h = tt
fits_shown (stepped.Wrote write) h = omega (arith, h.1)
fits_shown (stepped.Stopped why) h = tt

same_parts : (a b : Entry) → a.cycle ≡ b.cycle → a.happening ≡ b.happening → a.write ≡ b.write → a.registers ≡ b.registers → a ≡ b
same_parts a b e f g h =
    ap (λ x. record a { cycle = x }) e ∙ ap (λ x. record a { cycle = b.cycle; happening = x }) f
    ∙ ap (λ x. record b { write = x; registers = a.registers }) g ∙ ap (λ x. record b { registers = x }) h

is_entry : (s : State) (entry : Entry) → entry.cycle ≡ s.cycle → entry.happening ≡ upcoming_of s → entry.write ≡ write_shown (boundary None s).1 →
    entry.registers ≡ registers_of (boundary None s).0.processor.store → entry ≡ entry_of s
unfolding entry_of
is_entry s entry e f g h = same_parts entry (entry_of s) e f g h

-- an order that has run is the boundary
pub taken_by_order : (s t : State) (turn : Turn) (order : InHand) (did : Stepped) (entry : Entry) → turn.ran ≡ Some (order, did) → HasBegun s turn t →
    entry.cycle ≡ turn.cycle → entry.happening ≡ upcoming.Order order → entry.write ≡ write_shown did → entry.registers ≡ registers_of t.processor.store →
    entry.registers.erasable_bank < 0o10 → entry.registers.fixed_bank < 0o100 → IsTaken s entry t
taken_by_order s t turn order did entry is begun e f g h erasable fixed =
    let ran : HasRun s order did t = subst (λ o. MayHaveRun s o t) is begun.ran in
    let after : t ≡ (boundary None s).0 = ap (λ (r : State × Stepped). r.0) ran.ran in
    record {
      entered = is_entry s entry (e ∙ begun.cycle) (f ∙ sym ran.comes) (g ∙ ap (λ (r : State × Stepped). write_shown r.1) ran.ran)
          (h ∙ ap (λ (x : State). registers_of x.processor.store) after);
      after = after;
      fits = record {
        place = subst HasPlace (sym f) ran.place;
        write = subst FitsWrite (sym g) (fits_shown did ran.channel);
        erasable = erasable;
        fixed = fixed;
      };
    }
