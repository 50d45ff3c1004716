-- A parity fault is in the rope.
use Rattle.std.proofs.Common.{◌≡◌, ℕ, zero, suc, ◌+◌, ◌<◌, Bool, true, false, List, length, refl, arith, sym, subst}
use Rattle.std.specs.Prelude.{Option, Some, None, IfSome, unwrap_or, option_map, if◌then◌else◌, nat_lt, find, ◌/◌}
use Rattle.std.specs.List.{range_with_len}
use Rattle.std.proofs.lemmas.Bool.Decides.{nat_tests}
use Rattle.agc_store.specs.RopeFile.{file_word, first_bad, is_bad_parity, parity_fault, parity_fault_at, rope_fault_of}
use Rattle.agc_store.specs.declared.rope_file.RopeForm.{RopeForm}
use Rattle.agc_store.specs.declared.rope_file.RopeForm.TheVariants as form
use Rattle.agc_store.specs.declared.rope_file.RopeFault.{RopeFault}
use Rattle.agc_store.specs.declared.rope_file.RopeFault.TheVariants as fault
use Rattle.agc_check.specs.RopeReport.{IsPlaced}

found_if : (here : Bool) (a n : ℕ) (rest : Option ℕ) → IfSome rest (λ i. i < a + 1 + n) → IfSome (if here then Some a else rest) (λ i. i < a + suc n)
found_if true a n rest within = omega arith
found_if false a n None within = tt
found_if false a n (Some i) within = omega (arith, within)

-- a number that is found among others is one of them
found : (p : ℕ → Bool) (a n : ℕ) → IfSome (find p (range_with_len a n)) (λ i. i < a + n)
found p a zero = tt
found p a (suc n) = found_if (p a) a n (find p (range_with_len (a + 1) n)) (found p (a + 1) n)

placed_at : (bad : Option ℕ) (count : ℕ) → IfSome bad (λ i. i < count) → count < 36865 → IsPlaced (unwrap_or (option_map parity_fault_at bad) fault.Memory)
placed_at None count within few = tt
placed_at (Some i) count within few = (omega (arith, within, few), omega (arith, within, few))

placed_parity : (f : RopeForm) (file : List ℕ) → nat_lt 73728 (length file) ≡ false → IsPlaced (unwrap_or (parity_fault f file) fault.Memory)
unfolding parity_fault first_bad
placed_parity form.Classic file short = tt
placed_parity form.Parity file short =
    placed_at _ (0 + length file / 2) (found (λ index. is_bad_parity (file_word file index)) 0 (length file / 2)) (grind (arith, nat_tests, short))

placed_if : (a b c : Bool) (p : Option RopeFault) → (c ≡ false → IsPlaced (unwrap_or p fault.Memory))
    → IsPlaced (unwrap_or (if a then Some fault.Empty else if b then Some fault.OddLength else if c then Some fault.TooLong else p) fault.Memory)
placed_if true b c p placed = tt
placed_if false true c p placed = tt
placed_if false false true p placed = tt
placed_if false false false p placed = placed refl

-- the fault of a rope file
pub placed : (f : RopeForm) (file : List ℕ) (why : RopeFault) → why ≡ unwrap_or (rope_fault_of f file) fault.Memory → IsPlaced why
unfolding rope_fault_of
placed f file why is = subst IsPlaced (sym is) (placed_if _ _ _ (parity_fault f file) (placed_parity f file))
