-- A rope file that was read, or refused: each fault is one that may be reported, and with its parity bits made right it
-- has the same words.
use Rattle.std.proofs.Common.{◌≡◌, ◌≤◌, ◌<◌, ◌/◌, ◌%◌, ◌==◌, ◌||◌, ℕ, List, [], ◌∷◌, length, refl, inl, inr, arith, ap}
use Rattle.std.specs.Prelude.{Bool, Option, None, Some, IfSome, unwrap_or, nat_lt, false, true, map, option_map, if◌then◌else◌}
use Rattle.std.specs.List.{range_with_len}
use Rattle.std.specs.Io.KnownBytes.{Consumes, IsAtEnd}
use Rattle.std.proofs.lemmas.Bool.Decides.{nat_tests}
use Rattle.agc_store.specs.Cells.{narrow_number}
use Rattle.agc_store.specs.RopeFile.{file_index, file_word, first_bad, first_words, parity_fault, parity_fault_at, rope_fault_of, rope_word_at, rope_words}
use Rattle.agc_store.specs.declared.rope_file.RopeForm.{RopeForm}
use Rattle.agc_store.specs.declared.rope_file.RopeForm.TheVariants as form
use Rattle.agc_store.specs.declared.rope_file.RopeFault.{RopeFault}
use Rattle.agc_store.specs.declared.rope_file.RopeFault.TheVariants as rope
use Rattle.agc_io.proofs.Whole.{of_all}
use Rattle.agc_io.specs.Input.{ExplainsUnread}
use Rattle.agc_io.specs.declared.input.ReadFault.{ReadFault}
use Rattle.agc_io.specs.declared.input.ReadFault.TheVariants as read
use Rattle.agc_io.specs.declared.input.ReadError.TheVariants as unread
use Rattle.agc_load.specs.Steps.{IsOutcome, refusal_in}
use Rattle.agc_load.specs.declared.fault.LoadFault.{LoadFault}
use Rattle.agc_load.specs.declared.fault.LoadFault.TheVariants as refusal
use Rattle.agc_study_args.specs.RopeRead.{has_faulty_length, reading_steps, rope_refusal, unless_parity}

not_over : (limit n : ℕ) → n ≤ limit → nat_lt limit n ≡ false
not_over limit n h = grind (arith, nat_tests)

over : (limit n : ℕ) → limit < n → nat_lt limit n ≡ true
over limit n h = grind (arith, nat_tests)

module _ (ignores : Bool) (form : RopeForm) (file : List ℕ) where
  unread_reported : (why : ReadFault) → ExplainsUnread 1048576 (Some file) (unread.CannotRead why) → IsOutcome (reading_steps ignores form file) (refusal.CannotReadRope why)
  unfolding reading_steps
  unread_reported read.Failed h = inl refl
  unread_reported read.TooMany h = inr (inr (rw (over 1048576 (length file) h) refl))

  memory_reported : IsOutcome (reading_steps ignores form file) refusal.Memory
  unfolding reading_steps
  memory_reported = inr (inl refl)

  found_reported : (found : Option RopeFault) → length file ≤ 1048576 → rope_refusal ignores form file ≡ found → IsOutcome (reading_steps ignores form file) (refusal.Rope (unwrap_or found rope.Memory))
  unfolding reading_steps
  found_reported (Some fault) h is = inr (inr (rw (not_over 1048576 (length file) h, is) refl))
  found_reported None h is = inr (inr (rw (not_over 1048576 (length file) h, is) (inl refl)))

  none_refused : length file ≤ 1048576 → rope_refusal ignores form file ≡ None → refusal_in (reading_steps ignores form file) ≡ None
  unfolding reading_steps
  none_refused h none = rw (not_over 1048576 (length file) h, none) refl

-- of a file that a reader has left

module _ (ignores : Bool) (form : RopeForm) where
  pub known_unread : (known : Option (List ℕ)) (why : ReadFault) → ExplainsUnread 1048576 known (unread.CannotRead why)
      → IfSome known (λ file. IsOutcome (reading_steps ignores form file) (refusal.CannotReadRope why))
  known_unread None why h = tt
  known_unread (Some file) why h = unread_reported ignores form file why h

  pub known_memory : (known : Option (List ℕ)) → IfSome known (λ file. IsOutcome (reading_steps ignores form file) refusal.Memory)
  known_memory None = tt
  known_memory (Some file) = memory_reported ignores form file

  pub known_faulty : (before after : Option (List ℕ)) (all : List ℕ) (r : LoadFault) → Consumes before after all → IsAtEnd after → length all ≤ 1048576
      → r ≡ refusal.Rope (unwrap_or (rope_refusal ignores form all) rope.Memory) → IfSome before (λ file. IsOutcome (reading_steps ignores form file) r)
  known_faulty before after all r c end few is =
      of_all before after all (λ file. IsOutcome (reading_steps ignores form file) r) c end
      (rw is (found_reported ignores form all (rope_refusal ignores form all) few refl))

  pub known_accepted : (before after : Option (List ℕ)) (all : List ℕ) → Consumes before after all → IsAtEnd after → length all ≤ 1048576
      → rope_refusal ignores form all ≡ None → IfSome before (λ file. refusal_in (reading_steps ignores form file) ≡ None)
  known_accepted before after all c end few none =
      of_all before after all (λ file. refusal_in (reading_steps ignores form file) ≡ None) c end (none_refused ignores form all few none)

-- a fault of a file's length alone is heeded

by_no_parity : (empty half long : Bool)
    → unless_parity (if empty then Some rope.Empty else if half then Some rope.OddLength else if long then Some rope.TooLong else None)
    ≡ (if empty then Some rope.Empty else if half then Some rope.OddLength else if long then Some rope.TooLong else None)
by_no_parity true half long = refl
by_no_parity false true long = refl
by_no_parity false false true = refl
by_no_parity false false false = refl

by_parity : (empty half long : Bool) (bad : Option ℕ) (at : ℕ → RopeFault) → ((index : ℕ) → unless_parity (Some (at index)) ≡ None) → (empty || (half || long)) ≡ false
    → unless_parity (if empty then Some rope.Empty else if half then Some rope.OddLength else if long then Some rope.TooLong else option_map at bad) ≡ None
by_parity true half long bad at h none = cc
by_parity false true long bad at h none = cc
by_parity false false true bad at h none = cc
by_parity false false false None at h none = refl
by_parity false false false (Some index) at h none = h index

pub no_parity : (file : List ℕ) → rope_refusal true form.Classic file ≡ rope_refusal false form.Classic file
unfolding rope_refusal rope_fault_of parity_fault
no_parity file = by_no_parity (length file == 0) (length file % 2 == 1) (nat_lt 73728 (length file))

pub sound_length : (file : List ℕ) → has_faulty_length file ≡ false → rope_refusal true form.Parity file ≡ None
unfolding rope_refusal rope_fault_of parity_fault
sound_length file h = by_parity (length file == 0) (length file % 2 == 1) (nat_lt 73728 (length file)) (first_bad file) parity_fault_at (λ index. refl) h

-- what a sound length means

pub is_even : (file : List ℕ) → has_faulty_length file ≡ false → length file % 2 ≡ 0
is_even file h = grind (arith, nat_tests)

-- the same fifteen bits at each place are the same words

map_same : {A B : Type 0} (f g : A → B) → ((x : A) → f x ≡ g x) → (xs : List A) → map f xs ≡ map g xs
map_same f g same [] = refl
map_same f g same (x ∷ xs) = rw (same x, map_same f g same xs) refl

pub same_words : (one other : List ℕ) → ((index : ℕ) → file_word one index / 2 ≡ file_word other index / 2) → rope_words form.Parity one ≡ rope_words form.Parity other
unfolding rope_words first_words rope_word_at
same_words one other same =
    map_same (rope_word_at form.Parity one) (rope_word_at form.Parity other)
    (λ place. ap narrow_number (same (file_index form.Parity place))) (range_with_len 0 36864)
