-- Each place at which a file is refused returns a refusal that is allowed there.
use Rattle.std.proofs.Common.{◌≡◌, ◌≢◌, ◌<◌, ◌≤◌, ◌⊎◌, ℕ, List, length, refl, inl, inr, arith}
use Rattle.std.specs.Prelude.{Option, None, Some, IfSome, unwrap_or, Err, nat_lt, false, true}
use Rattle.std.specs.Io.KnownBytes.{Consumes, IsAtEnd}
use Rattle.std.proofs.lemmas.Bool.Decides.{nat_tests}
use Rattle.agc_store.specs.RopeFile.{rope_fault_of}
use Rattle.agc_store.specs.declared.rope_file.RopeForm.{RopeForm}
use Rattle.agc_store.specs.declared.rope_file.RopeFault.{RopeFault}
use Rattle.agc_store.specs.declared.rope_file.RopeFault.TheVariants as rope
use Rattle.agc_script.specs.declared.fault.FaultKind.{FaultKind}
use Rattle.agc_script.specs.declared.fault.FaultKind.TheVariants as kind
use Rattle.agc_script.specs.declared.fault.ScriptFault.{ScriptFault}
use Rattle.agc_script.specs.declared.key.Key.{Key}
use Rattle.agc_script.specs.Parse.{script_of, IsSoundLine}
use Rattle.agc_io.proofs.Whole.{of_all}
use Rattle.agc_io.specs.Input.{ExplainsUnread}
use Rattle.agc_load.specs.Keys.{keys_of}
use Rattle.agc_load.specs.Files.{IsScriptRefused, keys_steps, rope_steps, script_steps, script_refused}
use Rattle.agc_load.specs.Steps.{IsOutcome, refusal_in}
use Rattle.agc_io.specs.declared.input.ReadFault.{ReadFault}
use Rattle.agc_io.specs.declared.input.ReadFault.TheVariants as read
use Rattle.agc_io.specs.declared.input.ReadError.TheVariants as unread
use Rattle.agc_load.specs.declared.fault.LoadFault.{LoadFault}
use Rattle.agc_load.specs.declared.fault.LoadFault.TheVariants as refusal

-- ---- a rope

not_over : (limit n : ℕ) → n ≤ limit → nat_lt limit n ≡ false
not_over limit n h = grind (arith, nat_tests)

over : (limit n : ℕ) → limit < n → nat_lt limit n ≡ true
over limit n h = grind (arith, nat_tests)

module _ (form : RopeForm) (file : List ℕ) where
  pub rope_unread : (why : ReadFault) → ExplainsUnread 1048576 (Some file) (unread.CannotRead why) → IsOutcome (rope_steps form file) (refusal.CannotReadRope why)
  unfolding rope_steps
  rope_unread read.Failed h = inl refl
  rope_unread read.TooMany h = inr (inr (rw (over 1048576 (length file) h) refl))

  pub rope_memory : IsOutcome (rope_steps form file) refusal.Memory
  unfolding rope_steps
  rope_memory = inr (inl refl)

  rope_found : (found : Option RopeFault) → length file ≤ 1048576 → rope_fault_of form file ≡ found → IsOutcome (rope_steps form file) (refusal.Rope (unwrap_or found rope.Memory))
  unfolding rope_steps
  rope_found (Some fault) h is = inr (inr (rw (not_over 1048576 (length file) h, is) refl))
  rope_found None h is = inr (inr (rw (not_over 1048576 (length file) h, is) (inl refl)))

  pub rope_faulty : length file ≤ 1048576 → IsOutcome (rope_steps form file) (refusal.Rope (unwrap_or (rope_fault_of form file) rope.Memory))
  rope_faulty h = rope_found (rope_fault_of form file) h refl

  pub rope_accepted : length file ≤ 1048576 → rope_fault_of form file ≡ None → refusal_in (rope_steps form file) ≡ None
  unfolding rope_steps
  rope_accepted h none = rw (not_over 1048576 (length file) h, none) refl

-- of a file that a reader has left

module _ (form : RopeForm) where
  pub rope_known_unread : (known : Option (List ℕ)) (why : ReadFault) → ExplainsUnread 1048576 known (unread.CannotRead why)
      → IfSome known (λ file. IsOutcome (rope_steps form file) (refusal.CannotReadRope why))
  rope_known_unread None why h = tt
  rope_known_unread (Some file) why h = rope_unread form file why h

  pub rope_known_memory : (known : Option (List ℕ)) → IfSome known (λ file. IsOutcome (rope_steps form file) refusal.Memory)
  rope_known_memory None = tt
  rope_known_memory (Some file) = rope_memory form file

  pub rope_known_faulty : (before after : Option (List ℕ)) (all : List ℕ) (r : LoadFault) → Consumes before after all → IsAtEnd after → length all ≤ 1048576
      → r ≡ refusal.Rope (unwrap_or (rope_fault_of form all) rope.Memory) → IfSome before (λ file. IsOutcome (rope_steps form file) r)
  rope_known_faulty before after all r c end few is = of_all before after all (λ file. IsOutcome (rope_steps form file) r) c end (rw is (rope_faulty form all few))

  pub rope_known_accepted : (before after : Option (List ℕ)) (all : List ℕ) → Consumes before after all → IsAtEnd after → length all ≤ 1048576
      → rope_fault_of form all ≡ None → IfSome before (λ file. refusal_in (rope_steps form file) ≡ None)
  rope_known_accepted before after all c end few none = of_all before after all (λ file. refusal_in (rope_steps form file) ≡ None) c end (rope_accepted form all few none)

-- ---- a script

is_memory : (k : FaultKind) → (k ≡ kind.Memory) ⊎ (k ≢ kind.Memory)
is_memory kind.LineTooLong = inr (λ h. cc)
is_memory kind.NotAscii = inr (λ h. cc)
is_memory kind.BadCycle = inr (λ h. cc)
is_memory kind.OutOfOrder = inr (λ h. cc)
is_memory kind.UnknownWord = inr (λ h. cc)
is_memory kind.BadNumber = inr (λ h. cc)
is_memory kind.OutOfRange = inr (λ h. cc)
is_memory kind.TooMany = inr (λ h. cc)
is_memory kind.Memory = inl refl

module _ (file : List ℕ) where
  by_kind : (fault : ScriptFault) → (fault.kind ≢ kind.Memory → script_of file ≡ Err fault) → (fault.kind ≡ kind.Memory → IsSoundLine file fault.line)
      → (fault.kind ≡ kind.Memory) ⊎ (fault.kind ≢ kind.Memory) → IsScriptRefused file (refusal.Script fault)
  by_kind fault named short (inl is) = inr (is, short is)
  by_kind fault named short (inr is) = inl (rw (named is) refl)

  -- the fault of a parse that fails
  pub script_faulty : (fault : ScriptFault) → (fault.kind ≢ kind.Memory → script_of file ≡ Err fault) → (fault.kind ≡ kind.Memory → IsSoundLine file fault.line)
      → IsScriptRefused file (refusal.Script fault)
  script_faulty fault named short = by_kind fault named short (is_memory fault.kind)

  pub script_unread : (why : ReadFault) → ExplainsUnread 16777216 (Some file) (unread.CannotRead why) → IsOutcome (script_steps file) (refusal.CannotReadScript why)
  unfolding script_steps
  script_unread read.Failed h = inl refl
  script_unread read.TooMany h = inr (inr (rw (over 16777216 (length file) h) refl))

  pub script_memory : IsOutcome (script_steps file) refusal.Memory
  unfolding script_steps
  script_memory = inr (inl refl)

  pub script_reported : (r : LoadFault) → length file ≤ 16777216 → IsScriptRefused file r → IsOutcome (script_steps file) r
  unfolding script_steps
  script_reported r h (inl found) = inr (inr (rw (not_over 16777216 (length file) h, found) (inr refl)))
  script_reported r h (inr short) = inr (inr (rw (not_over 16777216 (length file) h) (inl short)))

  pub script_accepted : length file ≤ 16777216 → script_refused (script_of file) ≡ None → refusal_in (script_steps file) ≡ None
  unfolding script_steps
  script_accepted h none = rw (not_over 16777216 (length file) h, none) refl

-- of a file that a reader has left

pub script_known_unread : (known : Option (List ℕ)) (why : ReadFault) → ExplainsUnread 16777216 known (unread.CannotRead why)
    → IfSome known (λ file. IsOutcome (script_steps file) (refusal.CannotReadScript why))
script_known_unread None why h = tt
script_known_unread (Some file) why h = script_unread file why h

pub script_known_memory : (known : Option (List ℕ)) → IfSome known (λ file. IsOutcome (script_steps file) refusal.Memory)
script_known_memory None = tt
script_known_memory (Some file) = script_memory file

pub script_known_reported : (before after : Option (List ℕ)) (all : List ℕ) (r : LoadFault) → Consumes before after all → IsAtEnd after → length all ≤ 16777216
    → IsScriptRefused all r → IfSome before (λ file. IsOutcome (script_steps file) r)
script_known_reported before after all r c end few h = of_all before after all (λ file. IsOutcome (script_steps file) r) c end (script_reported all r few h)

pub script_known_accepted : (before after : Option (List ℕ)) (all : List ℕ) → Consumes before after all → IsAtEnd after → length all ≤ 16777216
    → script_refused (script_of all) ≡ None → IfSome before (λ file. refusal_in (script_steps file) ≡ None)
script_known_accepted before after all c end few none = of_all before after all (λ file. refusal_in (script_steps file) ≡ None) c end (script_accepted all few none)

-- ---- live keys

module _ (file : List ℕ) where
  keys_unread : (why : ReadFault) → ExplainsUnread 65536 (Some file) (unread.CannotRead why) → IsOutcome (keys_steps file) (refusal.CannotReadKeys why)
  unfolding keys_steps
  keys_unread read.Failed h = inl refl
  keys_unread read.TooMany h = inr (inr (rw (over 65536 (length file) h) refl))

  keys_memory : IsOutcome (keys_steps file) refusal.Memory
  unfolding keys_steps
  keys_memory = inr (inl refl)

  -- how a key text that was read is refused
  keys_reported : (r : LoadFault) → length file ≤ 65536 → (r ≡ refusal.Memory) ⊎ ((r ≡ refusal.BadKey) × (keys_of file ≡ None)) → IsOutcome (keys_steps file) r
  unfolding keys_steps
  keys_reported r h (inl is) = rw is (inr (inl refl))
  keys_reported r h (inr bad) = inr (inr (rw (not_over 65536 (length file) h, bad.1, bad.0) refl))

  keys_accepted : (keys : List Key) → length file ≤ 65536 → keys_of file ≡ Some keys → refusal_in (keys_steps file) ≡ None
  unfolding keys_steps
  keys_accepted keys h is = rw (not_over 65536 (length file) h, is) refl

-- of a text that a reader has left

pub keys_known_unread : (known : Option (List ℕ)) (why : ReadFault) → ExplainsUnread 65536 known (unread.CannotRead why)
    → IfSome known (λ file. IsOutcome (keys_steps file) (refusal.CannotReadKeys why))
keys_known_unread None why h = tt
keys_known_unread (Some file) why h = keys_unread file why h

pub keys_known_memory : (known : Option (List ℕ)) → IfSome known (λ file. IsOutcome (keys_steps file) refusal.Memory)
keys_known_memory None = tt
keys_known_memory (Some file) = keys_memory file

pub keys_known_reported : (before after : Option (List ℕ)) (all : List ℕ) (r : LoadFault) → Consumes before after all → IsAtEnd after → length all ≤ 65536
    → (r ≡ refusal.Memory) ⊎ ((r ≡ refusal.BadKey) × (keys_of all ≡ None)) → IfSome before (λ file. IsOutcome (keys_steps file) r)
keys_known_reported before after all r c end few h = of_all before after all (λ file. IsOutcome (keys_steps file) r) c end (keys_reported all r few h)

pub keys_known_accepted : (before after : Option (List ℕ)) (all : List ℕ) (keys : List Key) → Consumes before after all → IsAtEnd after → length all ≤ 65536
    → keys_of all ≡ Some keys → IfSome before (λ file. refusal_in (keys_steps file) ≡ None)
keys_known_accepted before after all keys c end few is = of_all before after all (λ file. refusal_in (keys_steps file) ≡ None) c end (keys_accepted all keys few is)
