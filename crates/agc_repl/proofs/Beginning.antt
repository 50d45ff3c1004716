-- What was printed is a beginning of the answer.
use Rattle.std.specs.Prelude.{◌≡◌, ℕ, List, [], ◌++◌, Option, None, Some, Result, Ok, Err, IfErr, IsErrOf}
use Rattle.std.specs.Io.KnownBytes.{Appends, Keeps, append_known}
use Rattle.std.proofs.Common.{refl, ap, sym, ◌∙◌, append_assoc}
use Rattle.std.proofs.KnownBytes.{Appends-kept, Appends-nil}
use Rattle.std.proofs.lemmas.List.{append_cancel_left}
use Rattle.agc_trace.proofs.Lines.{IsWritten}
use Rattle.agc_repl.specs.Answered.{Begins, Grows}
use Rattle.agc_repl.specs.declared.conversation.ReplFault.{ReplFault}
use Rattle.agc_repl.specs.declared.conversation.ReplFault.TheVariants as fault

pub nothing_begun : (whole : List ℕ) (known : Option (List ℕ)) → Begins whole known known
nothing_begun whole known = ([], whole, Appends-nil known, refl)

pub begun_kept : (whole : List ℕ) (a b c : Option (List ℕ)) → Begins whole a b → Keeps b c → Begins whole a c
begun_kept whole a b c h k = (h.0, h.1, Appends-kept a b c h.0 h.2 k, h.3)

pub begun_more : (old first more : List ℕ) (a b : Option (List ℕ)) → Begins (old ++ first) a b → Begins (old ++ (first ++ more)) a b
begun_more old first more a b h =
    (h.0, h.1 ++ more, h.2, sym (append_assoc old first more) ∙ ap (λ (xs : List ℕ). xs ++ more) h.3 ∙ append_assoc h.0 h.1 more)

-- what was written by now of a text that waits in part
pub begun : (o n : Option (List ℕ)) (old now left whole : List ℕ) → IsWritten (append_known o old) (append_known n now) left whole → Grows o n → Begins (old ++ whole) o n
begun None n old now left whole h k = ([], old ++ whole, tt, refl)
begun (Some xs) None old now left whole h k = absurd k.1
begun (Some xs) (Some ys) old now left whole h k =
    let longer : xs ++ (k.0 ++ now) ≡ xs ++ (old ++ h.0) =
    sym (append_assoc xs k.0 now) ∙ ap (λ (zs : List ℕ). zs ++ now) (sym k.1) ∙ h.1 ∙ append_assoc xs old h.0 in
    let same : k.0 ++ now ≡ old ++ h.0 = append_cancel_left xs (k.0 ++ now) (old ++ h.0) longer in (
      k.0,
      now ++ left,
      k.1,
      ap (λ (zs : List ℕ). old ++ zs) (sym h.2) ∙ sym (append_assoc old h.0 left) ∙ ap (λ (zs : List ℕ). zs ++ left) (sym same) ∙ append_assoc k.0 now left,
    )

-- all lines are there, and one more is missing
pub begun_reported : (o n : Option (List ℕ)) (old now whole more : List ℕ) → Appends (append_known o old) (append_known n now) whole → Grows o n → Begins (old ++ (whole ++ more)) o n
begun_reported o n old now whole more h k = begun o n old now more (whole ++ more) (whole, h, refl) k

-- a write never runs out of memory
pub not_memory : {T : Type 0} (r : Result T ReplFault) → IfErr r (λ why. why ≡ fault.Write) → IsErrOf r fault.Memory → ⊥
not_memory (Ok x) h e = cc
not_memory (Err why) h e = cc
