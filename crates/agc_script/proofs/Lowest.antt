-- The first kind of a list by rank is the lowest.
use Rattle.std.specs.Prelude.{◌≡◌, ℕ, ◌+◌, ◌-◌, ◌≤◌, ◌<◌, Bool, true, false, [], ◌∷◌, Option, Some, None, MatchOption, cond, slice_index_or}
use Rattle.std.proofs.Common.{refl, arith, ap, sym, ◌∙◌, inl, inr}
use Rattle.std.proofs.lemmas.Bool.{cases_lt}
use Rattle.agc_script.specs.declared.fault.FaultKind.{FaultKind}
use Rattle.agc_script.specs.declared.fault.FaultKind.TheVariants.{LineTooLong, NotAscii, BadCycle, OutOfOrder, UnknownWord, BadNumber, OutOfRange, TooMany, Memory}
use Rattle.agc_script.specs.Fault.{rank}
use Rattle.agc_script.proofs.Faults.{lowest_of}

-- the kinds by their ranks
abbrev kind_of : ℕ → FaultKind
kind_of n =
    slice_index_or (LineTooLong ∷ NotAscii ∷ BadCycle ∷ OutOfOrder ∷ UnknownWord ∷ BadNumber ∷ OutOfRange ∷ TooMany ∷ Memory ∷ []) (n - 1) Memory

back : (kind : FaultKind) → kind_of (rank kind) ≡ kind
back LineTooLong = refl
back NotAscii = refl
back BadCycle = refl
back OutOfOrder = refl
back UnknownWord = refl
back BadNumber = refl
back OutOfRange = refl
back TooMany = refl
back Memory = refl

ranked : (kind : FaultKind) → (1 ≤ rank kind) × (rank kind ≤ 9)
ranked LineTooLong = (omega arith, omega arith)
ranked NotAscii = (omega arith, omega arith)
ranked BadCycle = (omega arith, omega arith)
ranked OutOfOrder = (omega arith, omega arith)
ranked UnknownWord = (omega arith, omega arith)
ranked BadNumber = (omega arith, omega arith)
ranked OutOfRange = (omega arith, omega arith)
ranked TooMany = (omega arith, omega arith)
ranked Memory = (omega arith, omega arith)

same_rank : (a b : FaultKind) → rank a ≡ rank b → a ≡ b
same_rank a b e = sym (back a) ∙ ap (λ (n : ℕ). kind_of n) e ∙ back b

-- no kind below a rank
record NoneBelow (has : FaultKind → Bool) (n : ℕ) : Type 0 where
  none : (kind : FaultKind) → rank kind < n → has kind ≡ false

-- a kind that is present, with none below it, or none at all
abbrev pub Judges : (FaultKind → Bool) → Option FaultKind → Type 0
Judges has found =
    MatchOption found ((kind : FaultKind) → has kind ≡ false)
    (λ kind. (has kind ≡ true) × ((lower : FaultKind) → rank lower < rank kind → has lower ≡ false))

none_first : (has : FaultKind → Bool) → NoneBelow has 1
none_first has = record { none = λ kind l. let r = ranked kind in absurd (omega (arith, r.0)) }

none_more : (has : FaultKind → Bool) (kind : FaultKind) → NoneBelow has (rank kind) → has kind ≡ false → NoneBelow has (rank kind + 1)
none_more has kind below here = record {
  none = λ other l.
      elim (cases_lt (rank other) (rank kind)) as (λ _. has other ≡ false) [
        | inl a ↦ below.none other a
        | inr a ↦ let same : other ≡ kind = same_rank other kind (omega arith) in rw same here
      ];
}

looked_at : (has : FaultKind → Bool) (kind : FaultKind) (rest : Option FaultKind) (b : Bool) → has kind ≡ b → NoneBelow has (rank kind)
    → (NoneBelow has (rank kind + 1) → Judges has rest) → Judges has (cond b (Some kind) rest)
looked_at has kind rest true e below go = (e, below.none)
looked_at has kind rest false e below go = go (none_more has kind below e)

all_none : (has : FaultKind → Bool) → has Memory ≡ false → NoneBelow has 9 → Judges has None
all_none has memory below =
    let all = none_more has Memory below memory in λ kind. let r = ranked kind in all.none kind (omega (arith, r.1))

pub lowest_judges : (has : FaultKind → Bool) → has Memory ≡ false → Judges has (lowest_of has)
lowest_judges has memory =
    looked_at has LineTooLong _ (has LineTooLong) refl (none_first has) (λ a.
    looked_at has NotAscii _ (has NotAscii) refl a (λ b.
    looked_at has BadCycle _ (has BadCycle) refl b (λ c.
    looked_at has OutOfOrder _ (has OutOfOrder) refl c (λ d.
    looked_at has UnknownWord _ (has UnknownWord) refl d (λ e.
    looked_at has BadNumber _ (has BadNumber) refl e (λ f.
    looked_at has OutOfRange _ (has OutOfRange) refl f (λ g.
    looked_at has TooMany None (has TooMany) refl g (λ h. all_none has memory h))))))))
