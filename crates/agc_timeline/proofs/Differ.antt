-- Two texts over time, and the cycle at which they first differ.
use Rattle.std.proofs.Common.{◌≡◌, ◌≢◌, ℕ, ◌≤◌, ◌<◌, List, Option, Some, None, sym, subst}

-- two texts first differ at a cycle, which is this one or a later one; without a cycle they never differ
abbrev pub DifferFirst : ℕ → (ℕ → List ℕ) → (ℕ → List ℕ) → Option ℕ → Type 0
DifferFirst from f g (Some cycle) = (from ≤ cycle) × (f cycle ≢ g cycle) × ((n : ℕ) → n < cycle → f n ≡ g n)
DifferFirst from f g None = (n : ℕ) → f n ≡ g n

pub the_other_way : (from : ℕ) (f g : ℕ → List ℕ) (cycle : ℕ) → DifferFirst from f g (Some cycle) → DifferFirst from g f (Some cycle)
the_other_way from f g cycle d = (d.0, λ same. d.1 (sym same), λ n before. sym (d.2 n before))

pub at_the_same_cycle : (from : ℕ) (f g : ℕ → List ℕ) (n m : ℕ) → n ≡ m → DifferFirst from f g (Some n) → DifferFirst from f g (Some m)
at_the_same_cycle from f g n m same d = subst (λ (cycle : ℕ). DifferFirst from f g (Some cycle)) same d
