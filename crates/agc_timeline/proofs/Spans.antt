-- The writes of a run up to a cycle, and those after it up to a later one.
use Rattle.std.proofs.Common.{◌≡◌, ℕ, ◌+◌, ◌≤◌, ◌<◌, Bool, true, false, List, [], ◌∷◌, ◌++◌, refl, ap, sym, ◌∙◌, subst, arith, inl, inr, append-nil}
use Rattle.std.specs.Prelude.{cond, nat_le, nat_lt, ◌&&◌}
use Rattle.std.proofs.lemmas.Bool.Decides.{leb_tells, nat_tests}
use Rattle.agc_word.specs.declared.channel_write.ChannelWrite.{ChannelWrite}
use Rattle.agc_machine.specs.Laws.{AreRising}
use Rattle.agc_timeline.specs.Frames.{between, up_to}
use Rattle.agc_timeline.specs.Run.{AreUpTo}

-- writes up to a cycle, and one more
pub one_more_up_to : (cycle : ℕ) (xs : List ChannelWrite) (write : ChannelWrite) → AreUpTo cycle xs → write.cycle ≤ cycle → AreUpTo cycle (xs ++ write ∷ [])
one_more_up_to cycle [] write h l = (l, tt)
one_more_up_to cycle (x ∷ xs) write h l = (h.0, one_more_up_to cycle xs write h.1 l)

pub rising_later : (from later : ℕ) (writes : List ChannelWrite) → from ≤ later → AreRising later writes → AreRising from writes
rising_later from later [] l r = tt
rising_later from later (write ∷ writes) l r = (omega (arith, r.0), r.1, r.2)

pub none_up_to : (from cycle : ℕ) (writes : List ChannelWrite) → cycle < from → AreRising from writes → up_to cycle writes ≡ []
none_up_to from cycle [] l r = refl
none_up_to from cycle (write ∷ writes) l r =
    let later : nat_le write.cycle cycle ≡ false = grind (arith, nat_tests, r.0) in
    let rest : List ChannelWrite = up_to cycle writes in
    ap (λ (b : Bool). cond b (write ∷ rest) rest) later ∙ none_up_to (write.cycle + 1) cycle writes (omega (arith, r.0)) r.2

all_up_to : (cycle : ℕ) (xs vs : List ChannelWrite) → AreUpTo cycle xs → up_to cycle (xs ++ vs) ≡ xs ++ up_to cycle vs
all_up_to cycle [] vs h = refl
all_up_to cycle (x ∷ xs) vs h =
    let past : nat_le x.cycle cycle ≡ true = grind (arith, nat_tests, h.0) in
    let rest : List ChannelWrite = up_to cycle (xs ++ vs) in
    ap (λ (b : Bool). cond b (x ∷ rest) rest) past ∙ ap (λ (ws : List ChannelWrite). x ∷ ws) (all_up_to cycle xs vs h.1)

-- a write is between two cycles if both tests hold
pub here : (from to : ℕ) (x : ChannelWrite) (xs : List ChannelWrite) (a b : Bool) → nat_lt from x.cycle ≡ a → nat_le x.cycle to ≡ b →
    between from to (x ∷ xs) ≡ cond (a && b) (x ∷ between from to xs) (between from to xs)
here from to x xs a b p q =
    let rest : List ChannelWrite = between from to xs in
    ap (λ (c : Bool). cond (c && nat_le x.cycle to) (x ∷ rest) rest) p ∙ ap (λ (c : Bool). cond (a && c) (x ∷ rest) rest) q

none_early : (from to : ℕ) (xs vs : List ChannelWrite) → AreUpTo from xs → between from to (xs ++ vs) ≡ between from to vs
none_early from to [] vs h = refl
none_early from to (x ∷ xs) vs h =
    let early : nat_lt from x.cycle ≡ false = grind (arith, nat_tests, h.0) in
    here from to x (xs ++ vs) false (nat_le x.cycle to) early refl ∙ none_early from to xs vs h.1

pub late_by : (a : Bool) (from to : ℕ) (z : ChannelWrite) (zs : List ChannelWrite) → nat_lt from z.cycle ≡ a → nat_le z.cycle to ≡ false →
    between from to (z ∷ zs) ≡ between from to zs
late_by true from to z zs p q = here from to z zs true false p q
late_by false from to z zs p q = here from to z zs false false p q

pub none_late : (from to first : ℕ) (zs : List ChannelWrite) → to < first → AreRising first zs → between from to zs ≡ []
none_late from to first [] l r = refl
none_late from to first (z ∷ zs) l r =
    let late : nat_le z.cycle to ≡ false = grind (arith, nat_tests, r.0) in
    late_by (nat_lt from z.cycle) from to z zs refl late ∙ none_late from to (z.cycle + 1) zs (omega (arith, r.0)) r.2

pub one_between : (from to : ℕ) (y : ChannelWrite) (ys : List ChannelWrite) → from < y.cycle → y.cycle ≤ to → between from to (y ∷ ys) ≡ y ∷ between from to ys
one_between from to y ys l h =
    let late : nat_lt from y.cycle ≡ true = grind (arith, nat_tests) in
    let past : nat_le y.cycle to ≡ true = grind (arith, nat_tests) in
    here from to y ys true true late past

all_between : (from to first : ℕ) (ys zs : List ChannelWrite) → from < first → AreRising first (ys ++ zs) → AreUpTo to ys →
    between from to (ys ++ zs) ≡ ys ++ between from to zs
all_between from to first [] zs l r h = refl
all_between from to first (y ∷ ys) zs l r h =
    one_between from to y (ys ++ zs) (omega (arith, r.0)) h.0
    ∙ ap (λ (ws : List ChannelWrite). y ∷ ws) (all_between from to (y.cycle + 1) ys zs (omega (arith, r.0)) r.2 h.1)

-- writes in three parts: up to a cycle, up to a later one, and after that
pub first_part : (from : ℕ) (xs vs : List ChannelWrite) → AreUpTo from xs → AreRising (from + 1) vs → up_to from (xs ++ vs) ≡ xs
first_part from xs vs h r =
    all_up_to from xs vs h ∙ ap (λ (ws : List ChannelWrite). xs ++ ws) (none_up_to (from + 1) from vs (omega arith) r) ∙ append-nil xs

pub second_part : (from to : ℕ) (xs ys zs : List ChannelWrite) → AreUpTo from xs → AreRising (from + 1) (ys ++ zs) → AreUpTo to ys →
    AreRising (to + 1) zs → between from to (xs ++ (ys ++ zs)) ≡ ys
second_part from to xs ys zs h r k q =
    none_early from to xs (ys ++ zs) h ∙ all_between from to (from + 1) ys zs (omega arith) r k
    ∙ ap (λ (ws : List ChannelWrite). ys ++ ws) (none_late from to (to + 1) zs (omega arith) q) ∙ append-nil ys

-- the writes between two cycles rise, and are later than the first one
rising_by : (b : Bool) (from to first : ℕ) (w : ChannelWrite) (ws : List ChannelWrite) → nat_le w.cycle to ≡ b → from < first →
    AreRising first (w ∷ ws) → AreRising (w.cycle + 1) (between from to ws) → AreRising first (between from to (w ∷ ws))
rising_by true from to first w ws e l r h =
    let late : nat_lt from w.cycle ≡ true = grind (arith, nat_tests, r.0) in
    subst (λ (xs : List ChannelWrite). AreRising first xs) (sym (here from to w ws true true late e)) (r.0, r.1, h)
rising_by false from to first w ws e l r h =
    subst (λ (xs : List ChannelWrite). AreRising first xs) (sym (late_by (nat_lt from w.cycle) from to w ws refl e))
    (rising_later first (w.cycle + 1) (between from to ws) (omega (arith, r.0)) h)

rising_after : (from to first : ℕ) (ws : List ChannelWrite) → from < first → AreRising first ws → AreRising first (between from to ws)
rising_after from to first [] l r = tt
rising_after from to first (w ∷ ws) l r =
    rising_by (nat_le w.cycle to) from to first w ws refl l r (rising_after from to (w.cycle + 1) ws (omega (arith, r.0)) r.2)

pub between_rises : (from to first : ℕ) (ws : List ChannelWrite) → AreRising first ws → AreRising (from + 1) (between from to ws)
between_rises from to first [] r = tt
between_rises from to first (w ∷ ws) r =
    elim (leb_tells w.cycle from) [
      | inl early ↦
          let early_test : nat_lt from w.cycle ≡ false = grind (arith, nat_tests, early.1) in
          subst (λ (xs : List ChannelWrite). AreRising (from + 1) xs) (sym (here from to w ws false (nat_le w.cycle to) early_test refl))
          (between_rises from to (w.cycle + 1) ws r.2)
      | inr late ↦
          rising_later (from + 1) w.cycle (between from to (w ∷ ws)) (omega (arith, late.1))
          (rising_after from to w.cycle (w ∷ ws) (omega (arith, late.1)) (omega arith, r.1, r.2))
    ]
