-- The writes up to a cycle of a part are those up to its beginning, and those between.
use Rattle.std.proofs.Common.{◌≡◌, ℕ, ◌+◌, ◌≤◌, ◌<◌, Bool, true, false, List, [], ◌∷◌, ◌++◌, refl, ap, sym, ◌∙◌, arith, inl, inr}
use Rattle.std.specs.Prelude.{cond, nat_le, nat_lt}
use Rattle.std.proofs.lemmas.Bool.Decides.{leb_tells, nat_tests}
use Rattle.agc_word.specs.declared.channel_write.ChannelWrite.{ChannelWrite}
use Rattle.agc_machine.specs.Laws.{AreRising}
use Rattle.agc_timeline.specs.Frames.{between, up_to}
use Rattle.agc_timeline.proofs.Spans.{here, none_late, none_up_to, one_between}

-- a write up to a cycle
one_up_to : (cycle : ℕ) (w : ChannelWrite) (ws : List ChannelWrite) → w.cycle ≤ cycle → up_to cycle (w ∷ ws) ≡ w ∷ up_to cycle ws
one_up_to cycle w ws h =
    let past : nat_le w.cycle cycle ≡ true = grind (arith, nat_tests) in
    let rest : List ChannelWrite = up_to cycle ws in
    ap (λ (b : Bool). cond b (w ∷ rest) rest) past

-- the later writes between, up to a cycle, are those up to it
later_ones : (from to first cycle : ℕ) (ws : List ChannelWrite) → from < first → cycle ≤ to → AreRising first ws →
    up_to cycle (between from to ws) ≡ up_to cycle ws
later_ones from to first cycle [] l h r = refl
later_ones from to first cycle (w ∷ ws) l h r =
    elim (leb_tells w.cycle to) [
      | inl past ↦
          let all : up_to cycle (between from to ws) ≡ up_to cycle ws = later_ones from to (w.cycle + 1) cycle ws (omega (arith, r.0)) h r.2 in
          ap (up_to cycle) (one_between from to w ws (omega (arith, r.0)) past.1)
          ∙ ap (λ (rest : List ChannelWrite). cond (nat_le w.cycle cycle) (w ∷ rest) rest) all
      | inr late ↦
          ap (up_to cycle) (none_late from to w.cycle (w ∷ ws) (omega (arith, late.1)) (omega arith, r.1, r.2))
          ∙ sym (none_up_to w.cycle cycle (w ∷ ws) (omega (arith, late.1)) (omega arith, r.1, r.2))
    ]

pub up_to_between : (from to first cycle : ℕ) (ws : List ChannelWrite) → from ≤ cycle → cycle ≤ to → AreRising first ws →
    up_to from ws ++ up_to cycle (between from to ws) ≡ up_to cycle ws
up_to_between from to first cycle [] l h r = refl
up_to_between from to first cycle (w ∷ ws) l h r =
    elim (leb_tells w.cycle from) [
      | inl early ↦
          let early_test : nat_lt from w.cycle ≡ false = grind (arith, nat_tests, early.1) in
          ap (λ (xs : List ChannelWrite). xs ++ up_to cycle (between from to (w ∷ ws))) (one_up_to from w ws early.1)
          ∙ ap (λ (xs : List ChannelWrite). w ∷ (up_to from ws ++ up_to cycle xs)) (here from to w ws false (nat_le w.cycle to) early_test refl)
          ∙ ap (λ (xs : List ChannelWrite). w ∷ xs) (up_to_between from to (w.cycle + 1) cycle ws l h r.2)
          ∙ sym (one_up_to cycle w ws (omega (arith, early.1)))
      | inr late ↦
          ap (λ (xs : List ChannelWrite). xs ++ up_to cycle (between from to (w ∷ ws)))
          (none_up_to w.cycle from (w ∷ ws) (omega (arith, late.1)) (omega arith, r.1, r.2))
          ∙ later_ones from to w.cycle cycle (w ∷ ws) (omega (arith, late.1)) h (omega arith, r.1, r.2)
    ]
