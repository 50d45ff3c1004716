-- Quiet boundaries without a hit, and then one that may hit.
use Rattle.std.specs.Prelude.{◌≡◌, ℕ, zero, suc, ◌+◌, [], ◌∷◌, Option, None, Some}
use Rattle.std.proofs.Common.{refl, ap, sym, subst, ◌∙◌, arith, inl, inr}
use Rattle.agc_machine.specs.Boundary.{boundary}
use Rattle.agc_machine.specs.Laws.{after}
use Rattle.agc_machine.specs.State.{State}
use Rattle.agc_machine.specs.declared.answer.Stepped.{Stepped}
use Rattle.agc_machine.specs.declared.answer.Stepped.TheVariants as stepped
use Rattle.agc_panel.specs.declared.face.Face.{Face}
use Rattle.agc_session.specs.Condition.{AreHits, AreHitsOfOne, Meets, panel_after, panel_later}
use Rattle.agc_session.specs.Search.{HasAdvanced, cycles_of}
use Rattle.agc_session.specs.Session.{BeginBefore, shown_after}
use Rattle.agc_session.specs.declared.condition.Condition.{Condition}
use Rattle.agc_session.specs.declared.condition.Condition.TheVariants as condition
use Rattle.agc_session.proofs.Boundaries.{after_next, panel_next}
use Rattle.agc_session.proofs.Hits.{hits_join, hits_of_one}

-- this many boundaries are quiet
unfoldable pub AreQuiet : ℕ → State → Type 0
AreQuiet zero s = Unit {0}
AreQuiet (suc n) s = ((boundary None s).1 ≡ stepped.Quiet) × AreQuiet n (boundary None s).0

same_panel : (n : ℕ) (panel : Face) (s : State) → AreQuiet n s → panel_later n panel s ≡ panel
unfolding AreQuiet panel_later
same_panel zero panel s h = refl
same_panel (suc n) panel s h =
    same_panel n (panel_after panel s) (boundary None s).0 h.1 ∙ ap (λ (answer : Stepped). shown_after answer panel) h.0

-- this many quiet boundaries do not hit, and each ends before a cycle
pub record AreMissed (b : Condition) (cycle n : ℕ) (panel : Face) (s : State) : Type 0 where
  pub quiet : AreQuiet n s
  pub before : BeginBefore n cycle (boundary None s).0
  pub none : AreHits b n panel s []

pub none_missed : (b : Condition) (cycle : ℕ) (panel : Face) (s : State) → AreMissed b cycle 0 panel s
unfolding AreHits AreQuiet BeginBefore
none_missed b cycle panel s = record { quiet = tt; before = tt; none = refl }

pub advances : (b : Condition) (cycle n : ℕ) (panel shown : Face) (s t : State) (hit : Option ℕ) → AreMissed b cycle n panel s
    → t ≡ (boundary None (after n s)).0 → shown ≡ panel_after panel (after n s) → AreHitsOfOne b panel (after n s) (cycles_of hit)
    → HasAdvanced b cycle panel shown s t hit
advances b cycle n panel shown s t hit missed now shows one =
    let count : suc n ≡ n + 1 = omega arith in
    let same : panel_later n panel s ≡ panel = same_panel n panel s missed.quiet in
    record {
      more = n;
      now = ap (λ (k : ℕ). after k s) count ∙ after_next n s ∙ sym now;
      panel_now = ap (λ (k : ℕ). panel_later k panel s) count ∙ panel_next n panel s ∙ ap (λ (p : Face). panel_after p (after n s)) same ∙ sym shows;
      before = missed.before;
      hits = subst (λ (k : ℕ). AreHits b k panel s (cycles_of hit)) (sym count)
          (hits_join b n 1 panel s [] (cycles_of hit) missed.none
          (subst (λ (p : Face). AreHits b 1 p (after n s) (cycles_of hit)) (sym same) (hits_of_one b panel (after n s) (cycles_of hit) one)));
    }

-- the boundary after them hits
pub last_hits : (b : Condition) (cycle n : ℕ) (panel shown : Face) (s t : State) (began : ℕ) → AreMissed b cycle n panel s
    → t ≡ (boundary None (after n s)).0 → shown ≡ panel_after panel (after n s) → (after n s).stopped ≡ None → began ≡ (after n s).cycle
    → Meets b panel (after n s) → HasAdvanced b cycle panel shown s t (Some began)
last_hits b cycle n panel shown s t began missed now shows runs begins meets =
    advances b cycle n panel shown s t (Some began) missed now shows
    (inl (record { runs = runs; meets = meets }, ap (λ (c : ℕ). c ∷ []) begins))

-- it does not
pub last_misses : (b : Condition) (cycle n : ℕ) (panel shown : Face) (s t : State) → AreMissed b cycle n panel s
    → t ≡ (boundary None (after n s)).0 → shown ≡ panel_after panel (after n s) → (Meets b panel (after n s) → ⊥)
    → HasAdvanced b cycle panel shown s t None
last_misses b cycle n panel shown s t missed now shows miss =
    advances b cycle n panel shown s t None missed now shows (inr (λ hit. miss hit.meets, refl))

pub boundary_hits : (panel : Face) (s : State) → Meets condition.Boundary panel s
unfolding Meets
boundary_hits panel s = tt
