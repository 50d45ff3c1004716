-- The hits of a run: those of its parts, and the boundary of each.
use Rattle.std.specs.Prelude.{◌≡◌, ℕ, zero, suc, ◌+◌, ◌<◌, ◌≤◌, List, [], ◌∷◌, ◌++◌, length, drop, get_or, Option, None, Some, is_some, false}
use Rattle.std.proofs.Common.{refl, ap, sym, subst, ◌∙◌, arith, append-nil, append_assoc, inl, inr}
use Rattle.std.proofs.lemmas.List.{length-append}
use Rattle.agc_machine.specs.Boundary.{boundary}
use Rattle.agc_machine.specs.Laws.{after}
use Rattle.agc_machine.specs.Run.{boundaries_left}
use Rattle.agc_machine.specs.State.{State}
use Rattle.agc_machine.specs.declared.answer.Stepped.{Stepped}
use Rattle.agc_machine.specs.declared.answer.Stop.{Stop}
use Rattle.agc_machine.proofs.Chain.{stopped_stays}
use Rattle.agc_panel.specs.declared.face.Face.{Face}
use Rattle.agc_session.specs.Condition.{AreHits, AreHitsOfOne, Hits, panel_after, panel_later}
use Rattle.agc_session.specs.declared.condition.Condition.{Condition}
use Rattle.agc_session.specs.declared.search.Point.{Point}
use Rattle.agc_session.specs.Search.{IsAt, span}
use Rattle.agc_session.proofs.Boundaries.{same_limit, span_at_stop, span_falls}

-- the hits of some boundaries, then those of more
pub hits_join : (b : Condition) (n m : ℕ) (panel : Face) (s : State) (l k : List ℕ) → AreHits b n panel s l
    → AreHits b m (panel_later n panel s) (after n s) k → AreHits b (n + m) panel s (l ++ k)
unfolding AreHits after panel_later
hits_join b zero m panel s l k h g =
    let e : zero + m ≡ m = omega arith in
    subst (λ (x : List ℕ). AreHits b (zero + m) panel s (x ++ k)) (sym h) (subst (λ (j : ℕ). AreHits b j panel s k) (sym e) g)
hits_join b (suc n) m panel s l k h g =
    let count : suc n + m ≡ suc (n + m) = omega arith in
    subst (λ (j : ℕ). AreHits b j panel s (l ++ k)) (sym count)
    (h.0, h.1 ++ k, h.2, hits_join b n m (panel_after panel s) (boundary None s).0 h.1 k h.3 g, ap (λ (x : List ℕ). x ++ k) h.4 ∙ append_assoc h.0 h.1 k)

pub record Parts (b : Condition) (n m : ℕ) (panel : Face) (s : State) (l : List ℕ) : Type 0 where
  pub one : List ℕ
  pub other : List ℕ
  pub first : AreHits b n panel s one
  pub rest : AreHits b m (panel_later n panel s) (after n s) other
  pub both : l ≡ one ++ other

pub hits_split : (b : Condition) (n m : ℕ) (panel : Face) (s : State) (l : List ℕ) → AreHits b (n + m) panel s l → Parts b n m panel s l
unfolding AreHits after panel_later
hits_split b zero m panel s l h =
    let e : zero + m ≡ m = omega arith in
    record { one = []; other = l; first = refl; rest = subst (λ (j : ℕ). AreHits b j panel s l) e h; both = refl }
hits_split b (suc n) m panel s l h =
    let count : suc n + m ≡ suc (n + m) = omega arith in
    let whole : AreHits b (suc (n + m)) panel s l = subst (λ (j : ℕ). AreHits b j panel s l) count h in
    let parts = hits_split b n m (panel_after panel s) (boundary None s).0 whole.1 whole.3 in
    record {
      one = whole.0 ++ parts.one;
      other = parts.other;
      first = (whole.0, parts.one, whole.2, parts.first, refl);
      rest = parts.rest;
      both = whole.4 ∙ ap (λ (x : List ℕ). whole.0 ++ x) parts.both ∙ sym (append_assoc whole.0 parts.one parts.other);
    }

-- a run has its hits once
same_of_one : (b : Condition) (panel : Face) (s : State) (x y : List ℕ) → AreHitsOfOne b panel s x → AreHitsOfOne b panel s y → x ≡ y
same_of_one b panel s x y (inl h) (inl k) = h.1 ∙ sym k.1
same_of_one b panel s x y (inl h) (inr k) = absurd (k.0 h.0)
same_of_one b panel s x y (inr h) (inl k) = absurd (h.0 k.0)
same_of_one b panel s x y (inr h) (inr k) = h.1 ∙ sym k.1

pub same_hits : (b : Condition) (n : ℕ) (panel : Face) (s : State) (x y : List ℕ) → AreHits b n panel s x → AreHits b n panel s y → x ≡ y
unfolding AreHits
same_hits b zero panel s x y h k = h ∙ sym k
same_hits b (suc n) panel s x y h k =
    h.4 ∙ ap (λ (l : List ℕ). l ++ h.1) (same_of_one b panel s h.0 k.0 h.2 k.2)
    ∙ ap (λ (l : List ℕ). k.0 ++ l) (same_hits b n (panel_after panel s) (boundary None s).0 h.1 k.1 h.3 k.3) ∙ sym k.4

-- a stopped machine hits nothing
pub none_at_stop : (b : Condition) (n : ℕ) (panel : Face) (s : State) (why : Stop) → s.stopped ≡ Some why → AreHits b n panel s []
unfolding AreHits
none_at_stop b zero panel s why e = refl
none_at_stop b (suc n) panel s why e =
    let still : (boundary None s).0.stopped ≡ Some why = ap (λ (r : State × Stepped). r.0.stopped) (stopped_stays s why e) ∙ e in
    let not_one : Hits b panel s → ⊥ = λ h. let both : Some why ≡ None = sym e ∙ h.runs in cc in
    ([], [], inr (not_one, refl), none_at_stop b n (panel_after panel s) (boundary None s).0 why still, refl)

-- one boundary
pub hits_of_one : (b : Condition) (panel : Face) (s : State) (l : List ℕ) → AreHitsOfOne b panel s l → AreHits b 1 panel s l
unfolding AreHits
hits_of_one b panel s l h = (l, [], h, refl, sym (append-nil l))

-- no run has more hits than boundaries left
span_stays_by : (stopped : Option Stop) (s : State) → s.stopped ≡ stopped → span (boundary None s).0 ≤ span s
span_stays_by None s e = omega (arith, span_falls s e)
span_stays_by (Some why) s e =
    let still : (boundary None s).0.stopped ≡ Some why = ap (λ (r : State × Stepped). r.0.stopped) (stopped_stays s why e) ∙ e in
    omega (arith, span_at_stop (boundary None s).0 why still)

span_stays : (s : State) → span (boundary None s).0 ≤ span s
span_stays s = span_stays_by s.stopped s refl

span_later : (n : ℕ) (s : State) → span (after n s) ≤ span s
unfolding after
span_later zero s = omega arith
span_later (suc n) s = omega (arith, span_later n (boundary None s).0, span_stays s)

pub few_hits : (b : Condition) (n : ℕ) (panel : Face) (s : State) (l : List ℕ) → AreHits b n panel s l → length l ≤ span s
unfolding AreHits
few_hits b zero panel s l h = omega (arith, ap length h)
few_hits b (suc n) panel s l h =
    let both : length l ≡ length h.0 + length h.1 = ap length h.4 ∙ length-append h.0 h.1 in
    let rest : length h.1 ≤ span (boundary None s).0 = few_hits b n (panel_after panel s) (boundary None s).0 h.1 h.3 in
    elim h.2 as (λ _. length l ≤ span s) [
      | inl w ↦ omega (arith, both, rest, ap length w.1, span_falls s w.0.runs)
      | inr w ↦ omega (arith, both, rest, ap length w.1, span_stays s)
    ]

-- two states of a run that are at one point have no hit between them
runs_on : (s : State) → is_some s.stopped ≡ false → span s ≡ boundaries_left s
runs_on s e = rw e refl

same_left : (n : ℕ) (s : State) (point : Point) → IsAt point s → IsAt point (after n s) → boundaries_left (after n s) ≡ boundaries_left s
unfolding boundaries_left
same_left n s point h k = omega (arith, same_limit n s, h.cycle, k.cycle, h.left, k.left)

pub span_moves : (n : ℕ) (s : State) → s.stopped ≡ None → span (after (suc n) s) < span s
unfolding after
span_moves n s e = omega (arith, span_later n (boundary None s).0, span_falls s e)

not_moved : (n : ℕ) (s : State) (point : Point) → s.stopped ≡ None → IsAt point s → IsAt point (after (suc n) s) → ⊥
not_moved n s point e h k =
    let running : is_some s.stopped ≡ false = ap is_some e in
    let still : is_some (after (suc n) s).stopped ≡ false = k.stopped ∙ sym h.stopped ∙ running in
    let less : span (after (suc n) s) < span s = span_moves n s e in
    omega (arith, less, runs_on s running, runs_on (after (suc n) s) still, same_left (suc n) s point h k)

same_by : (stopped : Option Stop) (b : Condition) (n : ℕ) (panel : Face) (s : State) (point : Point) → s.stopped ≡ stopped → IsAt point s
    → IsAt point (after n s) → AreHits b n panel s []
unfolding AreHits
same_by (Some why) b n panel s point e h k = none_at_stop b n panel s why e
same_by None b zero panel s point e h k = refl
same_by None b (suc n) panel s point e h k = absurd (not_moved n s point e h k)

pub none_at_point : (b : Condition) (n : ℕ) (panel : Face) (s : State) (point : Point) → IsAt point s → IsAt point (after n s) → AreHits b n panel s []
none_at_point b n panel s point h k = same_by s.stopped b n panel s point refl h k

-- the boundary of a hit
pub record Position (b : Condition) (n : ℕ) (panel : Face) (s : State) (cycle count : ℕ) : Type 0 where
  pub earlier : ℕ
  pub later : ℕ
  pub parts : earlier + later ≡ n
  pub begins : (after earlier s).cycle ≡ cycle
  pub hits : Hits b (panel_later earlier panel s) (after earlier s)
  pub cycles : List ℕ
  pub since : AreHits b later (panel_later earlier panel s) (after earlier s) cycles
  pub number : length cycles ≡ count

next_position : (b : Condition) (n : ℕ) (panel : Face) (s : State) (cycle count : ℕ)
    → Position b n (panel_after panel s) (boundary None s).0 cycle count → Position b (suc n) panel s cycle count
unfolding after panel_later
next_position b n panel s cycle count p = record {
  earlier = suc p.earlier;
  later = p.later;
  parts = omega (arith, p.parts);
  begins = p.begins;
  hits = p.hits;
  cycles = p.cycles;
  since = p.since;
  number = p.number;
}

hit_here : (b : Condition) (n : ℕ) (panel : Face) (s : State) (front back : List ℕ) (cycle : ℕ) (l rest : List ℕ) → Hits b panel s
    → AreHits b (suc n) panel s l → l ≡ s.cycle ∷ rest → l ≡ front ++ cycle ∷ back
    → ((front : List ℕ) → rest ≡ front ++ cycle ∷ back → Position b n (panel_after panel s) (boundary None s).0 cycle (length back + 1))
    → Position b (suc n) panel s cycle (length back + 1)
unfolding after panel_later
hit_here b n panel s [] back cycle l rest hit h e f go = record {
  earlier = 0;
  later = suc n;
  parts = omega arith;
  begins = ap (λ (x : List ℕ). get_or x 0 0) (sym e ∙ f);
  hits = hit;
  cycles = l;
  since = h;
  number = omega (arith, ap length f);
}
hit_here b n panel s (one ∷ front) back cycle l rest hit h e f go =
    next_position b n panel s cycle (length back + 1) (go front (ap (λ (x : List ℕ). drop 1 x) (sym e ∙ f)))

pub find_hit : (b : Condition) (n : ℕ) (panel : Face) (s : State) (front back : List ℕ) (cycle : ℕ) (l : List ℕ) → AreHits b n panel s l
    → l ≡ front ++ cycle ∷ back → Position b n panel s cycle (length back + 1)
unfolding AreHits
find_hit b zero panel s front back cycle l h e = absurd (omega (arith, ap length h, ap length e, length-append front (cycle ∷ back)))
find_hit b (suc n) panel s front back cycle l h e =
    elim h.2 as (λ _. Position b (suc n) panel s cycle (length back + 1)) [
      | inl w ↦ hit_here b n panel s front back cycle l h.1 w.0 h (h.4 ∙ ap (λ (x : List ℕ). x ++ h.1) w.1) e
          (λ rest k. find_hit b n (panel_after panel s) (boundary None s).0 rest back cycle h.1 h.3 k)
      | inr w ↦ next_position b n panel s cycle (length back + 1)
          (find_hit b n (panel_after panel s) (boundary None s).0 front back cycle h.1 h.3 (sym (h.4 ∙ ap (λ (x : List ℕ). x ++ h.1) w.1) ∙ e))
    ]
