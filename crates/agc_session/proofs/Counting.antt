-- The hits of a stretch are counted boundary by boundary.
use Rattle.std.specs.Prelude.{◌≡◌, ◌⊎◌, ℕ, zero, suc, ◌+◌, ◌-◌, ◌<◌, ◌≤◌, List, [], ◌∷◌, ◌++◌, length, Option, None, Some, IsSome, IsTrue, Bool, true, false}
use Rattle.std.proofs.Common.{refl, ap, sym, subst, ◌∙◌, arith, append-nil, append_assoc, inl, inr}
use Rattle.std.proofs.lemmas.Bool.Decides.{leb_tells}
use Rattle.std.proofs.lemmas.List.{length-append}
use Rattle.agc_machine.specs.Boundary.{boundary}
use Rattle.agc_machine.specs.Laws.{after}
use Rattle.agc_machine.specs.State.{State}
use Rattle.agc_machine.specs.declared.answer.Stop.{Stop}
use Rattle.agc_panel.specs.declared.face.Face.{Face}
use Rattle.agc_session.specs.Condition.{AreHits, panel_later}
use Rattle.agc_session.specs.Search.{HasAdvanced, HasCounted, HasSearched, IsAt, IsCountOf, IsCounting, cycles_of, span}
use Rattle.agc_session.specs.Session.{BeginBefore}
use Rattle.agc_session.specs.declared.condition.Condition.{Condition}
use Rattle.agc_session.specs.declared.search.Counted.{Counted}
use Rattle.agc_session.specs.declared.search.Found.TheVariants as found
use Rattle.agc_session.specs.declared.search.Point.{Point}
use Rattle.agc_session.proofs.Boundaries.{after_plus, panel_plus}
use Rattle.agc_session.proofs.Hits.{few_hits, hits_join, hits_split, none_at_point, none_at_stop, same_hits, span_moves}

-- nothing is counted yet
pub counting_starts : (b : Condition) (n : ℕ) (panel : Face) (s : State) (hits : Counted) → hits.number ≡ 0 → IsCounting b n panel panel s s hits
unfolding AreHits after panel_later
counting_starts b n panel s hits e = record {
  boundaries = 0;
  left = n;
  parts = omega arith;
  now = refl;
  panel_now = refl;
  cycles = [];
  hits = refl;
  count = record { number = e; last = λ h. absurd (omega (arith, h)) };
}

-- the boundaries taken are left before the point
begins_at : (n k cycle : ℕ) (s : State) → BeginBefore n cycle s → k < n → (after k s).cycle < cycle
unfolding after BeginBefore
begins_at zero k cycle s h l = absurd (omega (arith, l))
begins_at (suc n) zero cycle s h l = h.0
begins_at (suc n) (suc k) cycle s h l = begins_at n k cycle (boundary None s).0 h.1 (omega (arith, l))

some_left_by : (more left : ℕ) (t : State) (point : Point) → IsAt point (after left t) → (IsAt point t → ⊥)
    → BeginBefore more point.cycle (boundary None t).0 → left ≤ more → ⊥
unfolding after
some_left_by more zero t point at not before l = not at
some_left_by more (suc left) t point at not before l =
    omega (arith, at.cycle, begins_at more left point.cycle (boundary None t).0 before (omega (arith, l)))

point_after : (b : Condition) (n : ℕ) (panel shown : Face) (s t : State) (counted : Counted) (point : Point) (h : IsCounting b n panel shown s t counted)
    → IsAt point (after n s) → IsAt point (after h.left t)
point_after b n panel shown s t counted point h at =
    let last : after h.left t ≡ after n s =
    ap (λ (u : State). after h.left u) (sym h.now) ∙ sym (after_plus h.boundaries h.left s) ∙ ap (λ (k : ℕ). after k s) h.parts in
    subst (λ (u : State). IsAt point u) (sym last) at

enough_left : (b : Condition) (n : ℕ) (panel shown later_shown : Face) (s t u : State) (counted : Counted) (point : Point) (hit : Option ℕ)
    (h : IsCounting b n panel shown s t counted) (a : HasAdvanced b point.cycle shown later_shown t u hit) → IsAt point (after n s) → (IsAt point t → ⊥)
    → suc a.more ≤ h.left
enough_left b n panel shown later_shown s t u counted point hit h a at not =
    elim (leb_tells (suc a.more) h.left) as (λ _. suc a.more ≤ h.left) [
      | inl w ↦ omega (arith, w.1)
      | inr w ↦ absurd (some_left_by a.more h.left t point (point_after b n panel shown s t counted point h at) not a.before (omega (arith, w.1)))
    ]

-- some more boundaries
counts_more : (b : Condition) (n : ℕ) (panel shown later_shown : Face) (s t u : State) (counted : Counted) (point : Point) (hit : Option ℕ) (next : Counted)
    → (h : IsCounting b n panel shown s t counted) → IsAt point (after n s) → (IsAt point t → ⊥) → HasAdvanced b point.cycle shown later_shown t u hit
    → IsCountOf (h.cycles ++ cycles_of hit) next → IsCounting b n panel later_shown s u next
counts_more b n panel shown later_shown s t u counted point hit next h at not a count =
    let m : ℕ = suc a.more in
    let enough : m ≤ h.left = enough_left b n panel shown later_shown s t u counted point hit h a at not in
    let here : AreHits b m (panel_later h.boundaries panel s) (after h.boundaries s) (cycles_of hit) =
    subst (λ (p : Face). AreHits b m p (after h.boundaries s) (cycles_of hit)) (sym h.panel_now)
    (subst (λ (x : State). AreHits b m shown x (cycles_of hit)) (sym h.now) a.hits) in
    record {
      boundaries = h.boundaries + m;
      left = h.left - m;
      parts = omega (arith, h.parts, enough);
      now = after_plus h.boundaries m s ∙ ap (λ (x : State). after m x) h.now ∙ a.now;
      panel_now = panel_plus h.boundaries m panel s ∙ ap (λ (p : Face). panel_later m p (after h.boundaries s)) h.panel_now
          ∙ ap (λ (x : State). panel_later m shown x) h.now ∙ a.panel_now;
      cycles = h.cycles ++ cycles_of hit;
      hits = hits_join b h.boundaries m panel s h.cycles (cycles_of hit) h.hits here;
      count = count;
    }

pub counts_hit : (b : Condition) (n : ℕ) (panel shown later_shown : Face) (s t u : State) (counted : Counted) (point : Point) (cycle : ℕ)
    → IsCounting b n panel shown s t counted → IsAt point (after n s) → (IsAt point t → ⊥) → HasAdvanced b point.cycle shown later_shown t u (Some cycle)
    → IsCounting b n panel later_shown s u (record { number = counted.number + 1; last = cycle })
counts_hit b n panel shown later_shown s t u counted point cycle h at not a =
    counts_more b n panel shown later_shown s t u counted point (Some cycle) (record { number = counted.number + 1; last = cycle }) h at not a
    (record { number = omega (arith, h.count.number, length-append h.cycles (cycle ∷ [])); last = λ _. (h.cycles, refl) })

pub counts_miss : (b : Condition) (n : ℕ) (panel shown later_shown : Face) (s t u : State) (counted : Counted) (point : Point)
    → IsCounting b n panel shown s t counted → IsAt point (after n s) → (IsAt point t → ⊥) → HasAdvanced b point.cycle shown later_shown t u None
    → IsCounting b n panel later_shown s u counted
counts_miss b n panel shown later_shown s t u counted point h at not a =
    counts_more b n panel shown later_shown s t u counted point None counted h at not a
    (subst (λ (l : List ℕ). IsCountOf l counted) (sym (append-nil h.cycles)) h.count)

-- an earlier cycle says more
begins_within : (n cycle end : ℕ) (s : State) → cycle ≤ end → BeginBefore n cycle s → BeginBefore n end s
unfolding BeginBefore
begins_within zero cycle end s l h = tt
begins_within (suc n) cycle end s l h = (omega (arith, l, h.0), begins_within n cycle end (boundary None s).0 l h.1)

pub advances_within : (b : Condition) (cycle end : ℕ) (panel shown : Face) (s t : State) (hit : Option ℕ) → cycle ≤ end
    → HasAdvanced b cycle panel shown s t hit → HasAdvanced b end panel shown s t hit
advances_within b cycle end panel shown s t hit l a = record {
  more = a.more;
  now = a.now;
  panel_now = a.panel_now;
  before = begins_within a.more cycle end (boundary None s).0 l a.before;
  hits = a.hits;
}

-- fewer boundaries are left after it
pub span_advances : (b : Condition) (cycle : ℕ) (panel shown : Face) (s t : State) (hit : Option ℕ) → s.stopped ≡ None
    → HasAdvanced b cycle panel shown s t hit → span t < span s
span_advances b cycle panel shown s t hit runs a = subst (λ (u : State). span u < span s) a.now (span_moves a.more s runs)

-- the count ends at the point, at the stop, or with the hit that was wanted
stop_known : (stopped : Option Stop) → IsSome stopped → (why : Stop) × (stopped ≡ Some why)
stop_known (Some why) h = (why, refl)
stop_known None h = cc

ended : (b : Condition) (n : ℕ) (panel shown : Face) (s t : State) (hits : Counted) (point : Point) → (h : IsCounting b n panel shown s t hits)
    → IsAt point (after n s) → IsAt point t ⊎ IsSome t.stopped → AreHits b h.left shown t []
ended b n panel shown s t hits point h at (inl there) =
    none_at_point b h.left shown t point there (point_after b n panel shown s t hits point h at)
ended b n panel shown s t hits point h at (inr stopped) =
    let known = stop_known t.stopped stopped in none_at_stop b h.left shown t known.0 known.1

pub has_counted : (b : Condition) (n most : ℕ) (panel shown : Face) (s t : State) (hits : Counted) (point : Point) → IsCounting b n panel shown s t hits
    → hits.number ≤ most → IsAt point (after n s) → (most ≤ hits.number) ⊎ (IsAt point t ⊎ IsSome t.stopped) → HasCounted b n most panel s hits
has_counted b n most panel shown s t hits point h few at (inl enough) = record {
  boundaries = h.boundaries;
  left = h.left;
  parts = h.parts;
  cycles = h.cycles;
  hits = h.hits;
  count = h.count;
  few = few;
  done = inl (omega (arith, few, enough));
}
has_counted b n most panel shown s t hits point h few at (inr end) = record {
  boundaries = h.boundaries;
  left = h.left;
  parts = h.parts;
  cycles = h.cycles;
  hits = h.hits;
  count = h.count;
  few = few;
  done = inr
      (subst (λ (p : Face). AreHits b h.left p (after h.boundaries s) []) (sym h.panel_now)
      (subst (λ (u : State). AreHits b h.left shown u []) (sym h.now) (ended b n panel shown s t hits point h at end)));
}

-- all hits of a stretch, if the count has not ended before it
all_hits : (b : Condition) (n most : ℕ) (panel : Face) (s : State) (hits : Counted) (h : HasCounted b n most panel s hits)
    → AreHits b h.left (panel_later h.boundaries panel s) (after h.boundaries s) [] → AreHits b n panel s h.cycles
all_hits b n most panel s hits h none =
    subst (λ (k : ℕ). AreHits b k panel s h.cycles) h.parts
    (subst (λ (l : List ℕ). AreHits b (h.boundaries + h.left) panel s l) (append-nil h.cycles)
    (hits_join b h.boundaries h.left panel s h.cycles [] h.hits none))

pub whole_count : (b : Condition) (n most : ℕ) (panel : Face) (s : State) (hits : Counted) (h : HasCounted b n most panel s hits) → span s < most
    → AreHits b n panel s h.cycles
whole_count b n most panel s hits h short =
    elim h.done as (λ _. AreHits b n panel s h.cycles) [
      | inl w ↦ absurd (omega (arith, w, short, h.count.number, few_hits b h.boundaries panel s h.cycles h.hits))
      | inr w ↦ all_hits b n most panel s hits h w
    ]

-- the stretch has too few hits
pub finds_fewer : (b : Condition) (n wanted most : ℕ) (panel : Face) (s : State) (hits : Counted) → HasCounted b n most panel s hits → span s < most
    → hits.number < wanted → HasSearched b wanted n panel s (found.Fewer hits.number)
finds_fewer b n wanted most panel s hits h short less = record {
  cycles = h.cycles;
  hits = whole_count b n most panel s hits h short;
  found = (sym h.count.number, less);
}

-- its last hit was wanted
pub finds_last : (b : Condition) (n wanted most : ℕ) (panel : Face) (s : State) (hits : Counted) → HasCounted b n most panel s hits → span s < most
    → wanted ≡ 1 → wanted ≤ hits.number → HasSearched b wanted n panel s (found.At hits.last)
finds_last b n wanted most panel s hits h short one some =
    let last = h.count.last (omega (arith, h.count.number, some, one)) in
    record {
      cycles = h.cycles;
      hits = whole_count b n most panel s hits h short;
      found = (last.0, [], last.1, omega (arith, one));
    }

-- an earlier one was wanted
number_of_first : (b : Condition) (n most first_most : ℕ) (panel : Face) (s : State) (all first : Counted) → HasCounted b n most panel s all → span s < most
    → HasCounted b n first_most panel s first → first_most ≤ all.number → first.number ≡ first_most
number_of_first b n most first_most panel s all first h short k le =
    elim k.done as (λ _. first.number ≡ first_most) [
      | inl w ↦ w
      | inr w ↦
          let same : h.cycles ≡ k.cycles =
          same_hits b n panel s h.cycles k.cycles (whole_count b n most panel s all h short) (all_hits b n first_most panel s first k w) in
          omega (arith, k.few, le, h.count.number, k.count.number, ap length same)
    ]

pub finds_earlier : (b : Condition) (n wanted most first_most : ℕ) (panel : Face) (s : State) (all first : Counted) → HasCounted b n most panel s all
    → span s < most → HasCounted b n first_most panel s first → 0 < wanted → wanted ≤ all.number → first_most ≡ all.number - wanted + 1
    → HasSearched b wanted n panel s (found.At first.last)
finds_earlier b n wanted most first_most panel s all first h short k some enough e =
    let number : first.number ≡ first_most = number_of_first b n most first_most panel s all first h short k (omega (arith, e, enough, some)) in
    let last = k.count.last (omega (arith, k.count.number, number, e)) in
    let whole : AreHits b n panel s h.cycles = whole_count b n most panel s all h short in
    let parts = hits_split b k.boundaries k.left panel s h.cycles (subst (λ (m : ℕ). AreHits b m panel s h.cycles) (sym k.parts) whole) in
    let same : parts.one ≡ k.cycles = same_hits b k.boundaries panel s parts.one k.cycles parts.first k.hits in
    let both : h.cycles ≡ last.0 ++ first.last ∷ parts.other =
    parts.both ∙ ap (λ (l : List ℕ). l ++ parts.other) (same ∙ last.1) ∙ append_assoc last.0 (first.last ∷ []) parts.other in
    record {
      cycles = h.cycles;
      hits = whole;
      found = (
        last.0,
        parts.other,
        both,
        omega (arith, e, enough, some, number, h.count.number, k.count.number, ap length parts.both, length-append parts.one parts.other, ap length same),
      );
    }

pub never : (b : Bool) → b ≡ false → IsTrue b → ⊥
never b e h = let both : true ≡ false = sym h ∙ e in cc

pub none_known : (stopped : Option Stop) → (IsSome stopped → ⊥) → stopped ≡ None
none_known (Some why) h = absurd (h refl)
none_known None h = refl
