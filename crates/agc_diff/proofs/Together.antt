-- The common observations of two runs, one pair after another.
use Rattle.std.proofs.Common.{◌≡◌, ◌≢◌, ℕ, ◌+◌, ◌<◌, suc, List, [], ◌∷◌, ◌++◌, length, map, Option, Some, None, refl, ap, sym, ◌∙◌, subst, arith, append_assoc, append-nil, length-append}
use Rattle.std.specs.Prelude.{All, IfSome, max, slice_get}
use Rattle.std.specs.List.{cons_option}
use Rattle.std.proofs.lemmas.List.{length-map, map-append}
use Rattle.std.proofs.lemmas.List.Elements.{All-append, All-cons, All-nil}
use Rattle.circular_buffer.specs.Buffer.{Buffer, buffer, keep_last}
use Rattle.circular_buffer.proofs.Places.{slice_get-append_right}
use Rattle.agc_diff.proofs.Kept.{keep_one}
use Rattle.agc_machine.specs.State.{State}
use Rattle.agc_panel.specs.Face.{panel_of}
use Rattle.agc_panel.specs.declared.face.Face.{Face}
use Rattle.agc_diff.specs.ObservedPrefix.{FitsPair, GoTogether, apart, skew_of, kept, lefts, rights, seen}
use Rattle.agc_diff.specs.ObservedCursor.{HasShown, shown_left}
use Rattle.agc_diff.specs.Observation.{FitsShown, Look, look_of, looks_of, shown_by}
use Rattle.agc_trace.specs.declared.diff_by.DiffBy.{DiffBy}
use Rattle.agc_diff.specs.declared.observed.common_prefix.CommonPrefix.{CommonPrefix}
use Rattle.agc_diff.specs.declared.observed.comparison.Pair.{Pair}
use Rattle.agc_diff.specs.declared.observed.observation.Observation.{Observation}

-- Two runs have shown these pairs, which are alike, and each has reached a state.
pub record HasMatched (what : DiffBy) (s t : State) (common : CommonPrefix) (last : Buffer Pair) (p : Face) (u : State) (q : Face) (v : State) : Type 0 where
  pub pairs : List Pair
  pub left : shown_by what s ≡ lefts pairs ++ shown_left what p u
  pub right : shown_by what t ≡ rights pairs ++ shown_left what q v
  pub alike : looks_of (lefts pairs) ≡ looks_of (rights pairs)
  pub count : common.count ≡ length pairs
  pub skew : common.skew ≡ skew_of pairs
  pub last_ones : last ≡ buffer (keep_last kept pairs) kept
  pub fits : All FitsPair pairs

-- no pair yet
pub matched_none : (what : DiffBy) (s t : State) (common : CommonPrefix) (last : Buffer Pair) (p q : Face) → p ≡ panel_of [] → q ≡ panel_of [] →
    common.count ≡ 0 → common.skew ≡ 0 → last ≡ buffer [] kept → HasMatched what s t common last p s q t
unfolding skew_of
matched_none what s t common last p q e f c d l =
    record {
      pairs = [];
      left = ap (λ (face : Face). shown_left what face s) (sym e);
      right = ap (λ (face : Face). shown_left what face t) (sym f);
      alike = refl;
      count = c;
      skew = d;
      last_ones = l;
      fits = All-nil FitsPair;
    }

one_more : (f : Pair → Observation) (all : List Observation) (pairs : List Pair) (pair : Pair) (x : Option Observation) (now rest : List Observation) → all ≡ map f pairs ++ now →
    now ≡ cons_option x rest → x ≡ Some (f pair) → all ≡ map f (pairs ++ pair ∷ []) ++ rest
one_more f all pairs pair x now rest e n h =
    e ∙ ap (λ (ys : List Observation). map f pairs ++ ys) (n ∙ ap (λ (o : Option Observation). cons_option o rest) h) ∙ sym (append_assoc (map f pairs) (f pair ∷ []) rest)
    ∙ ap (λ (ys : List Observation). ys ++ rest) (sym (map-append f pairs (pair ∷ [])))

looks_more : (f : Pair → Observation) (pairs : List Pair) (pair : Pair) → looks_of (map f (pairs ++ pair ∷ [])) ≡ looks_of (map f pairs) ++ look_of (f pair).sight ∷ []
looks_more f pairs pair = ap looks_of (map-append f pairs (pair ∷ [])) ∙ map-append (λ (one : Observation). look_of one.sight) (map f pairs) (f pair ∷ [])

alike_more : (pairs : List Pair) (pair : Pair) → look_of pair.left.sight ≡ look_of pair.right.sight → looks_of (lefts pairs) ≡ looks_of (rights pairs) →
    looks_of (lefts (pairs ++ pair ∷ [])) ≡ looks_of (rights (pairs ++ pair ∷ []))
alike_more pairs pair same alike =
    looks_more (λ (pair : Pair). pair.left) pairs pair ∙ ap (λ (looks : List Look). looks ++ look_of pair.left.sight ∷ []) alike
    ∙ ap (λ (look : Look). looks_of (rights pairs) ++ look ∷ []) same ∙ sym (looks_more (λ (pair : Pair). pair.right) pairs pair)

most_of : (a b c d : ℕ) → d ≡ max b c → max a d ≡ max (max a b) c
most_of a b c d e = omega arith

skew_more : (pairs : List Pair) (pair : Pair) → skew_of (pairs ++ pair ∷ []) ≡ max (skew_of pairs) (apart pair)
unfolding skew_of
skew_more [] pair = let most : (n : ℕ) → max n 0 ≡ max 0 n = λ n. omega arith in most (apart pair)
skew_more (one ∷ pairs) pair = most_of (apart one) (skew_of pairs) (apart pair) (skew_of (pairs ++ pair ∷ [])) (skew_more pairs pair)

-- another pair
pub matched_more : (what : DiffBy) (s t : State) (c d : CommonPrefix) (last more : Buffer Pair) (p p2 : Face) (u u2 : State) (q q2 : Face) (v v2 : State)
    (x y : Option Observation) (pair : Pair) → HasShown what p u x p2 u2 → HasShown what q v y q2 v2 → IfSome x FitsShown → IfSome y FitsShown →
    (x ≡ Some pair.left) × (y ≡ Some pair.right) × (look_of pair.left.sight ≡ look_of pair.right.sight) →
    d.count ≡ c.count + 1 → d.skew ≡ max c.skew (apart pair) → more ≡ buffer (keep_last last.capacity (last.items ++ pair ∷ [])) last.capacity →
    HasMatched what s t c last p u q v → HasMatched what s t d more p2 u2 q2 v2
matched_more what s t c d last more p p2 u u2 q q2 v v2 x y pair a b fx fy meets count skew l h =
    record {
      pairs = h.pairs ++ pair ∷ [];
      left = one_more (λ (pair : Pair). pair.left) (shown_by what s) h.pairs pair x (shown_left what p u) (shown_left what p2 u2) h.left a.next meets.0;
      right = one_more (λ (pair : Pair). pair.right) (shown_by what t) h.pairs pair y (shown_left what q v) (shown_left what q2 v2) h.right b.next meets.1;
      alike = alike_more h.pairs pair meets.2 h.alike;
      count = count ∙ ap (λ n. n + 1) h.count ∙ sym (length-append h.pairs (pair ∷ []));
      skew = skew ∙ ap (λ n. max n (apart pair)) h.skew ∙ sym (skew_more h.pairs pair);
      last_ones =
          l ∙ ap (λ (b : Buffer Pair). buffer (keep_last b.capacity (b.items ++ pair ∷ [])) b.capacity) h.last_ones
          ∙ ap (λ (xs : List Pair). buffer xs 5) (keep_one h.pairs pair);
      fits =
          let left : IfSome (Some pair.left) FitsShown = subst (λ (o : Option Observation). IfSome o FitsShown) meets.0 fx in
          let right : IfSome (Some pair.right) FitsShown = subst (λ (o : Option Observation). IfSome o FitsShown) meets.1 fy in
          All-append FitsPair h.pairs (pair ∷ []) h.fits (All-cons FitsPair pair [] (left, right) (All-nil FitsPair));
    }

fewer : (x : Option Observation) (one : Observation) (now rest : List Observation) → now ≡ cons_option x rest → x ≡ Some one → length rest < length now
fewer x one now rest n e =
    let count : length now ≡ suc (length rest) = ap length (n ∙ ap (λ (o : Option Observation). cons_option o rest) e) in omega (arith, count)

-- one more observation
pub fewer_left : (what : DiffBy) (p q : Face) (s t : State) (x : Option Observation) (one : Observation) → HasShown what p s x q t → x ≡ Some one →
    length (shown_left what q t) < length (shown_left what p s)
fewer_left what p q s t x one h e = fewer x one (shown_left what p s) (shown_left what q t) h.next e

first_of : (x : Option Observation) (rest : List Observation) → (x ≡ None → rest ≡ []) → slice_get (cons_option x rest) 0 ≡ x
first_of (Some one) rest h = refl
first_of None rest h = ap (λ (xs : List Observation). slice_get xs 0) (h refl)

get_after : (f : Pair → Observation) (all : List Observation) (pairs : List Pair) (x : Option Observation) (now rest : List Observation) → all ≡ map f pairs ++ now → now ≡ cons_option x rest →
    (x ≡ None → rest ≡ []) → slice_get all (length pairs) ≡ x
get_after f all pairs x now rest e n h =
    ap (λ (xs : List Observation). slice_get xs (length pairs)) (e ∙ ap (λ (ys : List Observation). map f pairs ++ ys) n)
    ∙ slice_get-append_right (map f pairs) (cons_option x rest) (length pairs) 0 (omega (arith, length-map pairs f)) ∙ first_of x rest h

-- they diverge here
pub matched_apart : (what : DiffBy) (s t : State) (c : CommonPrefix) (last : Buffer Pair) (p p2 : Face) (u u2 : State) (q q2 : Face) (v v2 : State)
    (x y : Option Observation) (number : ℕ) → HasShown what p u x p2 u2 → HasShown what q v y q2 v2 → IfSome x FitsShown → IfSome y FitsShown →
    seen x ≢ seen y → number ≡ c.count + 1 → HasMatched what s t c last p u q v →
    GoTogether what s t c last (Some (record { number = number; left = x; right = y }))
matched_apart what s t c last p p2 u u2 q q2 v v2 x y number a b fx fy differ n h =
    record {
      pairs = h.pairs;
      left_rest = shown_left what p u;
      left = h.left;
      right_rest = shown_left what q v;
      right = h.right;
      alike = h.alike;
      count = h.count;
      skew = h.skew;
      last_ones = h.last_ones;
      fits = h.fits;
      part = (
        n ∙ ap (λ n. n + 1) h.count,
        get_after (λ (pair : Pair). pair.left) (shown_by what s) h.pairs x (shown_left what p u) (shown_left what p2 u2) h.left a.next a.none,
        get_after (λ (pair : Pair). pair.right) (shown_by what t) h.pairs y (shown_left what q v) (shown_left what q2 v2) h.right b.next b.none,
        differ,
      );
      part_fits = (fx, fy);
    }

all_of : (f : Pair → Observation) (all : List Observation) (pairs : List Pair) (x : Option Observation) (now rest : List Observation) → all ≡ map f pairs ++ now → now ≡ cons_option x rest →
    x ≡ None → (x ≡ None → rest ≡ []) → length pairs ≡ length all
all_of f all pairs x now rest e n none h =
    let nothing : now ≡ [] = n ∙ ap (λ (o : Option Observation). cons_option o rest) none ∙ h none in
    sym (ap length (e ∙ ap (λ (ys : List Observation). map f pairs ++ ys) nothing ∙ append-nil (map f pairs)) ∙ length-map pairs f)

-- both have shown everything
pub matched_all : (what : DiffBy) (s t : State) (c : CommonPrefix) (last : Buffer Pair) (p p2 : Face) (u u2 : State) (q q2 : Face) (v v2 : State)
    (x y : Option Observation) → HasShown what p u x p2 u2 → HasShown what q v y q2 v2 → (x ≡ None) × (y ≡ None) → HasMatched what s t c last p u q v →
    GoTogether what s t c last None
matched_all what s t c last p p2 u u2 q q2 v v2 x y a b over h =
    record {
      pairs = h.pairs;
      left_rest = shown_left what p u;
      left = h.left;
      right_rest = shown_left what q v;
      right = h.right;
      alike = h.alike;
      count = h.count;
      skew = h.skew;
      last_ones = h.last_ones;
      fits = h.fits;
      part = (
        all_of (λ (pair : Pair). pair.left) (shown_by what s) h.pairs x (shown_left what p u) (shown_left what p2 u2) h.left a.next over.0 a.none,
        all_of (λ (pair : Pair). pair.right) (shown_by what t) h.pairs y (shown_left what q v) (shown_left what q2 v2) h.right b.next over.1 b.none,
      );
      part_fits = tt;
    }
