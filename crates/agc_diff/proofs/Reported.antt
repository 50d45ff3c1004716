-- The contents of a comparison of two runs, from the pairs that they show.
use Rattle.std.proofs.Common.{◌≡◌, ℕ, suc, zero, List, [], ◌∷◌, ◌++◌, length, map, take, Option, Some, None, refl, ap, sym, ◌∙◌, subst}
use Rattle.std.specs.Prelude.{◌-◌, ◌↔◌, All, IsTrue, slice_get}
use Rattle.std.proofs.Math.Seq.{take-append_seam}
use Rattle.std.proofs.lemmas.List.{length-map}
use Rattle.std.proofs.lemmas.List.Elements.{All-drop}
use Rattle.circular_buffer.specs.Buffer.{Buffer, buffer, keep_last}
use Rattle.agc_machine.specs.State.{State}
use Rattle.agc_diff.specs.ObservedPrefix.{FitsPair, GoTogether, ShownPart, skew_of, kept, lefts, pairs_of, rights, seen}
use Rattle.agc_diff.specs.ObservedCompared.{SummarizesPairs, is_nowhere, common_pairs}
use Rattle.agc_diff.specs.Observation.{Look, looks_of, shown_by}
use Rattle.agc_trace.specs.declared.diff_by.DiffBy.{DiffBy}
use Rattle.agc_diff.specs.declared.observed.common_prefix.CommonPrefix.{CommonPrefix}
use Rattle.agc_diff.specs.declared.observed.comparison.Pair.{Pair}
use Rattle.agc_diff.specs.declared.observed.comparison.ObservedComparison.{ObservedComparison}
use Rattle.agc_diff.specs.declared.observed.comparison.ObservedDivergence.{ObservedDivergence}
use Rattle.agc_diff.specs.declared.observed.observation.Observation.{Observation}

taken : (f : Pair → Observation) (all : List Observation) (pairs : List Pair) (rest : List Observation) (count : ℕ) → all ≡ map f pairs ++ rest → count ≡ length pairs →
    take count all ≡ map f pairs
taken f all pairs rest count e n =
    ap (take count) e ∙ ap (λ k. take k (map f pairs ++ rest)) (n ∙ sym (length-map pairs f)) ∙ take-append_seam (map f pairs) rest

pairs_again : (pairs : List Pair) → pairs_of (lefts pairs) (rights pairs) ≡ pairs
unfolding pairs_of
pairs_again [] = refl
pairs_again (pair ∷ pairs) = ap (λ (rest : List Pair). pair ∷ rest) (pairs_again pairs)

-- the listed pairs are those that both runs have shown
pairs_are : (xs ys : List Observation) (c : ObservedComparison) (pairs : List Pair) → take c.count xs ≡ lefts pairs → take c.count ys ≡ rights pairs →
    common_pairs xs ys c ≡ pairs
pairs_are xs ys c pairs e f =
    ap (λ (zs : List Observation). pairs_of zs (take c.count ys)) e ∙ ap (pairs_of (lefts pairs)) f ∙ pairs_again pairs

pub pairs_report : (what : DiffBy) (s t : State) (common : CommonPrefix) (last : Buffer Pair) (divergence : Option ObservedDivergence) (c : ObservedComparison) →
    GoTogether what s t common last divergence → c.count ≡ common.count → c.skew ≡ common.skew → c.before.items ≡ last.items →
    SummarizesPairs (shown_by what s) (shown_by what t) c
pairs_report what s t common last divergence c h n d b =
    let left = taken (λ (pair : Pair). pair.left) (shown_by what s) h.pairs h.left_rest c.count h.left (n ∙ h.count) in
    let right = taken (λ (pair : Pair). pair.right) (shown_by what t) h.pairs h.right_rest c.count h.right (n ∙ h.count) in
    let pairs = pairs_are (shown_by what s) (shown_by what t) c h.pairs left right in
    record {
      alike = ap looks_of left ∙ h.alike ∙ ap looks_of (sym right);
      before = b ∙ ap (λ (x : Buffer Pair). x.items) h.last_ones ∙ ap (keep_last kept) (sym pairs);
      skew = d ∙ h.skew ∙ ap skew_of (sym pairs);
    }

pub part_reported : (xs ys : List Observation) (count number : ℕ) (divergence : Option ObservedDivergence) → number ≡ count → ShownPart count xs ys divergence → ShownPart number xs ys divergence
part_reported xs ys count number divergence e h = subst (λ (n : ℕ). ShownPart n xs ys divergence) (sym e) h

pub before_fits : (pairs : List Pair) (last : Buffer Pair) (items : List Pair) → items ≡ last.items → last ≡ buffer (keep_last kept pairs) kept → All FitsPair pairs → All FitsPair items
before_fits pairs last items e l fits =
    subst (All FitsPair) (sym (e ∙ ap (λ (x : Buffer Pair). x.items) l)) (All-drop FitsPair (length pairs - kept) pairs fits)

take_all : {A : Type 0} (xs : List A) → take (length xs) xs ≡ xs
take_all [] = refl
take_all (x ∷ xs) = ap (λ ys. x ∷ ys) (take_all xs)

-- what is seen at a place
seen_at : (xs : List Observation) (n : ℕ) → seen (slice_get xs n) ≡ slice_get (looks_of xs) n
seen_at [] n = refl
seen_at (x ∷ xs) zero = refl
seen_at (x ∷ xs) (suc n) = seen_at xs n

all_alike : (count : ℕ) (xs ys : List Observation) → looks_of (take count xs) ≡ looks_of (take count ys) → count ≡ length xs → count ≡ length ys → looks_of xs ≡ looks_of ys
all_alike count xs ys h e f =
    sym (ap looks_of (ap (λ n. take n xs) e ∙ take_all xs)) ∙ h ∙ ap looks_of (ap (λ n. take n ys) f ∙ take_all ys)

law_forth : (count : ℕ) (xs ys : List Observation) (divergence : Option ObservedDivergence) → looks_of (take count xs) ≡ looks_of (take count ys) → ShownPart count xs ys divergence →
    IsTrue (is_nowhere divergence) → looks_of xs ≡ looks_of ys
law_forth count xs ys None alike h reported = all_alike count xs ys alike h.0 h.1
law_forth count xs ys (Some divergence) alike h reported = cc

law_back : (count : ℕ) (xs ys : List Observation) (divergence : Option ObservedDivergence) → ShownPart count xs ys divergence → looks_of xs ≡ looks_of ys →
    IsTrue (is_nowhere divergence)
law_back count xs ys None h same = refl
law_back count xs ys (Some divergence) h same =
    absurd (h.3 (ap seen (sym h.1) ∙ seen_at xs count ∙ ap (λ (looks : List Look). slice_get looks count) same ∙ sym (seen_at ys count) ∙ ap seen h.2))

-- there is no divergence exactly if both runs show the same
pub law_reported : (count : ℕ) (xs ys : List Observation) (divergence : Option ObservedDivergence) → looks_of (take count xs) ≡ looks_of (take count ys) → ShownPart count xs ys divergence →
    IsTrue (is_nowhere divergence) ↔ (looks_of xs ≡ looks_of ys)
law_reported count xs ys divergence alike h = (λ reported. law_forth count xs ys divergence alike h reported, λ same. law_back count xs ys divergence h same)
