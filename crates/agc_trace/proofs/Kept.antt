-- The last selected entries, kept boundary by boundary.
use Rattle.std.proofs.Common.{◌≡◌, ℕ, ◌-◌, ◌≤◌, List, [], ◌∷◌, ◌++◌, length, drop, None, true, false, refl, ap, sym, ◌∙◌, subst, arith, append_assoc, append-nil, length-drop, length-append}
use Rattle.std.proofs.lemmas.List.{drop-append-le, drop-drop, drop_all}
use Rattle.agc_machine.specs.Boundary.{boundary}
use Rattle.agc_machine.specs.State.{State}
use Rattle.agc_trace.specs.Selection.{last_of, selected}
use Rattle.agc_trace.specs.Trace.{is_stop}
use Rattle.agc_trace.specs.Watch.{Watched, watch_of, watched_of}
use Rattle.agc_trace.specs.declared.selection.Selection.{Selection}
use Rattle.agc_trace.proofs.Lines.{entries_after, entries_of_stop}

-- the last of these entries are kept, and with those that are left they make the whole
pub record IsKept (most : ℕ) (items left whole : List Watched) : Type 0 where
  pub seen : List Watched
  pub last : items ≡ last_of most seen
  pub rest : seen ++ left ≡ whole

last_of-more : (most : ℕ) (seen more : List Watched) → last_of most (last_of most seen ++ more) ≡ last_of most (seen ++ more)
last_of-more most seen more =
    let first = length seen - most in
    let all = seen ++ more in
    ap (λ (xs : List Watched). drop (length xs - most) xs) (sym (drop-append-le first seen more (omega arith)))
    ∙ drop-drop (length (drop first all) - most) first all
    ∙ ap (λ (n : ℕ). drop n all) (omega (arith, length-drop first all, length-append seen more))

few_last : (most : ℕ) (seen : List Watched) → length (last_of most seen) ≤ most
few_last most seen = omega (arith, length-drop (length seen - most) seen)

pub few_kept : (most : ℕ) (items left whole : List Watched) → IsKept most items left whole → length items ≤ most
few_kept most items left whole h = rw h.last (few_last most h.seen)

pub nothing_kept : (most : ℕ) (items whole : List Watched) → items ≡ [] → IsKept most items whole whole
nothing_kept most items whole e = record { seen = []; last = e ∙ sym (drop_all (0 - most) [] (omega arith)); rest = refl }

kept_more : (most : ℕ) (items new more left whole : List Watched) → IsKept most items (more ++ left) whole → new ≡ last_of most (items ++ more) →
    IsKept most new left whole
kept_more most items new more left whole h e =
    record {
      seen = h.seen ++ more;
      last = e ∙ ap (λ (xs : List Watched). last_of most (xs ++ more)) h.last ∙ last_of-more most h.seen more;
      rest = append_assoc h.seen more left ∙ h.rest;
    }

-- nothing is left
pub kept_whole : (most : ℕ) (items left whole : List Watched) → left ≡ [] → IsKept most items left whole → items ≡ last_of most whole
kept_whole most items left whole e h =
    h.last ∙ ap (λ (xs : List Watched). last_of most xs) (sym (append-nil h.seen) ∙ ap (λ (xs : List Watched). h.seen ++ xs) (sym e) ∙ h.rest)

-- one more entry is taken, and what is left belongs to the next boundary's watch
pub entry_kept : (w : Selection) (cells : List ℕ) (most : ℕ) (items new : List Watched) (s t : State) (entry : Watched) (whole : List Watched) →
    entry ≡ watched_of cells s → t ≡ (boundary None s).0 → is_stop entry.entry.happening ≡ false →
    IsKept most items (selected w (watch_of cells s)) whole → new ≡ last_of most (items ++ selected w (entry ∷ [])) →
    IsKept most new (selected w (watch_of cells t)) whole
entry_kept w cells most items new s t entry whole e f stop h k =
    kept_more most items new (selected w (entry ∷ [])) (selected w (watch_of cells t)) whole
    (subst (λ (xs : List Watched). IsKept most items xs whole) (entries_after w cells s t entry e f stop) h) k

-- the last entry is taken
pub all_kept : (w : Selection) (cells : List ℕ) (most : ℕ) (items new : List Watched) (s : State) (entry : Watched) (whole : List Watched) →
    entry ≡ watched_of cells s → is_stop entry.entry.happening ≡ true →
    IsKept most items (selected w (watch_of cells s)) whole → new ≡ last_of most (items ++ selected w (entry ∷ [])) →
    new ≡ last_of most whole
all_kept w cells most items new s entry whole e stop h k =
    kept_whole most new [] whole refl
    (kept_more most items new (selected w (entry ∷ [])) [] whole
    (subst (λ (xs : List Watched). IsKept most items xs whole) (entries_of_stop w cells s entry e stop ∙ sym (append-nil (selected w (entry ∷ [])))) h) k)

-- an entry that is not selected changes nothing
pub none_more : {T : Type 0} (most : ℕ) (items : List T) → length items ≤ most → items ≡ last_of most (items ++ [])
none_more most items few =
    let none : length items - most ≡ 0 = omega arith in
    rw (append-nil items) (rw none refl)

-- if nothing comes first, nothing is left
pub nothing_left : (xs ys : List Watched) → xs ≡ ys → ys ≡ drop 1 xs → xs ≡ []
nothing_left [] ys e f = refl
nothing_left (x ∷ xs) ys e f =
    let longer : length ys ≡ length (drop 1 (x ∷ xs)) = ap (λ (zs : List Watched). length zs) f in
    absurd (omega (arith, longer, ap (λ (zs : List Watched). length zs) e, length-drop 1 (x ∷ xs)))
