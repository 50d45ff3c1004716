-- What is printed of sights one by one, and what is written.
use Rattle.std.proofs.Common.{◌≡◌, ℕ, ◌<◌, List, [], ◌∷◌, ◌++◌, Option, None, Bool, true, false, refl, ap, sym, ◌∙◌, subst, append_assoc, append-nil}
use Rattle.std.specs.Prelude.{if◌then◌else◌, flat_map, is_some, OnOk, Result, Ok, Err}
use Rattle.std.specs.Io.KnownBytes.{Appends}
use Rattle.std.specs.Str.{bytes_eq}
use Rattle.std.proofs.lemmas.Slice.Eq.{bytes_eq-Decides}
use Rattle.agc_machine.specs.Boundary.{boundary}
use Rattle.agc_machine.specs.State.{State}
use Rattle.agc_panel.specs.declared.watch_spec.WatchSpec.{WatchSpec}
use Rattle.agc_symbols.specs.Symbols.{Symbol}
use Rattle.agc_io.specs.Output.{IsBegun}
use Rattle.agc_io.proofs.Begun.{begun_as}
use Rattle.agc_trace.proofs.Lines.{IsWritten, appends_nothing, begun_next, nothing_written, written_more, written_whole}
use Rattle.agc_timeline.specs.Changes.{Sight, changes, changes_in, is_in, shown_after, sight_of, sights_in}
use Rattle.agc_timeline.specs.Lines.{change_text, changed_lines, changes_text, jobs_text, line_at, lines_at, lines_in, reported_of}
use Rattle.agc_timeline.specs.States.{states_of}
use Rattle.agc_trace.specs.declared.span.Span.{Span}
use Rattle.agc_timeline.proofs.Sights.{none_past, seen, sights_by_first, sights_end, sights_go_on, unseen}
use Rattle.agc_timeline.proofs.States.{states_by_first}

-- a property on Ok implies a weaker one
pub on_ok : {X Y A B : Type 0} (r : Result X Y) → (A → B) → OnOk r A → OnOk r B
on_ok (Ok x) f h = f h
on_ok (Err y) f h = tt

kept_by : (b : Bool) (line : List ℕ) (lines : List (List ℕ)) → b ≡ true → (if b then lines else line ∷ lines) ≡ lines
kept_by true line lines e = refl
kept_by false line lines e = cc

-- nothing is printed of unchanged lines
same_lines : (lines : List (List ℕ)) → changed_lines lines lines ≡ []
unfolding changed_lines
same_lines [] = refl
same_lines (line ∷ lines) =
    kept_by (bytes_eq line line) line (changed_lines lines lines) ((bytes_eq-Decides line line).1 refl) ∙ same_lines lines

module _ (span : Span) (spec : WatchSpec) where
  pub shown_inside : (shown new : List ℕ) (s : State) → is_in span s ≡ true → new ≡ (sight_of spec s).text →
      new ≡ shown_after shown (sights_in span spec (s ∷ []))
  shown_inside shown new s e h = h ∙ sym (ap (λ (xs : List Sight). shown_after shown xs) (seen span spec s e))

  pub shown_outside : (shown : List ℕ) (s : State) → is_in span s ≡ false → shown ≡ shown_after shown (sights_in span spec (s ∷ []))
  shown_outside shown s e = sym (ap (λ (xs : List Sight). shown_after shown xs) (unseen span spec s e))

module _ (names : Option (List Symbol)) where
  pub no_change : (shown : List ℕ) (sight : Sight) → shown ≡ sight.text → change_text names shown sight ≡ []
  unfolding change_text
  no_change shown sight e =
      ap (λ (text : List ℕ). lines_at names sight.cycle (lines_in text) (lines_in sight.text)) e
      ∙ ap (λ (lines : List (List ℕ)). flat_map (line_at names sight.cycle) lines) (same_lines (lines_in sight.text))

  by_test : (b : Bool) (shown : List ℕ) (sight : Sight) (sights : List Sight) → bytes_eq shown sight.text ≡ b →
      changes_text names shown (if b then changes shown sights else sight ∷ changes sight.text sights) ≡ change_text names shown sight ++ reported_of names sight.text sights
  unfolding changes_text
  by_test true shown sight sights e =
      let same : shown ≡ sight.text = (bytes_eq-Decides shown sight.text).0 e in
      ap (λ (text : List ℕ). reported_of names text sights) same
      ∙ ap (λ (text : List ℕ). text ++ reported_of names sight.text sights) (sym (no_change shown sight same))
  by_test false shown sight sights e = refl

  -- the text of sights is that of the first one, then that of the others after it
  pub reported_by_first : (shown : List ℕ) (sight : Sight) (sights : List Sight) → reported_of names shown (sight ∷ sights) ≡ change_text names shown sight ++ reported_of names sight.text sights
  unfolding changes
  reported_by_first shown sight sights = by_test (bytes_eq shown sight.text) shown sight sights refl

  pub reported_none : (shown : List ℕ) → reported_of names shown [] ≡ []
  unfolding changes changes_text
  reported_none shown = refl

  -- the same for sights, one list after another
  pub reported_append : (shown : List ℕ) (xs ys : List Sight) → reported_of names shown (xs ++ ys) ≡ reported_of names shown xs ++ reported_of names (shown_after shown xs) ys
  reported_append shown [] ys = ap (λ (text : List ℕ). text ++ reported_of names shown ys) (sym (reported_none shown))
  reported_append shown (x ∷ xs) ys =
      reported_by_first shown x (xs ++ ys)
      ∙ ap (λ (text : List ℕ). change_text names shown x ++ text) (reported_append x.text xs ys)
      ∙ sym (append_assoc (change_text names shown x) (reported_of names x.text xs) (reported_of names (shown_after x.text xs) ys))
      ∙ ap (λ (text : List ℕ). text ++ reported_of names (shown_after x.text xs) ys) (sym (reported_by_first shown x xs))

  -- the same for one sight
  pub reported_one : (shown : List ℕ) (sight : Sight) → reported_of names shown (sight ∷ []) ≡ change_text names shown sight
  reported_one shown sight =
      reported_by_first shown sight [] ∙ ap (λ (text : List ℕ). change_text names shown sight ++ text) (reported_none sight.text) ∙ append-nil (change_text names shown sight)

  -- nothing has to be written if there is no change
  pub nothing_new : (known : Option (List ℕ)) (shown : List ℕ) (sight : Sight) → shown ≡ sight.text → Appends known known (change_text names shown sight)
  nothing_new known shown sight e = subst (λ (text : List ℕ). Appends known known text) (sym (no_change shown sight e)) (appends_nothing known)

  module _ (span : Span) (spec : WatchSpec) where
    -- what is printed of a state in the span, and of one that is not
    pub reported_inside : (known new : Option (List ℕ)) (shown : List ℕ) (s : State) → is_in span s ≡ true → Appends known new (change_text names shown (sight_of spec s)) →
        Appends known new (reported_of names shown (sights_in span spec (s ∷ [])))
    reported_inside known new shown s e h =
        subst (λ (text : List ℕ). Appends known new text)
        (sym (ap (λ (xs : List Sight). reported_of names shown xs) (seen span spec s e) ∙ reported_one shown (sight_of spec s))) h

    pub begun_inside : (known new : Option (List ℕ)) (shown : List ℕ) (s : State) → is_in span s ≡ true → IsBegun known new (change_text names shown (sight_of spec s)) →
        IsBegun known new (reported_of names shown (sights_in span spec (s ∷ [])))
    begun_inside known new shown s e h =
        begun_as known new (change_text names shown (sight_of spec s)) (reported_of names shown (sights_in span spec (s ∷ [])))
        (sym (ap (λ (xs : List Sight). reported_of names shown xs) (seen span spec s e) ∙ reported_one shown (sight_of spec s))) h

    pub reported_outside : (known : Option (List ℕ)) (shown : List ℕ) (s : State) → is_in span s ≡ false →
        Appends known known (reported_of names shown (sights_in span spec (s ∷ [])))
    reported_outside known shown s e =
        subst (λ (text : List ℕ). Appends known known text)
        (sym (ap (λ (xs : List Sight). reported_of names shown xs) (unseen span spec s e) ∙ reported_none shown)) (appends_nothing known)

    -- what is left to print of the run from a state, after what is shown
    abbrev pub left_of : List ℕ → State → List ℕ
    left_of shown s = reported_of names shown (sights_in span spec (states_of s))

    pub all_left : (s : State) → jobs_text names span spec s ≡ left_of [] s
    unfolding jobs_text changes_in
    all_left s = refl

    -- before the first state everything is left
    pub nothing_reported : (known : Option (List ℕ)) (shown : List ℕ) (s : State) → shown ≡ [] → IsWritten known known (left_of shown s) (jobs_text names span spec s)
    nothing_reported known shown s e =
        subst (λ (text : List ℕ). IsWritten known known text (jobs_text names span spec s))
        (all_left s ∙ ap (λ (text : List ℕ). left_of text s) (sym e)) (nothing_written known (jobs_text names span spec s))

    -- a state is printed, and those after it are left
    pub state_reported : (start now new : Option (List ℕ)) (shown next : List ℕ) (s t : State) (whole : List ℕ) → is_some s.stopped ≡ false →
        t ≡ (boundary None s).0 → IsWritten start now (left_of shown s) whole →
        Appends now new (reported_of names shown (sights_in span spec (s ∷ []))) → next ≡ shown_after shown (sights_in span spec (s ∷ [])) →
        IsWritten start new (left_of next t) whole
    state_reported start now new shown next s t whole goes is h k e =
        let one = sights_in span spec (s ∷ []) in
        let split : left_of shown s ≡ reported_of names shown one ++ left_of next t =
        ap (λ (xs : List Sight). reported_of names shown xs) (sights_go_on span spec s goes)
        ∙ reported_append shown one (sights_in span spec (states_of (boundary None s).0))
        ∙ ap (λ (text : List ℕ). reported_of names shown one ++ left_of text (boundary None s).0) (sym e)
        ∙ ap (λ (u : State). reported_of names shown one ++ left_of next u) (sym is) in
        written_more start now new (reported_of names shown one) (left_of next t) whole
        (subst (λ (text : List ℕ). IsWritten start now text whole) split h) k

    -- a beginning of what is printed of a state
    pub state_begun : (start now new : Option (List ℕ)) (shown : List ℕ) (s : State) (whole : List ℕ) → IsWritten start now (left_of shown s) whole →
        IsBegun now new (reported_of names shown (sights_in span spec (s ∷ []))) → IsBegun start new whole
    state_begun start now new shown s whole h k =
        let later : List State = if is_some s.stopped then [] else states_of (boundary None s).0 in
        let one = sights_in span spec (s ∷ []) in
        let rest = reported_of names (shown_after shown one) (sights_in span spec later) in
        let split : left_of shown s ≡ reported_of names shown one ++ rest =
        ap (λ (ss : List State). reported_of names shown (sights_in span spec ss)) (states_by_first s)
        ∙ ap (λ (xs : List Sight). reported_of names shown xs) (sights_by_first span spec s later)
        ∙ reported_append shown one (sights_in span spec later) in
        begun_next start now new (reported_of names shown one) rest whole (subst (λ (text : List ℕ). IsWritten start now text whole) split h) k

    -- the last state is printed
    pub last_reported : (start now new : Option (List ℕ)) (shown : List ℕ) (s : State) (whole : List ℕ) → is_some s.stopped ≡ true →
        IsWritten start now (left_of shown s) whole → Appends now new (reported_of names shown (sights_in span spec (s ∷ []))) → Appends start new whole
    last_reported start now new shown s whole stops h k =
        let one = reported_of names shown (sights_in span spec (s ∷ [])) in
        let last : left_of shown s ≡ one ++ [] = ap (λ (xs : List Sight). reported_of names shown xs) (sights_end span spec s stops) ∙ sym (append-nil one) in
        written_whole start new [] whole refl
        (written_more start now new one [] whole (subst (λ (text : List ℕ). IsWritten start now text whole) last h) k)

    -- past the span everything is printed
    pub past_reported : (start now : Option (List ℕ)) (shown : List ℕ) (s : State) (whole : List ℕ) → span.to < s.cycle →
        IsWritten start now (left_of shown s) whole → Appends start now whole
    past_reported start now shown s whole l h =
        written_whole start now (left_of shown s) whole (ap (λ (xs : List Sight). reported_of names shown xs) (none_past span spec s l) ∙ reported_none shown) h

    -- the text of a run from a later state that shows the same
    pub same_text : (s t : State) → sights_in span spec (states_of t) ≡ sights_in span spec (states_of s) → jobs_text names span spec t ≡ jobs_text names span spec s
    same_text s t e = all_left t ∙ ap (λ (xs : List Sight). reported_of names [] xs) e ∙ sym (all_left s)
