-- The lines of a watch boundary by boundary, and what is written so far.
use Rattle.std.proofs.Common.{◌≡◌, ℕ, List, [], ◌∷◌, ◌++◌, Option, Some, None, Bool, true, false, refl, ap, sym, ◌∙◌, subst, append_assoc, append-nil}
use Rattle.std.specs.Prelude.{if◌then◌else◌, filter}
use Rattle.std.proofs.lemmas.Grind.{flat_map-append}
use Rattle.std.specs.Io.KnownBytes.{Appends}
use Rattle.agc_io.specs.Output.{IsBegun}
use Rattle.agc_io.proofs.Begun.{begun_as, first_begun, more_begun}
use Rattle.agc_machine.specs.Boundary.{boundary, upcoming_of}
use Rattle.agc_machine.specs.State.{State}
use Rattle.agc_trace.specs.OperandLine.{watched_line}
use Rattle.agc_trace.specs.Selection.{is_selected, kept, last_of, lines_of, selected, selected_lines}
use Rattle.agc_trace.specs.Trace.{is_stop}
use Rattle.agc_trace.specs.Watch.{Watched, watch_of, watched_of}
use Rattle.agc_trace.specs.declared.change.Change.{Change}
use Rattle.agc_trace.specs.declared.entry.Entry.{Entry}
use Rattle.agc_trace.specs.declared.line_form.LineForm.{LineForm}
use Rattle.agc_trace.specs.declared.operand.Operand.{Operand}
use Rattle.agc_trace.specs.declared.selection.Selection.{Selection}
use Rattle.agc_trace.proofs.Watches.{watch_by_entry, watch_ends, watch_goes_on, watched_by}

either_entry : (b : Bool) (entry : Watched) (rest : List Watched) → (if b then entry ∷ rest else rest) ≡ (if b then entry ∷ [] else []) ++ rest
either_entry true entry rest = refl
either_entry false entry rest = refl

no_entry_by : (b : Bool) (entry : Watched) (rest : List Watched) → b ≡ false → (if b then entry ∷ rest else rest) ≡ rest
no_entry_by true entry rest e = cc
no_entry_by false entry rest e = refl

-- the lines of two lists, one after the other
pub lines_of-append : (form : LineForm) (xs ys : List Watched) → lines_of form (xs ++ ys) ≡ lines_of form xs ++ lines_of form ys
unfolding lines_of
lines_of-append form xs ys = flat_map-append (watched_line form) xs ys

pub lines_of-none : (form : LineForm) → lines_of form [] ≡ []
unfolding lines_of
lines_of-none form = refl

pub lines_of-cons : (form : LineForm) (entry : Watched) (entries : List Watched) → lines_of form (entry ∷ entries) ≡ watched_line form entry ++ lines_of form entries
unfolding lines_of
lines_of-cons form entry entries = refl

module _ (w : Selection) where
  split_entry : (entry : Watched) (entries : List Watched) → selected w (entry ∷ entries) ≡ selected w (entry ∷ []) ++ selected w entries
  unfolding selected
  split_entry entry entries = either_entry (is_selected w entry) entry (filter (is_selected w) entries)

  pub no_entry : (entry : Watched) (entries : List Watched) → is_selected w entry ≡ false → selected w (entry ∷ entries) ≡ selected w entries
  unfolding selected
  no_entry entry entries e = no_entry_by (is_selected w entry) entry (filter (is_selected w) entries) e

  -- without a number of last lines, every selected entry has its line
  pub all_lines : (form : LineForm) (xs ys : List Watched) → w.last ≡ None → selected w xs ≡ selected w ys → lines_of form (selected w xs) ≡ selected_lines form w ys
  unfolding selected_lines
  all_lines form xs ys e f =
      ap (λ (zs : List Watched). lines_of form zs) (f ∙ ap (λ (o : Option ℕ). kept o (selected w ys)) (sym e))

  pub last_lines : (form : LineForm) (most : ℕ) (xs ys : List Watched) → w.last ≡ Some most → selected w xs ≡ selected w ys →
      lines_of form (last_of most (selected w xs)) ≡ selected_lines form w ys
  unfolding selected_lines
  last_lines form most xs ys e f =
      ap (λ (zs : List Watched). lines_of form zs) (ap (λ (zs : List Watched). last_of most zs) f ∙ ap (λ (o : Option ℕ). kept o (selected w ys)) (sym e))

  module _ (cells : List ℕ) where
    -- the selected entries of a watch begin with that of its first boundary
    pub entries_by_entry : (s : State) → is_stop (upcoming_of s) ≡ false →
        selected w (watch_of cells s) ≡ selected w (watched_of cells s ∷ []) ++ selected w (watch_of cells (boundary None s).0)
    entries_by_entry s f =
        ap (λ (xs : List Watched). selected w xs) (watch_by_entry cells s)
        ∙ ap (λ (xs : List Watched). selected w (watched_of cells s ∷ xs)) (watch_goes_on (is_stop (upcoming_of s)) (watch_of cells (boundary None s).0) f)
        ∙ split_entry (watched_of cells s) (watch_of cells (boundary None s).0)

    pub entries_at_stop : (s : State) → is_stop (upcoming_of s) ≡ true → selected w (watch_of cells s) ≡ selected w (watched_of cells s ∷ [])
    entries_at_stop s f =
        ap (λ (xs : List Watched). selected w xs) (watch_by_entry cells s)
        ∙ ap (λ (xs : List Watched). selected w (watched_of cells s ∷ xs)) (watch_ends (is_stop (upcoming_of s)) (watch_of cells (boundary None s).0) f)

    -- the same for a boundary whose entry was returned
    pub entries_after : (s t : State) (entry : Watched) → entry ≡ watched_of cells s → t ≡ (boundary None s).0 → is_stop entry.entry.happening ≡ false →
        selected w (watch_of cells s) ≡ selected w (entry ∷ []) ++ selected w (watch_of cells t)
    entries_after s t entry e f stop =
        entries_by_entry s (watched_by cells false s entry e stop)
        ∙ ap (λ (x : Watched). selected w (x ∷ []) ++ selected w (watch_of cells (boundary None s).0)) (sym e)
        ∙ ap (λ (u : State). selected w (entry ∷ []) ++ selected w (watch_of cells u)) (sym f)

    pub entries_of_stop : (s : State) (entry : Watched) → entry ≡ watched_of cells s → is_stop entry.entry.happening ≡ true →
        selected w (watch_of cells s) ≡ selected w (entry ∷ [])
    entries_of_stop s entry e stop = entries_at_stop s (watched_by cells true s entry e stop) ∙ ap (λ (x : Watched). selected w (x ∷ [])) (sym e)

-- what a writer received since a start, and what is left of the whole
abbrev pub IsWritten : Option (List ℕ) → Option (List ℕ) → List ℕ → List ℕ → Type 0
IsWritten start now left whole = (written : List ℕ) × Appends start now written × (written ++ left ≡ whole)

pub appends_nothing : (known : Option (List ℕ)) → Appends known known []
appends_nothing None = tt
appends_nothing (Some xs) = sym (append-nil xs)

appends_more : (a b c : Option (List ℕ)) (xs ys : List ℕ) → Appends a b xs → Appends b c ys → Appends a c (xs ++ ys)
appends_more None b c xs ys h k = tt
appends_more (Some x) None c xs ys h k = absurd h
appends_more (Some x) (Some y) None xs ys h k = absurd k
appends_more (Some x) (Some y) (Some z) xs ys h k = rw (k, h) (append_assoc x xs ys)

pub nothing_written : (known : Option (List ℕ)) (whole : List ℕ) → IsWritten known known whole whole
nothing_written known whole = ([], appends_nothing known, refl)

-- nothing is left
pub written_whole : (start now : Option (List ℕ)) (left whole : List ℕ) → left ≡ [] → IsWritten start now left whole → Appends start now whole
written_whole start now left whole e h =
    subst (λ (xs : List ℕ). Appends start now xs) (sym (append-nil h.0) ∙ ap (λ (xs : List ℕ). h.0 ++ xs) (sym e) ∙ h.2) h.1

-- one more line is written
pub written_more : (start now new : Option (List ℕ)) (line left whole : List ℕ) → IsWritten start now (line ++ left) whole → Appends now new line →
    IsWritten start new left whole
written_more start now new line left whole h k =
    (h.0 ++ line, appends_more start now new h.0 line h.1 k, append_assoc h.0 line left ∙ h.2)

-- what is written so far, and perhaps a beginning of the next line, is a beginning of the whole
pub begun_so_far : (start now : Option (List ℕ)) (left whole : List ℕ) → IsWritten start now left whole → IsBegun start now whole
begun_so_far start now left whole h = record { written = h.0; left = left; appends = h.1; whole = h.2 }

pub begun_next : (start now new : Option (List ℕ)) (line left whole : List ℕ) → IsWritten start now (line ++ left) whole → IsBegun now new line → IsBegun start new whole
begun_next start now new line left whole h k =
    more_begun start now new h.0 (line ++ left) whole h.2 h.1 (first_begun now new line left (line ++ left) refl k)

-- a line depends only on its entry and changes, however they were obtained
pub line_as : (form : LineForm) (now new : Option (List ℕ)) (x : Watched) (entry : Entry) (used : Operand) (changes items : List Change) → changes ≡ items →
    record { entry = entry; operand = used; changes = items } ≡ x → Appends now new (watched_line form (record { entry = entry; operand = used; changes = changes })) → Appends now new (watched_line form x)
line_as form now new x entry used changes items e f h =
    subst (λ (y : Watched). Appends now new (watched_line form y)) (ap (λ (cs : List Change). record { entry = entry; operand = used; changes = cs }) e ∙ f) h

pub begun_line_as : (form : LineForm) (now new : Option (List ℕ)) (x : Watched) (entry : Entry) (used : Operand) (changes items : List Change) → changes ≡ items →
    record { entry = entry; operand = used; changes = items } ≡ x → IsBegun now new (watched_line form (record { entry = entry; operand = used; changes = changes })) → IsBegun now new (watched_line form x)
begun_line_as form now new x entry used changes items e f h =
    begun_as now new _ (watched_line form x) (ap (watched_line form) (ap (λ (cs : List Change). record { entry = entry; operand = used; changes = cs }) e ∙ f)) h

module _ (form : LineForm) (w : Selection) (cells : List ℕ) where
  -- a beginning of the next line is written
  pub line_begun : (start now new : Option (List ℕ)) (s : State) (entry : Watched) (whole : List ℕ) → entry ≡ watched_of cells s →
      IsWritten start now (lines_of form (selected w (watch_of cells s))) whole → IsBegun now new (lines_of form (selected w (entry ∷ []))) →
      IsBegun start new whole
  line_begun start now new s entry whole e h k =
      let rest : List Watched = if is_stop (upcoming_of s) then [] else watch_of cells (boundary None s).0 in
      let split : lines_of form (selected w (watch_of cells s)) ≡ lines_of form (selected w (entry ∷ [])) ++ lines_of form (selected w rest) =
      ap (λ (xs : List Watched). lines_of form (selected w xs)) (watch_by_entry cells s ∙ ap (λ (x : Watched). x ∷ rest) (sym e))
      ∙ ap (λ (xs : List Watched). lines_of form xs) (split_entry w entry rest)
      ∙ lines_of-append form (selected w (entry ∷ [])) (selected w rest) in
      begun_next start now new (lines_of form (selected w (entry ∷ []))) (lines_of form (selected w rest)) whole
      (subst (λ (xs : List ℕ). IsWritten start now xs whole) split h) k

  -- one more line is written, and what is left belongs to the next boundary's watch
  pub line_written : (start now new : Option (List ℕ)) (s t : State) (entry : Watched) (whole : List ℕ) →
      entry ≡ watched_of cells s → t ≡ (boundary None s).0 → is_stop entry.entry.happening ≡ false →
      IsWritten start now (lines_of form (selected w (watch_of cells s))) whole → Appends now new (lines_of form (selected w (entry ∷ []))) →
      IsWritten start new (lines_of form (selected w (watch_of cells t))) whole
  line_written start now new s t entry whole e f stop h k =
      let next = ap (λ (xs : List Watched). lines_of form xs) (entries_after w cells s t entry e f stop) ∙ lines_of-append form (selected w (entry ∷ [])) (selected w (watch_of cells t)) in
      written_more start now new (lines_of form (selected w (entry ∷ []))) (lines_of form (selected w (watch_of cells t))) whole
      (subst (λ (xs : List ℕ). IsWritten start now xs whole) next h) k

  -- the last line is written
  pub all_written : (start now new : Option (List ℕ)) (s : State) (entry : Watched) (whole : List ℕ) →
      entry ≡ watched_of cells s → is_stop entry.entry.happening ≡ true →
      IsWritten start now (lines_of form (selected w (watch_of cells s))) whole → Appends now new (lines_of form (selected w (entry ∷ []))) →
      Appends start new whole
  all_written start now new s entry whole e stop h k =
      let line = lines_of form (selected w (entry ∷ [])) in
      let last : lines_of form (selected w (watch_of cells s)) ≡ line = ap (λ (xs : List Watched). lines_of form xs) (entries_of_stop w cells s entry e stop) in
      subst (λ (xs : List ℕ). Appends start new xs) (ap (λ (xs : List ℕ). h.0 ++ xs) (sym last) ∙ h.2) (appends_more start now new h.0 line h.1 k)
