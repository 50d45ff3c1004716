-- Boundaries that are passed over have no line, and do not change the watched cells.
use Rattle.std.proofs.Common.{◌≡◌, ℕ, ◌≤◌, ◌<◌, List, [], ◌∷◌, length, Option, None, Bool, true, false, refl, ap, sym, ◌∙◌, subst, arith}
use Rattle.std.specs.Prelude.{◌==◌, ◌&&◌, ◌||◌, not, nat_le, filter, map, string_bytes, if◌then◌else◌}
use Rattle.std.specs.List.{range_with_len}
use Rattle.std.proofs.lemmas.Bool.Decides.{nat_tests}
use Rattle.agc_store.specs.Memory.{erasable_bank}
use Rattle.agc_machine.specs.Boundary.{boundary, upcoming_of}
use Rattle.agc_machine.specs.State.{State}
use Rattle.agc_machine.specs.declared.upcoming.Upcoming.{Upcoming}
use Rattle.agc_machine.specs.declared.upcoming.Upcoming.TheVariants as upcoming
use Rattle.agc_listing.specs.declared.location_range.LocationRange.{LocationRange}
use Rattle.agc_trace.specs.Change.{changes_between, is_named, named_below, named_cells, seen_in}
use Rattle.agc_trace.specs.Entry.{entry_of}
use Rattle.agc_trace.specs.Passing.{is_met_by, is_passed}
use Rattle.agc_trace.specs.Selection.{changes_one, is_answer, is_any_met, is_between, is_called, is_of_kinds, is_selected, runs_at, selected, touches}
use Rattle.agc_trace.specs.Service.{service_at_stop, served}
use Rattle.agc_trace.specs.Touched.{is_away, touched_by}
use Rattle.agc_store.specs.Places.{erasable_cells}
use Rattle.agc_trace.specs.Trace.{entries_left, is_stop, trace_of}
use Rattle.agc_trace.specs.Watch.{Watched, watch_of, watched_of}
use Rattle.agc_trace.specs.declared.change.Change.{Change}
use Rattle.agc_trace.specs.declared.entry.Entry.{Entry}
use Rattle.agc_trace.specs.declared.selection.Selection.{Selection}
use Rattle.agc_trace.specs.declared.service.Service.{Service}
use Rattle.agc_trace.proofs.Away.{none_touched, not_true}
use Rattle.agc_trace.proofs.Changes.{again_in, none_again, none_changed}
use Rattle.agc_trace.proofs.Lines.{no_entry}
use Rattle.agc_trace.proofs.Range.{begins}
use Rattle.agc_trace.proofs.Services.{left_after}
use Rattle.agc_trace.proofs.Steps.{fewer_entries, reports}
use Rattle.agc_trace.proofs.Watches.{watch_by_entry, watch_goes_on, watches}

both : (a b : Bool) → (a && b) ≡ true → (a ≡ true) × (b ≡ true)
both true b e = (refl, e)
both false b e = cc

never : (a b : Bool) → b ≡ false → (a && b) ≡ false
never true b e = e
never false b e = refl

neither : (a b c : Bool) → b ≡ false → c ≡ false → (a && (b || c)) ≡ false
neither a true c e f = cc
neither a false c e f = never a c f

-- a stop may change any cell
away_goes : (several : List LocationRange) (bank : ℕ) (u : Upcoming) → is_away several (touched_by bank u) ≡ true → is_stop u ≡ false
unfolding touched_by
away_goes several bank (upcoming.Order order) e = refl
away_goes several bank (upcoming.Timer t) e = refl
away_goes several bank (upcoming.Stop why) e = cc
away_goes several bank (upcoming.Event what) e = refl
away_goes several bank (upcoming.Interrupt r) e = refl

none_named : (cells : List ℕ) → filter (is_named []) cells ≡ []
none_named [] = refl
none_named (c ∷ cells) = none_named cells

no_cells : named_cells [] ≡ []
unfolding named_cells named_below
no_cells = none_named (range_with_len 0 erasable_cells)

no_length : {T : Type 0} (xs : List T) → (length xs == 0) ≡ true → xs ≡ []
no_length [] e = refl
no_length (x ∷ xs) e = grind (arith, nat_tests)

unmet : (k p o c x : Bool) → not (p && o && c) ≡ true → (k && p && o && c && x) ≡ false
unmet false p o c x e = refl
unmet true false o c x e = refl
unmet true true false c x e = refl
unmet true true true false x e = refl
unmet true true true true x e = cc

unchanged : (k p o c x : Bool) → x ≡ false → (k && p && o && c && x) ≡ false
unchanged false p o c x e = refl
unchanged true false o c x e = refl
unchanged true true false c x e = refl
unchanged true true true false x e = refl
unchanged true true true true x e = e

module _ (w : Selection) where
  -- what is passed over is not a stop
  goes_by : (b : Bool) (bank : ℕ) (u : Upcoming) →
      (if b then (not (is_stop u) && not (is_met_by w u)) else is_away w.cells.items (touched_by bank u)) ≡ true → is_stop u ≡ false
  goes_by true bank u e = not_true (is_stop u) (both (not (is_stop u)) (not (is_met_by w u)) e).0
  goes_by false bank u e = away_goes w.cells.items bank u e

  -- the watched cells keep their words
  seen_by : (b : Bool) (s : State) → (length w.cells.items == 0) ≡ b →
      (if b then (not (is_stop (upcoming_of s)) && not (is_met_by w (upcoming_of s))) else is_away w.cells.items (touched_by (erasable_bank s.processor.store.erasable) (upcoming_of s))) ≡ true →
      map (seen_in (boundary None s).0.processor.store) (named_cells w.cells.items) ≡ map (seen_in s.processor.store) (named_cells w.cells.items)
  seen_by true s l e =
      let none = ap named_cells (no_length w.cells.items l) ∙ no_cells in
      ap (map (seen_in (boundary None s).0.processor.store)) none ∙ sym (ap (map (seen_in s.processor.store)) none)
  seen_by false s l e =
      let cells = named_cells w.cells.items in
      sym (again_in s.processor.store (boundary None s).0.processor.store cells)
      ∙ none_again (boundary None s).0.processor.store (map (seen_in s.processor.store) cells) (none_touched w.cells.items s _ refl e)

  nothing_changed : (s : State) → is_away w.cells.items (touched_by (erasable_bank s.processor.store.erasable) (upcoming_of s)) ≡ true →
      (watched_of (named_cells w.cells.items) s).changes ≡ []
  unfolding watched_of changes_between
  nothing_changed s e =
      none_changed (boundary None s).0.processor.store (map (seen_in s.processor.store) (named_cells w.cells.items)) (none_touched w.cells.items s _ refl e)

  -- it does not meet every condition
  unanswered : (b : Bool) (s : State) (entry : Entry) (changes : List Change) → (length w.cells.items == 0) ≡ b → entry.happening ≡ upcoming_of s →
      changes ≡ (watched_of (named_cells w.cells.items) s).changes →
      (if b then (not (is_stop (upcoming_of s)) && not (is_met_by w (upcoming_of s))) else is_away w.cells.items (touched_by (erasable_bank s.processor.store.erasable) (upcoming_of s))) ≡ true →
      is_answer w entry changes ≡ false
  unanswered true s entry changes l f h e =
      unmet (is_of_kinds w.only entry) (is_any_met (λ places. runs_at places entry.happening) w.places.items)
      (is_any_met (λ name. is_called (string_bytes name) entry.happening) w.orders.items) (is_any_met (λ channel. touches channel entry.happening) w.channels.items)
      (changes_one w.cells.items changes)
      (ap (λ (u : Upcoming). not (is_met_by w u)) f ∙ (both (not (is_stop (upcoming_of s))) (not (is_met_by w (upcoming_of s))) e).1)
  unanswered false s entry changes l f h e =
      unchanged (is_of_kinds w.only entry) (is_any_met (λ places. runs_at places entry.happening) w.places.items)
      (is_any_met (λ name. is_called (string_bytes name) entry.happening) w.orders.items) (is_any_met (λ channel. touches channel entry.happening) w.channels.items)
      (changes_one w.cells.items changes)
      (ap (λ (b : Bool). b || not (length changes == 0)) l ∙ ap (λ (xs : List Change). not (length xs == 0)) (h ∙ nothing_changed s e))

  module _ (s : State) (passed : is_passed w (erasable_bank s.processor.store.erasable) (upcoming_of s) ≡ true) where
    stays : is_stop (upcoming_of s) ≡ false
    stays = goes_by (length w.cells.items == 0) (erasable_bank s.processor.store.erasable) (upcoming_of s) passed

    happens : (watched_of (named_cells w.cells.items) s).entry.happening ≡ upcoming_of s
    happens = ap (λ (x : Entry). x.happening) (watches (named_cells w.cells.items) s) ∙ reports s

    unselected : is_selected w (watched_of (named_cells w.cells.items) s) ≡ false
    unfolding is_selected
    unselected =
        neither (is_between w.from w.to (watched_of (named_cells w.cells.items) s).entry) (is_stop (watched_of (named_cells w.cells.items) s).entry.happening)
        (is_answer w (watched_of (named_cells w.cells.items) s).entry (watched_of (named_cells w.cells.items) s).changes) (ap is_stop happens ∙ stays)
        (unanswered (length w.cells.items == 0) s (watched_of (named_cells w.cells.items) s).entry (watched_of (named_cells w.cells.items) s).changes refl happens refl passed)

    entries_same : selected w (watch_of (named_cells w.cells.items) (boundary None s).0) ≡ selected w (watch_of (named_cells w.cells.items) s)
    entries_same =
        let cells = named_cells w.cells.items in
        sym (ap (λ (xs : List Watched). selected w xs) (watch_by_entry cells s)
        ∙ ap (λ (xs : List Watched). selected w (watched_of cells s ∷ xs)) (watch_goes_on (is_stop (upcoming_of s)) (watch_of cells (boundary None s).0) stays)
        ∙ no_entry w (watched_of cells s) (watch_of cells (boundary None s).0) unselected)

  -- The boundary is passed over, in terms of the code: what happens, the bank before it, and the state after it. The
  -- entries still to come are the same.
  pub passes : (s : State) (bank : ℕ) (u : Upcoming) → u ≡ upcoming_of s → bank ≡ erasable_bank s.processor.store.erasable → is_passed w bank u ≡ true →
      is_passed w (erasable_bank s.processor.store.erasable) (upcoming_of s) ≡ true
  passes s bank u e f h = ap (λ (v : Upcoming). is_passed w (erasable_bank s.processor.store.erasable) v) (sym e) ∙ ap (λ (n : ℕ). is_passed w n u) (sym f) ∙ h

  module _ (s t : State) (passed : is_passed w (erasable_bank s.processor.store.erasable) (upcoming_of s) ≡ true) (next : t ≡ (boundary None s).0) where
    pub entries_stay : selected w (watch_of (named_cells w.cells.items) t) ≡ selected w (watch_of (named_cells w.cells.items) s)
    entries_stay = ap (λ (x : State). selected w (watch_of (named_cells w.cells.items) x)) next ∙ entries_same s passed

    pub seen_stay : map (seen_in t.processor.store) (named_cells w.cells.items) ≡ map (seen_in s.processor.store) (named_cells w.cells.items)
    seen_stay =
        ap (λ (x : State). map (seen_in x.processor.store) (named_cells w.cells.items)) next ∙ seen_by (length w.cells.items == 0) s refl passed

    pub service_stays : (before after : Option Service) (cycle : ℕ) (u : Upcoming) → u ≡ upcoming_of s → cycle ≡ s.cycle → s.cycle ≤ w.to →
        after ≡ (if nat_le w.from cycle then served cycle u before else before) →
        service_at_stop w after (trace_of t) ≡ service_at_stop w before (trace_of s)
    service_stays before after cycle u e f l h =
        ap (λ (o : Option Service). service_at_stop w o (trace_of t))
        (h ∙ ap (λ (v : Upcoming). if nat_le w.from cycle then served cycle v before else before) (e ∙ sym (reports s))
        ∙ ap (λ (n : ℕ). if nat_le w.from n then served n (entry_of s).happening before else before) (f ∙ sym (begins s)))
        ∙ left_after w before s t (entry_of s) refl next l (ap is_stop (reports s) ∙ stays s passed)

    pub fewer_stay : entries_left t < entries_left s
    fewer_stay = subst (λ (x : State). entries_left x < entries_left s) (sym next) (fewer_entries s (stays s passed))
