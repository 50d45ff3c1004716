-- The tables over a part of a run, state by state, and what they show at each cycle of it.
use Rattle.std.proofs.Common.{◌≡◌, ℕ, ◌<◌, List, [], ◌∷◌, ◌++◌, Some, None, Bool, true, false, refl, ap, sym, ◌∙◌, append_assoc, append-nil, arith}
use Rattle.std.specs.Prelude.{is_some, nat_le, ◌&&◌}
use Rattle.agc_machine.specs.Boundary.{boundary}
use Rattle.agc_machine.specs.Run.{next_before}
use Rattle.agc_machine.specs.State.{State}
use Rattle.agc_machine.specs.declared.answer.Stepped.{Stepped}
use Rattle.agc_machine.specs.declared.answer.Stepped.TheVariants as stepped
use Rattle.agc_machine.specs.declared.answer.Stop.{Stop}
use Rattle.agc_machine.proofs.Before.{before_at_cycle, before_at_stop, before_at_write}
use Rattle.agc_panel.specs.Tables.{WatchedTables, tables_of}
use Rattle.agc_panel.specs.TablesText.{tables_text}
use Rattle.agc_panel.specs.Watcher.{watch_text}
use Rattle.agc_panel.specs.declared.watch_spec.WatchSpec.{WatchSpec}
use Rattle.agc_store.specs.Memory.{Memory}
use Rattle.agc_timeline.specs.Changes.{Sight, is_in, shown_after, sight_of, sights_in}
use Rattle.agc_timeline.specs.Film.{Telling, after_first, film_of, film_text, held_at}
use Rattle.agc_timeline.specs.Lines.{change_text, lines_at, lines_in, reported_of}
use Rattle.agc_timeline.specs.States.{states_of}
use Rattle.agc_trace.specs.declared.span.Span.{Span}
use Rattle.agc_timeline.proofs.OneByOne.{no_change, reported_append, reported_by_first, reported_none, reported_one}
use Rattle.agc_timeline.proofs.Sights.{after_stop, none_past, seen, sights_end, sights_go_on, unseen}

-- the text of the tables of a machine's memory
pub text_of : (s : State) (m : Memory) (spec : WatchSpec) (tables : WatchedTables) → m ≡ s.processor.store → tables ≡ tables_of m spec →
    tables_text tables ≡ (sight_of spec s).text
unfolding watch_text
text_of s m spec tables e f = ap tables_text f ∙ ap (λ (n : Memory). tables_text (tables_of n spec)) e

-- a state is in a span if its cycle is
pub is_in_by : (b has : Bool) (span : Span) (s : State) (cycle : ℕ) → cycle ≡ s.cycle → has ≡ (nat_le span.from cycle && nat_le cycle span.to) → has ≡ b → is_in span s ≡ b
is_in_by b has span s cycle e f h = ap (λ (n : ℕ). nat_le span.from n && nat_le n span.to) (sym e) ∙ sym f ∙ h

shown_append : (shown : List ℕ) (xs ys : List Sight) → shown_after shown (xs ++ ys) ≡ shown_after (shown_after shown xs) ys
shown_append shown [] ys = refl
shown_append shown (x ∷ xs) ys = shown_append x.text xs ys

-- a run up to cycle 0 takes one boundary
one_by : (s : State) (r : State × Stepped) → r ≡ boundary None s → r ≡ next_before 0 s
one_by s (t, stepped.Quiet) e = before_at_cycle 0 s t e (omega arith)
one_by s (t, stepped.Wrote write) e = before_at_write 0 s t write e
one_by s (t, stepped.Stopped why) e = before_at_stop 0 s t why e

pub one_boundary : (s t : State) (answer : Stepped) → (t, answer) ≡ next_before 0 s → t ≡ (boundary None s).0
one_boundary s t answer e = ap (λ (r : State × Stepped). r.0) (e ∙ sym (one_by s (boundary None s) refl))

module _ (span : Span) (spec : WatchSpec) where
  abbrev one : State → List Sight
  one s = sights_in span spec (s ∷ [])

  abbrev rest : State → List Sight
  rest s = sights_in span spec (states_of s)

  pub reported_out : (shown : List ℕ) (s : State) → is_in span s ≡ false → reported_of None shown (one s) ≡ []
  reported_out shown s e = ap (λ (xs : List Sight). reported_of None shown xs) (unseen span spec s e) ∙ reported_none None shown

  pub reported_in : (shown : List ℕ) (s : State) → is_in span s ≡ true → reported_of None shown (one s) ≡ change_text None shown (sight_of spec s)
  reported_in shown s e = ap (λ (xs : List Sight). reported_of None shown xs) (seen span spec s e) ∙ reported_one None shown (sight_of spec s)

  pub shown_out : (shown : List ℕ) (s : State) → is_in span s ≡ false → shown_after shown (one s) ≡ shown
  shown_out shown s e = ap (λ (xs : List Sight). shown_after shown xs) (unseen span spec s e)

  pub shown_in : (shown : List ℕ) (s : State) → is_in span s ≡ true → shown_after shown (one s) ≡ (sight_of spec s).text
  shown_in shown s e = ap (λ (xs : List Sight). shown_after shown xs) (seen span spec s e)

  -- a state that is read again shows nothing else
  again_by : (b : Bool) (shown : List ℕ) (s : State) → is_in span s ≡ b → shown_after (shown_after shown (one s)) (one s) ≡ shown_after shown (one s)
  again_by true shown s e = shown_in (shown_after shown (one s)) s e ∙ sym (shown_in shown s e)
  again_by false shown s e = shown_out (shown_after shown (one s)) s e

  reported_again_by : (b : Bool) (shown : List ℕ) (s : State) → is_in span s ≡ b → reported_of None (shown_after shown (one s)) (one s) ≡ []
  reported_again_by true shown s e = reported_in (shown_after shown (one s)) s e ∙ no_change None (shown_after shown (one s)) (sight_of spec s) (shown_in shown s e)
  reported_again_by false shown s e = reported_out (shown_after shown (one s)) s e

  -- what is shown in the end: after a state, what those after it show
  shown_by : (b : Bool) (shown : List ℕ) (s : State) → is_some s.stopped ≡ b →
      shown_after shown (rest s) ≡ shown_after (shown_after shown (one s)) (rest (boundary None s).0)
  shown_by true shown s e =
      let all : rest s ≡ one s = sights_end span spec s e in
      ap (λ (xs : List Sight). shown_after shown xs) all ∙ sym (again_by (is_in span s) shown s refl)
      ∙ ap (λ (xs : List Sight). shown_after (shown_after shown (one s)) xs) (sym all)
      ∙ ap (λ (t : State). shown_after (shown_after shown (one s)) (rest t)) (sym (after_stop span spec s.stopped s refl e))
  shown_by false shown s e =
      ap (λ (xs : List Sight). shown_after shown xs) (sights_go_on span spec s e) ∙ shown_append shown (one s) (rest (boundary None s).0)

  pub shown_next : (shown next : List ℕ) (s t : State) → t ≡ (boundary None s).0 → next ≡ shown_after shown (one s) →
      shown_after next (rest t) ≡ shown_after shown (rest s)
  shown_next shown next s t e f =
      ap (λ (u : State). shown_after next (rest u)) e ∙ ap (λ (text : List ℕ). shown_after text (rest (boundary None s).0)) f
      ∙ sym (shown_by (is_some s.stopped) shown s refl)

  -- and what is printed
  reported_by : (b : Bool) (shown : List ℕ) (s : State) → is_some s.stopped ≡ b →
      reported_of None shown (rest s) ≡ reported_of None shown (one s) ++ reported_of None (shown_after shown (one s)) (rest (boundary None s).0)
  reported_by true shown s e =
      let all : rest s ≡ one s = sights_end span spec s e in
      ap (λ (xs : List Sight). reported_of None shown xs) all ∙ sym (append-nil (reported_of None shown (one s)))
      ∙ ap (λ (text : List ℕ). reported_of None shown (one s) ++ text)
      (sym (reported_again_by (is_in span s) shown s refl)
      ∙ ap (λ (xs : List Sight). reported_of None (shown_after shown (one s)) xs) (sym all)
      ∙ ap (λ (t : State). reported_of None (shown_after shown (one s)) (rest t)) (sym (after_stop span spec s.stopped s refl e)))
  reported_by false shown s e =
      ap (λ (xs : List Sight). reported_of None shown xs) (sights_go_on span spec s e) ∙ reported_append None shown (one s) (rest (boundary None s).0)

  pub reported_next : (reported text : List ℕ) (shown next : List ℕ) (s t : State) → t ≡ (boundary None s).0 → next ≡ shown_after shown (one s) →
      text ≡ reported ++ reported_of None shown (one s) → text ++ reported_of None next (rest t) ≡ reported ++ reported_of None shown (rest s)
  reported_next reported text shown next s t e f h =
      ap (λ (bytes : List ℕ). bytes ++ reported_of None next (rest t)) h
      ∙ append_assoc reported (reported_of None shown (one s)) (reported_of None next (rest t))
      ∙ ap (λ (bytes : List ℕ). reported ++ bytes)
      (ap (λ (u : State). reported_of None shown (one s) ++ reported_of None next (rest u)) e
      ∙ ap (λ (bytes : List ℕ). reported_of None shown (one s) ++ reported_of None bytes (rest (boundary None s).0)) f
      ∙ sym (reported_by (is_some s.stopped) shown s refl))

  -- at the end of the run, and past the span
  pub shown_last : (shown next : List ℕ) (s : State) (why : Stop) → s.stopped ≡ Some why → next ≡ shown_after shown (one s) → next ≡ shown_after shown (rest s)
  shown_last shown next s why e f =
      f ∙ ap (λ (xs : List Sight). shown_after shown xs) (sym (sights_end span spec s (ap is_some e)))

  pub reported_last : (reported text : List ℕ) (shown : List ℕ) (s : State) (why : Stop) → s.stopped ≡ Some why → text ≡ reported ++ reported_of None shown (one s) →
      text ≡ reported ++ reported_of None shown (rest s)
  reported_last reported text shown s why e f =
      f ∙ ap (λ (xs : List Sight). reported ++ reported_of None shown xs) (sym (sights_end span spec s (ap is_some e)))

  pub shown_past : (shown : List ℕ) (s : State) → span.to < s.cycle → shown ≡ shown_after shown (rest s)
  shown_past shown s l = sym (ap (λ (xs : List Sight). shown_after shown xs) (none_past span spec s l))

  pub reported_past : (reported : List ℕ) (shown : List ℕ) (s : State) → span.to < s.cycle → reported ≡ reported ++ reported_of None shown (rest s)
  reported_past reported shown s l =
      sym (ap (λ (xs : List Sight). reported ++ reported_of None shown xs) (none_past span spec s l) ∙ ap (λ (bytes : List ℕ). reported ++ bytes) (reported_none None shown) ∙ append-nil reported)

-- the lines of a part, from the first ones on
pub film_reported : (span : Span) (spec : WatchSpec) (s t : State) (opening : List ℕ) → opening ≡ held_at spec span.from s →
    sights_in (after_first span) spec (states_of t) ≡ sights_in (after_first span) spec (states_of s) →
    change_text None [] (record { cycle = span.from; text = opening }) ++ reported_of None opening (sights_in (after_first span) spec (states_of t)) ≡ film_text span spec s
unfolding film_text film_of
film_reported span spec s t opening e f =
    ap (λ (xs : List Sight). change_text None [] (record { cycle = span.from; text = opening }) ++ reported_of None opening xs) f
    ∙ ap (λ (text : List ℕ). change_text None [] (record { cycle = span.from; text = text }) ++ reported_of None text (sights_in (after_first span) spec (states_of s))) e
    ∙ sym (reported_by_first None [] (record { cycle = span.from; text = held_at spec span.from s }) (sights_in (after_first span) spec (states_of s)))

abbrev telling : List ℕ → List ℕ → Telling
telling shown text = record { shown = shown; text = text }

-- the first lines of a part: those of its opening, after nothing
pub begun : (cycle : ℕ) (shown bytes opening : List ℕ) → shown ≡ opening → bytes ≡ change_text None [] (record { cycle = cycle; text = opening }) →
    telling shown bytes ≡ record { shown = opening; text = change_text None [] (record { cycle = cycle; text = opening }) }
begun cycle shown bytes opening e f =
    ap (λ (t : List ℕ). telling t bytes) e ∙ ap (λ (t : List ℕ). telling opening t) f

pub first_lines : (cycle : ℕ) (before text reported opening : List ℕ) → before ≡ [] → reported ≡ lines_at None cycle (lines_in before) (lines_in text) → text ≡ opening →
    reported ≡ change_text None [] (record { cycle = cycle; text = opening })
unfolding change_text
first_lines cycle before text reported opening b e f =
    e ∙ ap (λ (t : List ℕ). lines_at None cycle (lines_in t) (lines_in text)) b ∙ ap (λ (t : List ℕ). lines_at None cycle (lines_in []) (lines_in t)) f

pub no_lines : (cycle : ℕ) (reported opening : List ℕ) → reported ≡ [] → opening ≡ [] → reported ≡ change_text None [] (record { cycle = cycle; text = opening })
no_lines cycle reported opening e f = e ∙ sym (no_change None [] (record { cycle = cycle; text = opening }) (sym f))

-- the lines that changed are the text of the change
pub reported_of_change : (s : State) (spec : WatchSpec) (cycle : ℕ) (shown text reported lines : List ℕ) → cycle ≡ s.cycle → text ≡ (sight_of spec s).text →
    reported ≡ lines_at None cycle (lines_in shown) (lines_in text) → lines ≡ reported → lines ≡ change_text None shown (sight_of spec s)
unfolding change_text
reported_of_change s spec cycle shown text reported lines c t e f = f ∙ e ∙ rw (c, t) refl
