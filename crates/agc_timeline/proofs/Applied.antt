-- The printed changes of the tables, applied one after another, give the tables.
use Rattle.std.proofs.Common.{◌≡◌, ℕ, ◌<◌, ◌≤◌, ◌^◌, Bool, true, false, List, [], ◌∷◌, ◌++◌, Option, Some, None, refl, ap, sym, ◌∙◌}
use Rattle.std.specs.Prelude.{if◌then◌else◌, filter, flat_map, fold, map, nat_le, unwrap_or}
use Rattle.std.specs.List.{last_or}
use Rattle.std.specs.Str.{bytes_eq}
use Rattle.agc_machine.specs.Laws.{after}
use Rattle.agc_machine.specs.State.{State}
use Rattle.agc_panel.specs.declared.watch_spec.WatchSpec.{WatchSpec}
use Rattle.agc_symbols.specs.Symbols.{Symbol}
use Rattle.agc_timeline.specs.ChangeLaws.{shown_at, tables_at, up_to}
use Rattle.agc_timeline.specs.Changes.{Sight, changes, changes_in, is_in, shown_after, sight_of, sights_in}
use Rattle.agc_timeline.specs.Lines.{change_text, changed_lines, changes_text, jobs_text, lines_in}
use Rattle.agc_timeline.specs.Printed.{applied, applied_after, entry_name, jobs_printed, lines_up_to, printed, printed_text, with_line}
use Rattle.agc_timeline.specs.States.{states_of}
use Rattle.agc_trace.specs.declared.span.Span.{Span}
use Rattle.agc_timeline.proofs.AtCycle.{changes_are_the_tables}
use Rattle.agc_timeline.proofs.Laid.{are_apart, laid}
use Rattle.agc_timeline.proofs.TableLines.{have_names, names_are_apart, table_names}

-- the text is that of the printed changes
text_of : (names : Option (List Symbol)) (shown : List ℕ) (sights : List Sight) → changes_text names shown sights ≡ flat_map (printed_text names) (printed shown sights)
unfolding changes_text change_text printed
text_of names shown [] = refl
text_of names shown (sight ∷ sights) = ap (λ (text : List ℕ). change_text names shown sight ++ text) (text_of names sight.text sights)

pub text_is_printed : (names : Option (List Symbol)) (span : Span) (spec : WatchSpec) (s : State) → jobs_text names span spec s ≡ flat_map (printed_text names) (jobs_printed span spec s)
unfolding jobs_text
text_is_printed names span spec s = text_of names [] (changes_in span spec s)

all_lines : (lines : List (List ℕ)) → changed_lines [] lines ≡ lines
unfolding changed_lines
all_lines [] = refl
all_lines (line ∷ lines) = refl

no_lines : lines_in [] ≡ []
unfolding lines_in
no_lines = refl

abbrev pub reported : List Sight → List (ℕ × List (List ℕ))
reported sights = map (λ (sight : Sight). (sight.cycle, lines_in sight.text)) sights

module _ (names : List (List ℕ)) (apart : are_apart names ≡ true) where
  abbrev Has : List ℕ → Type 0
  Has text = map entry_name (lines_in text) ≡ names

  abbrev AllHave : List Sight → Type 0
  AllHave [] = Unit {0}
  AllHave (sight ∷ sights) = Has sight.text × AllHave sights

  laid_over : (old new : List ℕ) → Has old → Has new → fold with_line (lines_in old) (changed_lines (lines_in old) (lines_in new)) ≡ lines_in new
  laid_over old new e f = laid (lines_in old) (lines_in new) (e ∙ sym f) (ap are_apart f ∙ apart)

  go_on : (shown : List ℕ) (sights : List Sight) → Has shown → AllHave sights → applied_after (lines_in shown) (printed shown sights) ≡ reported sights
  unfolding applied_after printed
  go_on shown [] e h = refl
  go_on shown (sight ∷ sights) e h =
      let here = laid_over shown sight.text e h.0 in
      ap (λ (lines : List (List ℕ)). (sight.cycle, lines) ∷ applied_after lines (printed sight.text sights)) here
      ∙ ap (λ (rest : List (ℕ × List (List ℕ))). (sight.cycle, lines_in sight.text) ∷ rest) (go_on sight.text sights h.0 h.1)

  all_applied : (sights : List Sight) → AllHave sights → applied (printed [] sights) ≡ reported sights
  unfolding applied printed
  all_applied [] h = refl
  all_applied (sight ∷ sights) h =
      let first : changed_lines (lines_in []) (lines_in sight.text) ≡ lines_in sight.text =
      ap (λ (lines : List (List ℕ)). changed_lines lines (lines_in sight.text)) no_lines ∙ all_lines (lines_in sight.text) in
      ap (λ (lines : List (List ℕ)). (sight.cycle, lines) ∷ applied_after lines (printed sight.text sights)) first
      ∙ ap (λ (rest : List (ℕ × List (List ℕ))). (sight.cycle, lines_in sight.text) ∷ rest) (go_on sight.text sights h.0 h.1)

  -- changes are some of the sights
  kept_by : (b : Bool) (sight : Sight) (xs ys : List Sight) → Has sight.text → AllHave xs → AllHave ys → AllHave (if b then xs else sight ∷ ys)
  kept_by true sight xs ys e h k = h
  kept_by false sight xs ys e h k = (e, k)

  changes_have : (shown : List ℕ) (sights : List Sight) → AllHave sights → AllHave (changes shown sights)
  unfolding changes
  changes_have shown [] h = tt
  changes_have shown (sight ∷ sights) h =
      kept_by (bytes_eq shown sight.text) sight (changes shown sights) (changes sight.text sights) h.0 (changes_have shown sights h.1) (changes_have sight.text sights h.1)

  module _ (span : Span) (spec : WatchSpec) (each : (s : State) → Has (sight_of spec s).text) where
    seen_by : (b : Bool) (s : State) (ss : List State) → AllHave (map (sight_of spec) ss) → AllHave (map (sight_of spec) (if b then s ∷ ss else ss))
    seen_by true s ss h = (each s, h)
    seen_by false s ss h = h

    sights_have : (ss : List State) → AllHave (sights_in span spec ss)
    unfolding sights_in
    sights_have [] = tt
    sights_have (s ∷ ss) = seen_by (is_in span s) s (filter (is_in span) ss) (sights_have ss)

    run_have : (s : State) → AllHave (changes_in span spec s)
    unfolding changes_in
    run_have s = changes_have [] (sights_in span spec (states_of s)) (sights_have (states_of s))

pub printed_is_applied : (span : Span) (spec : WatchSpec) (s : State) → spec.sets < 2 ^ 64 →
    applied (jobs_printed span spec s) ≡ map (λ (sight : Sight). (sight.cycle, lines_in sight.text)) (changes_in span spec s)
printed_is_applied span spec s l =
    let names = table_names spec.sets in
    let apart = names_are_apart spec.sets l in
    all_applied names apart (changes_in span spec s) (run_have names apart span spec (λ (t : State). have_names t.processor.store spec l) s)

-- the lines at a cycle are those of the last change up to then
abbrev last_lines : Option (List (List ℕ)) → List Sight → ℕ → Option (List (List ℕ))
last_lines lines sights cycle = last_or lines (map (λ (at, lines). lines) (filter (λ (at, lines). nat_le at cycle) (reported sights)))

last_by : (b : Bool) (shown : List ℕ) (sight : Sight) (sights : List Sight) (cycle : ℕ) → nat_le sight.cycle cycle ≡ b →
    last_lines (Some (lines_in sight.text)) sights cycle ≡ Some (lines_in (shown_after sight.text (up_to cycle sights))) →
    last_lines (Some (lines_in shown)) sights cycle ≡ Some (lines_in (shown_after shown (up_to cycle sights))) →
    last_lines (Some (lines_in shown)) (sight ∷ sights) cycle ≡ Some (lines_in (shown_after shown (up_to cycle (sight ∷ sights))))
last_by true shown sight sights cycle e h k = rw (e) h
last_by false shown sight sights cycle e h k = rw (e) k

same_last : (shown : List ℕ) (sights : List Sight) (cycle : ℕ) →
    last_lines (Some (lines_in shown)) sights cycle ≡ Some (lines_in (shown_after shown (up_to cycle sights)))
same_last shown [] cycle = refl
same_last shown (sight ∷ sights) cycle =
    last_by (nat_le sight.cycle cycle) shown sight sights cycle refl (same_last sight.text sights cycle) (same_last shown sights cycle)

first_by : (b : Bool) (sight : Sight) (sights : List Sight) (cycle : ℕ) → nat_le sight.cycle cycle ≡ b →
    unwrap_or (last_lines (Some (lines_in sight.text)) sights cycle) [] ≡ lines_in (shown_after sight.text (up_to cycle sights)) →
    unwrap_or (last_lines None sights cycle) [] ≡ lines_in (shown_after [] (up_to cycle sights)) →
    unwrap_or (last_lines None (sight ∷ sights) cycle) [] ≡ lines_in (shown_after [] (up_to cycle (sight ∷ sights)))
first_by true sight sights cycle e h k = rw (e) h
first_by false sight sights cycle e h k = rw (e) k

shown_last : (sights : List Sight) (cycle : ℕ) → unwrap_or (last_lines None sights cycle) [] ≡ lines_in (shown_after [] (up_to cycle sights))
shown_last [] cycle = sym no_lines
shown_last (sight ∷ sights) cycle =
    first_by (nat_le sight.cycle cycle) sight sights cycle refl
    (ap (λ (o : Option (List (List ℕ))). unwrap_or o []) (same_last sight.text sights cycle)) (shown_last sights cycle)

pub printed_is_the_tables : (span : Span) (spec : WatchSpec) (s : State) (n cycle : ℕ) → spec.sets < 2 ^ 64 → span.from ≤ (after n s).cycle →
    (after n s).cycle ≤ cycle → cycle ≤ span.to → lines_up_to (applied (jobs_printed span spec s)) cycle ≡ lines_in (tables_at spec s cycle)
unfolding lines_up_to shown_at
printed_is_the_tables span spec s n cycle l from past to =
    ap (λ (all : List (ℕ × List (List ℕ))). unwrap_or (last_or None (map (λ (at, lines). lines) (filter (λ (at, lines). nat_le at cycle) all))) []) (printed_is_applied span spec s l)
    ∙ shown_last (changes_in span spec s) cycle
    ∙ ap lines_in (changes_are_the_tables span spec s n cycle from past to)
