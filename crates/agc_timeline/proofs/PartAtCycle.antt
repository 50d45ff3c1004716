-- At each cycle of a part, its film shows what the tables show then.
use Rattle.std.proofs.Common.{◌≡◌, ◌⊎◌, inl, inr, ℕ, ◌+◌, ◌≤◌, ◌<◌, List, [], ◌∷◌, refl, ap, sym, ◌∙◌, arith}
use Rattle.std.specs.Prelude.{map}
use Rattle.agc_machine.specs.State.{State}
use Rattle.agc_panel.specs.declared.watch_spec.WatchSpec.{WatchSpec}
use Rattle.agc_timeline.specs.ChangeLaws.{AreChanges, shown_at, tables_at, up_to}
use Rattle.agc_timeline.specs.Changes.{Sight, shown_after, sight_of, sights_in}
use Rattle.agc_timeline.specs.Film.{after_first, film_of, held_at, until}
use Rattle.agc_timeline.specs.States.{states_of}
use Rattle.agc_trace.specs.declared.span.Span.{Span}
use Rattle.agc_timeline.proofs.AtCycle.{NeverBack, are_changes, back_later, changes_show, either, first_in, sights_later, tail_same}
use Rattle.agc_timeline.proofs.Sights.{inside, none_late, none_seen, early}
use Rattle.agc_timeline.proofs.States.{GoForward, states_go_forward}

-- the sights of a part: its opening, and those of later states
abbrev opened : Span → WatchSpec → State → List Sight
opened span spec s = record { cycle = span.from; text = held_at spec span.from s } ∷ sights_in (after_first span) spec (states_of s)

opened_back : (span : Span) (spec : WatchSpec) (s : State) → span.from ≤ span.to → NeverBack span.from span.to (opened span spec s)
opened_back span spec s l =
    (omega arith, l, back_later span.from (span.from + 1) span.to _ (omega arith) (sights_later (after_first span) spec s.cycle (states_of s) (states_go_forward s)))

pub film_is_cut : (span : Span) (spec : WatchSpec) (s : State) → span.from ≤ span.to → AreChanges span.from span.to [] (film_of span spec s)
unfolding film_of
film_is_cut span spec s l = are_changes span.from span.to [] (opened span spec s) (opened_back span spec s l)

module _ (span : Span) (spec : WatchSpec) (cycle : ℕ) (begins : span.from ≤ cycle) (ends : cycle ≤ span.to) where
  -- all states up to the first cycle, and all later ones, are shown
  both_by : (shown : List ℕ) (s : State) (ss : List State) → GoForward s.cycle ss →
      ((text : List ℕ) → shown_after (shown_after text (sights_in (until span.from) spec ss)) (up_to cycle (sights_in (after_first span) spec ss))
      ≡ shown_after text (up_to cycle (map (sight_of spec) ss))) →
      (s.cycle ≤ span.from) ⊎ (span.from < s.cycle) →
      shown_after (shown_after shown (sights_in (until span.from) spec (s ∷ ss))) (up_to cycle (sights_in (after_first span) spec (s ∷ ss)))
      ≡ shown_after shown (up_to cycle (map (sight_of spec) (s ∷ ss)))
  both_by shown s ss h k (inl l) =
      let first = sight_of spec s in
      ap (λ (xs : List Sight). shown_after (shown_after shown xs) (up_to cycle (sights_in (after_first span) spec (s ∷ ss))))
      (inside (until span.from) spec s ss (omega arith) l)
      ∙ ap (λ (xs : List Sight). shown_after (shown_after first.text (sights_in (until span.from) spec ss)) (up_to cycle xs))
      (none_seen (after_first span) spec s ss (early (after_first span) spec s (omega (arith, l))))
      ∙ k first.text
      ∙ sym (first_in cycle shown first (map (sight_of spec) ss) (omega (arith, l, begins)))
  both_by shown s ss h k (inr l) =
      ap (λ (xs : List Sight). shown_after (shown_after shown xs) (up_to cycle (sights_in (after_first span) spec (s ∷ ss))))
      (none_late (until span.from) spec s.cycle (s ∷ ss) l (omega arith, h))
      ∙ tail_same cycle (after_first span) spec s.cycle shown (s ∷ ss) (omega (arith, l)) ends (omega arith, h)

  both : (from : ℕ) (shown : List ℕ) (ss : List State) → GoForward from ss →
      shown_after (shown_after shown (sights_in (until span.from) spec ss)) (up_to cycle (sights_in (after_first span) spec ss))
      ≡ shown_after shown (up_to cycle (map (sight_of spec) ss))
  unfolding sights_in
  both from shown [] h = refl
  both from shown (s ∷ ss) h = both_by shown s ss h.1 (λ text. both s.cycle text ss h.1) (either span.from s.cycle)

pub film_is_the_tables : (span : Span) (spec : WatchSpec) (s : State) (cycle : ℕ) → span.from ≤ cycle → cycle ≤ span.to →
    shown_at (film_of span spec s) cycle ≡ tables_at spec s cycle
unfolding shown_at tables_at film_of held_at
film_is_the_tables span spec s cycle l m =
    changes_show cycle span.from span.to [] (opened span spec s) (opened_back span spec s (omega (arith, l, m)))
    ∙ first_in cycle [] (record { cycle = span.from; text = held_at spec span.from s }) (sights_in (after_first span) spec (states_of s)) l
    ∙ both span spec cycle l m s.cycle [] (states_of s) (states_go_forward s)
