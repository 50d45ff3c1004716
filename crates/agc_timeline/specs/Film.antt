-- The Executive's tables over a part of a run: what they show at its first cycle, and each change after that.
use Rattle.std.specs.Prelude.{ℕ, ◌+◌, List, [], ◌∷◌, Option, Some, None}
use Rattle.agc_machine.specs.State.{State}
use Rattle.agc_panel.specs.Tables.{WatchedTables}
use Rattle.agc_panel.specs.TablesText.{tables_text}
use Rattle.agc_panel.specs.declared.watch_spec.WatchSpec.{WatchSpec}
use Rattle.agc_timeline.specs.Changes.{Sight, changes, shown_after, sights_in}
use Rattle.agc_timeline.specs.Lines.{changes_text}
use Rattle.agc_timeline.specs.States.{states_of}
use Rattle.agc_trace.specs.declared.span.Span.{Span}

-- the cycles up to one
abbrev pub until : ℕ → Span
until cycle = record { from = 0; to = cycle }

-- the cycles of a span after its first one
abbrev pub after_first : Span → Span
after_first span = record { from = span.from + 1; to = span.to }

-- what the tables show at a cycle of the run from a state: those of its last state up to that cycle, or nothing
-- before the first
unfoldable pub held_at : WatchSpec → ℕ → State → List ℕ
held_at spec cycle s = shown_after [] (sights_in (until cycle) spec (states_of s))

-- The tables in a span of the run from a state: at its first cycle those of the last state up to it, and each later
-- state that shows something else than what is shown before it.
unfoldable pub film_of : Span → WatchSpec → State → List Sight
film_of span spec s =
    changes [] (record { cycle = span.from; text = held_at spec span.from s }
    ∷ sights_in (after_first span) spec (states_of s))

-- their lines in print
unfoldable pub film_text : Span → WatchSpec → State → List ℕ
film_text span spec s = changes_text None [] (film_of span spec s)

-- the text of the tables shown last, and the lines written up to then
pub record Telling : Type 0 where
  pub shown : List ℕ
  pub text : List ℕ

-- the text of the tables read last, if any
abbrev pub opening_text : Option WatchedTables → List ℕ
opening_text None = []
opening_text (Some tables) = tables_text tables
