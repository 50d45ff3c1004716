-- The changes of the Executive's tables in a part of a run: the first state, and each later one that shows something
-- else than the one before it.
use Rattle.std.specs.Prelude.{ℕ, nat_le, ◌&&◌, Bool, if◌then◌else◌, List, [], ◌∷◌, filter, map}
use Rattle.std.specs.Str.{bytes_eq}
use Rattle.agc_machine.specs.State.{State}
use Rattle.agc_panel.specs.Watcher.{watch_text}
use Rattle.agc_panel.specs.declared.watch_spec.WatchSpec.{WatchSpec}
use Rattle.agc_timeline.specs.States.{states_of}
use Rattle.agc_trace.specs.declared.span.Span.{Span}

-- the tables in print, from a cycle on
pub record Sight : Type 0 where
  pub cycle : ℕ
  pub text : List ℕ

-- what a state shows: the text that `agc --watch` prints of its memory
abbrev pub sight_of : WatchSpec → State → Sight
sight_of spec s = record { cycle = s.cycle; text = watch_text s.processor.store spec }

-- a state in a span of cycles
abbrev pub is_in : Span → State → Bool
is_in span s = nat_le span.from s.cycle && nat_le s.cycle span.to

-- what states in a span show
unfoldable pub sights_in : Span → WatchSpec → List State → List Sight
sights_in span spec states = map (sight_of spec) (filter (is_in span) states)

-- the sights that show something else than the one before, at first than this
unfoldable pub changes : List ℕ → List Sight → List Sight
changes shown [] = []
changes shown (sight ∷ sights) =
    if bytes_eq shown sight.text then changes shown sights
    else sight ∷ changes sight.text sights

-- what is shown after sights: the last one, or this if there is none
abbrev pub shown_after : List ℕ → List Sight → List ℕ
shown_after shown [] = shown
shown_after shown (sight ∷ sights) = shown_after sight.text sights

-- The changes in a span of the run from a state: before its first state nothing is shown.
unfoldable pub changes_in : Span → WatchSpec → State → List Sight
changes_in span spec s = changes [] (sights_in span spec (states_of s))
