-- The printed changes of the tables, and how they are applied: the first has all lines, and each later line takes the
-- place of the one of the same entry.
use Rattle.std.specs.Prelude.{ℕ, ◌==◌, nat_le, if◌then◌else◌, List, [], ◌∷◌, ◌++◌, codes, filter, flat_map, fold, map, unwrap_or, Option, None}
use Rattle.std.specs.List.{last_or}
use Rattle.std.specs.Str.{bytes_eq}
use Rattle.agc_machine.specs.State.{State}
use Rattle.agc_panel.specs.declared.watch_spec.WatchSpec.{WatchSpec}
use Rattle.agc_symbols.specs.Symbols.{Symbol}
use Rattle.agc_timeline.specs.Changes.{Sight, changes_in}
use Rattle.agc_timeline.specs.Lines.{changed_lines, line_at, lines_in}
use Rattle.agc_trace.specs.declared.span.Span.{Span}

-- the lines that a cycle changed
pub record Change : Type 0 where
  pub cycle : ℕ
  pub lines : List (List ℕ)

-- the changed lines of each sight, with its cycle
unfoldable pub printed : List ℕ → List Sight → List Change
printed shown [] = []
printed shown (sight ∷ sights) =
    record { cycle = sight.cycle; lines = changed_lines (lines_in shown) (lines_in sight.text) }
    ∷ printed sight.text sights

-- those of a run in a span
abbrev pub jobs_printed : Span → WatchSpec → State → List Change
jobs_printed span spec s = printed [] (changes_in span spec s)

-- the text of a change: each line after its cycle and, with names, before the name of its place
abbrev pub printed_text : Option (List Symbol) → Change → List ℕ
printed_text names change = flat_map (line_at names change.cycle) change.lines

-- a line's first word
unfoldable pub name_of : List ℕ → List ℕ
name_of [] = []
name_of (b ∷ bs) = if b == 32 then [] else b ∷ name_of bs

-- a line without its first word
unfoldable pub after_name : List ℕ → List ℕ
after_name [] = []
after_name (b ∷ bs) = if b == 32 then bs else after_name bs

-- what a line of the tables is of: LST1, or a core set or a task of LST2 by its number
unfoldable pub entry_name : List ℕ → List ℕ
entry_name line =
    if bytes_eq (name_of line) (codes "LST1") then name_of line
    else name_of line ++ codes " " ++ name_of (after_name line)

-- a line in place of the one of the same entry
unfoldable pub with_line : List (List ℕ) → List ℕ → List (List ℕ)
with_line lines line = map (λ old. if bytes_eq (entry_name old) (entry_name line) then line else old) lines

-- changes applied to these lines: the cycle of each, and the lines after it
unfoldable pub applied_after : List (List ℕ) → List Change → List (ℕ × List (List ℕ))
applied_after lines [] = []
applied_after lines (change ∷ changes) =
    let now = fold with_line lines change.lines in
    (change.cycle, now) ∷ applied_after now changes

-- printed changes applied from the first on, which has all lines
unfoldable pub applied : List Change → List (ℕ × List (List ℕ))
applied [] = []
applied (change ∷ changes) = (change.cycle, change.lines) ∷ applied_after change.lines changes

-- the lines at a cycle: the last ones up to then, or none before the first
unfoldable pub lines_up_to : List (ℕ × List (List ℕ)) → ℕ → List (List ℕ)
lines_up_to all cycle =
    unwrap_or (last_or None (map (λ (at, lines). lines) (filter (λ (at, lines). nat_le at cycle) all))) []
