-- The searches in time: which byte types which, and what each looks for.
use Rattle.std.specs.Prelude.{ℕ, ◌==◌, Bool, List, [], ◌∷◌, find, Option, None}
use Rattle.std.specs.Option.{option_map}
use Rattle.agc_session.specs.declared.condition.Condition.{Condition}
use Rattle.agc_session.specs.declared.condition.Condition.TheVariants as condition
use Rattle.agc_tui.specs.declared.search.Search.{Search}
use Rattle.agc_tui.specs.declared.search.Search.TheVariants as search
use Rattle.agc_tui.specs.declared.search.Target.{Target}
use Rattle.agc_tui.specs.declared.search.Target.TheVariants as target

-- any interrupt, any channel write, or any change of the panel
abbrev pub condition_of : Target → Condition
condition_of target.Interrupt = condition.Interrupt None
condition_of target.Write = condition.Write None None
condition_of target.Panel = condition.Panel

-- the bytes that type searches: u, w and d forward, U, W and D back
abbrev pub typed_searches : List (ℕ × Search)
typed_searches =
    (0o165, search.Next target.Interrupt) ∷ (0o167, search.Next target.Write) ∷ (0o144, search.Next target.Panel)
    ∷ (0o125, search.Previous target.Interrupt) ∷ (0o127, search.Previous target.Write)
    ∷ (0o104, search.Previous target.Panel) ∷ []

-- whether a row of that table has a byte
abbrev pub has_byte : ℕ → ℕ × Search → Bool
has_byte byte row = row.0 == byte

-- the search that a byte types
unfoldable pub search_of : ℕ → Option Search
search_of byte = option_map (λ row. row.1) (find (has_byte byte) typed_searches)
