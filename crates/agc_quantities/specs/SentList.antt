-- The lists that come whole by the downlink.
use Rattle.std.specs.Prelude.{ℕ, ◌-◌, ◌==◌, nat_le, Bool, not, ◌&&◌, List, [], ◌∷◌, length, take, find, Option, Some, None, if◌then◌else◌}
use Rattle.std.specs.List.{list_any}
use Rattle.agc_quantities.specs.declared.sent.Pair.{Pair}
use Rattle.agc_quantities.specs.declared.sent_list.SentList.{SentList}

-- the words by which a list begins
abbrev pub has_head : Pair → SentList → Bool
has_head pair list = (list.first == pair.first) && (list.second == pair.second)

abbrev pub begins_list : List SentList → Pair → Bool
begins_list lists pair = list_any (has_head pair) lists

-- after its first pair there are as many as it has, and none of them begins a list
abbrev pub comes_whole : List SentList → ℕ → List Pair → Bool
comes_whole lists pairs rest =
    nat_le (pairs - 1) (length rest) && not (list_any (begins_list lists) (take (pairs - 1) rest))

abbrev pub if_whole : List SentList → List Pair → Option SentList → Option SentList
if_whole lists rest None = None
if_whole lists rest (Some list) = if comes_whole lists list.pairs rest then Some list else None

-- the list that comes whole at the first of these pairs: the first of the file that begins by it
unfoldable pub list_at : List SentList → List Pair → Option SentList
list_at lists [] = None
list_at lists (pair ∷ rest) = if_whole lists rest (find (has_head pair) lists)
