-- The text of live keys: names of keys with white space between.
use Rattle.std.specs.Prelude.{ℕ, ◌==◌, ◌||◌, Bool, not, List, [], ◌∷◌, filter, length, map, Option}
use Rattle.std.specs.Prelude.{Some, None, option_map}
use Rattle.std.specs.List.{slice_split}
use Rattle.agc_script.specs.Key.{key_named}
use Rattle.agc_script.specs.declared.key.Key.{Key}

-- the bytes that separate names: a space, a tab, a carriage return and a line feed
abbrev pub is_white : ℕ → Bool
is_white b = (b == 32) || (b == 9) || (b == 13) || (b == 10)

-- the names in a key text: the parts between its white space
unfoldable pub names_in : List ℕ → List (List ℕ)
names_in text = filter (λ part. not (length part == 0)) (slice_split is_white text)

-- the keys, if all are present
unfoldable pub all_there : List (Option Key) → Option (List Key)
all_there [] = Some []
all_there (None ∷ others) = None
all_there (Some key ∷ others) = option_map (λ keys. key ∷ keys) (all_there others)

-- the keys that a text names; none if one of its names is not a key
abbrev pub keys_of : List ℕ → Option (List Key)
keys_of text = all_there (map key_named (names_in text))
