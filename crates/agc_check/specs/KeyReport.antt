-- The report on a text of live keys: how many it names, or that one of its words is not a key.
use Rattle.std.specs.Prelude.{◌≡◌, ℕ, Bool, true, false, List, ◌++◌, codes, is_some, length}
use Rattle.std.specs.Fmt.{decimal}
use Rattle.agc_load.specs.Keys.{keys_of, names_in}

-- every word names a key
unfoldable pub are_keys : List ℕ → Bool
are_keys file = is_some (keys_of file)

unfoldable pub key_holdings_text : ℕ → List ℕ
key_holdings_text count = codes "keys: " ++ decimal count ++ codes "\n"

-- `why` names the first word that is not a key, and what is expected
abbrev pub keys_reported : Bool → List ℕ → List ℕ → List ℕ
keys_reported true file why = key_holdings_text (length (names_in file))
keys_reported false file why = codes "keys: BadKey\n" ++ why

pub record IsKeyReport (file text : List ℕ) : Type 0 where
  pub why : List ℕ
  pub reported : text ≡ keys_reported (are_keys file) file why
