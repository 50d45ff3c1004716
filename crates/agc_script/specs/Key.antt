-- The keyboard's keys, by the names that scripts write and the codes that the computer reads in
-- channel 15 octal.
use Rattle.std.specs.Prelude.{ℕ, List, [], ◌∷◌, Option, find, codes}
use Rattle.std.specs.Str.{bytes_eq}
use Rattle.agc_script.specs.declared.key.Key.{Key}
use Rattle.agc_script.specs.declared.key.Key.TheVariants as key

-- the name of the key, as a script writes it
unfoldable pub name_of : Key → List ℕ
name_of key.Zero = codes "0"
name_of key.One = codes "1"
name_of key.Two = codes "2"
name_of key.Three = codes "3"
name_of key.Four = codes "4"
name_of key.Five = codes "5"
name_of key.Six = codes "6"
name_of key.Seven = codes "7"
name_of key.Eight = codes "8"
name_of key.Nine = codes "9"
name_of key.Verb = codes "VERB"
name_of key.Noun = codes "NOUN"
name_of key.Reset = codes "RSET"
name_of key.KeyRelease = codes "KEYREL"
name_of key.Plus = codes "+"
name_of key.Minus = codes "-"
name_of key.Enter = codes "ENTR"
name_of key.Clear = codes "CLR"

-- the code of a key: five bits, which the keyboard puts into channel 15 octal
unfoldable pub code_of : Key → ℕ
code_of key.Zero = 0o20
code_of key.One = 0o1
code_of key.Two = 0o2
code_of key.Three = 0o3
code_of key.Four = 0o4
code_of key.Five = 0o5
code_of key.Six = 0o6
code_of key.Seven = 0o7
code_of key.Eight = 0o10
code_of key.Nine = 0o11
code_of key.Verb = 0o21
code_of key.Noun = 0o37
code_of key.Reset = 0o22
code_of key.KeyRelease = 0o31
code_of key.Plus = 0o32
code_of key.Minus = 0o33
code_of key.Enter = 0o34
code_of key.Clear = 0o36

-- every key, once
unfoldable pub all_keys : List Key
all_keys =
    key.Zero ∷ key.One ∷ key.Two ∷ key.Three ∷ key.Four ∷ key.Five ∷ key.Six ∷ key.Seven
    ∷ key.Eight ∷ key.Nine ∷ key.Verb ∷ key.Noun ∷ key.Reset ∷ key.KeyRelease ∷ key.Plus
    ∷ key.Minus ∷ key.Enter ∷ key.Clear ∷ []

-- the key with this name, if there is one
unfoldable pub key_named : List ℕ → Option Key
key_named name = find (λ k. bytes_eq (name_of k) name) all_keys
