-- The place of an order in a command, and the comparison that may follow it: `PLACE if CELL < WORD`.
use Rattle.std.specs.Prelude.{ℕ, List, [], ◌∷◌, ◌++◌, codes, drop, Option, Result, Ok, Err, if◌then◌else◌}
use Rattle.std.specs.Option.{ok_or}
use Rattle.std.specs.Str.{bytes_eq}
use Rattle.agc_word.specs.Number.{Number}
use Rattle.agc_word.specs.Octal.{word_digits}
use Rattle.agc_listing.specs.Cell.{cell_place}
use Rattle.agc_listing.specs.Number.{begins_with_sign, decimal_word, octal_word}
use Rattle.agc_listing.specs.Place.{place_text}
use Rattle.agc_listing.specs.declared.location.Location.{Location}
use Rattle.agc_session.specs.declared.comparison.Comparison.{Comparison}
use Rattle.agc_session.specs.declared.comparison.Relation.{Relation}
use Rattle.agc_session.specs.declared.comparison.Relation.TheVariants as relation
use Rattle.agc_session.specs.declared.condition.Condition.{Condition}
use Rattle.agc_session.specs.declared.condition.Condition.TheVariants as condition
use Rattle.agc_symbols.specs.Symbols.{Symbol}
use Rattle.agc_command.specs.Place.{cell_in, place_in}
use Rattle.agc_command.specs.Words.{and_then}
use Rattle.agc_command.specs.declared.fault.CommandFault.{CommandFault}
use Rattle.agc_command.specs.declared.fault.CommandFault.TheVariants as fault
use Rattle.agc_command.specs.declared.name.CommandName.{CommandName}

-- the sign of a relation
unfoldable pub sign_of : Relation → List ℕ
sign_of relation.Equal = codes "="
sign_of relation.Unequal = codes "!="
sign_of relation.Less = codes "<"
sign_of relation.Greater = codes ">"

-- the relation that a word spells
unfoldable pub relation_in : List ℕ → Result Relation CommandFault
relation_in word =
    if bytes_eq word (codes "=") then Ok relation.Equal
    else if bytes_eq word (codes "!=") then Ok relation.Unequal
    else if bytes_eq word (codes "<") then Ok relation.Less
    else if bytes_eq word (codes ">") then Ok relation.Greater
    else Err fault.BadRelation

-- a word to compare with: one to five octal digits, or a decimal number with its sign
unfoldable pub compared_in : List ℕ → Result Number CommandFault
compared_in word = ok_or (if begins_with_sign word then decimal_word word else octal_word word) fault.BadCompared

-- the comparison in three words
unfoldable pub comparison_of : Option (List Symbol) → List ℕ → List ℕ → List ℕ → Result Comparison CommandFault
comparison_of names cell sign word =
    and_then (cell_in names cell)
    (λ number. and_then (relation_in sign)
    (λ relation. and_then (compared_in word)
    (λ value. Ok (record { cell = number; relation = relation; word = value }))))

-- `CELL < WORD` at the beginning of some words
unfoldable pub comparison_in : Option (List Symbol) → CommandName → List (List ℕ) → Result Comparison CommandFault
comparison_in names n (cell ∷ sign ∷ word ∷ words) = comparison_of names cell sign word
comparison_in names n words = Err (fault.Usage n)

-- after the place of an order: `if CELL < WORD`, or something else
unfoldable pub order_if : Option (List Symbol) → CommandName → Location → List (List ℕ) → Result Condition CommandFault
order_if names n place [] = Ok (condition.Order place)
order_if names n place (first ∷ words) =
    if bytes_eq first (codes "if")
    then and_then (comparison_in names n words) (λ comparison. Ok (condition.OrderIf place comparison))
    else Ok (condition.Order place)

-- `PLACE` or `PLACE if CELL < WORD` at the beginning of some words
unfoldable pub order_in : Option (List Symbol) → CommandName → List (List ℕ) → Result Condition CommandFault
order_in names n [] = Err (fault.Usage n)
order_in names n (place ∷ words) = and_then (place_in names place) (λ at. order_if names n at words)

-- the words after it
abbrev pub after_place : List (List ℕ) → List (List ℕ)
after_place [] = []
after_place (first ∷ words) = if bytes_eq first (codes "if") then drop 1 (drop 1 (drop 1 words)) else first ∷ words

unfoldable pub after_order : List (List ℕ) → List (List ℕ)
after_order words = after_place (drop 1 words)

-- the same with no words after it
abbrev pub if_alone : CommandName → Condition → List (List ℕ) → Result Condition CommandFault
if_alone n what [] = Ok what
if_alone n what (word ∷ words) = Err (fault.Usage n)

unfoldable pub only_order : Option (List Symbol) → CommandName → List (List ℕ) → Result Condition CommandFault
only_order names n words = and_then (order_in names n words) (λ what. if_alone n what (after_order words))

-- how a comparison is printed: the place of the cell, and the word in octal
unfoldable pub comparison_text : Comparison → List ℕ
comparison_text c =
    codes " if " ++ place_text (cell_place c.cell) ++ codes " " ++ sign_of c.relation ++ codes " " ++ word_digits c.word
