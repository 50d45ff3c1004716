-- The fault of a command is the lowest of those that its words have.
use Rattle.std.specs.Prelude.{◌≡◌, ℕ, Bool, List, [], ◌∷◌, Option, Some, None}
use Rattle.std.proofs.Common.{refl}
use Rattle.agc_script.specs.declared.grammar.Command.{Command}
use Rattle.agc_script.specs.declared.grammar.Command.TheVariants as command
use Rattle.agc_script.specs.declared.key.Key.{Key}
use Rattle.agc_script.specs.Key.{key_named}
use Rattle.agc_script.specs.Grammar.{command_named, direction_named}
use Rattle.agc_script.specs.Command.{one_of, key_of, pro_of, parsed_by, command_of}
use Rattle.agc_script.specs.Fault.{numbers_after, numbers_of}
use Rattle.agc_script.proofs.Numbers.{Judged, JudgedBy, input_judged, pulse_judged, raise_judged, poke_judged}

-- `key NAME`
key_known : (a : List ℕ) (key : Option Key) → key_named a ≡ key → Judged (a ∷ []) command.Key
unfolding parsed_by key_of one_of numbers_after
key_known a None e = rw e
key_known a (Some key) e = rw e

key_judged : (words : List (List ℕ)) → Judged words command.Key
unfolding parsed_by key_of one_of numbers_after
key_judged [] = refl
key_judged (a ∷ []) = key_known a (key_named a) refl
key_judged (a ∷ b ∷ []) = refl
key_judged (a ∷ b ∷ c ∷ []) = refl
key_judged (a ∷ b ∷ c ∷ d ∷ words) = refl

-- `pro down` and `pro up`
pro_known : (a : List ℕ) (down : Option Bool) → direction_named a ≡ down → Judged (a ∷ []) command.Pro
unfolding parsed_by pro_of one_of numbers_after
pro_known a None e = rw e
pro_known a (Some down) e = rw e

pro_judged : (words : List (List ℕ)) → Judged words command.Pro
unfolding parsed_by pro_of one_of numbers_after
pro_judged [] = refl
pro_judged (a ∷ []) = pro_known a (direction_named a) refl
pro_judged (a ∷ b ∷ []) = refl
pro_judged (a ∷ b ∷ c ∷ []) = refl
pro_judged (a ∷ b ∷ c ∷ d ∷ words) = refl

-- by the name
judged_as : (words : List (List ℕ)) (command : Command) → Judged words command
judged_as words command.Key = key_judged words
judged_as words command.Pro = pro_judged words
judged_as words command.Input = input_judged words
judged_as words command.Pulse = pulse_judged words
judged_as words command.Raise = raise_judged words
judged_as words command.Poke = poke_judged words

by_name : (name : List ℕ) (words : List (List ℕ)) (known : Option Command) → command_named name ≡ known
    → JudgedBy (command_of (name ∷ words)) (numbers_of (name ∷ words))
unfolding command_of numbers_of
by_name name words None e = rw e
by_name name words (Some command) e = rw e (judged_as words command)

-- the fault of any words
pub command_judged : (words : List (List ℕ)) → JudgedBy (command_of words) (numbers_of words)
unfolding command_of numbers_of
command_judged [] = refl
command_judged (name ∷ words) = by_name name words (command_named name) refl
