-- The numbers of a command are its words that have a range, each by that range.
use Rattle.std.specs.Prelude.{◌≡◌, ℕ, Bool, true, false, List, [], ◌∷◌, length, is_some, IfSome}
use Rattle.std.proofs.Common.{refl}
use Rattle.agc_script.specs.Key.{key_named}
use Rattle.agc_script.specs.Grammar.{argument_count, counters, direction_named, pulse_named, ranges_of}
use Rattle.agc_script.specs.Fault.{Numeral, numeral, numbers_after, where_known}
use Rattle.agc_script.specs.Laws.{first_number, with_ranges}
use Rattle.agc_script.specs.declared.grammar.Command.{Command}
use Rattle.agc_script.specs.declared.grammar.Command.TheVariants as command

-- what is true of numbers, if a name is known
when_known : (known : Bool) (numbers : List Numeral) (P : List Numeral → Type 0) → P numbers → IfSome (where_known known numbers) P
when_known true numbers P h = h
when_known false numbers P h = tt

pub as_many : (c : Command) (words : List (List ℕ)) → IfSome (numbers_after words c) (λ _. length words ≡ argument_count c)
unfolding numbers_after argument_count
as_many command.Key [] = tt
as_many command.Key (a ∷ []) = when_known (is_some (key_named a)) _ (λ _. 1 ≡ 1) refl
as_many command.Key (a ∷ b ∷ []) = tt
as_many command.Key (a ∷ b ∷ c ∷ []) = tt
as_many command.Key (a ∷ b ∷ c ∷ d ∷ words) = tt
as_many command.Pro [] = tt
as_many command.Pro (a ∷ []) = when_known (is_some (direction_named a)) _ (λ _. 1 ≡ 1) refl
as_many command.Pro (a ∷ b ∷ []) = tt
as_many command.Pro (a ∷ b ∷ c ∷ []) = tt
as_many command.Pro (a ∷ b ∷ c ∷ d ∷ words) = tt
as_many command.Input [] = tt
as_many command.Input (a ∷ []) = tt
as_many command.Input (a ∷ b ∷ []) = refl
as_many command.Input (a ∷ b ∷ c ∷ []) = tt
as_many command.Input (a ∷ b ∷ c ∷ d ∷ words) = tt
as_many command.Pulse [] = tt
as_many command.Pulse (a ∷ []) = tt
as_many command.Pulse (a ∷ b ∷ []) = when_known (is_some (pulse_named b)) _ (λ _. 2 ≡ 2) refl
as_many command.Pulse (a ∷ b ∷ c ∷ []) = tt
as_many command.Pulse (a ∷ b ∷ c ∷ d ∷ words) = tt
as_many command.Raise [] = tt
as_many command.Raise (a ∷ []) = refl
as_many command.Raise (a ∷ b ∷ []) = tt
as_many command.Raise (a ∷ b ∷ c ∷ []) = tt
as_many command.Raise (a ∷ b ∷ c ∷ d ∷ words) = tt
as_many command.Poke [] = tt
as_many command.Poke (a ∷ []) = tt
as_many command.Poke (a ∷ b ∷ []) = tt
as_many command.Poke (a ∷ b ∷ c ∷ []) = refl
as_many command.Poke (a ∷ b ∷ c ∷ d ∷ words) = tt

pub in_ranges : (c : Command) (words : List (List ℕ)) → IfSome (numbers_after words c) (λ numbers. numbers ≡ with_ranges words (ranges_of c (first_number words)))
unfolding numbers_after ranges_of with_ranges
in_ranges command.Key [] = tt
in_ranges command.Key (a ∷ []) = when_known (is_some (key_named a)) _ (λ numbers. numbers ≡ []) refl
in_ranges command.Key (a ∷ b ∷ []) = tt
in_ranges command.Key (a ∷ b ∷ c ∷ []) = tt
in_ranges command.Key (a ∷ b ∷ c ∷ d ∷ words) = tt
in_ranges command.Pro [] = tt
in_ranges command.Pro (a ∷ []) = when_known (is_some (direction_named a)) _ (λ numbers. numbers ≡ []) refl
in_ranges command.Pro (a ∷ b ∷ []) = tt
in_ranges command.Pro (a ∷ b ∷ c ∷ []) = tt
in_ranges command.Pro (a ∷ b ∷ c ∷ d ∷ words) = tt
in_ranges command.Input [] = tt
in_ranges command.Input (a ∷ []) = tt
in_ranges command.Input (a ∷ b ∷ []) = refl
in_ranges command.Input (a ∷ b ∷ c ∷ []) = tt
in_ranges command.Input (a ∷ b ∷ c ∷ d ∷ words) = tt
in_ranges command.Pulse [] = tt
in_ranges command.Pulse (a ∷ []) = tt
in_ranges command.Pulse (a ∷ b ∷ []) = when_known (is_some (pulse_named b)) _ (λ numbers. numbers ≡ numeral a counters ∷ []) refl
in_ranges command.Pulse (a ∷ b ∷ c ∷ []) = tt
in_ranges command.Pulse (a ∷ b ∷ c ∷ d ∷ words) = tt
in_ranges command.Raise [] = tt
in_ranges command.Raise (a ∷ []) = refl
in_ranges command.Raise (a ∷ b ∷ []) = tt
in_ranges command.Raise (a ∷ b ∷ c ∷ []) = tt
in_ranges command.Raise (a ∷ b ∷ c ∷ d ∷ words) = tt
in_ranges command.Poke [] = tt
in_ranges command.Poke (a ∷ []) = tt
in_ranges command.Poke (a ∷ b ∷ []) = tt
in_ranges command.Poke (a ∷ b ∷ c ∷ []) = refl
in_ranges command.Poke (a ∷ b ∷ c ∷ d ∷ words) = tt
