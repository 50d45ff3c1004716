-- The words of short texts.
use Rattle.std.specs.Prelude.{◌≡◌, ℕ, List, [], ◌∷◌, codes, position, take}
use Rattle.std.proofs.Common.{refl, sym, ne_eqb}
use Rattle.agc_word.specs.Text.{words_of}
use Rattle.agc_listing.specs.Text.{parsed_by}
use Rattle.agc_vocabulary.specs.Body.{alias_operand, is_hash_byte, operand_spelled, tokens, uncommented}
use Rattle.agc_vocabulary.specs.declared.alias.Alias.{Alias}
use Rattle.agc_vocabulary.specs.declared.alias.Alias.TheVariants as alias
use Rattle.std.specs.Prelude.{Some}

pub no_tokens : tokens [] ≡ []
unfolding tokens uncommented parsed_by words_of
no_tokens = refl

pub zero_token : tokens (codes "0") ≡ codes "0" ∷ []
unfolding tokens uncommented parsed_by words_of
zero_token = refl

pub equals_token : tokens (codes "=") ≡ codes "=" ∷ []
unfolding tokens uncommented parsed_by words_of
equals_token = refl

pub three_tokens : tokens (codes "0 0 0") ≡ codes "0" ∷ codes "0" ∷ codes "0" ∷ []
unfolding tokens uncommented parsed_by words_of
three_tokens = refl

-- the operand of an alias is one word
pub operand_token : (a : Alias) (operand : List ℕ) → alias_operand a ≡ Some operand → tokens operand ≡ operand ∷ []
unfolding tokens uncommented parsed_by words_of alias_operand
operand_token alias.Caf operand is = absurd cc
operand_token alias.Cae operand is = absurd cc
operand_token alias.Tcr operand is = absurd cc
operand_token alias.Ndx operand is = absurd cc
operand_token alias.Msk operand is = absurd cc
operand_token alias.Noop operand is = let same : codes "+1" ≡ operand = cc in rw (← same) refl
operand_token alias.Ovsk operand is = let same : codes "0" ≡ operand = cc in rw (← same) refl
operand_token alias.Return operand is = let same : codes "2" ≡ operand = cc in rw (← same) refl
operand_token alias.Xxalq operand is = let same : codes "0" ≡ operand = cc in rw (← same) refl
operand_token alias.Xlq operand is = let same : codes "1" ≡ operand = cc in rw (← same) refl
operand_token alias.Tcaa operand is = let same : codes "5" ≡ operand = cc in rw (← same) refl
operand_token alias.Dtcb operand is = let same : codes "5" ≡ operand = cc in rw (← same) refl
operand_token alias.Dtcf operand is = let same : codes "4" ≡ operand = cc in rw (← same) refl
operand_token alias.Zl operand is = let same : codes "7" ≡ operand = cc in rw (← same) refl
operand_token alias.Zq operand is = let same : codes "7" ≡ operand = cc in rw (← same) refl
operand_token alias.Com operand is = let same : codes "0" ≡ operand = cc in rw (← same) refl
operand_token alias.Dcom operand is = let same : codes "0" ≡ operand = cc in rw (← same) refl
operand_token alias.Double operand is = let same : codes "0" ≡ operand = cc in rw (← same) refl
operand_token alias.Ddoubl operand is = let same : codes "0" ≡ operand = cc in rw (← same) refl
operand_token alias.Square operand is = let same : codes "0" ≡ operand = cc in rw (← same) refl

-- a comment within a word
nothing_parsed : parsed_by [] ≡ []
unfolding parsed_by words_of
nothing_parsed = refl

pub cut_token : (text word rest : List ℕ) (at : ℕ) → parsed_by text ≡ word ∷ parsed_by rest → position is_hash_byte word ≡ Some at → (at ≡ 0 → ⊥) → tokens text ≡ take at word ∷ tokens []
unfolding tokens uncommented
cut_token text word rest at parsed hash some = rw (parsed, hash, ne_eqb at 0 some) (rw nothing_parsed refl)

-- an alias with an operand of its own, and with one that it does not take
pub alone : (a : Alias) (operand bytes : List ℕ) (rest : List (List ℕ)) → Some operand ≡ alias_operand a → bytes ≡ operand → rest ≡ [] → tokens bytes ≡ operand_spelled (alias_operand a) rest
alone a operand bytes rest is same none = rw (sym is, same, none) (operand_token a operand (sym is))

pub not_wanted : (a : Alias) (operand word : List ℕ) (words rest : List (List ℕ)) → Some operand ≡ alias_operand a → rest ≡ word ∷ words → tokens (codes "0 0 0") ≡ operand_spelled (alias_operand a) rest
not_wanted a operand word words rest is more = rw (sym is, more) three_tokens
