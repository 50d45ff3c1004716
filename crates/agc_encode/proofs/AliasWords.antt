-- The words of the names that stand for an order with its operand.
use Rattle.std.specs.Prelude.{◌≡◌, ℕ, [], ◌∷◌, Some, Ok}
use Rattle.std.proofs.Common.{refl}
use Rattle.agc_word.specs.Number.{number_from_pattern}
use Rattle.agc_word.specs.Numeral.{number_of}
use Rattle.agc_order.specs.Row.{all_basics, all_extracodes}
use Rattle.agc_listing.specs.Number.{count_named, offset_parsed}
use Rattle.agc_vocabulary.specs.Alias.{alias_word, is_extracode_alias}
use Rattle.agc_vocabulary.specs.Body.{alias_name, alias_named, alias_operand, alias_order, all_aliases, spelled}
use Rattle.agc_encode.specs.Encode.{encode_word}
use Rattle.agc_vocabulary.specs.Mnemonic.{all_directives, basic_named, directive_name, directive_named, extracode_named}
use Rattle.agc_vocabulary.specs.Name.{Naming}
use Rattle.agc_encode.specs.Row.{basic_word, extracode_word}
use Rattle.agc_vocabulary.specs.declared.alias.Alias.{Alias}
use Rattle.agc_vocabulary.specs.declared.alias.Alias.TheVariants as alias
use Rattle.agc_encode.specs.declared.encode.Banks.{Banks}

pub alias_words : (a : Alias) (bits : ℕ) → alias_word a ≡ Some bits → (naming : Naming) (here : ℕ) (banks : Banks)
    → encode_word naming here (is_extracode_alias a) banks (alias_name a ∷ []) ≡ Ok (number_from_pattern 15 bits)
unfolding encode_word spelled alias_name alias_named alias_operand alias_order all_aliases directive_named directive_name all_directives basic_named extracode_named all_basics all_extracodes basic_word extracode_word offset_parsed count_named number_of
alias_words alias.Caf bits is naming here banks = absurd cc
alias_words alias.Cae bits is naming here banks = absurd cc
alias_words alias.Tcr bits is naming here banks = absurd cc
alias_words alias.Ndx bits is naming here banks = absurd cc
alias_words alias.Msk bits is naming here banks = absurd cc
alias_words alias.Noop bits is naming here banks = absurd cc
alias_words alias.Ovsk bits is naming here banks = let same : 0o54000 ≡ bits = cc in rw (← same) refl
alias_words alias.Return bits is naming here banks = let same : 0o00002 ≡ bits = cc in rw (← same) refl
alias_words alias.Xxalq bits is naming here banks = let same : 0o00000 ≡ bits = cc in rw (← same) refl
alias_words alias.Xlq bits is naming here banks = let same : 0o00001 ≡ bits = cc in rw (← same) refl
alias_words alias.Tcaa bits is naming here banks = let same : 0o54005 ≡ bits = cc in rw (← same) refl
alias_words alias.Dtcb bits is naming here banks = let same : 0o52006 ≡ bits = cc in rw (← same) refl
alias_words alias.Dtcf bits is naming here banks = let same : 0o52005 ≡ bits = cc in rw (← same) refl
alias_words alias.Zl bits is naming here banks = let same : 0o22007 ≡ bits = cc in rw (← same) refl
alias_words alias.Zq bits is naming here banks = let same : 0o22007 ≡ bits = cc in rw (← same) refl
alias_words alias.Com bits is naming here banks = let same : 0o40000 ≡ bits = cc in rw (← same) refl
alias_words alias.Dcom bits is naming here banks = let same : 0o40001 ≡ bits = cc in rw (← same) refl
alias_words alias.Double bits is naming here banks = let same : 0o60000 ≡ bits = cc in rw (← same) refl
alias_words alias.Ddoubl bits is naming here banks = let same : 0o20001 ≡ bits = cc in rw (← same) refl
alias_words alias.Square bits is naming here banks = let same : 0o70000 ≡ bits = cc in rw (← same) refl
