-- The words of the names that stand for an order with its operand.
use Rattle.std.specs.Prelude.{ℕ, Bool, true, false, Option, Some, None}
use Rattle.agc_vocabulary.specs.declared.alias.Alias.{Alias}
use Rattle.agc_vocabulary.specs.declared.alias.Alias.TheVariants as alias

abbrev pub alias_word : Alias → Option ℕ
alias_word alias.Xxalq = Some 0o00000
alias_word alias.Xlq = Some 0o00001
alias_word alias.Return = Some 0o00002
alias_word alias.Ddoubl = Some 0o20001
alias_word alias.Zl = Some 0o22007
alias_word alias.Zq = Some 0o22007
alias_word alias.Com = Some 0o40000
alias_word alias.Dcom = Some 0o40001
alias_word alias.Dtcf = Some 0o52005
alias_word alias.Dtcb = Some 0o52006
alias_word alias.Ovsk = Some 0o54000
alias_word alias.Tcaa = Some 0o54005
alias_word alias.Double = Some 0o60000
alias_word alias.Square = Some 0o70000
alias_word a = None

-- which of these names are extracodes
abbrev pub is_extracode_alias : Alias → Bool
is_extracode_alias alias.Zq = true
is_extracode_alias alias.Dcom = true
is_extracode_alias alias.Square = true
is_extracode_alias a = false
