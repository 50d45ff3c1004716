-- The mnemonics of orders and directives.
use Rattle.std.specs.Prelude.{ℕ, Bool, List, [], ◌∷◌, ◌||◌, Option, find, is_some, codes}
use Rattle.std.specs.Str.{bytes_eq}
use Rattle.agc_order.specs.Row.{all_basics, all_extracodes, basic_row, extracode_row}
use Rattle.agc_order.specs.declared.order.Basic.{Basic}
use Rattle.agc_order.specs.declared.order.Extracode.{Extracode}
use Rattle.agc_vocabulary.specs.declared.mnemonic.Directive.{Directive}
use Rattle.agc_vocabulary.specs.declared.mnemonic.Directive.TheVariants as directive

-- the orders by the mnemonics of listings
unfoldable pub basic_named : List ℕ → Option Basic
basic_named name = find (λ order. bytes_eq (basic_row order).mnemonic name) all_basics

unfoldable pub extracode_named : List ℕ → Option Extracode
extracode_named name = find (λ order. bytes_eq (extracode_row order).mnemonic name) all_extracodes

-- the directives
unfoldable pub directive_name : Directive → List ℕ
directive_name directive.SetLoc = codes "SETLOC"
directive_name directive.Bank = codes "BANK"
directive_name directive.Block = codes "BLOCK"
directive_name directive.Oct = codes "OCT"
directive_name directive.Octal = codes "OCTAL"
directive_name directive.Dec = codes "DEC"
directive_name directive.DecStarred = codes "DEC*"
directive_name directive.PairOct = codes "2OCT"
directive_name directive.PairDec = codes "2DEC"
directive_name directive.PairDecStarred = codes "2DEC*"
directive_name directive.Adres = codes "ADRES"
directive_name directive.Remadr = codes "REMADR"
directive_name directive.Genadr = codes "GENADR"
directive_name directive.Cadr = codes "CADR"
directive_name directive.Fcadr = codes "FCADR"
directive_name directive.Ecadr = codes "ECADR"
directive_name directive.Bbcon = codes "BBCON"
directive_name directive.PairCadr = codes "2CADR"
directive_name directive.VerbNoun = codes "VN"
directive_name directive.MajorMode = codes "MM"
directive_name directive.Is = codes "="
directive_name directive.Equals = codes "EQUALS"
directive_name directive.Erase = codes "ERASE"
directive_name directive.Ebank = codes "EBANK="
directive_name directive.Sbank = codes "SBANK="
directive_name directive.Count = codes "COUNT"
directive_name directive.CountStarred = codes "COUNT*"
directive_name directive.Memory = codes "MEMORY"
directive_name directive.BankSum = codes "BNKSUM"
directive_name directive.PairFcadr = codes "2FCADR"
directive_name directive.NounVerb = codes "NV"
directive_name directive.BbconStarred = codes "BBCON*"
directive_name directive.Dnadr1 = codes "1DNADR"
directive_name directive.Dnadr2 = codes "2DNADR"
directive_name directive.Dnadr3 = codes "3DNADR"
directive_name directive.Dnadr4 = codes "4DNADR"
directive_name directive.Dnadr5 = codes "5DNADR"
directive_name directive.Dnadr6 = codes "6DNADR"
directive_name directive.Dnptr = codes "DNPTR"
directive_name directive.Dnchan = codes "DNCHAN"
directive_name directive.IsMinus = codes "=MINUS"
directive_name directive.IsEcadr = codes "=ECADR"
directive_name directive.Subro = codes "SUBRO"
directive_name directive.Check = codes "CHECK="

unfoldable pub all_directives : List Directive
all_directives =
    directive.SetLoc ∷ directive.Bank ∷ directive.Block ∷ directive.Oct ∷ directive.Octal ∷
    directive.Dec ∷ directive.DecStarred ∷ directive.PairOct ∷ directive.PairDec ∷
    directive.PairDecStarred ∷ directive.Adres ∷ directive.Remadr ∷ directive.Genadr ∷
    directive.Cadr ∷ directive.Fcadr ∷ directive.Ecadr ∷ directive.Bbcon ∷ directive.PairCadr ∷
    directive.VerbNoun ∷ directive.MajorMode ∷ directive.Is ∷ directive.Equals ∷ directive.Erase ∷
    directive.Ebank ∷ directive.Sbank ∷ directive.Count ∷ directive.CountStarred ∷
    directive.Memory ∷ directive.BankSum ∷ directive.PairFcadr ∷ directive.NounVerb ∷ directive.BbconStarred ∷ directive.Dnadr1 ∷ directive.Dnadr2 ∷ directive.Dnadr3 ∷ directive.Dnadr4 ∷ directive.Dnadr5 ∷ directive.Dnadr6 ∷ directive.Dnptr ∷ directive.Dnchan ∷ directive.IsMinus ∷ directive.IsEcadr ∷ directive.Subro ∷ directive.Check ∷ []

unfoldable pub directive_named : List ℕ → Option Directive
directive_named name = find (λ d. bytes_eq (directive_name d) name) all_directives

-- whether a word is the mnemonic of an order, basic or extracode
abbrev pub is_order : List ℕ → Bool
is_order name = is_some (basic_named name) || is_some (extracode_named name)
