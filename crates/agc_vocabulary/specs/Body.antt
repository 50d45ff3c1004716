-- What a line of a source does: its operation and operands, without its name and its comment.
use Rattle.std.specs.Prelude.{ℕ, ◌==◌, Bool, true, false, not, ◌&&◌, ◌||◌, List, [], ◌∷◌, take, position, find, codes}
use Rattle.std.specs.Prelude.{Option, Some, None, is_some, if◌then◌else◌}
use Rattle.std.specs.List.{list_any}
use Rattle.std.specs.Str.{bytes_eq}
use Rattle.agc_listing.specs.Line.{is_no_text}
use Rattle.agc_listing.specs.Number.{begins_with_minus, offset_parsed}
use Rattle.agc_listing.specs.Text.{body_of, label_of, parsed_by}
use Rattle.agc_vocabulary.specs.Mnemonic.{directive_named, is_order}
use Rattle.agc_vocabulary.specs.declared.alias.Alias.{Alias}
use Rattle.agc_vocabulary.specs.declared.alias.Alias.TheVariants as alias
use Rattle.agc_vocabulary.specs.declared.mnemonic.Directive.{Directive}
use Rattle.agc_vocabulary.specs.declared.mnemonic.Directive.TheVariants as directive

-- `$FILE` in the first column reads another file
abbrev pub is_include : List ℕ → Bool
is_include [] = false
is_include (b ∷ bs) = b == 0x24

-- a comment begins at `#`, also within a word
abbrev pub is_hash_byte : ℕ → Bool
is_hash_byte b = b == 0x23

abbrev pub comment_cut : Option ℕ → List ℕ → List (List ℕ) → List (List ℕ)
comment_cut (Some at) word words = if at == 0 then [] else take at word ∷ []
comment_cut None word words = word ∷ words

unfoldable pub uncommented : List (List ℕ) → List (List ℕ)
uncommented [] = []
uncommented (word ∷ words) = comment_cut (position is_hash_byte word) word (uncommented words)

-- the words of a text before its comment
unfoldable pub tokens : List ℕ → List (List ℕ)
tokens text = uncommented (parsed_by text)

-- Comments may have any bytes. A line whose comment has a byte that is not text is read without its comment.
abbrev pub cut_at : Option ℕ → List ℕ → List ℕ
cut_at (Some at) line = take at line
cut_at None line = line

unfoldable pub code_of : List ℕ → List ℕ
code_of line = cut_at (position is_hash_byte line) line

unfoldable pub has_non_ascii_comment : List ℕ → Bool
has_non_ascii_comment line = list_any is_no_text line && not (list_any is_no_text (code_of line))

unfoldable pub plain_line : List ℕ → List ℕ
plain_line line = if has_non_ascii_comment line then code_of line else line

-- In a line without a name, a sign and digits before the operation mean nothing: they say how far the line is from a
-- name.
abbrev pub without_adornment : List (List ℕ) → List (List ℕ)
without_adornment [] = []
without_adornment (word ∷ words) = if is_some (offset_parsed word) then words else word ∷ words

-- So they are no name in the first column either.
abbrev pub unless_offset : Option (List ℕ) → Option (List ℕ)
unless_offset (Some word) = if is_some (offset_parsed word) then None else Some word
unless_offset None = None

-- the name of a line: the word in its first column, unless it is a sign and digits
unfoldable pub line_label : List ℕ → Option (List ℕ)
line_label line = unless_offset (label_of line)

-- Other names of orders, some with an operand of their own.

unfoldable pub alias_name : Alias → List ℕ
alias_name alias.Caf = codes "CAF"
alias_name alias.Cae = codes "CAE"
alias_name alias.Tcr = codes "TCR"
alias_name alias.Ndx = codes "NDX"
alias_name alias.Msk = codes "MSK"
alias_name alias.Noop = codes "NOOP"
alias_name alias.Ovsk = codes "OVSK"
alias_name alias.Return = codes "RETURN"
alias_name alias.Xxalq = codes "XXALQ"
alias_name alias.Xlq = codes "XLQ"
alias_name alias.Tcaa = codes "TCAA"
alias_name alias.Dtcb = codes "DTCB"
alias_name alias.Dtcf = codes "DTCF"
alias_name alias.Zl = codes "ZL"
alias_name alias.Zq = codes "ZQ"
alias_name alias.Com = codes "COM"
alias_name alias.Dcom = codes "DCOM"
alias_name alias.Double = codes "DOUBLE"
alias_name alias.Ddoubl = codes "DDOUBL"
alias_name alias.Square = codes "SQUARE"

unfoldable pub all_aliases : List Alias
all_aliases =
    alias.Caf ∷ alias.Cae ∷ alias.Tcr ∷ alias.Ndx ∷ alias.Msk ∷ alias.Noop ∷ alias.Ovsk ∷
    alias.Return ∷ alias.Xxalq ∷ alias.Xlq ∷ alias.Tcaa ∷ alias.Dtcb ∷ alias.Dtcf ∷ alias.Zl ∷
    alias.Zq ∷ alias.Com ∷ alias.Dcom ∷ alias.Double ∷ alias.Ddoubl ∷ alias.Square ∷ []

unfoldable pub alias_named : List ℕ → Option Alias
alias_named name = find (λ a. bytes_eq (alias_name a) name) all_aliases

-- the order of each
unfoldable pub alias_order : Alias → List ℕ
alias_order alias.Caf = codes "CA"
alias_order alias.Cae = codes "CA"
alias_order alias.Tcr = codes "TC"
alias_order alias.Ndx = codes "INDEX"
alias_order alias.Msk = codes "MASK"
alias_order alias.Noop = codes "TCF"
alias_order alias.Ovsk = codes "TS"
alias_order alias.Return = codes "TC"
alias_order alias.Xxalq = codes "TC"
alias_order alias.Xlq = codes "TC"
alias_order alias.Tcaa = codes "TS"
alias_order alias.Dtcb = codes "DXCH"
alias_order alias.Dtcf = codes "DXCH"
alias_order alias.Zl = codes "LXCH"
alias_order alias.Zq = codes "QXCH"
alias_order alias.Com = codes "CS"
alias_order alias.Dcom = codes "DCS"
alias_order alias.Double = codes "AD"
alias_order alias.Ddoubl = codes "DAS"
alias_order alias.Square = codes "MP"

-- its operand, if it takes none in the source: an address, or for NOOP the next place
unfoldable pub alias_operand : Alias → Option (List ℕ)
alias_operand alias.Caf = None
alias_operand alias.Cae = None
alias_operand alias.Tcr = None
alias_operand alias.Ndx = None
alias_operand alias.Msk = None
alias_operand alias.Noop = Some (codes "+1")
alias_operand alias.Ovsk = Some (codes "0")
alias_operand alias.Return = Some (codes "2")
alias_operand alias.Xxalq = Some (codes "0")
alias_operand alias.Xlq = Some (codes "1")
alias_operand alias.Tcaa = Some (codes "5")
alias_operand alias.Dtcb = Some (codes "5")
alias_operand alias.Dtcf = Some (codes "4")
alias_operand alias.Zl = Some (codes "7")
alias_operand alias.Zq = Some (codes "7")
alias_operand alias.Com = Some (codes "0")
alias_operand alias.Dcom = Some (codes "0")
alias_operand alias.Double = Some (codes "0")
alias_operand alias.Ddoubl = Some (codes "0")
alias_operand alias.Square = Some (codes "0")

-- A name alone on its line stands for the next line's location, as before `=`; but not the name of an order or a
-- directive, before which a blank is missing.
abbrev pub is_operation : List ℕ → Bool
is_operation word = is_order word || is_some (alias_named word) || is_some (directive_named word)

abbrev pub named_alone : List ℕ → List (List ℕ)
named_alone label = if is_some (offset_parsed label) || is_operation label then [] else codes "=" ∷ []

abbrev pub body_by : Option (List ℕ) → List (List ℕ) → List (List ℕ)
body_by (Some label) [] = named_alone label
body_by (Some label) (word ∷ words) = word ∷ words
body_by None words = without_adornment words

unfoldable pub body_in : List ℕ → List (List ℕ)
body_in line = body_by (label_of line) (uncommented (body_of line))

-- directives that write no word, so that there is nothing to complement
abbrev pub writes_nothing : Option Directive → Bool
writes_nothing (Some directive.SetLoc) = true
writes_nothing (Some directive.Bank) = true
writes_nothing (Some directive.Block) = true
writes_nothing (Some directive.Is) = true
writes_nothing (Some directive.Equals) = true
writes_nothing (Some directive.Erase) = true
writes_nothing (Some directive.Ebank) = true
writes_nothing (Some directive.Sbank) = true
writes_nothing (Some directive.Count) = true
writes_nothing (Some directive.CountStarred) = true
writes_nothing (Some directive.Memory) = true
writes_nothing (Some directive.BankSum) = true
writes_nothing (Some directive.IsMinus) = true
writes_nothing (Some directive.IsEcadr) = true
writes_nothing (Some directive.Subro) = true
writes_nothing (Some directive.Check) = true
writes_nothing d = false

-- a minus before an operation that writes words is no part of its name
abbrev pub without_minus : List ℕ → List ℕ
without_minus [] = []
without_minus (b ∷ bs) = if b == 0x2D && not (writes_nothing (directive_named bs)) then bs else b ∷ bs

abbrev pub has_minus : List (List ℕ) → Bool
has_minus [] = false
has_minus (word ∷ words) = begins_with_minus word

abbrev pub alias_in : List (List ℕ) → Option Alias
alias_in [] = None
alias_in (word ∷ words) = alias_named (without_minus word)

-- An order that has its operand takes no other: with one it has too many, and is refused for that.
abbrev pub operand_spelled : Option (List ℕ) → List (List ℕ) → List (List ℕ)
operand_spelled None words = words
operand_spelled (Some operand) [] = operand ∷ []
operand_spelled (Some operand) (word ∷ words) = codes "0" ∷ codes "0" ∷ codes "0" ∷ []

abbrev pub spelled_by : Option Alias → List ℕ → List (List ℕ) → List (List ℕ)
spelled_by (Some a) word words = alias_order a ∷ operand_spelled (alias_operand a) words
spelled_by None word words = word ∷ words

-- the words of a line with the order's own name and operand, and without the minus before it
unfoldable pub spelled : List (List ℕ) → List (List ℕ)
spelled [] = []
spelled (word ∷ words) = spelled_by (alias_named (without_minus word)) (without_minus word) words
