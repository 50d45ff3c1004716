-- The location counter is always in the rope or in erasable memory.
use Rattle.agc_encode.specs.UnknownOperation.{unknown_operation}
use Rattle.std.specs.Prelude.{◌≡◌, ℕ, ◌+◌, ◌<◌, ◌==◌, nat_le, nat_lt, Bool, true, false, ◌&&◌, ◌||◌, List, [], ◌∷◌, Option, Some, None, Result, Ok, Err, IfOk, if◌then◌else◌, position, take, drop}
use Rattle.std.proofs.Common.{refl, arith}
use Rattle.std.proofs.lemmas.Bool.Decides.{nat_tests}
use Rattle.agc_word.specs.Numeral.{octal_number}
use Rattle.agc_vocabulary.specs.Mnemonic.{directive_named, is_order}
use Rattle.agc_listing.specs.Number.{offset_parsed}
use Rattle.agc_listing.specs.Text.{only_of}
use Rattle.agc_vocabulary.specs.declared.source_fault.SourceFault.TheVariants as fault
use Rattle.agc_listing.specs.declared.location.Location.{Location}
use Rattle.agc_listing.specs.declared.location.Location.TheVariants as location
use Rattle.agc_vocabulary.specs.declared.mnemonic.Directive.{Directive}
use Rattle.agc_vocabulary.specs.declared.mnemonic.Directive.TheVariants as directive
use Rattle.agc_listing.specs.declared.number.Signed.{Signed}
use Rattle.agc_encode.specs.LineKind.{as_name, bank_in, bank_within, block_in, block_within, cells_by, cells_in, cut_range, is_dash, is_minus, moves_to, range_of, checks, kind_by, kind_of, stands_apart, stands_beside, stands_for, stands_for_cell}
use Rattle.agc_vocabulary.specs.Name.{Naming}
use Rattle.agc_encode.specs.Operand.{located, location_by, location_in, location_of, value_apart}
use Rattle.agc_vocabulary.specs.declared.source_fault.SourceFault.{SourceFault}
use Rattle.agc_encode.specs.declared.operand.Value.{Value}
use Rattle.agc_encode.specs.declared.line_kind.LineKind.{LineKind}
use Rattle.agc_encode.specs.declared.line_kind.LineKind.TheVariants as kind

-- a place is in the rope
abbrev pub IsInRope : Location → Type 0
IsInRope (location.Fixed place) = place < 0o110000
IsInRope (location.Erasable cell) = Unit {0}

-- and so is where a line goes
abbrev pub GoesIntoRope : LineKind → Type 0
GoesIntoRope (kind.Moves place) = IsInRope place
GoesIntoRope (kind.Bank bank) = bank < 36
GoesIntoRope s = Unit {0}

fixed_by : (place : ℕ) (inside : Bool) → nat_lt place 0o110000 ≡ inside → IfOk (if inside then Ok (location.Fixed place) else Err fault.NoSuchPlace) IsInRope
fixed_by place true is = grind (arith, nat_tests)
fixed_by place false is = tt

cell_by : (cell : ℕ) (inside : Bool) → IfOk (if inside then Ok (location.Erasable cell) else Err fault.NoSuchPlace) IsInRope
cell_by cell true = tt
cell_by cell false = tt

located_inside : (place : Option Location) → IfOk (located place) IsInRope
located_inside (Some (location.Fixed place)) = fixed_by place (nat_lt place 0o110000) refl
located_inside (Some (location.Erasable cell)) = cell_by cell (nat_lt cell 0o4000)
located_inside None = tt

value_inside : (v : Result Value SourceFault) → IfOk (location_by v) IsInRope
value_inside (Ok v) = located_inside (location_of v)
value_inside (Err why) = tt

-- the kinds of directives
moves_inside : (place : Result Location SourceFault) → IfOk place IsInRope → IfOk (moves_to place) GoesIntoRope
moves_inside (Ok place) h = h
moves_inside (Err why) h = tt

name_inside : (place : Result Location SourceFault) → IfOk (as_name place) GoesIntoRope
name_inside (Ok place) = tt
name_inside (Err why) = tt

beside_inside : (naming : Naming) (word : List ℕ) (by : Option Signed) → IfOk (stands_beside by naming word) GoesIntoRope
beside_inside naming word (Some by) = tt
beside_inside naming word None = name_inside (location_in naming (word ∷ []))

stands_inside : (naming : Naming) (words : List (List ℕ)) → IfOk (stands_for naming words) GoesIntoRope
stands_inside naming [] = tt
stands_inside naming (word ∷ []) = beside_inside naming word (offset_parsed word)
stands_inside naming (word ∷ by ∷ words) = name_inside (location_in naming (word ∷ by ∷ words))

apart_inside : (place : Result Location SourceFault) → IfOk (stands_apart place) GoesIntoRope
apart_inside (Ok place) = tt
apart_inside (Err why) = tt

checks_inside : (place : Result Location SourceFault) → IfOk (checks place) GoesIntoRope
checks_inside (Ok place) = tt
checks_inside (Err why) = tt

cell_inside : (place : Result Location SourceFault) → IfOk (stands_for_cell place) GoesIntoRope
cell_inside (Ok (location.Erasable cell)) = tt
cell_inside (Ok (location.Fixed place)) = tt
cell_inside (Err why) = tt

within_by : (bank : ℕ) (inside : Bool) → nat_le bank 0o43 ≡ inside → IfOk (if inside then Ok (kind.Bank bank) else Err fault.BadPlace) GoesIntoRope
within_by bank true is = grind (arith, nat_tests)
within_by bank false is = tt

bank_inside : (bank : Option ℕ) → IfOk (bank_within bank) GoesIntoRope
bank_inside (Some bank) = within_by bank (nat_le bank 0o43) refl
bank_inside None = tt

bank_words : (words : List (List ℕ)) → IfOk (bank_in words) GoesIntoRope
bank_words [] = tt
bank_words (word ∷ []) = bank_inside (octal_number 2 word)
bank_words (word ∷ more ∷ words) = tt

block_by : (bank : ℕ) (second third : Bool) → (bank == 2) ≡ second → (bank == 3) ≡ third → IfOk (if second || third then Ok (kind.Bank bank) else Err fault.BadPlace) GoesIntoRope
block_by bank true third is also = grind (arith, nat_tests)
block_by bank false true is also = grind (arith, nat_tests)
block_by bank false false is also = tt

block_inside : (bank : Option ℕ) → IfOk (block_within bank) GoesIntoRope
block_inside (Some bank) = block_by bank (bank == 2) (bank == 3) refl refl
block_inside None = tt

block_word : (word : Option (List ℕ)) → IfOk (block_in word) GoesIntoRope
block_word (Some word) = block_inside (octal_number 2 word)
block_word None = tt

range_by : (first end : ℕ) (inside : Bool) → IfOk (if inside then Ok (kind.Range first end) else Err fault.BadNumber) GoesIntoRope
range_by first end true = tt
range_by first end false = tt

range_inside : (first last : Option ℕ) → IfOk (range_of first last) GoesIntoRope
range_inside (Some first) (Some last) = range_by first (last + 1) (nat_le first last && nat_lt last 0o4000)
range_inside (Some first) None = tt
range_inside None last = tt

cut_inside : (at : Option ℕ) (word : List ℕ) → IfOk (cut_range at word) GoesIntoRope
cut_inside (Some at) word = range_inside (octal_number 6 (take at word)) (octal_number 6 (drop (at + 1) word))
cut_inside None word = tt

cells_signed : (minus : Bool) (count : ℕ) → IfOk (if minus then Err fault.BadNumber else Ok (kind.Cells count)) GoesIntoRope
cells_signed true count = tt
cells_signed false count = tt

cells_number : (number : Option Signed) (word : List ℕ) → IfOk (cells_by number word) GoesIntoRope
cells_number (Some n) word = cells_signed n.minus (n.magnitude + 1)
cells_number None word = cut_inside (position is_minus word) word

cells_dash : (dash : Bool) (first last : Option ℕ) → IfOk (if dash then range_of first last else Err fault.BadNumber) GoesIntoRope
cells_dash true first last = range_inside first last
cells_dash false first last = tt

cells_words : (words : List (List ℕ)) → IfOk (cells_in words) GoesIntoRope
cells_words [] = tt
cells_words (word ∷ []) = cells_number (offset_parsed word) word
cells_words (first ∷ dash ∷ []) = tt
cells_words (first ∷ dash ∷ last ∷ []) = cells_dash (is_dash dash) (octal_number 6 first) (octal_number 6 last)
cells_words (first ∷ dash ∷ last ∷ more ∷ words) = tt

order_shape : (order : Bool) (why : SourceFault) → IfOk (if order then Ok kind.Word else Err why) GoesIntoRope
order_shape true why = tt
order_shape false why = tt

shape_by_inside : (naming : Naming) (d : Option Directive) (word : List ℕ) (words : List (List ℕ)) → IfOk (kind_by naming d word words) GoesIntoRope
shape_by_inside naming None word words = order_shape (is_order word) (unknown_operation word)
shape_by_inside naming (Some directive.SetLoc) word words = moves_inside (location_in naming words) (value_inside (value_apart naming words))
shape_by_inside naming (Some directive.Bank) word words = bank_words words
shape_by_inside naming (Some directive.Block) word words = block_word (only_of words)
shape_by_inside naming (Some directive.Oct) word words = tt
shape_by_inside naming (Some directive.Octal) word words = tt
shape_by_inside naming (Some directive.Dec) word words = tt
shape_by_inside naming (Some directive.DecStarred) word words = tt
shape_by_inside naming (Some directive.PairOct) word words = tt
shape_by_inside naming (Some directive.PairDec) word words = tt
shape_by_inside naming (Some directive.PairDecStarred) word words = tt
shape_by_inside naming (Some directive.Adres) word words = tt
shape_by_inside naming (Some directive.Remadr) word words = tt
shape_by_inside naming (Some directive.Genadr) word words = tt
shape_by_inside naming (Some directive.Cadr) word words = tt
shape_by_inside naming (Some directive.Fcadr) word words = tt
shape_by_inside naming (Some directive.Ecadr) word words = tt
shape_by_inside naming (Some directive.Bbcon) word words = tt
shape_by_inside naming (Some directive.PairCadr) word words = tt
shape_by_inside naming (Some directive.VerbNoun) word words = tt
shape_by_inside naming (Some directive.MajorMode) word words = tt
shape_by_inside naming (Some directive.Is) word words = stands_inside naming words
shape_by_inside naming (Some directive.Equals) word words = stands_inside naming words
shape_by_inside naming (Some directive.Erase) word words = cells_words words
shape_by_inside naming (Some directive.Ebank) word words = tt
shape_by_inside naming (Some directive.Sbank) word words = tt
shape_by_inside naming (Some directive.Count) word words = tt
shape_by_inside naming (Some directive.CountStarred) word words = tt
shape_by_inside naming (Some directive.Memory) word words = tt
shape_by_inside naming (Some directive.BankSum) word words = tt
shape_by_inside naming (Some directive.PairFcadr) word words = tt
shape_by_inside naming (Some directive.NounVerb) word words = tt
shape_by_inside naming (Some directive.BbconStarred) word words = tt
shape_by_inside naming (Some directive.Dnadr1) word words = tt
shape_by_inside naming (Some directive.Dnadr2) word words = tt
shape_by_inside naming (Some directive.Dnadr3) word words = tt
shape_by_inside naming (Some directive.Dnadr4) word words = tt
shape_by_inside naming (Some directive.Dnadr5) word words = tt
shape_by_inside naming (Some directive.Dnadr6) word words = tt
shape_by_inside naming (Some directive.Dnptr) word words = tt
shape_by_inside naming (Some directive.Dnchan) word words = tt
shape_by_inside naming (Some directive.IsMinus) word words = apart_inside (location_in naming words)
shape_by_inside naming (Some directive.IsEcadr) word words = cell_inside (location_in naming words)
shape_by_inside naming (Some directive.Subro) word words = tt
shape_by_inside naming (Some directive.Check) word words = checks_inside (location_in naming words)

shape_inside : (naming : Naming) (words : List (List ℕ)) → IfOk (kind_of naming words) GoesIntoRope
shape_inside naming [] = tt
shape_inside naming (word ∷ words) = shape_by_inside naming (directive_named word) word words

-- where a line of a kind goes
pub goes_into_rope : (naming : Naming) (words : List (List ℕ)) (s : LineKind) → kind_of naming words ≡ Ok s → GoesIntoRope s
goes_into_rope naming words s is =
    let all = shape_inside naming words in
    rw is at all
