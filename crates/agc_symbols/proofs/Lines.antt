-- A text's lines, one after the other; and a name's bytes as text.
use Rattle.std.proofs.Common.{◌≡◌, ℕ, ◌+◌, ◌<◌, true, false, Bool, List, [], ◌∷◌, suc, zero, sym, arith}
use Rattle.std.specs.Prelude.{Option, Ok, Err, not, ◌&&◌, ◌||◌, get_or}
use Rattle.std.specs.List.{list_any}
use Rattle.std.specs.Str.{IsUtf8}
use Rattle.std.proofs.lemmas.Bool.Decides.{nat_tests}
use Rattle.std.proofs.lemmas.Str.{IsUtf8-from_ascii}
use Rattle.agc_word.specs.Text.{lines_of}
use Rattle.agc_listing.specs.Line.{is_no_text}
use Rattle.agc_listing.specs.Text.{is_name}
use Rattle.agc_symbols.specs.Symbols.{Symbol, is_place_name, line_named, names_from, names_in, names_with}
use Rattle.agc_symbols.specs.declared.fault.NameFault.{NameFault}
use Rattle.agc_symbols.specs.declared.fault.SymbolTableFault.TheVariants as trouble

-- a line without a fault
pub next_named : (n : ℕ) (names : List Symbol) (line : List ℕ) (lines : List (List ℕ)) (parsed : Option Symbol) → line_named line ≡ Ok parsed
    → names_from n names (line ∷ lines) ≡ names_from (n + 1) (names_with names parsed) lines
unfolding names_from
next_named n names line lines parsed e = rw (e, names_from)

-- a faulty line
pub faulty_named : (text : List ℕ) (n : ℕ) (names : List Symbol) (line : List ℕ) (lines : List (List ℕ)) (why : NameFault)
    → names_from n names (line ∷ lines) ≡ names_from 1 [] (lines_of text) → line_named line ≡ Err why → names_in text ≡ Err (trouble.Line n why)
unfolding names_from names_in
faulty_named text n names line lines why same e = rw (← same, e, names_from)

-- no line is left
pub all_named : (text : List ℕ) (n : ℕ) (names : List Symbol) → names_from n names [] ≡ names_from 1 [] (lines_of text) → names_in text ≡ Ok names
unfolding names_from names_in
all_named text n names same = sym same

split_any : (b c : Bool) → (b || c) ≡ false → (b ≡ false) × (c ≡ false)
split_any b c e = grind (arith, nat_tests)

prints : (b : ℕ) → is_no_text b ≡ false → b < 128
prints b e = grind (arith, nat_tests)

text_is_ascii : (word : List ℕ) → list_any is_no_text word ≡ false → (i : ℕ) → get_or word i 0 < 128
text_is_ascii [] e i = omega arith
text_is_ascii (b ∷ bs) e zero = prints b (split_any (is_no_text b) (list_any is_no_text bs) e).0
text_is_ascii (b ∷ bs) e (suc i) = text_is_ascii bs (split_any (is_no_text b) (list_any is_no_text bs) e).1 i

split_both : (b c : Bool) → (b && not c) ≡ true → c ≡ false
split_both b c e = grind (arith, nat_tests)

-- a name is text
pub name_is_utf8 : (word : List ℕ) → is_place_name word ≡ true → IsUtf8 word
name_is_utf8 word e = IsUtf8-from_ascii word (text_is_ascii word (split_both (is_name word) (list_any is_no_text word) e))
