-- The text of a rope file that was read to its end.
use Rattle.std.proofs.Common.{◌≡◌, ℕ, List, ◌∙◌, ap, subst}
use Rattle.std.specs.Prelude.{Bool, Option, None, Some, IfSome}
use Rattle.std.specs.declared.alloc.Global.{Global}
use Rattle.std.specs.declared.string.String.{String}
use Rattle.agc_word.specs.Number.{Number}
use Rattle.agc_store.specs.RopeFile.{rope_words}
use Rattle.agc_store.specs.declared.rope_file.RopeForm.{RopeForm}
use Rattle.agc_listing.specs.Laws.{AreRopeWords}
use Rattle.agc_asm.specs.Laws.{WeavesTo}
use Rattle.agc_encode.specs.Disassemble.{rope_source}
use Rattle.agc_load.specs.Options.{parsed_by}
use Rattle.agc_study_args.specs.RopeRead.{rope_refusal}
use Rattle.agc_study_args.specs.declared.args.ListArgs.{ListArgs}
use Rattle.agc_study_args.specs.declared.args.ListStyle.{ListStyle}
use Rattle.agc_study_args.specs.declared.args.ListStyle.TheVariants as style
use Rattle.agc_trace.specs.declared.line_form.LineForm.{LineForm}
use Rattle.agc_rope_commands.specs.Listed.{IsListText, IsSource, IsStyledText, bank_named, lines_of_words}

-- no bank is requested if `--bank` is not given
no_bank : (bank : Option (String Global)) (wanted : Option ℕ) → wanted ≡ parsed_by bank_named bank → bank ≡ None → wanted ≡ None
no_bank bank wanted is none = is ∙ ap (parsed_by bank_named) none

source_of : (ignores : Bool) (form : RopeForm) (bank : Option (String Global)) (wanted : Option ℕ) (known : Option (List ℕ)) (rope fixed : List Number) (text : List ℕ)
    → wanted ≡ parsed_by bank_named bank → ((file : List ℕ) → AreRopeWords (rope_words form file)) → fixed ≡ rope
    → IfSome known (λ file. rope ≡ rope_words form file) → IfSome known (λ file. rope_refusal ignores form file ≡ None) → text ≡ rope_source wanted fixed
    → (wanted ≡ None → AreRopeWords fixed → WeavesTo fixed text) → IfSome known (λ file. IsSource ignores form bank file text)
source_of ignores form bank wanted None rope fixed text is law stored words accepted source weaves = tt
source_of ignores form bank wanted (Some file) rope fixed text is law stored words accepted source weaves =
    let same : fixed ≡ rope_words form file = stored ∙ words in
    record {
      rope = accepted;
      source = source ∙ ap (λ (chosen : Option ℕ). rope_source chosen fixed) is ∙ ap (rope_source (parsed_by bank_named bank)) same;
      weaves = λ none. subst (λ (all : List Number). WeavesTo all text) same (weaves (no_bank bank wanted is none) (rw same (law file)));
    }

lines_of : (args : ListArgs) (form : LineForm) (wanted : Option ℕ) (known : Option (List ℕ)) (rope fixed : List Number) (text : List ℕ)
    → wanted ≡ parsed_by bank_named args.bank → fixed ≡ rope
    → IfSome known (λ file. rope ≡ rope_words args.form file) → IfSome known (λ file. rope_refusal args.ignores_parity args.form file ≡ None)
    → text ≡ lines_of_words form.names form.channels wanted fixed → IfSome known (λ file. IsListText args style.Lines form file text)
lines_of args form wanted None rope fixed text is stored words accepted shown = tt
lines_of args form wanted (Some file) rope fixed text is stored words accepted shown = record {
  rope = accepted;
  listed =
      shown ∙ ap (λ (chosen : Option ℕ). lines_of_words form.names form.channels chosen fixed) is
      ∙ ap (λ (all : List Number). lines_of_words form.names form.channels (parsed_by bank_named args.bank) all) (stored ∙ words);
}

page_of : (args : ListArgs) (form : LineForm) (known : Option (List ℕ)) (text : List ℕ)
    → IfSome known (λ file. IsListText args style.Yul form file text)
page_of args form None text = tt
page_of args form (Some file) text = tt

-- the text of the words of a file in a style
pub list_text : (args : ListArgs) (form : LineForm) (style : ListStyle) (wanted : Option ℕ) (known : Option (List ℕ)) (rope fixed : List Number) (text : List ℕ)
    → wanted ≡ parsed_by bank_named args.bank → ((file : List ℕ) → AreRopeWords (rope_words args.form file)) → fixed ≡ rope
    → IfSome known (λ file. rope ≡ rope_words args.form file) → IfSome known (λ file. rope_refusal args.ignores_parity args.form file ≡ None)
    → IsStyledText style wanted form fixed text → IfSome known (λ file. IsListText args style form file text)
list_text args form style.Lines wanted known rope fixed text is law stored words accepted shown =
    lines_of args form wanted known rope fixed text is stored words accepted shown
list_text args form style.Source wanted known rope fixed text is law stored words accepted shown =
    source_of args.ignores_parity args.form args.bank wanted known rope fixed text is law stored words accepted shown.0 shown.1
list_text args form style.Yul wanted known rope fixed text is law stored words accepted shown = page_of args form known text
