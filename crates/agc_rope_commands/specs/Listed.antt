-- What `list` and `weave` print for their files, and how they reject them.
use Rattle.std.specs.Prelude.{◌≡◌, ◌≤◌, ℕ, Bool, false, true, nat_le, length, List, ◌++◌, codes, Option, Some, None, Err}
use Rattle.std.specs.Prelude.{if◌then◌else◌, IfSome}
use Rattle.std.specs.Fmt.{decimal}
use Rattle.std.specs.declared.alloc.Global.{Global}
use Rattle.std.specs.declared.string.String.{String}
use Rattle.agc_word.specs.Numeral.{octal_number}
use Rattle.agc_word.specs.Octal.{word_digits}
use Rattle.agc_store.specs.RopeFile.{rope_words}
use Rattle.agc_store.specs.declared.rope_file.RopeForm.{RopeForm}
use Rattle.agc_word.specs.Number.{Number}
use Rattle.agc_listing.specs.Laws.{AreRopeWords}
use Rattle.agc_listing.specs.List.{rope_text}
use Rattle.agc_listing.specs.Order.{order_text}
use Rattle.agc_encode.specs.Disassemble.{rope_source}
use Rattle.agc_asm.specs.FaultText.{later_fault}
use Rattle.agc_asm.specs.Laws.{WeavesTo}
use Rattle.agc_listing_check.specs.MnemonicCheck.{is_extracode, misnamed_in, mnemonic_of}
use Rattle.agc_asm.specs.Source.{IsSourceWoven, source_in}
use Rattle.agc_listing_check.specs.declared.mnemonic_check.Misnamed.{Misnamed}
use Rattle.agc_asm.specs.declared.fault.AssemblyFault.{AssemblyFault}
use Rattle.agc_asm.specs.declared.fault.AssemblyFault.TheVariants as source
use Rattle.agc_study_args.specs.RopeRead.{reading_steps, rope_refusal}
use Rattle.agc_study_args.specs.declared.args.ListArgs.{ListArgs}
use Rattle.agc_study_args.specs.declared.args.ListStyle.{ListStyle}
use Rattle.agc_study_args.specs.declared.args.ListStyle.TheVariants as style
use Rattle.agc_symbols.specs.Channels.{ChannelSymbol}
use Rattle.agc_study_args.specs.NamedList.{named_rope_text}
use Rattle.agc_symbols.specs.Symbols.{Symbol}
use Rattle.agc_trace.specs.declared.line_form.LineForm.{LineForm}
use Rattle.agc_load.specs.Options.{parsed_by, says_nothing}
use Rattle.agc_load.specs.Steps.{IsOutcome}
use Rattle.agc_rope_commands.specs.declared.ropes.Woven.{Woven}
use Rattle.agc_run_commands.specs.declared.fault.AnalysisFault.{AnalysisFault}
use Rattle.agc_run_commands.specs.declared.fault.AnalysisFault.TheVariants as analysis

-- a bank that the rope has
abbrev pub bank_within : Option ℕ → Option ℕ
bank_within (Some bank) = if nat_le bank 0o43 then Some bank else None
bank_within None = None

-- the bank that one or two octal digits name
unfoldable pub bank_named : List ℕ → Option ℕ
bank_named text = bank_within (octal_number 2 text)

-- the text of a rope's words, with symbols if there are any
abbrev pub lines_of_words : Option (List Symbol) → List ChannelSymbol → Option ℕ → List Number → List ℕ
lines_of_words (Some names) channels bank words = named_rope_text names channels bank words
lines_of_words None channels bank words = rope_text bank words

-- a file is a rope file, and a text lists the rope's words, or those of the bank that `--bank` names, with these symbols
pub record IsListing (form : LineForm) (args : ListArgs) (file text : List ℕ) : Type 0 where
  pub rope : rope_refusal args.ignores_parity args.form file ≡ None
  pub listed : text ≡ lines_of_words form.names form.channels (parsed_by bank_named args.bank) (rope_words args.form file)

-- A file is a rope file, and a text is the source of its words, or of those of the bank that `--bank` names. The
-- source of a whole rope assembles to a rope with the same words.
pub record IsSource (ignores_parity : Bool) (form : RopeForm) (bank : Option (String Global))
    (file text : List ℕ) : Type 0 where
  pub rope : rope_refusal ignores_parity form file ≡ None
  pub source : text ≡ rope_source (parsed_by bank_named bank) (rope_words form file)
  pub weaves : bank ≡ None → WeavesTo (rope_words form file) text

-- a text shows these words in a style: lines with these symbols, or a source; a page is only shown
abbrev pub IsStyledText : ListStyle → Option ℕ → LineForm → List Number → List ℕ → Type 0
IsStyledText style.Lines bank form words text =
    text ≡ lines_of_words form.names form.channels bank words
IsStyledText style.Source bank form words text =
    (text ≡ rope_source bank words) × (bank ≡ None → AreRopeWords words → WeavesTo words text)
IsStyledText style.Yul bank form words text = Unit {0}

-- the text of a rope file in a style: its lines with these symbols, or its source; a page is only shown
abbrev pub IsListText : ListArgs → ListStyle → LineForm → List ℕ → List ℕ → Type 0
IsListText args style.Lines form file text = IsListing form args file text
IsListText args style.Source form file text =
    IsSource args.ignores_parity args.form args.bank file text
IsListText args style.Yul form file text = Unit {0}

-- the text of a rope was written, or a beginning of it, for the bytes that the rope's reader reports
pub record IsListWritten (Writes : Option (List ℕ) → Option (List ℕ) → List ℕ → Type 0)
    (args : ListArgs) (form : LineForm) (rope before after : Option (List ℕ)) : Type 0 where
  pub text : List ℕ
  pub listed : IfSome rope (λ file. IsListText args args.style form file text)
  pub written : Writes before after text

-- How `list` rejects a file, if its reader reports its bytes: first an invalid `--bank`, then the faults that `agc`
-- reports for the rope, which include out of memory, but not wrong parity that is ignored.
abbrev pub IsListRefused : ListArgs → Option (List ℕ) → AnalysisFault → Type 0
IsListRefused args known analysis.BadBankSpec = says_nothing bank_named args.bank ≡ true
IsListRefused args known (analysis.Refused r) =
    (says_nothing bank_named args.bank ≡ false)
    × IfSome known (λ file. IsOutcome (reading_steps args.ignores_parity args.form file) r)
IsListRefused args known t = ⊥

-- a text has at most 16,777,216 bytes and assembles to a file, and this is its first line with a mismatched mnemonic
pub record IsWoven (form : RopeForm) (text : List ℕ) (woven : Woven) : Type 0 where
  pub short : length text ≤ 16777216
  pub file : IsSourceWoven form text woven.bytes.items
  pub first : woven.misnamed ≡ misnamed_in text
  pub kept : woven.text.items ≡ text

-- the file of a text was written, or a beginning of it, for the bytes that the text's reader reports
pub record IsWeaveWritten (Writes : Option (List ℕ) → Option (List ℕ) → List ℕ → Type 0)
    (form : RopeForm) (known before after : Option (List ℕ)) : Type 0 where
  pub woven : Woven
  pub weaves : IfSome known (λ text. IsWoven form text woven)
  pub written : Writes before after woven.bytes.items

-- the remark on such a line: the order that its word encodes, and the mnemonic after it
abbrev pub misnamed_line : Misnamed → List ℕ
misnamed_line misnamed =
    codes "agc-study: text line " ++ decimal misnamed.line
    ++ codes ": the word " ++ word_digits misnamed.word
    ++ codes " is " ++ order_text (is_extracode misnamed.written) misnamed.word
    ++ codes ", not " ++ mnemonic_of misnamed.written ++ codes "\n"

-- a text has at most 16,777,216 bytes, and this is its first fault
pub record IsFaulty (text : List ℕ) (why : AssemblyFault) : Type 0 where
  pub short : length text ≤ 16777216
  pub fault : source_in text ≡ Err why

-- how `weave` rejects a text: a read failed, memory ran out, there are too many bytes, or a line is faulty
abbrev pub IsWeaveRefused : Option (List ℕ) → AnalysisFault → Type 0
IsWeaveRefused known analysis.CannotReadText = Unit {0}
IsWeaveRefused known (analysis.Text source.Memory) = Unit {0}
IsWeaveRefused known (analysis.Text (source.Line n why)) =
    IfSome known (λ text. IsFaulty text (source.Line n why))
IsWeaveRefused known (analysis.Text (source.Overlap n earlier)) =
    IfSome known (λ text. IsFaulty text (later_fault (source.Overlap n earlier)))
IsWeaveRefused known t = ⊥
