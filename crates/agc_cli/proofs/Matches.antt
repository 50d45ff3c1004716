-- What the matches of a command line contain, by their rows.
use Rattle.std.proofs.Common.{◌≡◌, ◌<◌, ◌^◌, ◌∙◌, ℕ, Bool, true, false, refl, ap, arith}
use Rattle.std.specs.Prelude.{Option, None, Some, Result, Ok, Err, option_map, option_and_then}
use Rattle.std.specs.Borrow.{Bor}
use Rattle.std.specs.Str.Parse.{IsNumeral, ParsesUnsigned, digits_value, without_leading_plus}
use Rattle.clap.specs.ValueTests.{accepts}
use Rattle.clap.specs.Words.{ReadsOne, Text, first_of, first_value, one_of, one_text, rows_of}
use Rattle.clap.specs.declared.parser.matches.Found.{Found}
use Rattle.clap.proofs.ValueTestLemmas.{accepts-Accepts, Accepts-accepts}
use Rattle.clap.proofs.WalkLemmas.{first_value-rows, one_text-rows}
use Rattle.agc_cli.specs.Parameters.{numbers}
use Rattle.agc_cli.specs.Values.{number_written}

-- the text of a parameter, by the rows of the matches
pub text_in_rows : (found : Found) (id : Text) (given : Option (Bor Text)) → option_map (λ s. s.now) given ≡ first_value found id
    → option_map (λ s. s.now) given ≡ first_of id (rows_of found)
text_in_rows found id given is = is ∙ first_value-rows found id

taken : (text : Text) → IsNumeral 10 (without_leading_plus text) → digits_value 10 (without_leading_plus text) < 2 ^ 64
    → accepts false numbers text ≡ true
taken text numeral small = Accepts-accepts false numbers text (numeral, small, omega arith, omega arith)

refused : (text : Text) → ¬ (IsNumeral 10 (without_leading_plus text) × (digits_value 10 (without_leading_plus text) < 2 ^ 64))
    → accepts false numbers text ≡ false
refused text not = go (accepts false numbers text) refl
  where
    go : (b : Bool) → accepts false numbers text ≡ b → accepts false numbers text ≡ false
    go false e = e
    go true e =
        let passed = accepts-Accepts false numbers text e in
        absurd (not (passed.0, passed.1))

module _ (E : Type 0) (gives : Text → Result ℕ E → Type 0) (parses : (text : Text) (r : Result ℕ E) → gives text r → ParsesUnsigned 64 10 text r) where
  number_of : (text : Text) (r : Option ℕ) → ReadsOne gives text r → r ≡ number_written text
  number_of text (Some n) h =
      let parsed = parses text (Ok n) h in
      rw (taken text parsed.0.0 parsed.0.1) (ap Some parsed.1)
  number_of text None h = rw (refused text (parses text (Err h.0) h.1)) refl

  -- the number of a parameter, by the rows of the matches
  pub number_in_rows : (found : Found) (id : Text) (r : Option ℕ) → (one_text found id ≡ None → r ≡ None)
      → ((text : Text) → one_text found id ≡ Some text → ReadsOne gives text r) → r ≡ option_and_then number_written (one_of id (rows_of found))
  number_in_rows found id r none value = go (one_text found id) refl ∙ ap (option_and_then number_written) (one_text-rows found id)
    where
      go : (o : Option Text) → one_text found id ≡ o → r ≡ option_and_then number_written (one_text found id)
      go None e = rw e (none e)
      go (Some text) e = rw e (number_of text r (value text e))
