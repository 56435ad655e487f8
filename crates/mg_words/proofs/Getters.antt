-- What the getters of matches read, by the rows.
use Rattle.std.proofs.Common.{◌≡◌, ◌∙◌, ℕ, Bool, true, false, refl, sym, ap, arith, List, [], Option, Some, None, Result, Ok, Err, option_map, codes}
use Rattle.std.specs.Prelude.{cond, unwrap_or}
use Rattle.std.specs.Option.{option_and_then, option_map_or}
use Rattle.std.specs.Str.{bytes_eq}
use Rattle.std.specs.Str.Parse.{ParsesUnsigned, digits_value, without_leading_plus}
use Rattle.clap.specs.Words.{Text, first_of, first_value, matched_of, one_text, raw_values, rows_of, ReadsOne}
use Rattle.clap.specs.ValueTests.{accepts}
use Rattle.clap.specs.declared.parser.matches.Found.{Found}
use Rattle.clap.specs.declared.builder.value_parser.ValueParser.TheVariants.{Unsigned}
use Rattle.clap.proofs.WalkLemmas.{first_value-rows, one_text-rows, raw_values-rows}
use Rattle.clap.proofs.ValueTestLemmas.{accepts-Accepts, Accepts-accepts}
use Rattle.mg_words.specs.Words.{flag_of, is_plain, is_plain_at, number_in, number_of, words_at}

pub flag-read : (found : Found) (name : Text) (got : Option Text) → got ≡ first_value found name → option_map_or (λ (text : Text). bytes_eq text (codes "true")) got false ≡ flag_of name (rows_of found)
flag-read found name got is = ap (λ (o : Option Text). option_map_or (λ (text : Text). bytes_eq text (codes "true")) o false) (is ∙ first_value-rows found name)

pub plain-read : (found : Found) (name : Text) (got : Option Text) → got ≡ first_value found name → option_map_or is_plain got true ≡ is_plain_at name (rows_of found)
plain-read found name got is = ap (λ (o : Option Text). option_map_or is_plain o true) (is ∙ first_value-rows found name)

pub words-read : (found : Found) (name : Text) (got : Option (List Text)) → got ≡ option_map raw_values (matched_of found name) → unwrap_or got [] ≡ words_at name (rows_of found)
words-read found name got is = ap (λ (o : Option (List Text)). unwrap_or o []) (is ∙ raw_values-rows found name)

number-good : (text : Text) → accepts false (Unsigned 0 4294967295) text ≡ true → number_in text ≡ Some (digits_value 10 (without_leading_plus text))
number-good text good = ap (λ (b : Bool). cond b (Some (digits_value 10 (without_leading_plus text))) None) good

number-bad : (text : Text) → accepts false (Unsigned 0 4294967295) text ≡ false → number_in text ≡ None
number-bad text bad = ap (λ (b : Bool). cond b (Some (digits_value 10 (without_leading_plus text))) None) bad

module _ {E : Type 0} (G : List ℕ → Result ℕ E → Type 0) (parses : (u : List ℕ) (x : Result ℕ E) → G u x → ParsesUnsigned 32 10 u x) where
  text-number : (text : Text) (got : Option ℕ) → ReadsOne G text got → got ≡ number_in text
  text-number text (Some v) read =
      let parsed = parses text (Ok v) read in
      let small = parsed.0.1 in
      ap Some parsed.1 ∙ sym (number-good text (Accepts-accepts false (Unsigned 0 4294967295) text (parsed.0.0, omega arith, omega arith, omega arith)))
  text-number text None read = sym (number-bad text (by (accepts false (Unsigned 0 4294967295) text) refl))
    where
      by : (b : Bool) → accepts false (Unsigned 0 4294967295) text ≡ b → b ≡ false
      by false is = refl
      by true is =
          let good = accepts-Accepts false (Unsigned 0 4294967295) text is in
          let most = good.3 in
          absurd (parses text (Err read.0) read.1 (good.0, omega arith))

  one-number : (one : Option Text) (got : Option ℕ) → (one ≡ None → got ≡ None) → ((text : Text) → one ≡ Some text → ReadsOne G text got) → got ≡ option_and_then number_in one
  one-number None got none some = none refl
  one-number (Some text) got none some = text-number text got (some text refl)

  pub number-read : (found : Found) (name : Text) (got : Option ℕ) → (one_text found name ≡ None → got ≡ None) → ((text : Text) → one_text found name ≡ Some text → ReadsOne G text got)
      → got ≡ number_of name (rows_of found)
  number-read found name got none some = one-number (one_text found name) got none some ∙ ap (option_and_then number_in) (one_text-rows found name)

pub word-read : (found : Found) (name : Text) (got : Option Text) → got ≡ first_value found name → unwrap_or got [] ≡ unwrap_or (first_of name (rows_of found)) []
word-read found name got is = ap (λ (o : Option Text). unwrap_or o []) (is ∙ first_value-rows found name)
