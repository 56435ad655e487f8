-- What is written under a name is what the values of that name say.
use Rattle.std.proofs.Common.{ℕ, suc, ◌≡◌, ◌==◌, List, [], ◌∷◌, Bool, true, false, Some, Ok, map, refl, ap, ◌∙◌, if◌then◌else◌, arith, codes, unwrap_or}
use Rattle.std.specs.Prelude.{ℤ, pos, negsuc, All}
use Rattle.std.specs.Fmt.{signed_decimal}
use Rattle.std.proofs.lemmas.Bool.Decides.{nat_tests}
use Rattle.std.proofs.lemmas.List.Elements.{All-head, All-tail}
use Rattle.mg_text.specs.Tree.{number, quoted, Fields, none, scalar, message}
use Rattle.mg_text.specs.View.{simple}
use Rattle.mg_names.specs.Ports.{text_of}
use Rattle.mg_names.proofs.TagIndexes.{tag_index_back}
use Rattle.mg_names.specs.declared.port.Port.{Port}
use Rattle.mg_config.specs.Values.{entry, entries, first, text_of_value, text_of_first, number_of_first, text_in, fields_of_value, message_of_first, joined}
use Rattle.mg_config.specs.Number.{number_of}
use Rattle.mg_config.specs.Path.{numbered, result_within, then_do}
use Rattle.mg_config.specs.Config.{mark_by, marks_from}
use Rattle.mg_config.specs.Sound.{IsMark}
use Rattle.mg_config.specs.Written.{text_field, number_field, port_fields, mark_entry, mark_fields, handler_field, options_field}
use Rattle.mg_config.specs.declared.mark.Mark.{Mark}
use Rattle.mg_text.proofs.Appending.{append_none}
use Rattle.mg_config.proofs.Pieces.{values, all_named}

-- the fields have the name that they are written under
pub text_named : (name text : List ℕ) → text_field name text ≡ all_named name (values (text_field name text))
text_named name [] = refl
text_named name (b ∷ text) = refl

pub number_named : (name : List ℕ) (n : ℤ) → number_field name n ≡ all_named name (values (number_field name n))
number_named name (negsuc n) = refl
number_named name (pos n) = by (n == 0)
  where
    by : (zero : Bool) → (if zero then [] else entry name (simple number (signed_decimal (pos n))) ∷ []) ≡ all_named name (values (if zero then [] else entry name (simple number (signed_decimal (pos n))) ∷ []))
    by true = refl
    by false = refl

pub ports_named : (name : List ℕ) (ports : List Port) → port_fields name ports ≡ all_named name (values (port_fields name ports))
ports_named name [] = refl
ports_named name (port ∷ ports) = ap (λ fields. entry name (simple quoted (text_of port)) ∷ fields) (ports_named name ports)

pub marks_named : (marks : List Mark) → mark_fields marks ≡ all_named (codes "input_stream_info") (values (mark_fields marks))
marks_named [] = refl
marks_named (mark ∷ marks) = ap (λ fields. mark_entry mark ∷ fields) (marks_named marks)

pub handler_named : (name : List ℕ) → handler_field name ≡ all_named (codes "input_stream_handler") (values (handler_field name))
handler_named [] = refl
handler_named (b ∷ name) = refl

pub options_named : (options : Fields) → options_field options ≡ all_named (codes "options") (values (options_field options))
options_named none = refl
options_named (scalar name kind bytes rest) = refl
options_named (message name fields rest) = refl

-- the values of the fields that were written say what was written
pub text_back : (name text : List ℕ) → text_of_first (first (values (text_field name text))) ≡ text
text_back name [] = refl
text_back name (b ∷ text) = refl

pub number_back : (name : List ℕ) (n : ℤ) → number_of (signed_decimal n) ≡ Some n → number_of_first (first (values (number_field name n))) ≡ n
number_back name (negsuc n) spelled = ap (λ found. unwrap_or found (pos 0)) spelled
number_back name (pos n) spelled = by (n == 0) refl
  where
    by : (zero : Bool) → (n == 0) ≡ zero → number_of_first (first (values (if zero then [] else entry name (simple number (signed_decimal (pos n))) ∷ []))) ≡ pos n
    by true is = let same : 0 ≡ n = grind (arith, nat_tests) in ap pos same
    by false is = ap (λ found. unwrap_or found (pos 0)) spelled

pub texts_back : (name : List ℕ) (ports : List Port) → map text_of_value (values (port_fields name ports)) ≡ map text_of ports
texts_back name [] = refl
texts_back name (port ∷ ports) = ap (λ texts. text_of port ∷ texts) (texts_back name ports)

pub handler_back : (name : List ℕ) → text_in (codes "input_stream_handler") (entries (message_of_first (first (values (handler_field name))))) ≡ name
handler_back [] = refl
handler_back (b ∷ name) = refl

pub options_back : (options : Fields) → joined (map fields_of_value (values (options_field options))) ≡ options
options_back none = refl
options_back (scalar name kind bytes rest) = append_none (scalar name kind bytes rest)
options_back (message name fields rest) = append_none (message name fields rest)

pub marks_back : (marks : List Mark) (k : ℕ) → All IsMark marks
    → marks_from k (map fields_of_value (values (mark_fields marks))) ≡ Ok marks
marks_back [] k good = refl
marks_back (mark ∷ marks) k good =
    let later = marks_from (suc k) (map fields_of_value (values (mark_fields marks))) in
    ap (λ r. then_do (result_within (numbered (codes "input_stream_info") k) (mark_by r)) (λ m. then_do later (λ more. Ok (m ∷ more)))) (tag_index_back mark.tag mark.index (All-head IsMark mark marks good))
    ∙ ap (λ r. then_do r (λ more. Ok (mark ∷ more))) (marks_back marks (suc k) (All-tail IsMark mark marks good))
