use Rattle.std.proofs.Common.{◌≡◌, ◌∙◌, sym, ap, ◌++◌, ◌<◌, ◌∷◌, [], List, ℕ, length, map, arith, codes, if◌then◌else◌}
use Rattle.std.proofs.lemmas.Bool.Decides.{nat_tests}
use Rattle.std.specs.Str.{bytes_eq}
use Rattle.mg_text.specs.View.{field_view, fields_of, inner}
use Rattle.mg_config.specs.Values.{entry}
use Rattle.mg_config.specs.Written.{text_entry}
use Rattle.mg_config.proofs.Appended.{not_empty}
use Rattle.mg_config.proofs.fields.put_handler.Goals as goal

pub returns : goal.returns
returns c =
    let some : 0 < length c.as_bytes.result.now = grind (arith, nat_tests) in
    let made : map field_view c.put_string.new.out.items ≡ text_entry (codes "input_stream_handler") c.args.handler.now ∷ [] =
    c.in_ok-put_string.ensures ∙ ap (λ xs. map field_view xs ++ text_entry (codes "input_stream_handler") c.in_ok-try_clone.field-0 ∷ []) c.new-fields.ensures.items
    ∙ ap (λ (t : List ℕ). text_entry (codes "input_stream_handler") t ∷ []) c.in_ok-try_clone.ensures in
    c.in_ok-put_message.ensures ∙ ap (λ es. map field_view c.args.out.now.items ++ entry (codes "input_stream_handler") (inner (fields_of es)) ∷ []) made
    ∙ ap (λ b. map field_view c.args.out.now.items ++ (if b then [] else entry (codes "input_stream_handler") (inner (fields_of (text_entry (codes "input_stream_handler") c.args.handler.now ∷ []))) ∷ []))
    (sym (not_empty c.as_bytes.result.now some) ∙ ap (λ t. bytes_eq t []) c.as_bytes.ensures.bytes)
