use Rattle.std.proofs.Common.{◌≡◌, ◌∙◌, ap, ◌++◌, ◌∷◌, [], List, ℕ, map, codes}
use Rattle.mg_text.specs.Tree.{word}
use Rattle.mg_text.specs.View.{Value, simple, field_view, fields_of, inner, value_view}
use Rattle.mg_text.proofs.Views.{value-scalar}
use Rattle.mg_text.specs.declared.tree.TreeValue as values
use Rattle.mg_text.specs.declared.tree.Scalar.TheVariants as scalars
use Rattle.mg_names.specs.TagIndex.{text_of_tag_index}
use Rattle.mg_config.specs.Values.{entry}
use Rattle.mg_config.specs.Written.{text_entry}
use Rattle.mg_config.proofs.writing.put_mark.Goals as goal

pub returns : goal.returns
returns c =
    let made : map field_view c.put.new.out.items ≡ text_entry (codes "tag_index") (text_of_tag_index c.args.mark.now.tag c.args.mark.now.index) ∷ entry (codes "back_edge") (simple word (codes "true")) ∷ [] =
    c.in_ok-put.ensures ∙ ap (λ es. es ++ entry (codes "back_edge") (value_view (values.Scalar (scalars.Word c.in_ok-yes.yes))) ∷ [])
    (c.in_ok-put_string.ensures ∙ ap (λ xs. map field_view xs ++ text_entry (codes "tag_index") c.in_ok-text.text ∷ []) c.new-fields.ensures.items)
    ∙ ap (λ (v : Value). text_entry (codes "tag_index") c.in_ok-text.text ∷ entry (codes "back_edge") v ∷ []) (value-scalar (scalars.Word c.in_ok-yes.yes) ∙ ap (simple word) c.in_ok-yes.ensures)
    ∙ ap (λ (t : List ℕ). text_entry (codes "tag_index") t ∷ entry (codes "back_edge") (simple word (codes "true")) ∷ []) c.in_ok-text.ensures.text in
    c.in_ok-put_message.ensures ∙ ap (λ es. map field_view c.args.out.now.items ++ entry (codes "input_stream_info") (inner (fields_of es)) ∷ []) made
