use Rattle.std.proofs.Common.{◌≡◌, [], Some, ap, ◌∙◌, subst}
use Rattle.json.specs.Lex.{tokens}
use Rattle.json.specs.Json.{value}
use Rattle.serde_json.specs.Read.{of_json, converted, max_depth}
use Rattle.serde_json.specs.View.{view}
use Rattle.mg_feed.proofs.Trees.{text_read}
use Rattle.mg_feed.proofs.tokens.text_by_tokens.Goals as goal

pub returns : goal.returns
returns c =
    let d = view c.in_ok-value.value in
    text_read c.args.text.now d c.in-Ok.ensures.cases.1
    (subst (λ ts. converted of_json (value max_depth ts) ≡ Some (d, [])) (c.in-Ok-new.ensures.ok ∙ ap tokens c.in-Ok.ensures.cases.0)
    (c.in_ok-value.ensures.value ∙ ap (λ r. Some (d, r)) c.in_ok-over.ensures))
