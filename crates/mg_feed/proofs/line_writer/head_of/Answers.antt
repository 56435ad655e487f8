use Rattle.std.proofs.Common.{◌∙◌, ap, ◌++◌, codes}
use Rattle.serde_json.specs.Written.{compact_text, has_float}
use Rattle.mg_feed.proofs.Text.{pieces_are_head}
use Rattle.mg_feed.proofs.line_writer.head_of.Goals as goal

pub returns : goal.returns
returns c =
    let is = c.in_ok-text_value.ensures in
    pieces_are_head c.args.name.now c.push_bytes.new.text.items c.push_bytes-2.new.text.items c.push_bytes-3.new.text.items
    (c.in_ok-push_bytes.ensures.put ∙ ap (λ l. l ++ codes "{\"stream\":") c.new-head.ensures.items)
    (c.in_ok-push_bytes-2.ensures.put ∙ ap (λ l. c.push_bytes.new.text.items ++ l)
    (c.as_bytes.ensures.value ∙ c.in_ok-quoted.ensures.text (ap has_float is) ∙ ap compact_text is))
    c.in_ok-push_bytes-3.ensures.put
