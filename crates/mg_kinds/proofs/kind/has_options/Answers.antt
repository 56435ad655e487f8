use Rattle.std.proofs.Common.{◌≡◌, ◌∙◌, ◌==◌, not, length, sym, ap, map}
use Rattle.std.proofs.lemmas.List.{length-map}
use Rattle.mg_text.specs.View.{view, field_view}
use Rattle.mg_config.specs.Values.{entries}
use Rattle.mg_config.proofs.Loops.{entries_view}
use Rattle.mg_kinds.proofs.kind.has_options.Goals as goal

pub returns : goal.returns
returns c =
    let fields : map field_view c.as_slice.result.now ≡ entries (view c.args.node.now.options) = sym (entries_view c.as_slice.result.now) ∙ ap entries c.as_slice.ensures in
    ap not (c.is_empty.ensures ∙ ap (λ n. n == 0) (sym (length-map c.as_slice.result.now field_view) ∙ ap length fields))
