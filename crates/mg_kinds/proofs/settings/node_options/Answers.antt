use Rattle.std.proofs.Common.{◌≡◌, ◌∙◌, ℕ, List, sym, ap, subst, map, IfOk}
use Rattle.std.specs.Prelude.{option_map}
use Rattle.mg_text.specs.View.{Entry, view, field_view}
use Rattle.mg_config.specs.Values.{entries}
use Rattle.mg_config.proofs.Loops.{entries_view}
use Rattle.mg_kinds.specs.Options.{calculator_options}
use Rattle.mg_kinds.specs.Views.{fields_of}
use Rattle.mg_kinds.proofs.settings.node_options.Goals as goal

pub returns : goal.returns
returns c =
    let P : List ℕ → List Entry → Type 0 = λ name fields. IfOk c.options_in.result (λ found. option_map (λ list. fields_of list.items) found ≡ calculator_options name fields) in
    let fields : map field_view c.as_slice.result.now ≡ entries (view c.args.node.now.options) = sym (entries_view c.as_slice.result.now) ∙ ap entries c.as_slice.ensures in
    subst (P c.args.node.now.calculator) fields (subst (λ name. P name (map field_view c.as_slice.result.now)) c.as_str.ensures c.options_in.ensures)
