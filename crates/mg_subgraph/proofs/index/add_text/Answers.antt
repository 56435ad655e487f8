use Rattle.std.proofs.Common.{◌∙◌, sym, ap, not}
use Rattle.mg_index.proofs.Tabled.{name_none}
use Rattle.mg_names.proofs.Keys.{on_ok}
use Rattle.mg_subgraph.specs.Code.Index.{is_name}
use Rattle.mg_subgraph.proofs.Indexed.{empty_bytes, some_bytes}
use Rattle.mg_subgraph.proofs.index.add_text.Goals as goal

pub returns-then-is_empty : goal.returns-then-is_empty
returns-then-is_empty c = λ texts count. name_none is_name c.args.table.now texts c.args.text.now (ap not (empty_bytes c.args.text.now (sym c.is_empty.ensures ∙ c.if-is_empty.true)))

pub returns : goal.returns
returns c =
    on_ok c.insert.result (λ all texts count known. all is_name texts (ap not (some_bytes c.args.text.now (sym c.is_empty.ensures ∙ c.if-is_empty.false))) count known) c.insert.ensures
