use Rattle.std.proofs.Common.{◌∙◌, sym, ap, codes}
use Rattle.mg_config.specs.Values.{text_in, entries}
use Rattle.mg_config.proofs.Loops.{entries_view}
use Rattle.mg_config.proofs.node.texts_of.Goals as goal

pub returns-clause-handler : goal.returns-clause-handler
returns-clause-handler c =
    c.in_ok-handler.ensures ∙ ap (text_in (codes "input_stream_handler")) (sym (entries_view c.message_named-handler.result.now) ∙ ap entries c.message_named-handler.ensures)
