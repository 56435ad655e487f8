use Rattle.std.proofs.Common.{Some, sym, ap}
use Rattle.mg_text.specs.View.{view}
use Rattle.mg_files.specs.File.{no_graph}
use Rattle.mg_files.proofs.files.graph_of_tree.Goals as goal

pub returns-in_ok-config_note-in-Err-clause-refused : goal.returns-in_ok-config_note-in-Err-clause-refused
returns-in_ok-config_note-in-Err-clause-refused c = λ content text.
    (no_graph c.in-Err.fault, (view c.args.tree.now, text, c.in-Err.ensures.err c.in_ok-config_note-in-Err.ensures.some), ap Some (sym c.in_ok-config_note-in-Err.ensures.note))
