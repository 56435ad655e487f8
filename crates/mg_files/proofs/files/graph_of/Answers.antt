use Rattle.std.proofs.Common.{Some, sym, ap}
use Rattle.mg_files.specs.File.{no_text}
use Rattle.mg_files.proofs.OneFile.{no_text_of, short_unless}
use Rattle.mg_files.proofs.files.graph_of.Goals as goal

pub returns-in_ok-text_note-in-Err-clause-refused : goal.returns-in_ok-text_note-in-Err-clause-refused
returns-in_ok-text_note-in-Err-clause-refused c =
    (no_text c.in-Err.fault, no_text_of c.args.content.now c.in-Err.fault c.in_ok-text_note-in-Err.ensures.some c.in-Err.ensures.fault (short_unless c.args.content.now c.in-Err.fault c.in-Err.ensures.too_long), ap Some (sym c.in_ok-text_note-in-Err.ensures.note))
