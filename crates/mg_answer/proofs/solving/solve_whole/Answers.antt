use Rattle.mg_answer.specs.Notes.{memory_note}
use Rattle.mg_answer.proofs.Answering.{noted-then}
use Rattle.mg_answer.proofs.solving.solve_whole.Goals as goal

pub returns-in-Err-clause-ran : goal.returns-in-Err-clause-ran
returns-in-Err-clause-ran g c = rw c.note_out_of_memory.ensures.status (λ laws. (
  c.in-Err.ensures.short laws,
  noted-then (g.E.Sink.told c.args.devices.now.notes.now) (g.E.Sink.told c.solve_read.new.devices.notes.now) (g.E.Sink.told c.note_out_of_memory.new.notes) memory_note c.in-Err.ensures.unnoted c.note_out_of_memory.ensures.noted,
  c.in-Err.ensures.read,
))
