use Rattle.std.proofs.Common.{inl, inr}
use Rattle.mg_answer.specs.Notes.{memory_note}
use Rattle.mg_answer.proofs.Answering.{noted-then}
use Rattle.mg_drive.proofs.made.run_made_alone.Goals as goal

pub returns-in-Ok-clause-ran : goal.returns-in-Ok-clause-ran
returns-in-Ok-clause-ran g c = inl c.in-Ok.ensures.ran

pub returns-in-Err-clause-ran : goal.returns-in-Err-clause-ran
returns-in-Err-clause-ran g c = inr (record {
  is = c.note_out_of_memory.ensures.status;
  noted = noted-then (g.E.Sink.told c.args.devices.now.notes.now) (g.E.Sink.told c.run_whole_alone.new.devices.notes.now) (g.E.Sink.told c.note_out_of_memory.new.notes) memory_note c.in-Err.ensures.unnoted c.note_out_of_memory.ensures.noted;
  by = c.in-Err.ensures.short;
})
