use Rattle.std.proofs.Common.{inl, inr}
use Rattle.mg_answer.specs.Notes.{memory_note}
use Rattle.mg_answer.proofs.Answering.{noted-then}
use Rattle.mg_replay.proofs.replaying.replay_lines.Goals as goal

pub returns-in-Ok-clause-replayed : goal.returns-in-Ok-clause-replayed
returns-in-Ok-clause-replayed g c = inl c.in-Ok.ensures.replayed

pub returns-in-Err-clause-replayed : goal.returns-in-Err-clause-replayed
returns-in-Err-clause-replayed g c = inr (record {
  is = c.note_out_of_memory.ensures.status;
  noted = noted-then (g.E.Sink.told c.args.devices.now.notes.now) (g.E.Sink.told c.replay_whole.new.devices.notes.now) (g.E.Sink.told c.note_out_of_memory.new.notes) memory_note c.in-Err.ensures.unnoted
      c.note_out_of_memory.ensures.noted;
  by = c.in-Err.ensures.some;
})
