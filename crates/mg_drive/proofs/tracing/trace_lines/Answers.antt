use Rattle.std.proofs.Common.{map, inr}
use Rattle.mg_answer.specs.Held.{told_by}
use Rattle.mg_answer.specs.Devices.{device}
use Rattle.mg_answer.specs.Notes.{memory_note}
use Rattle.mg_answer.proofs.Answering.{noted-then}
use Rattle.mg_drive.proofs.RecordedRuns.{all_are_some}
use Rattle.mg_drive.proofs.tracing.trace_lines.Goals as goal

pub returns-in-Ok-clause-left : goal.returns-in-Ok-clause-left
returns-in-Ok-clause-left g c =
    let back = c.trace_whole.ensures.back in
    let had = c.in-Ok.ensures.used in
    record {
      back = back;
      used = λ memory. had;
      out = λ none. all_are_some c.args.run.now.plan.now (told_by g.S.Source.told g.K.Sink.told g.E.Sink.told c.args.devices.now c.trace_whole.new.devices).input (device (map g.C.NodeCalculator.told c.args.boxes.now.items) (map g.C.NodeCalculator.told c.trace_whole.new.boxes.items)) c.requires.boxes had;
    }

pub returns-in-Err-clause-traced : goal.returns-in-Err-clause-traced
returns-in-Err-clause-traced g c = inr (record {
  is = c.note_out_of_memory.ensures.status;
  noted = noted-then (g.E.Sink.told c.args.devices.now.notes.now) (g.E.Sink.told c.trace_whole.new.devices.notes.now) (g.E.Sink.told c.note_out_of_memory.new.notes) memory_note c.in-Err.ensures.unnoted
      c.note_out_of_memory.ensures.noted;
  by = (c.in-Err.ensures.short, c.in-Err.ensures.read);
})
