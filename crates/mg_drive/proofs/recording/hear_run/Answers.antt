use Rattle.std.proofs.Common.{[], refl}
use Rattle.std.proofs.lemmas.Result.{err_from_is_err_and}
use Rattle.mg_drive.proofs.Looping.{becomes_keeps}
use Rattle.mg_drive.proofs.RecordedRuns.{heard_none, recorded_events, recorded_some}
use Rattle.mg_drive.proofs.recording.hear_run.Goals as goal

pub returns-in_err-sweep-clause-keeps : goal.returns-in_err-sweep-clause-keeps
returns-in_err-sweep-clause-keeps g c = becomes_keeps c.args.net.now.net c.sweep.new.self c.in_err-sweep.ensures.becomes

pub returns-in_err-sweep-clause-same : goal.returns-in_err-sweep-clause-same
returns-in_err-sweep-clause-same g c = let heard = (c.in_err-sweep.ensures.heard_some.1 c.args.events.now [] (refl, refl, heard_none (g.K.Sink.told c.args.events.now.output.now) c.args.events.now.blocks.now c.args.events.now.out_of_memory c.requires.memory)).2 in (heard.0, heard.1)

pub returns-in_err-sweep-clause-short : goal.returns-in_err-sweep-clause-short
returns-in_err-sweep-clause-short g c =
    let is = err_from_is_err_and c.from_residual.result c.from_residual.ensures.1 in
    let some = c.in_err-sweep.ensures.heard_some in
    let heard = some.1 c.args.events.now [] (refl, refl, heard_none (g.K.Sink.told c.args.events.now.output.now) c.args.events.now.blocks.now c.args.events.now.out_of_memory c.requires.memory) in
    rw is.1
    (recorded_some c.sweep.new.hearer.out_of_memory (g.K.Sink.told c.args.events.now.output.now) (g.K.Sink.told c.sweep.new.hearer.output.now) c.args.events.now.blocks.now c.sweep.new.hearer.blocks.now c.args.net.now.net some.0 heard.0 heard.1 heard.2.2)

pub returns-clause-keeps : goal.returns-clause-keeps
returns-clause-keeps g c = becomes_keeps c.args.net.now.net c.sweep.new.self c.in_ok-sweep.ensures.becomes

pub returns-clause-same : goal.returns-clause-same
returns-clause-same g c = let heard = (c.in_ok-sweep.ensures.heard c.args.events.now [] (refl, refl, heard_none (g.K.Sink.told c.args.events.now.output.now) c.args.events.now.blocks.now c.args.events.now.out_of_memory c.requires.memory)).2 in (heard.0, heard.1)

pub returns-then-events-clause-keeps : goal.returns-then-events-clause-keeps
returns-then-events-clause-keeps g c = becomes_keeps c.args.net.now.net c.sweep.new.self c.in_ok-sweep.ensures.becomes

pub returns-then-events-clause-same : goal.returns-then-events-clause-same
returns-then-events-clause-same g c = let heard = (c.in_ok-sweep.ensures.heard c.args.events.now [] (refl, refl, heard_none (g.K.Sink.told c.args.events.now.output.now) c.args.events.now.blocks.now c.args.events.now.out_of_memory c.requires.memory)).2 in (heard.0, heard.1)

pub returns-then-events-clause-short : goal.returns-then-events-clause-short
returns-then-events-clause-short g c =
    let heard = c.in_ok-sweep.ensures.heard c.args.events.now [] (refl, refl, heard_none (g.K.Sink.told c.args.events.now.output.now) c.args.events.now.blocks.now c.args.events.now.out_of_memory c.requires.memory) in
    recorded_some c.sweep.new.hearer.out_of_memory (g.K.Sink.told c.args.events.now.output.now) (g.K.Sink.told c.sweep.new.hearer.output.now) c.args.events.now.blocks.now c.sweep.new.hearer.blocks.now c.args.net.now.net c.sweep.new.self heard.0 heard.1 heard.2.2

pub returns-clause-recorded : goal.returns-clause-recorded
returns-clause-recorded g c =
    let heard = c.in_ok-sweep.ensures.heard c.args.events.now [] (refl, refl, heard_none (g.K.Sink.told c.args.events.now.output.now) c.args.events.now.blocks.now c.args.events.now.out_of_memory c.requires.memory) in
    recorded_events c.sweep.new.hearer.out_of_memory (g.K.Sink.told c.args.events.now.output.now) (g.K.Sink.told c.sweep.new.hearer.output.now) c.args.events.now.blocks.now c.sweep.new.hearer.blocks.now c.args.net.now.net c.sweep.new.self heard.0 heard.1 heard.2.2 c.if-events.false
