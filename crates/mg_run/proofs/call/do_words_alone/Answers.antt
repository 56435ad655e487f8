use Rattle.std.proofs.Common.{map}
use Rattle.mg_words.specs.Words.{request_of}
use Rattle.mg_run.specs.Boxes.{outers_told}
use Rattle.mg_run.specs.Devices.{device, told_by}
use Rattle.mg_run.specs.Call.{CallEnded}
use Rattle.mg_run.proofs.Begins.{begun_ended, begun_left, left_came, same_on}
use Rattle.mg_run.proofs.call.do_words_alone.Goals as goal

pub returns-in-Ended-clause-came : goal.returns-in-Ended-clause-came
returns-in-Ended-clause-came g c = begun_ended g.C.NodeCalculator.laws (outers_told (map g.C.NodeCalculator.told c.args.boxes.now.items)) (CallEnded g.C.NodeCalculator.laws (outers_told (map g.C.NodeCalculator.told c.args.boxes.now.items)) (request_of c.args.words.now)) c.begin_words.result c.in-Ended.status (device (g.T.Store.told c.args.store.now) (g.T.Store.told c.begin_words.new.store)) (told_by g.S.Source.told g.K.Sink.told g.E.Sink.told c.args.devices.now c.begin_words.new.devices) (map g.C.NodeCalculator.told c.args.boxes.now.items) c.in-Ended.is c.begin_words.ensures.begun

pub use_plan_alone-requires-clause-can : goal.use_plan_alone-requires-clause-can
use_plan_alone-requires-clause-can g c = (begun_left g.C.NodeCalculator.laws (outers_told (map g.C.NodeCalculator.told c.args.boxes.now.items)) (CallEnded g.C.NodeCalculator.laws (outers_told (map g.C.NodeCalculator.told c.args.boxes.now.items)) (request_of c.args.words.now)) c.begin_words.result c.in-Left.used c.in-Left.report c.in-Left.plan (device (g.T.Store.told c.args.store.now) (g.T.Store.told c.begin_words.new.store)) (told_by g.S.Source.told g.K.Sink.told g.E.Sink.told c.args.devices.now c.begin_words.new.devices) (map g.C.NodeCalculator.told c.args.boxes.now.items) c.in-Left.is c.begin_words.ensures.begun).can

pub use_plan_alone-requires-clause-lawful : goal.use_plan_alone-requires-clause-lawful
use_plan_alone-requires-clause-lawful g c = (begun_left g.C.NodeCalculator.laws (outers_told (map g.C.NodeCalculator.told c.args.boxes.now.items)) (CallEnded g.C.NodeCalculator.laws (outers_told (map g.C.NodeCalculator.told c.args.boxes.now.items)) (request_of c.args.words.now)) c.begin_words.result c.in-Left.used c.in-Left.report c.in-Left.plan (device (g.T.Store.told c.args.store.now) (g.T.Store.told c.begin_words.new.store)) (told_by g.S.Source.told g.K.Sink.told g.E.Sink.told c.args.devices.now c.begin_words.new.devices) (map g.C.NodeCalculator.told c.args.boxes.now.items) c.in-Left.is c.begin_words.ensures.begun).lawful

pub returns-in-Left-clause-came : goal.returns-in-Left-clause-came
returns-in-Left-clause-came g c =
    left_came g.C.NodeCalculator.laws (outers_told (map g.C.NodeCalculator.told c.args.boxes.now.items)) (CallEnded g.C.NodeCalculator.laws (outers_told (map g.C.NodeCalculator.told c.args.boxes.now.items)) (request_of c.args.words.now)) c.in-Left.used c.in-Left.report c.in-Left.plan (device (g.T.Store.told c.args.store.now) (g.T.Store.told c.begin_words.new.store)) (g.S.Source.told c.args.devices.now.input.now) (g.S.Source.told c.begin_words.new.devices.input.now) (g.S.Source.told c.use_plan_alone.new.devices.input.now) (g.K.Sink.told c.args.devices.now.output.now) (g.K.Sink.told c.begin_words.new.devices.output.now) (g.K.Sink.told c.use_plan_alone.new.devices.output.now) (g.E.Sink.told c.args.devices.now.notes.now) (g.E.Sink.told c.begin_words.new.devices.notes.now) (g.E.Sink.told c.use_plan_alone.new.devices.notes.now) c.use_plan_alone.result (device (map g.C.NodeCalculator.told c.args.boxes.now.items) (map g.C.NodeCalculator.told c.use_plan_alone.new.boxes.items))
    (begun_left g.C.NodeCalculator.laws (outers_told (map g.C.NodeCalculator.told c.args.boxes.now.items)) (CallEnded g.C.NodeCalculator.laws (outers_told (map g.C.NodeCalculator.told c.args.boxes.now.items)) (request_of c.args.words.now)) c.begin_words.result c.in-Left.used c.in-Left.report c.in-Left.plan (device (g.T.Store.told c.args.store.now) (g.T.Store.told c.begin_words.new.store)) (told_by g.S.Source.told g.K.Sink.told g.E.Sink.told c.args.devices.now c.begin_words.new.devices) (map g.C.NodeCalculator.told c.args.boxes.now.items) c.in-Left.is c.begin_words.ensures.begun) (c.use_plan_alone.ensures.did (device (g.T.Store.told c.args.store.now) (g.T.Store.told c.begin_words.new.store)))

pub returns-in-Left-clause-same : goal.returns-in-Left-clause-same
returns-in-Left-clause-same g c = same_on c.args.devices.now c.begin_words.new.devices c.use_plan_alone.new.devices c.begin_words.ensures.same c.use_plan_alone.ensures.same
