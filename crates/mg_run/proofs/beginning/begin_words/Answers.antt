use Rattle.std.proofs.Common.{subst, map}
use Rattle.mg_run.specs.Boxes.{outers_told}
use Rattle.mg_words.specs.Words.{Request, request_of}
use Rattle.mg_run.specs.Devices.{device, told_by}
use Rattle.mg_run.specs.Call.{CallEnded}
use Rattle.mg_run.specs.Code.Begun.{IsBegun}
use Rattle.mg_run.proofs.Coming.{came-nothing}
use Rattle.mg_run.proofs.beginning.begin_words.Goals as goal

pub returns-in-Ok-clause-begun : goal.returns-in-Ok-clause-begun
returns-in-Ok-clause-begun g c =
    let outers = outers_told (map g.C.NodeCalculator.told c.args.boxes.now.items) in
    subst (λ (request : Request). IsBegun g.C.NodeCalculator.laws outers (CallEnded g.C.NodeCalculator.laws outers request) c.begin_request.result (device (g.T.Store.told c.args.store.now) (g.T.Store.told c.begin_request.new.store)) (told_by g.S.Source.told g.K.Sink.told g.E.Sink.told c.args.devices.now c.begin_request.new.devices) (map g.C.NodeCalculator.told c.args.boxes.now.items)) c.in-Ok.ensures
    c.begin_request.ensures.begun

pub returns-in-Err-clause-begun : goal.returns-in-Err-clause-begun
returns-in-Err-clause-begun g c = came-nothing g.C.NodeCalculator.laws (outers_told (map g.C.NodeCalculator.told c.args.boxes.now.items)) (request_of c.args.words.now) _ _ _ _ _ _ c.note_out_of_memory.ensures.status c.note_out_of_memory.ensures.noted
