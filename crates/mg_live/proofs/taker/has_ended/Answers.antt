use Rattle.std.proofs.Common.{get_or, arith}
use Rattle.mg_live.proofs.Endings.{port_fits, not_ended, ended_more, input_there}
use Rattle.mg_live.proofs.taker.has_ended.Goals as goal

pub bounds-inputs-port : goal.bounds-inputs-port
bounds-inputs-port g c = port_fits c.args.free.now c.as_slice-inputs.result.now c.requires.0 c.loop-port.port c.ending_ports-port-end.result c.as_slice-inputs.ensures (c.ending_ports-port-end.ensures c.requires.0) c.loop-port-test.true

pub is_done-requires : goal.is_done-requires
is_done-requires g c =
    let within = port_fits c.args.free.now c.as_slice-inputs.result.now c.requires.0 c.loop-port.port c.ending_ports-port-end.result c.as_slice-inputs.ensures (c.ending_ports-port-end.ensures c.requires.0) c.loop-port-test.true in
    (c.requires.0, c.requires.1, c.requires.2 c.loop-port.port (get_or c.as_slice-inputs.result.now c.loop-port.port 0) (input_there c.args.free.now.inputs c.as_slice-inputs.result.now c.loop-port.port c.as_slice-inputs.ensures within))

pub returns-then-not-is_done : goal.returns-then-not-is_done
returns-then-not-is_done g c = λ ss are.
    let less = c.loop-port-test.true in
    let ends = c.ending_ports-port-end.ensures ss in
    not_ended c.args.free.now c.as_slice-inputs.result.now ss c.loop-port.port c.is_done.result c.as_slice-inputs.ensures (omega (arith, less, ends)) (c.is_done.ensures ss are) c.if-not-is_done.true (c.loop-port.invariant ss are)

pub loop-port-preserved : goal.loop-port-preserved
loop-port-preserved g c = λ ss are.
    let less = c.loop-port-test.true in
    let ends = c.ending_ports-port-end.ensures ss in
    ended_more c.args.free.now c.as_slice-inputs.result.now ss c.loop-port.port c.is_done.result c.as_slice-inputs.ensures (omega (arith, less, ends)) (c.is_done.ensures ss are) c.if-not-is_done.false (c.loop-port.invariant ss are)
