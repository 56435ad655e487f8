use Rattle.std.proofs.Common.{◌||◌, ◌∙◌, sym, ap, length, arith}
use Rattle.mg_throttle.proofs.Edges.{input_in, node_in}
use Rattle.mg_throttle.proofs.Feeding.{length-feeders, stream_brings-node}
use Rattle.mg_throttle.specs.Code.Rows.{is_marked}
use Rattle.mg_throttle.proofs.reach.enter.Goals as goal

pub mark-requires : goal.mark-requires
mark-requires c =
    let within = input_in c.args.plan.now c.requires.valid c.args.stream c.in-Some.stream.now c.in-Input.input (sym c.in-Some.ensures) c.in-Input.is in
    let all = length-feeders c.args.plan.now in
    omega (arith, c.requires.row)

pub bounds-rows-node : goal.bounds-rows-node
bounds-rows-node c =
    let within = node_in c.args.plan.now c.requires.valid c.args.stream c.in-Some.stream.now c.in-Node.node c.in-Node.port (sym c.in-Some.ensures) c.in-Node.is in
    omega (arith, c.requires.rows.nodes)

pub join-requires : goal.join-requires
join-requires c =
    let within = node_in c.args.plan.now c.requires.valid c.args.stream c.in-Some.stream.now c.in-Node.node c.in-Node.port (sym c.in-Some.ensures) c.in-Node.is in
    ap length c.index-rows-node.is ∙ c.requires.rows.marks c.in-Node.node c.index-rows-node.result (omega (arith, c.requires.rows.nodes)) ∙ sym c.requires.row

pub returns-in-Node-clause-marks : goal.returns-in-Node-clause-marks
returns-in-Node-clause-marks c f within =
    let inside = node_in c.args.plan.now c.requires.valid c.args.stream c.in-Some.stream.now c.in-Node.node c.in-Node.port (sym c.in-Some.ensures) c.in-Node.is in
    c.join.ensures.marks f within
    ∙ ap (λ b. is_marked c.args.row.now f || b) (stream_brings-node c.args.plan.now c.args.rows.now c.args.stream c.in-Some.stream.now c.in-Node.node c.in-Node.port c.index-rows-node.result f
    (sym c.in-Some.ensures) c.in-Node.is (omega (arith, c.requires.rows.nodes)) c.index-rows-node.is)
