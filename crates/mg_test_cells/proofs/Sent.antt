-- What a cell holds may go to another thread: its plan, its inputs and its engine. The cell itself is a type that only the tests have, and
-- a lemma on it would be read without the tests too. So the proof that a cell may go stands where it is needed.
use denote.Struct.Declared.{shape}
use denote.Param.Send.{IsSend, struct_send, sendable}
use Rattle.std.proofs.Crossing.{crosses}
use Rattle.mg_time.proofs.timestamp.Timestamp.TheSendSync.{the_send as timestamp}
use Rattle.mg_value.proofs.payload_list.PayloadList.TheLaws.TheKnot.{crosses as knot}
use Rattle.mg_value.specs.contracts.block_list.BlockList as BlockList
use Rattle.mg_calc.proofs.shape.Shape.TheSendSync.{the_field_send as the_shape}
use Rattle.mg_calc.specs.contracts.plan_node.PlanNode as PlanNode
use Rattle.mg_calc.specs.contracts.plan.Plan as Plan
use Rattle.mg_calc.specs.contracts.inputs.Inputs as Inputs
use Rattle.mg_batch.proofs.Sent.{law, packet}
use Rattle.mg_route.proofs.Sent.{law_box}
use Rattle.mg_route.specs.contracts.law_box.LawBox as LawBox
use Rattle.mg_route.specs.contracts.law_box.LawBoxNodeCalculator.TheImpl as boxes
use Rattle.mg_node.proofs.Sent.{engine_field}
use Rattle.mg_node.specs.contracts.engine.Engine as Engine

node : IsSend PlanNode.the_row
node = search (law, the_shape, sendable, crosses) depth 60 fits 50000

nodes : IsSend (BlockList.the_row PlanNode.the_row)
nodes = search (node, sendable, crosses) depth 20

pub plan : IsSend (Plan.the_field).row
plan = struct_send (shape Plan.the_type) (
  (search (nodes, sendable, crosses) depth 20),
  (
    (search (sendable, crosses) depth 40 fits 50000),
    (
      (search (sendable, crosses) depth 40 fits 50000),
      (
        (search (sendable, crosses) depth 40 fits 50000),
        (
          (search (sendable, crosses) depth 40 fits 50000),
          (
            (search (sendable, crosses) depth 40 fits 50000),
            (
              (search (knot, sendable, crosses) depth 40 fits 50000),
              ((search sendable), ((search sendable), tt)),
            ),
          ),
        ),
      ),
    ),
  ),
)

pub inputs : IsSend (Inputs.the_field).row
inputs = search (packet, timestamp, knot, sendable, crosses) depth 60 fits 50000

pub engine : IsSend (Engine.the_field LawBox.the_row boxes.ghosts).row
engine = engine_field LawBox.the_row boxes.ghosts law_box
