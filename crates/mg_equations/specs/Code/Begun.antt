-- What has become of a node before it reads a packet, by its law. A source has been called and has ended, a loopback has
-- answered nothing, and every other node is opened. The node's side packets are those at its ports, and its law is one of the
-- table.
use Rattle.std.specs.Prelude.{List, Option, length}
use Rattle.mg_value.specs.Payload.{Plain}
use Rattle.mg_calc.specs.declared.law.Law.{Law}
use Rattle.mg_calc.specs.declared.law.Law.TheVariants.{Count, SideOnce, Constants, Loopback}
use Rattle.mg_calc.specs.declared.plan_node.PlanNode.{PlanNode}
use Rattle.mg_calc.specs.Outcome.{Outcome, unopened, opened, source_outcome}
use Rattle.mg_calc.specs.Shape.{calls_of}
use Rattle.mg_calc.specs.Law.{table_rules}

abbrev pub begun_by : Law → List (Option Plain) → PlanNode → Outcome
begun_by (Count count start step) sides node = source_outcome (table_rules node.law) node.law (calls_of node.law) (length node.outputs) sides
begun_by (SideOnce at) sides node = source_outcome (table_rules node.law) node.law (calls_of node.law) (length node.outputs) sides
begun_by Constants sides node = source_outcome (table_rules node.law) node.law (calls_of node.law) (length node.outputs) sides
begun_by Loopback sides node = unopened 1
begun_by law sides node = opened (table_rules node.law) node.shape.offset (length node.outputs) sides
