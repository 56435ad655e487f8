-- Two properties of configurations. A sound configuration can be written and read back, and every configuration that
-- was read is sound. The fields of a printable configuration can be printed. Whoever makes a configuration of other
-- configurations keeps both properties.
use Rattle.std.specs.Prelude.{◌+◌, ◌^◌, ◌<◌, ◌≤◌, ◌≡◌, ◌≢◌, ℤ, pos, negsuc, List, [], map, Ok, All}
use Rattle.mg_text.specs.Tree.{depth}
use Rattle.mg_text.specs.Answer.{max_depth}
use Rattle.mg_text.specs.Canonical.{AreCharacters, AreSpelled}
use Rattle.mg_names.specs.TagIndex.{IsTagIndex}
use Rattle.mg_names.specs.Ports.{ports_of, text_of}
use Rattle.mg_names.specs.declared.port.Port.{Port}
use Rattle.mg_config.specs.Config.{NodeView, GraphView}
use Rattle.mg_config.specs.declared.mark.Mark.{Mark}

-- The number fits in 32 signed bits.
abbrev pub FitsI32 : ℤ → Type 0
FitsI32 (pos n) = n < 2 ^ 31
FitsI32 (negsuc n) = n < 2 ^ 31

-- The ports are read back from their texts.
abbrev pub AreReadBack : List Port → Type 0
AreReadBack ports = ports_of (map text_of ports) ≡ Ok ports

-- The tag and index of a back edge can be spelled.
abbrev pub IsMark : Mark → Type 0
IsMark mark = IsTagIndex mark.tag mark.index

pub record IsSoundNode (node : NodeView) : Type 0 where
  pub calculator : node.calculator ≢ []
  pub inputs : AreReadBack node.inputs
  pub outputs : AreReadBack node.outputs
  pub input_sides : AreReadBack node.input_sides
  pub output_sides : AreReadBack node.output_sides
  pub back_marks : All IsMark node.back_marks
  pub max_in_flight : FitsI32 node.max_in_flight
  pub buffer_size_hint : FitsI32 node.buffer_size_hint

-- Each node has a calculator, its ports and back edges can be spelled, and its numbers fit. The graph's own ports can
-- be spelled, and its numbers fit.
pub record IsSound (graph : GraphView) : Type 0 where
  pub nodes : All IsSoundNode graph.nodes
  pub inputs : AreReadBack graph.inputs
  pub outputs : AreReadBack graph.outputs
  pub input_sides : AreReadBack graph.input_sides
  pub output_sides : AreReadBack graph.output_sides
  pub max_queue_size : FitsI32 graph.max_queue_size
  pub num_threads : FitsI32 graph.num_threads

-- A node's texts are characters. Its options can be spelled, and inside two further messages they nest no deeper than a text may.
pub record IsPrintableNode (node : NodeView) : Type 0 where
  pub name : AreCharacters node.name
  pub calculator : AreCharacters node.calculator
  pub handler : AreCharacters node.handler
  pub options : AreSpelled node.options
  pub shallow : depth node.options + 2 ≤ max_depth

-- The graph's type is characters, and its nodes are printable.
pub record IsPrintable (graph : GraphView) : Type 0 where
  pub type_name : AreCharacters graph.type_name
  pub nodes : All IsPrintableNode graph.nodes
