-- What is wrong with nodes by themselves, as the code keeps it.
use Rattle.std.specs.Prelude.{◌≡◌, List, [], ◌∷◌, Bool, true, false, Option, None, Some, Result, Ok, Err, if◌then◌else◌, codes, map, filter_map, option_map, position}
use Rattle.std.specs.Option.{option_or}
use Rattle.mg_config.specs.Config.{NodeView}
use Rattle.mg_calc.specs.declared.shape.OuterShape.{OuterShape}
use Rattle.mg_kinds.specs.Kinds.{names_of}
use Rattle.mg_kinds.specs.PortOrder.{in_order}
use Rattle.mg_kinds.specs.declared.ports.Ports.{Ports as KindPorts}
use Rattle.mg_check.specs.Choosing.{Chosen}
use Rattle.mg_check.specs.Drafts.{DraftView, names_at, draft_of, has_bad_ports, has_bad_options, is_unsupported}
use Rattle.mg_check.specs.DraftView.{draft_view, drafts_view}
use Rattle.mg_check.specs.declared.draft.Draft.{Draft}
use Rattle.mg_check.specs.declared.drafting.NodeDrafts.{NodeDrafts}
use Rattle.mg_check.specs.declared.node_draft.Wrong.{Wrong}
use Rattle.mg_check.specs.declared.node_draft.Wrong.TheVariants as wrong
use Rattle.mg_check.specs.declared.port_texts.PortTexts.{PortTexts}
use Rattle.mg_check.specs.declared.fault.CheckFault.{CheckFault}
use Rattle.mg_check.specs.declared.fault.CheckFault.TheVariants.{BadPorts, BadOptions, Unsupported}

-- The texts are the names at the ports of the node.
pub record AreTexts (texts : PortTexts) (node : NodeView) (ports : KindPorts) : Type 0 where
  pub inputs : names_of texts.inputs.items ≡ names_at node.inputs ports.inputs
  pub outputs : names_of texts.outputs.items ≡ names_at node.outputs ports.outputs
  pub sides : names_of texts.sides.items ≡ names_at node.input_sides ports.sides
  pub side_outputs : names_of texts.side_outputs.items ≡ names_at node.output_sides (in_order node.output_sides)

-- what is wrong with a node, if anything: its ports, or else its options, or else its policy
abbrev pub wrong_of : List OuterShape → Chosen → Option Wrong
wrong_of outers c =
    if has_bad_ports outers c then Some wrong.Ports
    else (if has_bad_options outers c then Some wrong.Options else (if is_unsupported outers c then Some wrong.Policy else None))

-- The answer is the draft of the node, or what is wrong with it.
abbrev pub Judges : List OuterShape → Chosen → Result Draft Wrong → Type 0
Judges outers c (Ok draft) = (draft_of outers c ≡ Some (draft_view draft)) × (wrong_of outers c ≡ None)
Judges outers c (Err wrong) = (draft_of outers c ≡ None) × (wrong_of outers c ≡ Some wrong)

-- the draft that an answer has, as a list of one or none
abbrev pub draft_in : Result Draft Wrong → List DraftView
draft_in (Ok draft) = draft_view draft ∷ []
draft_in (Err wrong) = []

-- what is wrong by an answer, if anything
abbrev pub wrong_in : Result Draft Wrong → Option Wrong
wrong_in (Ok draft) = None
wrong_in (Err wrong) = Some wrong

-- What was judged has the drafts of the nodes, and for each node what is wrong with it.
pub record AreJudged (node_drafts : NodeDrafts) (outers : List OuterShape) (cs : List Chosen) : Type 0 where
  pub drafts : drafts_view node_drafts.drafts.items ≡ filter_map (draft_of outers) cs
  pub wrongs : node_drafts.wrongs.items ≡ map (wrong_of outers) cs

-- whether this is what is wrong with a node
abbrev pub is_wrong : Wrong → Option Wrong → Bool
is_wrong wrong None = false
is_wrong wrong.Ports (Some wrong.Ports) = true
is_wrong wrong.Options (Some wrong.Options) = true
is_wrong wrong.Policy (Some wrong.Policy) = true
is_wrong wrong (Some other) = false

-- the first refusal of nodes by themselves, by what is wrong with each
abbrev pub fault_by : List (Option Wrong) → Option CheckFault
fault_by wrongs =
    option_or (option_map BadPorts (position (is_wrong wrong.Ports) wrongs)) (option_or (option_map BadOptions (position (is_wrong wrong.Options) wrongs))
    (option_map (λ n. Unsupported n (codes "input_stream_handler")) (position (is_wrong wrong.Policy) wrongs)))
