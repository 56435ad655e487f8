-- Loops over lists in a graph: a node that begins the loop, nodes inside it one after the other, and a node that ends it.
use Rattle.std.specs.Prelude.{◌≡◌, ℕ, ◌+◌, ◌==◌, Bool, List, [], ◌∷◌, ◌++◌, length, filter_map, All, Option, Some, None, slice_get, if◌then◌else◌, ⊤}
use Rattle.std.specs.Option.{option_and_then}
use Rattle.mg_time.specs.Time.{done}
use Rattle.mg_value.specs.Plain.{Plain, int, items, items_of}
use Rattle.mg_value.specs.Packet.{Stamped}
use Rattle.mg_settled.specs.Prefix.{StreamPrefix}
use Rattle.mg_calc.specs.declared.law.Law.{Law}
use Rattle.mg_calc.specs.declared.law.Law.TheVariants.{Pass, Compute, Filter, BeginLoop, EndLoop}
use Rattle.mg_calc.specs.declared.plan.Plan.{Plan}
use Rattle.mg_calc.specs.declared.plan_node.PlanNode.{PlanNode}
use Rattle.mg_calc.specs.Values.{number_of, items_in}
use Rattle.mg_calc.specs.Row.{Row, each}
use Rattle.mg_calc.specs.Computations.{row_of}
use Rattle.mg_calc.specs.Law.{is_kept}
use Rattle.mg_calc.specs.Equations.{Job, stream_of, outcome_of}

-- the rows of maps, which make one number of each number
abbrev pub IsMap : Row → Type 0
IsMap (each f) = ⊤
IsMap _ = ⊥

-- what a map makes of a payload
abbrev pub mapped_by : Row → Plain → Option Plain
mapped_by (each f) v = Some (int (f (number_of v)))
mapped_by _ v = None

-- the laws that may stand inside a loop: Pass, maps and Filter
abbrev pub IsInner : Law → Type 0
IsInner Pass = ⊤
IsInner (Compute computation) = IsMap (row_of computation.formula)
IsInner (Filter keep raises) = ⊤
IsInner _ = ⊥

-- what a law that may stand inside a loop makes of a payload, or none if it drops the payload
abbrev pub image : Law → Plain → Option Plain
image Pass v = Some v
image (Compute computation) v = mapped_by (row_of computation.formula) v
image (Filter keep raises) v = if is_kept keep (number_of v) then Some v else None
image _ v = None

-- what nodes inside a loop make of a payload, one after the other, or none if one of them drops it
abbrev pub images : List PlanNode → Plain → Option Plain
images [] v = Some v
images (node ∷ nodes) v = option_and_then (images nodes) (image node.law v)

-- what a loop makes of a list: the list of the images, at the list's own time
abbrev pub list_of_images : List PlanNode → Stamped Plain → Stamped Plain
list_of_images nodes p = record { at = p.at; value = items (items_of (filter_map (images nodes) (items_in p.value))) }

-- what a loop makes of a list if it gives no empty lists: the list of the images at the list's own time, or nothing if there are no images
abbrev pub list_of_some_images : List PlanNode → Stamped Plain → Option (Stamped Plain)
list_of_some_images nodes p = if length (filter_map (images nodes) (items_in p.value)) == 0 then None else Some (list_of_images nodes p)

-- nodes of laws that may stand inside a loop lead from one stream to another. Each reads one stream and writes one, and the next node
-- reads that.
abbrev pub Leads : List PlanNode → ℕ → ℕ → Type 0
Leads [] from to = from ≡ to
Leads (node ∷ nodes) from to = IsInner node.law × (node.inputs ≡ from ∷ []) × (out : ℕ) × (node.outputs ≡ out ∷ []) × Leads nodes out to

-- a plan has a node
abbrev pub IsOf : Plan → PlanNode → Type 0
IsOf plan node = (number : ℕ) × (slice_get plan.nodes number ≡ Some node)

-- a loop over the lists of a stream, whose lists come out on another. A BeginLoop with a number of ports CLONE reads the lists. Nodes lead
-- from its ITEM, the last of its outputs, to the ITEM of an EndLoop. The EndLoop also reads BATCH_END, the first output of the BeginLoop.
-- Each of the two has its first or its second form.
pub record IsLoop (plan : Plan) (clones : ℕ) (always_end empty_as_bound : Bool) (lists : ℕ) (begin : PlanNode) (inner : List PlanNode) (end : PlanNode) (out : ℕ) : Type 0 where
  pub items : ℕ
  pub images : ℕ
  pub batches : ℕ
  pub begin_law : begin.law ≡ BeginLoop clones always_end
  pub end_law : end.law ≡ EndLoop empty_as_bound
  pub reads : slice_get begin.inputs clones ≡ Some lists
  pub tells : slice_get begin.outputs 0 ≡ Some batches
  pub gives : slice_get begin.outputs (clones + 1) ≡ Some items
  pub inside : Leads inner items images
  pub ends : end.inputs ≡ batches ∷ images ∷ []
  pub comes : end.outputs ≡ out ∷ []
  pub nodes : All (IsOf plan) (begin ∷ end ∷ inner)

-- none of these nodes fails, and none of their streams is stalled: the premise of the law of loops
pub record RunThrough (job : Job) (streams : List (StreamPrefix Plain)) (nodes : List PlanNode) : Type 0 where
  pub faultless : All (λ node. (outcome_of job streams node).fault ≡ None) nodes
  pub ended : All (λ node. All (λ s. (stream_of streams s).bound ≡ done) (node.inputs ++ node.outputs)) nodes
