-- The user-supplied calculators fit a plan that was checked with what is known of them.
use Rattle.std.proofs.Common.{◌≡◌, ℕ, List, All, Option, None, Some, IfSome, IsSomeAnd, filter, option_map, slice_get, subst}
use Rattle.std.proofs.lemmas.Option.{slice_get-map}
use Rattle.std.proofs.lemmas.List.Elements.{All-weaker, All-map, All-filter}
use Rattle.mg_sched.proofs.PlanEdges.{all_at}
use Rattle.mg_calc.specs.declared.plan.Plan.{Plan}
use Rattle.mg_calc.specs.declared.plan_node.PlanNode.{PlanNode}
use Rattle.mg_calc.specs.declared.shape.OuterShape.{OuterShape}
use Rattle.mg_calc.specs.Plan.{FitsNode, OutersFit}
use Rattle.mg_calc.specs.Told.{BoxTold}
use Rattle.mg_free.specs.Core.{split_of, core_node, is_core}
use Rattle.mg_sched.specs.Made.{FitsNew, BoxesFit}
use Rattle.mg_run.specs.Boxes.{outer_told, outers_told, MayBeHandedIn}

fits_new : (node : PlanNode) (outers : List OuterShape) (place : ℕ) (found : Option BoxTold) → All MayBeHandedIn outers → slice_get outers place ≡ option_map outer_told found
    → IsSomeAnd (option_map outer_told found) (λ outer. FitsNode node outer.law outer.shape) → IsSomeAnd found (FitsNew node)
fits_new node outers place None lawful is fits = fits
fits_new node outers place (Some told) lawful is fits = record { fits = fits; outer = all_at MayBeHandedIn outers place (outer_told told) is lawful }

fits_at : (boxes : List BoxTold) (node : PlanNode) (place : ℕ) → All MayBeHandedIn (outers_told boxes)
    → IsSomeAnd (slice_get (outers_told boxes) place) (λ outer. FitsNode node outer.law outer.shape) → IsSomeAnd (slice_get boxes place) (FitsNew node)
fits_at boxes node place lawful fits =
    let found = slice_get-map outer_told boxes place in
    fits_new node (outers_told boxes) place (slice_get boxes place) lawful found
    (subst (λ (o : Option OuterShape). IsSomeAnd o (λ outer. FitsNode node outer.law outer.shape)) found fits)

fits_node : (boxes : List BoxTold) (node : PlanNode) (number : Option ℕ) → All MayBeHandedIn (outers_told boxes)
    → IfSome number (λ place. IsSomeAnd (slice_get (outers_told boxes) place) (λ outer. FitsNode node outer.law outer.shape))
    → IfSome number (λ place. IsSomeAnd (slice_get boxes place) (FitsNew node))
fits_node boxes node None lawful fits = tt
fits_node boxes node (Some place) lawful fits = fits_at boxes node place lawful fits

pub boxes_fit : (plan : Plan) (boxes : List BoxTold) → OutersFit plan (outers_told boxes) → All MayBeHandedIn (outers_told boxes) → BoxesFit plan boxes
boxes_fit plan boxes fit lawful =
    All-weaker (λ node. IfSome node.box_number (λ place. IsSomeAnd (slice_get (outers_told boxes) place) (λ outer. FitsNode node outer.law outer.shape)))
    (λ node. IfSome node.box_number (λ place. IsSomeAnd (slice_get boxes place) (FitsNew node)))
    (λ node fits_it. fits_node boxes node node.box_number lawful fits_it) plan.nodes fit

-- They fit the core of a plan that they fit --

found_in_core : (plan : Plan) (node : PlanNode) (found : Option OuterShape) → IsSomeAnd found (λ outer. FitsNode node outer.law outer.shape) → IsSomeAnd found (λ outer. FitsNode (core_node plan node) outer.law outer.shape)
found_in_core plan node None fits = fits
found_in_core plan node (Some outer) fits = record { same_law = fits.same_law; same_shape = fits.same_shape }

node_in_core : (plan : Plan) (outers : List OuterShape) (node : PlanNode) (number : Option ℕ) → IfSome number (λ place. IsSomeAnd (slice_get outers place) (λ outer. FitsNode node outer.law outer.shape))
    → IfSome number (λ place. IsSomeAnd (slice_get outers place) (λ outer. FitsNode (core_node plan node) outer.law outer.shape))
node_in_core plan outers node None fits = tt
node_in_core plan outers node (Some place) fits = found_in_core plan node (slice_get outers place) fits

abbrev FitsAmong : List OuterShape → PlanNode → Type 0
FitsAmong outers node = IfSome node.box_number (λ place. IsSomeAnd (slice_get outers place) (λ outer. FitsNode node outer.law outer.shape))

outers_fit_core : (plan : Plan) (outers : List OuterShape) → OutersFit plan outers → OutersFit (split_of plan).core outers
outers_fit_core plan outers fit =
    All-map (FitsAmong outers) (core_node plan) (filter is_core plan.nodes)
    (All-weaker (FitsAmong outers) (λ node. FitsAmong outers (core_node plan node)) (λ node fits. node_in_core plan outers node node.box_number fits) (filter is_core plan.nodes)
    (All-filter is_core (FitsAmong outers) plan.nodes fit))

pub boxes_fit_core : (plan : Plan) (boxes : List BoxTold) → OutersFit plan (outers_told boxes) → All MayBeHandedIn (outers_told boxes) → BoxesFit (split_of plan).core boxes
boxes_fit_core plan boxes fit lawful = boxes_fit (split_of plan).core boxes (outers_fit_core plan (outers_told boxes) fit) lawful
