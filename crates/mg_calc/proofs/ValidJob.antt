-- A valid plan, and inputs that fit it: the conditions of the laws can be met. The plan is the running sum by a loopback.
use Rattle.std.proofs.Common.{◌≡◌, ◌≢◌, ℕ, zero, suc, pos, ◌<◌, Bool, true, false, List, [], ◌∷◌, ◌++◌, All, AllPairs, Contains, Some, None, IsSome, refl, codes, arith}
use Rattle.std.specs.List.{AllByRecursion}
use Rattle.std.proofs.lemmas.List.Kept.{AllPairs-cons}
use Rattle.std.proofs.lemmas.List.Elements.{All-from_recursion}
use Rattle.mg_value.specs.declared.kind.Kind.TheVariants.{Any, Int}
use Rattle.mg_value.specs.declared.policy.Policy.TheVariants.{Default}
use Rattle.mg_settled.specs.Prefix.{IsPrefix, empty_prefix, closed}
use Rattle.mg_settled.proofs.Lemmas.{empty_is_prefix, closed_is_prefix}
use Rattle.mg_calc.specs.declared.edge.Edge.{Edge}
use Rattle.mg_calc.specs.declared.inputs.Inputs.{Inputs}
use Rattle.mg_calc.specs.declared.law.Law.TheVariants.{Compute, Loopback}
use Rattle.mg_calc.specs.declared.computations.Formula.TheVariants.{Sum}
use Rattle.mg_calc.specs.declared.plan.Plan.{Plan}
use Rattle.mg_calc.specs.declared.plan_node.PlanNode.{PlanNode}
use Rattle.mg_calc.specs.declared.plan_stream.Producer.TheVariants.{Input, Node}
use Rattle.mg_calc.specs.Rules.{no_laws}
use Rattle.mg_calc.specs.Shape.{ParametersFit, IsServed, IsStated, IsShapeOf, tagged, untagged}
use Rattle.mg_calc.specs.Plan.{IsValid, AreInRange, HasNumbers, FlightFits, MayHavePolicy, HasEachOnce, StandsBefore, LeadsForward, EndsAtLoop}
use Rattle.mg_calc.specs.Equations.{IsJob}

abbrev loop_node : PlanNode
loop_node = record {
  label = [];
  law = Loopback;
  shape = record { name = []; inputs = tagged (codes "LOOP") Any ++ tagged (codes "MAIN") Any; outputs = tagged (codes "PREV_LOOP") Any; sides = []; offset = None; stateless = false };
  inputs = 2 ∷ 0 ∷ [];
  outputs = 1 ∷ [];
  sides = [];
  in_flight = 1;
  box_number = None;
  policy = Default;
}

abbrev sum_node : PlanNode
sum_node = record {
  label = [];
  law = Compute (record { formula = Sum; lanes = 2; takes = Int; gives = Int });
  shape = record { name = []; inputs = untagged 2 Int; outputs = untagged 1 Int; sides = []; offset = Some (pos 0); stateless = true };
  inputs = 0 ∷ 1 ∷ [];
  outputs = 2 ∷ [];
  sides = [];
  in_flight = 1;
  box_number = None;
  policy = Default;
}

abbrev edge : ℕ → ℕ → ℕ → Bool → Edge
edge stream node port back = record { stream = stream; node = node; port = port; back = back }

abbrev plan : Plan
plan = record {
  nodes = loop_node ∷ sum_node ∷ [];
  streams = record { name = codes "in"; kind = Int; producer = Input 0 } ∷ record { name = codes "prev"; kind = Int; producer = Node 0 0 } ∷ record { name = codes "sum"; kind = Int; producer = Node 1 0 } ∷ [];
  edges = edge 2 0 0 true ∷ edge 0 0 1 false ∷ edge 0 1 0 false ∷ edge 1 1 1 false ∷ edge 2 2 0 false ∷ [];
  order = 0 ∷ 1 ∷ [];
  inputs = 0 ∷ [];
  outputs = 2 ∷ [];
  sides = [];
  limit = pos 100;
  workers = 0;
}

abbrev inputs : Inputs
inputs = record { streams = closed empty_prefix ∷ []; sides = []; ended = true }

all : {X : Type 0} (P : X → Type 0) (xs : List X) → AllByRecursion P xs → All P xs
all P xs a = All-from_recursion P xs a

in_range : AreInRange plan
in_range = record {
  nodes = omega arith;
  edges = omega arith;
  outputs = omega arith;
  workers = omega arith;
  read = all (λ node. All (λ s. s < 3) node.inputs) plan.nodes (all (λ s. s < 3) (2 ∷ 0 ∷ []) (omega arith, (omega arith, tt)), (all (λ s. s < 3) (0 ∷ 1 ∷ []) (omega arith, (omega arith, tt)), tt));
  shown = all (λ s. s < 3) (2 ∷ []) (omega arith, tt);
  taken = all (λ node. All (λ s. s < 0) node.sides) plan.nodes (all (λ s. s < 0) [] tt, (all (λ s. s < 0) [] tt, tt));
  given = refl;
  limit = (λ e. cc);
}

found : (n : ℕ) → n < 2 → Contains (0 ∷ 1 ∷ []) n
found zero le = (0, omega arith, refl)
found (suc zero) le = (1, omega arith, refl)
found (suc (suc n)) le = absurd (omega (arith, le))

apart : AllPairs {X = ℕ} ◌≢◌ (0 ∷ 1 ∷ [])
apart i j d less within = AllPairs-cons ◌≢◌ 0 (1 ∷ []) (all (λ n. 0 ≢ n) (1 ∷ []) ((λ e. omega (arith, e)), tt)) (AllPairs-cons ◌≢◌ 1 [] (all (λ n. 1 ≢ n) [] tt) (λ i j d less within. absurd (omega (arith, within)))) i j d less within

each_once : HasEachOnce 2 (0 ∷ 1 ∷ [])
each_once = record { there = found; below = all (λ n. n < 2) (0 ∷ 1 ∷ []) (omega arith, (omega arith, tt)); once = apart }

-- the loopback stands before the sum, and the collector isn't in the order
in_order : StandsBefore (0 ∷ 1 ∷ []) 0 1
in_order zero zero a b = absurd cc
in_order zero (suc j) a b = omega arith
in_order (suc zero) j a b = absurd cc
in_order (suc (suc i)) j a b = absurd cc

past_order : StandsBefore (0 ∷ 1 ∷ []) 1 2
past_order i zero a b = absurd cc
past_order i (suc zero) a b = absurd cc
past_order i (suc (suc j)) a b = absurd cc

none_boxed : AllPairs {X = ℕ} ◌≢◌ []
none_boxed i j d less within = absurd (omega (arith, within))

valid : IsValid plan
valid = record {
  ranges = in_range;
  streams = refl;
  inputs = refl;
  producers = refl;
  edges = refl;
  ports = all HasNumbers plan.nodes (record { inputs = refl; outputs = refl; sides = refl }, (record { inputs = refl; outputs = refl; sides = refl }, tt));
  parameters = all (λ node. ParametersFit node.law) plan.nodes (tt, ((omega arith, omega arith), tt));
  shapes = all (λ node. IsShapeOf node.law node.shape) plan.nodes
      (record { inputs = refl; outputs = refl; sides = refl; offset = refl; stateless = refl }, (record { inputs = refl; outputs = refl; sides = refl; offset = refl; stateless = refl }, tt));
  flights = all FlightFits plan.nodes
      (record { some = omega arith; most = omega arith; boxed = (λ e. refl); stateful = (λ e. refl) }, (record { some = omega arith; most = omega arith; boxed = (λ e. refl); stateful = (λ e. refl) }, tt));
  policies = all (λ node. MayHavePolicy node.law node.policy) plan.nodes (refl, (refl, tt));
  stated = all (λ node. IsStated node.law → IsSome node.box_number) plan.nodes ((λ is. absurd is), ((λ is. absurd is), tt));
  boxes = none_boxed;
  order = each_once;
  forward = all (λ e. e.back ≡ false → LeadsForward plan e) plan.edges ((λ e. absurd cc), ((λ e. tt), ((λ e. tt), ((λ e. in_order), ((λ e. past_order), tt)))));
  back = all (λ e. e.back ≡ true → EndsAtLoop plan e) plan.edges ((λ e. (refl, refl)), ((λ e. absurd cc), ((λ e. absurd cc), ((λ e. absurd cc), ((λ e. absurd cc), tt)))));
  laws = all (λ node. IsServed node.law) plan.nodes (tt, (tt, tt));
}

pub a_job : IsJob (record { plan = plan; inputs = inputs; laws = no_laws })
a_job = record {
  plan = valid;
  inputs = record { streams = refl; prefixes = all IsPrefix inputs.streams (closed_is_prefix empty_prefix empty_is_prefix, tt); sides = refl };
}
