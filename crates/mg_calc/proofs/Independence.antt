-- A stream of the solution depends on the graph inputs alone that may reach it.
use Rattle.std.proofs.Common.{◌≡◌, ℕ, zero, suc, ◌+◌, ◌<◌, length, replicate, List, [], ◌∷◌, ◌++◌, map, Contains, Option, Some, IsSomeAnd, option_map, slice_get, refl, sym, ap, ap₂, subst, ◌∙◌, arith}
use Rattle.std.specs.List.{AllByRecursion, range_with_len}
use Rattle.std.proofs.lemmas.List.{length-replicate}
use Rattle.mg_value.specs.Payload.{Plain}
use Rattle.mg_settled.specs.Prefix.{StreamPrefix, empty_prefix}
use Rattle.mg_calc.specs.Rules.{Laws}
use Rattle.mg_calc.specs.declared.inputs.Inputs.{Inputs}
use Rattle.mg_calc.specs.declared.plan.Plan.{Plan}
use Rattle.mg_calc.specs.declared.plan_node.PlanNode.{PlanNode}
use Rattle.mg_calc.specs.declared.plan_stream.PlanStream.{PlanStream}
use Rattle.mg_calc.specs.declared.plan_stream.Producer.{Producer}
use Rattle.mg_calc.specs.declared.plan_stream.Producer.TheVariants.{Input, Node}
use Rattle.mg_calc.specs.Plan.{IsValid, producers, numbers}
use Rattle.mg_calc.specs.Outcome.{Outcome}
use Rattle.mg_calc.specs.Equations.{Job, IsJob, stream_of, outcome_of, next_round, round, IsSolution}
use Rattle.mg_calc.specs.Reaching.{producer_of, Reads, Reaches, at_once, through, MayDependBy, MayDepend}
use Rattle.mg_calc.proofs.Rounds.{outcome_has_outputs}
use Rattle.mg_calc.proofs.Solutions.{round_keeps, met_stays}
use Rattle.mg_calc.proofs.Positions.{Agree, agree_at, agree_both, agree_same, agree_parts, parts, parts_flat, givers, GivesAll, GiveSame}
use Rattle.mg_calc.proofs.Earlier.{there, get_map, node_reads_below}
use Rattle.mg_calc.proofs.Holding.{from_zero, gives_all_from, give_same_from, node_loops}
use Rattle.mg_calc.proofs.Settling.{outcome_of_inputs_by}
use Rattle.mg_calc.proofs.Jobs.{job_known, outcome_of_sides_by}

-- the graph inputs that a producer may depend on are the same in both
abbrev Safe : Plan → Inputs → Inputs → Producer → Type 0
Safe plan inputs more p = (input : ℕ) → MayDependBy plan input p → stream_of inputs.streams input ≡ stream_of more.streams input

agree_inputs : (K : Producer → Type 0) (from : ℕ) (xs ys : List (StreamPrefix Plain)) → length xs ≡ length ys → ((i : ℕ) → K (Input (from + i)) → stream_of xs i ≡ stream_of ys i)
    → Agree K (map Input (range_with_len from (length xs))) xs ys
agree_inputs K from [] [] l same = tt
agree_inputs K from [] (y ∷ ys) l same = absurd (omega (arith, l))
agree_inputs K from (x ∷ xs) [] l same = absurd (omega (arith, l))
agree_inputs K from (x ∷ xs) (y ∷ ys) l same = (
  (λ k. same 0 (subst (λ (i : ℕ). K (Input i)) (let e : from ≡ from + 0 = omega arith in e) k)),
  agree_inputs K (from + 1) xs ys (omega (arith, l)) (λ i k. same (suc i) (subst (λ (n : ℕ). K (Input n)) (let e : from + 1 + i ≡ from + suc i = omega arith in e) k)),
)

-- what a safe node reads is safe
producer_at : (plan : Plan) (stream : ℕ) → IsValid plan → stream < length plan.streams → (p : Producer) × (producer_of plan stream ≡ Some p) × (slice_get (producers plan) stream ≡ Some p)
producer_at plan stream valid le =
    let s = there plan.streams stream le in
    (s.0.producer, ap (λ o. option_map (λ z. z.producer) o) s.1, subst (λ (ps : List Producer). slice_get ps stream ≡ Some s.0.producer) valid.producers (get_map (λ z. z.producer) plan.streams stream s.0 s.1))

reads : (plan : Plan) (k : ℕ) (node : PlanNode) (stream : ℕ) → slice_get plan.nodes k ≡ Some node → Contains node.inputs stream → Reads plan k stream
reads plan k node stream at has = subst (λ (o : Option PlanNode). IsSomeAnd o (λ n. Contains n.inputs stream)) (sym at) has

reaches_by : (plan : Plan) (input k stream : ℕ) (p : Producer) → Reads plan k stream → producer_of plan stream ≡ Some p → MayDependBy plan input p → Reaches plan input k
reaches_by plan input k stream (Input other) r e d = at_once k stream r (e ∙ ap (λ i. Some (Input i)) d)
reaches_by plan input k stream (Node writer port) r e d = through k stream writer port r e d

-- all streams that a list of numbers names, if each number is in another list
streams_same : (plan : Plan) (inputs more : Inputs) (k : ℕ) (node : PlanNode) (streams : List ℕ) (xs ys : List (StreamPrefix Plain)) → IsValid plan → slice_get plan.nodes k ≡ Some node
    → ((port : ℕ) → Safe plan inputs more (Node k port)) → AllByRecursion (λ t. t < length plan.streams) streams → AllByRecursion (Contains node.inputs) streams → Agree (Safe plan inputs more) (producers plan) xs ys
    → map (stream_of xs) streams ≡ map (stream_of ys) streams
streams_same plan inputs more k node [] xs ys valid at safe le has agree = refl
streams_same plan inputs more k node (t ∷ streams) xs ys valid at safe le has agree =
    let p = producer_at plan t valid le.0 in
    let safe_here : Safe plan inputs more p.0 = λ input d. safe 0 input (reaches_by plan input k t p.0 (reads plan k node t at has.0) p.1 d) in
    ap₂ (λ (a : StreamPrefix Plain) (b : List (StreamPrefix Plain)). a ∷ b) (agree_at (Safe plan inputs more) (producers plan) xs ys t p.0 agree p.2 safe_here)
    (streams_same plan inputs more k node streams xs ys valid at safe le.1 has.1 agree)

-- each element of a list is in it
contains_first : (x : ℕ) (xs : List ℕ) → Contains (x ∷ xs) x
contains_first x xs = (0, omega arith, refl)

contains_rest : (y x : ℕ) (xs : List ℕ) → Contains xs x → Contains (y ∷ xs) x
contains_rest y x xs c = (suc c.0, (let le = c.1 in omega (arith, le)), c.2)

all_rest : (y : ℕ) (xs zs : List ℕ) → AllByRecursion (Contains xs) zs → AllByRecursion (Contains (y ∷ xs)) zs
all_rest y xs [] a = tt
all_rest y xs (z ∷ zs) a = (contains_rest y z xs a.0, all_rest y xs zs a.1)

contains_all : (xs : List ℕ) → AllByRecursion (Contains xs) xs
contains_all [] = tt
contains_all (x ∷ xs) = (contains_first x xs, all_rest x xs xs (contains_all xs))

rounds_agree_safely : {laws : Laws} (plan : Plan) (inputs more : Inputs) → IsJob (record { plan = plan; inputs = inputs; laws = laws }) → IsJob (record { plan = plan; inputs = more; laws = laws }) → inputs.sides ≡ more.sides → (n : ℕ)
    → Agree (Safe plan inputs more) (producers plan) (round (record { plan = plan; inputs = inputs; laws = laws }) n) (round (record { plan = plan; inputs = more; laws = laws }) n)
rounds_agree_safely {laws} plan inputs more is other sides zero =
    agree_same (Safe plan inputs more) (producers plan) (replicate (length plan.streams) empty_prefix)
    (length-replicate (length plan.streams) empty_prefix ∙ (sym (length-map_by (λ s. s.producer) plan.streams) ∙ ap length is.plan.producers))
  where
    length-map_by : (f : PlanStream → Producer) (ss : List PlanStream) → length (map f ss) ≡ length ss
    length-map_by f [] = refl
    length-map_by f (s ∷ ss) = ap suc (length-map_by f ss)
rounds_agree_safely {laws} plan inputs more is other sides (suc n) =
    let job : Job = record { plan = plan; inputs = inputs; laws = laws } in
    let changed : Job = record { plan = plan; inputs = more; laws = laws } in
    let xs = round job n in
    let ys = round changed n in
    let before = rounds_agree_safely plan inputs more is other sides n in
    let mine : ℕ → PlanNode → List (StreamPrefix Plain) = λ k node. (outcome_of job xs node).outputs in
    let others : ℕ → PlanNode → List (StreamPrefix Plain) = λ k node. (outcome_of changed ys node).outputs in
    let known = job_known job is in
    let known' = job_known changed other in
    let long : GivesAll mine 0 plan.nodes = gives_all_from mine 0 plan.nodes (from_zero plan.nodes (λ k node. length (mine k node) ≡ length node.outputs)
    (λ k node at. outcome_has_outputs job node xs (node_loops job known k node at) (round_keeps job known n))) in
    let long' : GivesAll others 0 plan.nodes = gives_all_from others 0 plan.nodes (from_zero plan.nodes (λ k node. length (others k node) ≡ length node.outputs)
    (λ k node at. outcome_has_outputs changed node ys (node_loops changed known' k node at) (round_keeps changed known' n))) in
    let same : GiveSame (Safe plan inputs more) mine others 0 plan.nodes = give_same_from (Safe plan inputs more) mine others 0 plan.nodes
    (from_zero plan.nodes (λ k node. (port : ℕ) → Safe plan inputs more (Node k port) → mine k node ≡ others k node)
    (λ k node at port safe. ap (λ (o : Outcome). o.outputs)
    (outcome_of_inputs_by node.law job node xs ys (streams_same plan inputs more k node node.inputs xs ys is.plan at (λ _. safe) (node_reads_below plan k node is.plan at) (contains_all node.inputs) before)
    ∙ outcome_of_sides_by laws node.law plan inputs more node ys sides))) in
    let firsts : Agree (Safe plan inputs more) (map Input (numbers (length plan.inputs))) inputs.streams more.streams =
    subst (λ (m : ℕ). Agree (Safe plan inputs more) (map Input (numbers m)) inputs.streams more.streams) is.inputs.streams
    (agree_inputs (Safe plan inputs more) 0 inputs.streams more.streams (is.inputs.streams ∙ sym other.inputs.streams) (λ i safe. safe i (let e : 0 + i ≡ i = omega arith in e))) in
    let all : Agree (Safe plan inputs more) (producers plan) (inputs.streams ++ parts mine 0 plan.nodes) (more.streams ++ parts others 0 plan.nodes) =
    agree_both (Safe plan inputs more) (map Input (numbers (length plan.inputs))) (givers 0 plan.nodes) inputs.streams more.streams (parts mine 0 plan.nodes) (parts others 0 plan.nodes) firsts
    (agree_parts (Safe plan inputs more) mine others 0 plan.nodes long long' same) in
    subst (λ (rest : List (StreamPrefix Plain)). Agree (Safe plan inputs more) (producers plan) (inputs.streams ++ rest) (next_round changed ys)) (parts_flat (λ node. (outcome_of job xs node).outputs) 0 plan.nodes)
    (subst (λ (rest : List (StreamPrefix Plain)). Agree (Safe plan inputs more) (producers plan) (inputs.streams ++ parts mine 0 plan.nodes) (more.streams ++ rest)) (parts_flat (λ node. (outcome_of changed ys node).outputs) 0 plan.nodes) all)

pub solution_independent : {laws : Laws} (plan : Plan) (inputs more : Inputs) (xs ys : List (StreamPrefix Plain)) (stream : ℕ) → IsJob (record { plan = plan; inputs = inputs; laws = laws }) → IsJob (record { plan = plan; inputs = more; laws = laws }) → inputs.sides ≡ more.sides
    → stream < length plan.streams → ((input : ℕ) → MayDepend plan input stream → stream_of inputs.streams input ≡ stream_of more.streams input)
    → IsSolution (record { plan = plan; inputs = inputs; laws = laws }) xs → IsSolution (record { plan = plan; inputs = more; laws = laws }) ys → stream_of xs stream ≡ stream_of ys stream
solution_independent {laws} plan inputs more xs ys stream is other sides le same a b =
    let job : Job = record { plan = plan; inputs = inputs; laws = laws } in
    let changed : Job = record { plan = plan; inputs = more; laws = laws } in
    let p = producer_at plan stream is.plan le in
    let safe : Safe plan inputs more p.0 = λ input d. same input (subst (λ (o : Option Producer). IsSomeAnd o (MayDependBy plan input)) (sym p.1) d) in
    let met : next_round job (round job a.number) ≡ round job a.number = subst (λ (zs : List (StreamPrefix Plain)). next_round job zs ≡ zs) a.reached a.meets in
    let met' : next_round changed (round changed b.number) ≡ round changed b.number = subst (λ (zs : List (StreamPrefix Plain)). next_round changed zs ≡ zs) b.reached b.meets in
    let first : xs ≡ round job (a.number + b.number) = a.reached ∙ sym (met_stays job a.number b.number met) in
    let second : ys ≡ round changed (a.number + b.number) = b.reached ∙ (sym (met_stays changed b.number a.number met') ∙ (let e : b.number + a.number ≡ a.number + b.number = omega arith in ap (round changed) e)) in
    ap (λ zs. stream_of zs stream) first
    ∙ (agree_at (Safe plan inputs more) (producers plan) (round job (a.number + b.number)) (round changed (a.number + b.number)) stream p.0 (rounds_agree_safely plan inputs more is other sides (a.number + b.number)) p.2 safe
    ∙ ap (λ zs. stream_of zs stream) (sym second))
