-- Who writes the streams of a valid plan. Each stream is the graph input that its producer tells, or stands at the output that its producer
-- tells.
use Rattle.std.proofs.Common.{◌≡◌, ℕ, zero, suc, ◌+◌, ◌<◌, List, [], ◌∷◌, ◌++◌, Some, length, map, take, slice_get, option_map, ⊎_elim, refl, sym, ap, ◌∙◌, subst, arith}
use Rattle.std.specs.Prelude.{sum_by}
use Rattle.std.specs.List.{range_with_len, enumerate_from, flat_map}
use Rattle.std.proofs.lemmas.List.FromFn.{length-range_with_len, length-map-range_with_len}
use Rattle.std.proofs.lemmas.Option.{same_Some, slice_get-map, slice_get_within, slice_get-get_or}
use Rattle.mg_calc.specs.declared.plan.Plan.{Plan}
use Rattle.mg_calc.specs.declared.plan_node.PlanNode.{PlanNode}
use Rattle.mg_calc.specs.declared.plan_stream.PlanStream.{PlanStream}
use Rattle.mg_calc.specs.declared.plan_stream.Producer.{Producer}
use Rattle.mg_calc.specs.declared.plan_stream.Producer.TheVariants.{Input, Node}
use Rattle.mg_calc.specs.Plan.{IsValid, numbers, producers, written_streams}
use Rattle.mg_sched.proofs.PlanEdges.{joined_at, at_first, at_second, mapped_at, piece_of, piece_at}

-- ---- numbers, place by place

pub number_there : (a n j : ℕ) → j < n → slice_get (range_with_len a n) j ≡ Some (a + j)
number_there a zero j within = absurd (omega arith)
number_there a (suc n) zero within = let start : a ≡ a + 0 = omega arith in ap Some start
number_there a (suc n) (suc j) within = let next : (a + 1) + j ≡ a + suc j = omega arith in number_there (a + 1) n j (omega arith) ∙ ap Some next

pub number_of : (a n j m : ℕ) → slice_get (range_with_len a n) j ≡ Some m → (j < n) × (m ≡ a + j)
number_of a n j m at =
    let within : j < n = omega (arith, slice_get_within (range_with_len a n) j m at, length-range_with_len a n) in
    (within, sym (same_Some (a + j) m (sym (number_there a n j within) ∙ at)))

-- ---- producers

abbrev by_node : ℕ × PlanNode → List Producer
by_node e = map (λ port. Node e.0 port) (numbers (length e.1.outputs))

abbrev outputs_count : PlanNode → ℕ
outputs_count node = length node.outputs

by_node_long : (k : ℕ) (node : PlanNode) → length (by_node (k, node)) ≡ outputs_count node
by_node_long k node = length-map-range_with_len (Node k) 0 (length node.outputs)

abbrev by_inputs : Plan → List Producer
by_inputs plan = map Input (numbers (length plan.inputs))

inputs_long : (plan : Plan) → length (by_inputs plan) ≡ length plan.inputs
inputs_long plan = length-map-range_with_len Input 0 (length plan.inputs)

-- the outputs of all nodes are their pieces, whatever the nodes' numbers
abbrev outputs_of : ℕ × PlanNode → List ℕ
outputs_of e = e.1.outputs

outputs_flat : (a : ℕ) (nodes : List PlanNode) → flat_map outputs_of (enumerate_from a nodes) ≡ flat_map (λ node. node.outputs) nodes
outputs_flat a [] = refl
outputs_flat a (node ∷ nodes) = ap (λ l. node.outputs ++ l) (outputs_flat (a + 1) nodes)

-- the stream at an output of a node has its number by its place
pub output_number : (plan : Plan) → IsValid plan → (n port s : ℕ) (node : PlanNode) → slice_get plan.nodes n ≡ Some node → slice_get node.outputs port ≡ Some s
    → (s ≡ length plan.inputs + (sum_by outputs_count (take n plan.nodes) + port)) × (s < length plan.streams)
output_number plan valid n port s node there at =
    let place : ℕ = sum_by outputs_count (take n plan.nodes) + port in
    let piece : slice_get (flat_map outputs_of (enumerate_from 0 plan.nodes)) place ≡ Some s = piece_at outputs_of outputs_count (λ _ _. refl) 0 plan.nodes n node port s there at in
    let flat : slice_get (flat_map (λ x. x.outputs) plan.nodes) place ≡ Some s = ap (λ l. slice_get l place) (sym (outputs_flat 0 plan.nodes)) ∙ piece in
    let written : slice_get (written_streams plan) (length plan.inputs + place) ≡ Some s = at_second plan.inputs (flat_map (λ x. x.outputs) plan.nodes) place s flat in
    let number = number_of 0 (length plan.streams) (length plan.inputs + place) s (ap (λ l. slice_get l (length plan.inputs + place)) (sym valid.streams) ∙ written) in
    (omega (arith, number.1), omega (arith, number.0, number.1))

-- a stream has a producer
abbrev pub HasProducer : Plan → ℕ → Producer → Type 0
HasProducer plan s producer = (stream : PlanStream) × (slice_get plan.streams s ≡ Some stream) × (stream.producer ≡ producer)

listed : (plan : Plan) → IsValid plan → (s : ℕ) (p : Producer) → slice_get (producers plan) s ≡ Some p → HasProducer plan s p
listed plan valid s p at = mapped_at (λ (x : PlanStream). x.producer) plan.streams s p (ap (λ l. slice_get l s) valid.producers ∙ at)

-- the stream at an output of a node is written by it
pub node_streams : (plan : Plan) → IsValid plan → (n port s : ℕ) (node : PlanNode) → slice_get plan.nodes n ≡ Some node → slice_get node.outputs port ≡ Some s
    → HasProducer plan s (Node n port)
node_streams plan valid n port s node there at =
    let place : ℕ = sum_by outputs_count (take n plan.nodes) + port in
    let zero_n : 0 + n ≡ n = omega arith in
    let zero_port : 0 + port ≡ port = omega arith in
    let port_at : slice_get (numbers (length node.outputs)) port ≡ Some port = number_there 0 (length node.outputs) port (slice_get_within node.outputs port s at) ∙ ap Some zero_port in
    let here : slice_get (by_node (0 + n, node)) port ≡ Some (Node n port) =
    slice_get-map (Node (0 + n)) (numbers (length node.outputs)) port ∙ (ap (option_map (Node (0 + n))) port_at ∙ ap (λ k. Some (Node k port)) zero_n) in
    let piece = piece_at by_node outputs_count by_node_long 0 plan.nodes n node port (Node n port) there here in
    let all = at_second (by_inputs plan) (flat_map by_node (enumerate_from 0 plan.nodes)) place (Node n port) piece in
    let is : length (by_inputs plan) + place ≡ s = omega (arith, inputs_long plan, (output_number plan valid n port s node there at).0) in
    listed plan valid s (Node n port) (subst (λ k. slice_get (producers plan) k ≡ Some (Node n port)) is all)

-- the first streams are the graph inputs
pub input_stream : (plan : Plan) → IsValid plan → (j : ℕ) → j < length plan.inputs → HasProducer plan j (Input j)
input_stream plan valid j within =
    let zero_j : 0 + j ≡ j = omega arith in
    listed plan valid j (Input j) (at_first (by_inputs plan) (flat_map by_node (enumerate_from 0 plan.nodes)) j (Input j)
    (slice_get-map Input (numbers (length plan.inputs)) j ∙ ap (option_map Input) (number_there 0 (length plan.inputs) j within ∙ ap Some zero_j)))

-- a producer writes a stream. It is the graph input of the stream's number, or a node that is there and has the stream at one of its
-- outputs
abbrev pub WrittenBy : Plan → ℕ → Producer → Type 0
WrittenBy plan s (Input input) = (input ≡ s) × (input < length plan.inputs)
WrittenBy plan s (Node n port) = (node : PlanNode) × (slice_get plan.nodes n ≡ Some node) × (slice_get node.outputs port ≡ Some s)

written : (plan : Plan) → IsValid plan → (s : ℕ) (p : Producer) → slice_get (producers plan) s ≡ Some p → WrittenBy plan s p
written plan valid s p at =
    ⊎_elim
    (λ here. let input = mapped_at Input (numbers (length plan.inputs)) s p here in
    let number = number_of 0 (length plan.inputs) s input.0 input.1 in
    let is : input.0 ≡ s = omega (arith, number.1) in
    subst (WrittenBy plan s) input.2 (is, omega (arith, number.0, is)))
    (λ r. let piece = piece_of by_node outputs_count by_node_long 0 plan.nodes r.0 p r.2 in
    let port = mapped_at (Node (0 + piece.number)) (numbers (length piece.element.outputs)) piece.place p piece.at in
    let number = number_of 0 (length piece.element.outputs) piece.place port.0 port.1 in
    let port_is : port.0 ≡ piece.place = omega (arith, number.1) in
    let node_is : 0 + piece.number ≡ piece.number = omega arith in
    let output = slice_get-get_or piece.element.outputs port.0 0 (omega (arith, number.0, port_is)) in
    let is = (output_number plan valid piece.number port.0 _ piece.element piece.there output).0 in
    subst (WrittenBy plan s) port.2 (piece.element, subst (λ n. slice_get plan.nodes n ≡ Some piece.element) (sym node_is) piece.there, output ∙ ap Some (omega (arith, is, port_is, r.1, inputs_long plan, piece.behind))))
    (joined_at (by_inputs plan) (flat_map by_node (enumerate_from 0 plan.nodes)) s p at)

-- each stream is written by its producer
pub producer_there : (plan : Plan) → IsValid plan → (s : ℕ) → s < length plan.streams
    → (stream : PlanStream) × (slice_get plan.streams s ≡ Some stream) × WrittenBy plan s stream.producer
producer_there plan valid s within =
    let there = some_at plan.streams s within in
    let at : slice_get (producers plan) s ≡ Some there.0.producer =
    ap (λ l. slice_get l s) (sym valid.producers) ∙ (slice_get-map (λ (x : PlanStream). x.producer) plan.streams s ∙ ap (option_map (λ (x : PlanStream). x.producer)) there.1) in
    (there.0, there.1, written plan valid s there.0.producer at)
  where
    some_at : (xs : List PlanStream) (k : ℕ) → k < length xs → (x : PlanStream) × (slice_get xs k ≡ Some x)
    some_at [] k within = absurd (omega (arith, within))
    some_at (x ∷ xs) zero within = (x, refl)
    some_at (x ∷ xs) (suc k) within = some_at xs k (omega (arith, within))
