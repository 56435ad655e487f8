-- The report of a net at rest is that of the solution.
use Rattle.std.proofs.Common.{◌≡◌, ℕ, suc, ◌+◌, ◌≤◌, List, [], ◌∷◌, ◌++◌, length, length-drop, map, take, Option, Some, slice_get, refl, sym, ap, ap₂, subst, ◌∙◌, arith}
use Rattle.std.specs.List.{flat_map, filter_map, cons_option, enumerate_from}
use Rattle.std.proofs.lemmas.List.{map-append, map-id, take_all}
use Rattle.std.proofs.lemmas.List.Concat.{flat_map_single}
use Rattle.std.proofs.lemmas.Simd.{map-map}
use Rattle.mg_value.specs.Payload.{Plain}
use Rattle.mg_settled.specs.Prefix.{StreamPrefix}
use Rattle.mg_settled.specs.Ends.{end_of}
use Rattle.mg_settled.specs.declared.stream_end.StreamEnd.{StreamEnd}
use Rattle.mg_stream.specs.Queue.{StandsFor as IsQueueOf}
use Rattle.mg_stream.specs.Pool.{Backlog, queue_of}
use Rattle.mg_calc.specs.Rules.{Laws}
use Rattle.mg_calc.specs.declared.plan.Plan.{Plan}
use Rattle.mg_calc.specs.declared.plan_node.PlanNode.{PlanNode}
use Rattle.mg_calc.specs.Equations.{stream_of}
use Rattle.mg_calc.specs.Meaning.{count_of, counts, fault_of, faults}
use Rattle.mg_calc.specs.Plan.{written_streams}
use Rattle.mg_calc.proofs.Jobs.{job_known}
use Rattle.mg_calc.proofs.Solutions.{solution_has_each}
use Rattle.mg_node.specs.Views.{EngineView}
use Rattle.mg_node.specs.Job.{LoggedJob, Solves, streams_at}
use Rattle.mg_node.specs.Lawful.{StandForAll}
use Rattle.mg_node.proofs.Lemmas.{get_drop, input_has_laid}
use Rattle.mg_sched.specs.Views.{NetView}
use Rattle.mg_sched.specs.StandsFor.{StandsFor, StandsForSome, IsRunning}
use Rattle.mg_sched.specs.AtRest.{IsAtRest}
use Rattle.mg_sched.specs.Reports.{node_engines, input_engines, backlog_end, stream_ends_of, report_of}
use Rattle.mg_sched.proofs.Finding.{valid}
use Rattle.mg_sched.proofs.PlanStreams.{number_of}
use Rattle.mg_sched.proofs.RestingNets.{in_order, rests_solved, rests_with_counts, rests_with_faults}
use Rattle.mg_sched.proofs.RestingStreams.{all_laid, outputs_stand}

-- Lists that are the same place by place: their maps, what a filter leaves of these, and their pieces joined.

mapped_same : {X Y Z : Type 0} (f : X → Z) (g : Y → Z) (xs : List X) (ys : List Y) → length ys ≤ length xs → ((i : ℕ) (x : X) (y : Y) → slice_get xs i ≡ Some x → slice_get ys i ≡ Some y → f x ≡ g y) → map f (take (length ys) xs) ≡ map g ys
mapped_same f g xs [] long each = refl
mapped_same f g [] (y ∷ ys) long each = absurd (omega (arith, long))
mapped_same {X} {Y} {Z} f g (x ∷ xs) (y ∷ ys) long each =
    ap₂ (λ (z : Z) (zs : List Z). z ∷ zs) (each 0 x y refl refl) (mapped_same f g xs ys (omega (arith, long)) (λ i u v at there. each (suc i) u v at there))

filtered_same : {X Y Z : Type 0} (f : X → Option Z) (g : ℕ × Y → Option Z) (from : ℕ) (xs : List X) (ys : List Y) → length ys ≤ length xs → ((i : ℕ) (x : X) (y : Y) → slice_get xs i ≡ Some x → slice_get ys i ≡ Some y → f x ≡ g (from + i, y))
    → filter_map f (take (length ys) xs) ≡ filter_map g (enumerate_from from ys)
filtered_same f g from xs [] long each = refl
filtered_same f g from [] (y ∷ ys) long each = absurd (omega (arith, long))
filtered_same {X} {Y} {Z} f g from (x ∷ xs) (y ∷ ys) long each =
    let here : from + 0 ≡ from = omega arith in
    ap₂ (λ (o : Option Z) (zs : List Z). cons_option o zs) (each 0 x y refl refl ∙ ap (λ (n : ℕ). g (n, y)) here)
    (filtered_same f g (from + 1) xs ys (omega (arith, long)) (λ i u v at there. let next : from + suc i ≡ from + 1 + i = omega arith in each (suc i) u v at there ∙ ap (λ (n : ℕ). g (n, v)) next))

joined_same : {X Y W Z : Type 0} (f : X → List Z) (g : Y → List W) (e : W → Z) (xs : List X) (ys : List Y) → length ys ≤ length xs → ((i : ℕ) (x : X) (y : Y) → slice_get xs i ≡ Some x → slice_get ys i ≡ Some y → f x ≡ map e (g y))
    → flat_map f (take (length ys) xs) ≡ map e (flat_map g ys)
joined_same f g e xs [] long each = refl
joined_same f g e [] (y ∷ ys) long each = absurd (omega (arith, long))
joined_same {X} {Y} {W} {Z} f g e (x ∷ xs) (y ∷ ys) long each =
    ap₂ (λ (zs ws : List Z). zs ++ ws) (each 0 x y refl refl) (joined_same f g e xs ys (omega (arith, long)) (λ i u v at there. each (suc i) u v at there))
    ∙ sym (map-append e (g y) (flat_map g ys))

-- Counts and faults.

pub rests_with_sets : {laws : Laws} (job : LoggedJob laws) (net : NetView) (solution : List (StreamPrefix Plain)) → StandsFor job net → IsRunning net → IsAtRest laws net → Solves job solution → (report_of net).sets ≡ counts job.job solution
unfolding StandsFor
rests_with_sets {laws} job net solution h running rest solves =
    let long = h.engines in
    mapped_same (λ (e : EngineView). e.laid) (count_of job.job solution) net.engines net.plan.nodes (omega (arith, long)) (λ i engine node at there. rests_with_counts job net solution i node engine h running rest solves there at)
    ∙ ap (λ (p : Plan). map (count_of job.job solution) p.nodes) h.plan

pub rests_with_all_faults : {laws : Laws} (job : LoggedJob laws) (net : NetView) (solution : List (StreamPrefix Plain)) → StandsFor job net → IsRunning net → IsAtRest laws net → Solves job solution → (report_of net).faults ≡ faults job.job solution
unfolding StandsFor
rests_with_all_faults {laws} job net solution h running rest solves =
    let long = h.engines in
    filtered_same (λ (e : EngineView). e.fault) (fault_of job.job solution) 0 net.engines net.plan.nodes (omega (arith, long)) (λ i engine node at there.
    let start : i ≡ 0 + i = omega arith in
    rests_with_faults job net solution i node engine h running rest solves there at ∙ ap (λ (n : ℕ). fault_of job.job solution (n, node)) start)
    ∙ ap (λ (p : Plan). filter_map (fault_of job.job solution) (enumerate_from 0 p.nodes)) h.plan

-- Streams.

-- how far the stream of a number has come
abbrev end_at : List (StreamPrefix Plain) → ℕ → StreamEnd
end_at streams number = end_of (stream_of streams number)

end_is : (b : Backlog Plain) (s : StreamPrefix Plain) → IsQueueOf (queue_of 0 b) s → backlog_end b ≡ end_of s
end_is b s h =
    let gone = h.gone in
    let count : b.gone + length b.packets ≡ length s.packets = omega (arith, gone, ap length h.waiting, length-drop b.gone s.packets) in
    ap₂ (λ (n bound : ℕ). let it : StreamEnd = record { packets = n; bound = bound } in it) count h.bound

ends_are : (streams : List (StreamPrefix Plain)) (bs : List (Backlog Plain)) (numbers : List ℕ) → StandForAll bs (streams_at streams numbers) → map backlog_end bs ≡ map (end_at streams) numbers
ends_are streams [] [] stand = refl
ends_are streams [] (n ∷ ns) stand = absurd stand
ends_are streams (b ∷ bs) [] stand = absurd stand
ends_are streams (b ∷ bs) (n ∷ ns) stand = ap₂ (λ (e : StreamEnd) (es : List StreamEnd). e ∷ es) (end_is b (stream_of streams n) stand.0) (ends_are streams bs ns stand.1)

node_ends : {laws : Laws} (job : LoggedJob laws) (net : NetView) (solution : List (StreamPrefix Plain)) → StandsFor job net → IsRunning net → IsAtRest laws net → Solves job solution
    → flat_map stream_ends_of (node_engines net) ≡ map (end_at solution) (flat_map (λ node. node.outputs) net.plan.nodes)
unfolding StandsFor
node_ends {laws} job net solution h running rest solves =
    let long = h.engines in
    let laid = all_laid job net solution h running solves in
    let same : laid.0 ≡ solution = rests_solved job net solution laid.0 h running rest solves laid.1 in
    joined_same stream_ends_of (λ (node : PlanNode). node.outputs) (end_at solution) net.engines net.plan.nodes (omega (arith, long)) (λ i engine node at there.
    ends_are solution engine.outputs node.outputs (subst (λ (ss : List (StreamPrefix Plain)). StandForAll engine.outputs (streams_at ss node.outputs)) same (outputs_stand job net solution laid.0 i node engine h running laid.1 there at)))

input_ends : {laws : Laws} (job : LoggedJob laws) (net : NetView) (solution : List (StreamPrefix Plain)) → StandsFor job net → Solves job solution → flat_map stream_ends_of (input_engines net) ≡ map (end_at solution) net.plan.inputs
unfolding StandsFor
input_ends {laws} job net solution h solves =
    let some : StandsForSome laws net = record { job = job; stands = h } in
    let engines = input_engines net in
    let inputs = net.plan.inputs in
    let all = h.engines in
    let cut = length-drop (length net.plan.nodes) net.engines in
    let long : length engines ≡ length inputs = omega (arith, all, cut) in
    ap (flat_map stream_ends_of) (sym (take_all (length inputs) engines (omega (arith, long))))
    ∙ joined_same stream_ends_of (λ (n : ℕ). n ∷ []) (end_at solution) engines inputs (omega (arith, long)) (λ i engine number at there.
    let is : number ≡ 0 + i = (number_of 0 (length inputs) i number (ap (λ (ns : List ℕ). slice_get ns i) (sym (valid net some).inputs) ∙ there)).1 in
    let same : i ≡ number = omega (arith, is) in
    ends_are solution engine.outputs (i ∷ []) (input_has_laid job i engine solution solves (h.inputs i engine (sym (get_drop (length net.plan.nodes) net.engines i) ∙ at)))
    ∙ ap (λ (n : ℕ). end_at solution n ∷ []) same)
    ∙ ap (map (end_at solution)) (flat_map_single (λ (n : ℕ). n) inputs ∙ map-id inputs)

pub rests_with_ends : {laws : Laws} (job : LoggedJob laws) (net : NetView) (solution : List (StreamPrefix Plain)) → StandsFor job net → IsRunning net → IsAtRest laws net → Solves job solution → (report_of net).streams ≡ map end_of solution
unfolding StandsFor
rests_with_ends {laws} job net solution h running rest solves =
    let some : StandsForSome laws net = record { job = job; stands = h } in
    let outputs : List ℕ = flat_map (λ node. node.outputs) net.plan.nodes in
    let count : length solution ≡ length net.plan.streams =
    solution_has_each job.job (job_known job.job solves.is_job) solution solves.solution ∙ ap (λ (p : Plan). length p.streams) (sym h.plan) in
    ap₂ (λ (xs ys : List StreamEnd). xs ++ ys) (input_ends job net solution h solves) (node_ends job net solution h running rest solves)
    ∙ sym (map-append (end_at solution) net.plan.inputs outputs)
    ∙ sym (map-map end_of (stream_of solution) (written_streams net.plan))
    ∙ ap (map end_of) (in_order net.plan solution (valid net some) count)
