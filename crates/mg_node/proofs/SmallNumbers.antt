-- Counts fit in 64 bits, and bounds are times.
use Rattle.std.proofs.Common.{◌≡◌, ℕ, zero, suc, ◌+◌, ◌<◌, ◌≤◌, ◌^◌, ◌==◌, Bool, true, false, List, [], ◌∷◌, length, map, get_or, All, Some, slice_get, count_by as number_of, cond, inl, inr, refl, sym, subst, arith, if◌then◌else◌}
use Rattle.std.specs.List.{AllZip, AllByRecursion}
use Rattle.std.proofs.lemmas.Bool.{cases_Bool}
use Rattle.std.proofs.lemmas.List.Elements.{All-from_recursion}
use Rattle.std.proofs.lemmas.List.Sums.{sum_by-cons}
use Rattle.mg_time.specs.Time.{done}
use Rattle.mg_value.specs.Payload.{Plain}
use Rattle.mg_settled.specs.Prefix.{StreamPrefix, IsPrefix, empty_prefix}
use Rattle.mg_settled.proofs.Lemmas.{replies-most}
use Rattle.mg_stream.specs.Queue.{Waiting, StandsFor, count_of}
use Rattle.mg_stream.specs.Pool.{Backlog, queue_of, empty_backlog}
use Rattle.mg_calc.specs.Rules.{Laws}
use Rattle.mg_calc.specs.declared.law.Law.{Law}
use Rattle.mg_calc.specs.declared.law.Law.TheVariants.{Count, SideOnce, Loopback}
use Rattle.mg_calc.specs.declared.plan_node.PlanNode.{PlanNode}
use Rattle.mg_calc.specs.Equations.{inputs_of}
use Rattle.mg_calc.specs.Meaning.{count_of as count_of_node}
use Rattle.mg_calc.specs.Shape.{ParametersFit, calls_of}
use Rattle.mg_calc.proofs.Jobs.{job_known}
use Rattle.mg_calc.proofs.Rounds.{stream_is_prefix, streams_are_prefixes}
use Rattle.mg_calc.proofs.Solutions.{solution_keeps}
use Rattle.mg_node.specs.declared.pending.Pending.{Pending}
use Rattle.mg_node.specs.declared.pending.Pending.TheVariants.{Sets, Loop}
use Rattle.mg_node.specs.Views.{IntakeView, EntryView, EngineView}
use Rattle.mg_node.specs.Ports.{port_queue}
use Rattle.mg_node.specs.Job.{LoggedJob, Solves, main_of, loop_of, count_by, count_of_all}
use Rattle.mg_node.specs.Lawful.{HoldsWaits, LawfulIntake, StandForAll, is_close, Owner, of_node, of_input, IsEngineOf, LawfulEngine}
use Rattle.mg_node.proofs.Claiming.{few_sets}
use Rattle.mg_node.proofs.Delivering.{counted}
use Rattle.mg_node.proofs.FewWait.{prefix_few}
use Rattle.mg_node.proofs.HeldRules.{of_node as at_node}
use Rattle.mg_node.proofs.RestingEnds.{most_counted, of_these}
use Rattle.mg_node.proofs.Stages.{kind_of, outer_count, called_count}
use Rattle.mg_node.proofs.TaskLogs.{task_within, task_most}

-- Engines.

-- a node has no more sets, calls or answers than there are times
few_calls : (law : Law) → ParametersFit law → calls_of law ≤ 1000000
few_calls (Count count start apart) fits = fits.0
few_calls (SideOnce at) fits = omega arith
few_calls law fits = omega arith

few_replies : (law : Law) (streams : List (StreamPrefix Plain)) (node : PlanNode) → law ≡ Loopback → length (main_of streams node).packets ≤ done → count_by law streams node ≤ done
few_replies law streams node is few =
    let most = replies-most (main_of streams node) (loop_of streams node) in
    subst (λ (l : Law). count_by l streams node ≤ done) (sym is) (omega (arith, most, few))

few_counted : {laws : Laws} (job : LoggedJob laws) (streams : List (StreamPrefix Plain)) (number : ℕ) (node : PlanNode) → Solves job streams → slice_get job.job.plan.nodes number ≡ Some node → count_of_all streams node ≤ done
few_counted {laws} job streams number node solves there =
    let prefixes : AllByRecursion IsPrefix (inputs_of streams node) = streams_are_prefixes streams node.inputs (solution_keeps job.job (job_known job.job solves.is_job) streams solves.solution) in
    elim (kind_of node.law) [
      | inl is ↦
          (let count = outer_count node.law streams node is in
          let few = few_sets node.policy (inputs_of streams node) (All-from_recursion IsPrefix (inputs_of streams node) prefixes) in
          omega (arith, count, few))
      | inr (inl is) ↦
          (let count = called_count node.law streams node is in
          let few = few_calls node.law (at_node (λ (m : PlanNode). ParametersFit m.law) job.job.plan.nodes number node solves.is_job.plan.parameters there) in
          omega (arith, count, few))
      | inr (inr is) ↦ (let few = prefix_few (main_of streams node) (stream_is_prefix (inputs_of streams node) 1 prefixes) in few_replies node.law streams node is (omega (arith, few)))
    ]

-- an entry at each place
entry_at : {X : Type 0} (xs : List X) (i : ℕ) → i < length xs → (x : X) × (slice_get xs i ≡ Some x)
entry_at [] i le = absurd (omega (arith, le))
entry_at (x ∷ xs) zero le = (x, refl)
entry_at (x ∷ xs) (suc i) le = entry_at xs i (omega (arith, le))

one_number : {X : Type 0} (p : X → Bool) (xs : List X) (i : ℕ) (x : X) → slice_get xs i ≡ Some x → p x ≡ true → 1 ≤ number_of p xs
one_number p [] i x there passes = absurd cc
one_number {X} p (y ∷ xs) zero x there passes =
    let same : y ≡ x = cc in
    let here : (let n : ℕ = if p y then 1 else 0 in n) ≡ 1 = subst (λ (z : X). (let n : ℕ = if p z then 1 else 0 in n) ≡ 1) (sym same) (rw passes refl) in
    let step = sum_by-cons (λ z. cond {A = ℕ} (p z) 1 0) y xs in
    omega (arith, here, step)
one_number p (y ∷ xs) (suc i) x there passes =
    let later = one_number p xs i x there passes in
    let step = sum_by-cons (λ z. cond {A = ℕ} (p z) 1 0) y xs in
    omega (arith, later, step)

-- no more are claimed than there are: the last entry is the work of the last number, or Close after it
most_claimed : {laws : Laws} (job : LoggedJob laws) (number : ℕ) (engine : EngineView) (h : IsEngineOf job number engine) → engine.claimed ≤ count_of_all h.streams h.node
most_claimed {laws} job number engine h = by_long (length engine.window) refl
  where
    by_long : (n : ℕ) → length engine.window ≡ n → engine.claimed ≤ count_of_all h.streams h.node
    by_long zero none =
        let order = h.order in
        let taken = h.taken in
        let most = most_counted job.job h.streams h.node in
        omega (arith, order, taken, most, none)
    by_long (suc n) some =
        let order = h.order in
        let last = entry_at engine.window n (omega (arith, some)) in
        let e = h.entries n last.0 last.1 in
        elim (cases_Bool (is_close last.0.phase)) [
          | inl closes ↦
              (let one = one_number (λ (x : EntryView). is_close x.phase) engine.window n last.0 last.1 closes in
              let most = task_most job h.streams h.node (engine.laid + n) last.0.phase e.set e.task in
              omega (arith, order, some, one, most))
          | inr more ↦ (let less = task_within job h.streams h.node (engine.laid + n) last.0.phase e.set more e.task in omega (arith, order, some, less))
        ]

few_claimed : {laws : Laws} (job : LoggedJob laws) (number : ℕ) (engine : EngineView) (h : IsEngineOf job number engine) → engine.claimed < 2 ^ 64
few_claimed {laws} job number engine h =
    let most = most_claimed job number engine h in
    let few = few_counted job h.streams number h.node h.solves h.there in
    omega (arith, most, few)

pub claims_small : {laws : Laws} (job : LoggedJob laws) (owner : Owner) (engine : EngineView) → LawfulEngine job owner engine → engine.claimed < 2 ^ 64
unfolding LawfulEngine
claims_small {laws} job (of_node number) engine h = few_claimed job number engine h
claims_small {laws} job (of_input number) engine h = (let none = h.claimed in omega (arith, none))

-- the number of an entry, Close too
place_few : {laws : Laws} (job : LoggedJob laws) (number : ℕ) (engine : EngineView) (place : ℕ) → IsEngineOf job number engine → place < length engine.window → engine.laid + place ≤ done
place_few {laws} job number engine place h there =
    let it = entry_at engine.window place there in
    let e = h.entries place it.0 it.1 in
    let most = task_most job h.streams h.node (engine.laid + place) it.0.phase e.set e.task in
    let few = few_counted job h.streams number h.node h.solves h.there in
    omega (arith, most, few)

pub place_small : {laws : Laws} (job : LoggedJob laws) (number : ℕ) (engine : EngineView) (place : ℕ) → LawfulEngine job (of_node number) engine → place < length engine.window → engine.laid + place ≤ done
unfolding LawfulEngine
place_small {laws} job number engine place h there = place_few job number engine place h there

-- the bounds of outputs
bounds_by : (outputs : List (Backlog Plain)) (whole : List (StreamPrefix Plain)) → StandForAll outputs whole → AllByRecursion (λ b. b.bound ≤ done) outputs
bounds_by [] [] h = tt
bounds_by [] (s ∷ whole) h = absurd h
bounds_by (b ∷ outputs) [] h = absurd h
bounds_by (b ∷ outputs) (s ∷ whole) h = ((let within = h.0.prefix.within in let same = h.0.bound in omega (arith, within, same)), bounds_by outputs whole h.1)

pub bounds_small : {laws : Laws} (job : LoggedJob laws) (owner : Owner) (engine : EngineView) → LawfulEngine job owner engine → All (λ b. b.bound ≤ done) engine.outputs
unfolding LawfulEngine
bounds_small {laws} job (of_node number) engine h = All-from_recursion (λ (b : Backlog Plain). b.bound ≤ done) engine.outputs (bounds_by engine.outputs h.whole h.kept)
bounds_small {laws} job (of_input number) engine h = All-from_recursion (λ (b : Backlog Plain). b.bound ≤ done) engine.outputs (bounds_by engine.outputs (get_or h.streams number empty_prefix ∷ []) h.kept)

-- no more are claimed than are counted, and in flight
claimed_by : {laws : Laws} (job : LoggedJob laws) (number : ℕ) (engine : EngineView) (h : IsEngineOf job number engine) → engine.claimed ≤ count_of_node job.job h.streams h.node + h.node.in_flight
claimed_by {laws} job number engine h =
    let order = h.order in
    let taken = h.taken in
    let contexts = h.contexts in
    let flight = h.set_up.in_flight in
    omega (arith, order, taken, contexts, flight)

pub claims_counted : {laws : Laws} (job : LoggedJob laws) (number : ℕ) (node : PlanNode) (engine : EngineView) (solution : List (StreamPrefix Plain)) → Solves job solution → slice_get job.job.plan.nodes number ≡ Some node → LawfulEngine job (of_node number) engine
    → engine.claimed ≤ count_of_node job.job solution node + node.in_flight
unfolding LawfulEngine
claims_counted {laws} job number node engine solution solves there h = of_these (λ ss m. engine.claimed ≤ count_of_node job.job ss m + m.in_flight) job number node engine solution h solves there (claimed_by job number engine h)

-- Intakes.

-- what came at a port
record IsSmall (q : Waiting Plain) : Type 0 where
  count : count_of q < 2 ^ 64
  bound : q.bound ≤ done

stands_small : (q : Waiting Plain) (s : StreamPrefix Plain) → StandsFor q s → IsSmall q
stands_small q s h =
    let few = prefix_few s h.prefix in
    let many = counted q s h in
    let within = h.prefix.within in
    let same = h.bound in
    record { count = omega (arith, few, many); bound = omega (arith, within, same) }

-- to a port past the last nothing came
pool_small : (room : ℕ) (bs : List (Backlog Plain)) (ss : List (StreamPrefix Plain)) (port : ℕ) → AllZip StandsFor (map (queue_of room) bs) ss → IsSmall (queue_of room (get_or bs port empty_backlog))
pool_small room [] ss port h = record { count = omega arith; bound = omega arith }
pool_small room (b ∷ bs) [] port h = absurd h
pool_small room (b ∷ bs) (s ∷ ss) zero h = stands_small (queue_of room b) s h.0
pool_small room (b ∷ bs) (s ∷ ss) (suc port) h = pool_small room bs ss port h.1

held_small : (here : Bool) (loop main : Waiting Plain) → IsSmall loop → IsSmall main → IsSmall (if here then loop else main)
held_small true loop main a b = a
held_small false loop main a b = b

waits_small : {laws : Laws} (job : LoggedJob laws) (streams : List (StreamPrefix Plain)) (consumer claimed : ℕ) (waits : Pending) (port : ℕ) → HoldsWaits job streams consumer claimed waits → IsSmall (port_queue waits port)
waits_small {laws} job streams consumer claimed (Sets inbox) port h = pool_small inbox.pool.spare inbox.pool.ports h.1.came port h.1.stands.each
waits_small {laws} job streams consumer claimed (Loop held) port h =
    (let stands = h.1.stands in held_small (port == 0) held.loop held.main (stands_small held.loop h.1.loop stands.at_loop) (stands_small held.main h.1.main stands.at_main))

port_small : {laws : Laws} (job : LoggedJob laws) (consumer port : ℕ) (intake : IntakeView) → LawfulIntake job consumer intake → IsSmall (port_queue intake.waits port)
unfolding LawfulIntake
port_small {laws} job consumer port intake h = waits_small job h.streams consumer intake.claimed intake.waits port h.holds

pub counts_small : {laws : Laws} (job : LoggedJob laws) (consumer port : ℕ) (intake : IntakeView) → LawfulIntake job consumer intake → count_of (port_queue intake.waits port) < 2 ^ 64
counts_small {laws} job consumer port intake h = (port_small job consumer port intake h).count

pub port_bounds_small : {laws : Laws} (job : LoggedJob laws) (consumer port : ℕ) (intake : IntakeView) → LawfulIntake job consumer intake → (port_queue intake.waits port).bound ≤ done
port_bounds_small {laws} job consumer port intake h = (port_small job consumer port intake h).bound
