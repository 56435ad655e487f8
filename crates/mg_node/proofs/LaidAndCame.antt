-- What was laid and what came are the first part of the solution's streams.
use Rattle.std.proofs.Common.{◌≡◌, ℕ, zero, suc, ◌<◌, List, [], ◌∷◌, length, map, get_or, Some, slice_get, refl, sym, subst, ◌∙◌, arith}
use Rattle.std.specs.List.{AllZip}
use Rattle.std.proofs.lemmas.List.{length-map}
use Rattle.mg_value.specs.Payload.{Plain}
use Rattle.mg_settled.specs.Prefix.{StreamPrefix, empty_prefix}
use Rattle.mg_stream.specs.Queue.{StandsFor}
use Rattle.mg_stream.specs.Pool.{Backlog, empty_backlog, queue_of, queues_of}
use Rattle.mg_loopback.specs.Loopback.{Held}
use Rattle.mg_calc.specs.Rules.{Laws}
use Rattle.mg_calc.specs.declared.plan_node.PlanNode.{PlanNode}
use Rattle.mg_calc.proofs.Solutions.{one_solution}
use Rattle.mg_node.specs.declared.pending.Pending.{Pending}
use Rattle.mg_node.specs.declared.pending.Pending.TheVariants.{Sets, Loop}
use Rattle.mg_node.specs.Views.{IntakeView, EngineView}
use Rattle.mg_node.specs.Ports.{port_queue}
use Rattle.mg_node.specs.Job.{LoggedJob, Solves, ports_of, streams_at}
use Rattle.mg_node.specs.Lawful.{StandForAll, HoldsWaits, LawfulIntake, LawfulEngine, of_node, of_input}
use Rattle.mg_node.specs.Carried.{HasLaid, HasReached}
use Rattle.mg_node.proofs.RestingEnds.{of_these}
use Rattle.mg_node.proofs.Zips.{zip_long}

pub node_has_laid : {laws : Laws} (job : LoggedJob laws) (number : ℕ) (node : PlanNode) (engine : EngineView) (solution : List (StreamPrefix Plain)) → Solves job solution → slice_get job.job.plan.nodes number ≡ Some node → LawfulEngine job (of_node number) engine
    → HasLaid engine (streams_at solution node.outputs)
unfolding LawfulEngine
node_has_laid {laws} job number node engine solution solves there h =
    of_these (λ ss m. HasLaid engine (streams_at ss m.outputs)) job number node engine solution h solves there (record { laid = h.whole; kept = h.kept; extended = h.extended })

pub input_has_laid : {laws : Laws} (job : LoggedJob laws) (number : ℕ) (engine : EngineView) (solution : List (StreamPrefix Plain)) → Solves job solution → LawfulEngine job (of_input number) engine → StandForAll engine.outputs (get_or solution number empty_prefix ∷ [])
unfolding LawfulEngine
input_has_laid {laws} job number engine solution solves h =
    let same : h.streams ≡ solution = one_solution job.job h.streams solution h.solves.solution solves.solution in
    subst (λ (ss : List (StreamPrefix Plain)). StandForAll engine.outputs (get_or ss number empty_prefix ∷ [])) same h.kept

-- What came at each port.

stands_at : (spare : ℕ) (bs : List (Backlog Plain)) (ss : List (StreamPrefix Plain)) (i : ℕ) → AllZip StandsFor (map (queue_of spare) bs) ss → i < length ss → StandsFor (queue_of spare (get_or bs i empty_backlog)) (get_or ss i empty_prefix)
stands_at spare [] [] i z le = absurd (omega (arith, le))
stands_at spare [] (s ∷ ss) i z le = absurd z
stands_at spare (b ∷ bs) [] i z le = absurd z
stands_at spare (b ∷ bs) (s ∷ ss) zero z le = z.0
stands_at spare (b ∷ bs) (s ∷ ss) (suc i) z le = stands_at spare bs ss i z.1 (omega (arith, le))

loop_at : (held : Held Plain) (loop main : StreamPrefix Plain) → StandsFor held.loop loop → StandsFor held.main main → (port : ℕ) → port < 2 → StandsFor (port_queue (Loop held) port) (get_or (loop ∷ main ∷ []) port empty_prefix)
loop_at held loop main at_loop at_main zero le = at_loop
loop_at held loop main at_loop at_main (suc zero) le = at_main
loop_at held loop main at_loop at_main (suc (suc port)) le = absurd (omega (arith, le))

reached_by : {laws : Laws} (job : LoggedJob laws) (streams : List (StreamPrefix Plain)) (consumer claimed : ℕ) (w : Pending) → HoldsWaits job streams consumer claimed w → HasReached (record { claimed = claimed; waits = w }) (streams_at streams (ports_of job.job.plan consumer))
reached_by {laws} job streams consumer claimed (Sets inbox) h = record {
  came = h.1.came;
  stands = record {
    ports = sym (zip_long StandsFor (queues_of inbox.pool) h.1.came h.1.stands.each) ∙ length-map inbox.pool.ports (queue_of inbox.pool.spare);
    stands = λ port le. stands_at inbox.pool.spare inbox.pool.ports h.1.came port h.1.stands.each le;
  };
  extended = h.1.extended;
}
reached_by {laws} job streams consumer claimed (Loop held) h = record {
  came = h.1.loop ∷ h.1.main ∷ [];
  stands = record { ports = refl; stands = loop_at held h.1.loop h.1.main h.1.stands.at_loop h.1.stands.at_main };
  extended = h.1.extended;
}

pub intake_has_reached : {laws : Laws} (job : LoggedJob laws) (consumer : ℕ) (intake : IntakeView) (solution : List (StreamPrefix Plain)) → Solves job solution → LawfulIntake job consumer intake → HasReached intake (streams_at solution (ports_of job.job.plan consumer))
unfolding LawfulIntake
intake_has_reached {laws} job consumer intake solution solves h =
    let same : h.streams ≡ solution = one_solution job.job h.streams solution h.solves.solution solves.solution in
    subst (λ (ss : List (StreamPrefix Plain)). HasReached intake (streams_at ss (ports_of job.job.plan consumer))) same (reached_by job h.streams consumer intake.claimed intake.waits h.holds)
