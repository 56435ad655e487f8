-- What a cell has to be for a claim: its role, its places, and its numbers.
use Rattle.std.proofs.Common.{◌≡◌, ℕ, ◌+◌, ◌<◌, ◌≤◌, List, [], ◌∷◌, ◌++◌, length, length-drop, drop, Option, Some, None, IsSomeAnd, option_map, unwrap_or, slice_get, ap, sym, refl, subst, ◌∙◌, arith}
use Rattle.std.specs.List.{AllByRecursion}
use Rattle.std.proofs.lemmas.List.Elements.{recursion_from_All}
use Rattle.mg_time.specs.Time.{done}
use Rattle.mg_value.specs.Payload.{Plain}
use Rattle.mg_settled.specs.Settled.{TimedSet, settled_sets}
use Rattle.mg_stream.specs.Pool.{queues_of}
use Rattle.mg_policy.specs.Inbox.{next_set}
use Rattle.mg_policy.specs.declared.readiness.Readiness.TheVariants.{Ready}
use Rattle.mg_policy.proofs.Standing.{all_prefixes, what_is_next}
use Rattle.mg_calc.specs.Rules.{Laws}
use Rattle.mg_calc.specs.declared.law.Law.{Law}
use Rattle.mg_calc.specs.declared.law.Law.TheVariants.{Count, SideOnce, Constants, Loopback}
use Rattle.mg_calc.specs.declared.plan_node.PlanNode.{PlanNode}
use Rattle.mg_node.specs.declared.role.Role.{Role}
use Rattle.mg_node.specs.declared.role.Role.TheVariants.{Input, Sets as SetsRole}
use Rattle.mg_node.specs.declared.pending.Pending.{Pending}
use Rattle.mg_node.specs.declared.pending.Pending.TheVariants.{Sets, Loop}
use Rattle.mg_node.specs.Views.{IntakeView, ContextView, EngineView}
use Rattle.mg_node.specs.Ports.{ports_in, IsNext}
use Rattle.mg_node.specs.Intakes.{HasSets, SomeJobHasIntake}
use Rattle.mg_node.specs.Job.{LoggedJob, role_of}
use Rattle.mg_node.specs.Lawful.{HoldsWaits, IsIntakeOf, LawfulIntake, IsIdle, IsEngineOf, LawfulEngine, of_node, AgreeBy, AreCell}
use Rattle.mg_node.proofs.Arriving.{ports_long}
use Rattle.mg_node.proofs.Claiming.{few_sets}
use Rattle.mg_node.proofs.Delivering.{last_have}

-- the roles of laws
pub never_input : (law : Law) → role_of law ≡ Input → ⊥
never_input (Count count start step) e = cc
never_input (SideOnce at) e = cc
never_input Constants e = cc
never_input Loopback e = cc
never_input law e = cc

loop_is_loop : (law : Law) → role_of law ≡ SetsRole → law ≡ Loopback → ⊥
loop_is_loop law e is = (let role = subst (λ (l : Law). role_of l ≡ SetsRole) is e in cc)

pub cell_never_input_by : {laws : Laws} (job : LoggedJob laws) (number : ℕ) (engine : EngineView) → LawfulEngine job (of_node number) engine → engine.role ≡ Input → ⊥
unfolding LawfulEngine
cell_never_input_by {laws} job number engine h e = never_input h.node.law (sym h.set_up.role ∙ e)

pub cell_never_input : {laws : Laws} (engine : EngineView) (intake : IntakeView) → AreCell laws engine intake → engine.role ≡ Input → ⊥
cell_never_input {laws} engine intake cell e = cell_never_input_by cell.job cell.number engine cell.lawful_engine e

-- an intake of a node that is shown sets has these
some_law : (o : Option PlanNode) (node : PlanNode) → o ≡ Some node → option_map (λ n. n.law) o ≡ Some Loopback → node.law ≡ Loopback
some_law None node is law = absurd cc
some_law (Some m) node is law = (let same : m ≡ node = cc in let here : m.law ≡ Loopback = cc in ap (λ (n : PlanNode). n.law) (sym same) ∙ here)

sets_by : {laws : Laws} (job : LoggedJob laws) (number claimed : ℕ) (engine : EngineView) (h : IsEngineOf job number engine) (i : IntakeView) (w : Pending) (is : IsIntakeOf job number i) → engine.role ≡ SetsRole → HoldsWaits job is.streams number claimed w → HasSets w
sets_by {laws} job number claimed engine h i (Sets inbox) is role holds = tt
sets_by {laws} job number claimed engine h i (Loop held) is role holds = loop_is_loop h.node.law (sym h.set_up.role ∙ role) (some_law (slice_get job.job.plan.nodes number) h.node h.there holds.0)

cell_sets_by : {laws : Laws} (job : LoggedJob laws) (number : ℕ) (engine : EngineView) (intake : IntakeView) → LawfulEngine job (of_node number) engine → LawfulIntake job number intake → engine.role ≡ SetsRole → HasSets intake.waits
unfolding LawfulEngine LawfulIntake
cell_sets_by {laws} job number engine intake h i role = sets_by job number intake.claimed engine h intake intake.waits i role i.holds

pub cell_sets : {laws : Laws} (engine : EngineView) (intake : IntakeView) → AreCell laws engine intake → engine.role ≡ SetsRole → HasSets intake.waits
cell_sets {laws} engine intake cell role = cell_sets_by cell.job cell.number engine intake cell.lawful_engine cell.lawful_intake role

-- the last context has a place for each port
cell_places_by : {laws : Laws} (job : LoggedJob laws) (number : ℕ) (engine : EngineView) (intake : IntakeView) (rest : List ContextView) (context : ContextView) → LawfulEngine job (of_node number) engine → LawfulIntake job number intake → engine.idle ≡ rest ++ context ∷ []
    → length context.set ≡ ports_in intake.waits
unfolding LawfulEngine LawfulIntake
cell_places_by {laws} job number engine intake rest context h i idle =
    let P : ContextView → Type 0 = IsIdle job h.streams h.node engine.laid engine.closed in
    let last : AllByRecursion P (context ∷ []) = last_have P rest (context ∷ []) (subst (AllByRecursion P) idle (recursion_from_All P engine.idle h.idle)) in
    last.0.places ∙ sym (ports_long job i.streams number intake.claimed intake.waits i.holds
    ∙ ap (λ (o : Option PlanNode). length (unwrap_or (option_map (λ n. n.inputs) o) job.job.plan.outputs)) h.there)

pub cell_places : {laws : Laws} (engine : EngineView) (intake : IntakeView) (rest : List ContextView) (context : ContextView) → AreCell laws engine intake → engine.idle ≡ rest ++ context ∷ [] → length context.set ≡ ports_in intake.waits
cell_places {laws} engine intake rest context cell idle = cell_places_by cell.job cell.number engine intake rest context cell.lawful_engine cell.lawful_intake idle

-- a next set is one more than are claimed, and there are no more sets than times
some_next : (o : Option (TimedSet Plain)) (at : ℕ) → IsSomeAnd o (λ e. e.at ≡ at) → (e : TimedSet Plain) × (o ≡ Some e)
some_next None at h = absurd h
some_next (Some e) at h = (e, refl)

nonempty : {X : Type 0} (xs : List X) (x : X) → slice_get xs 0 ≡ Some x → 0 < length xs
nonempty [] x h = absurd cc
nonempty (y ∷ xs) x h = omega arith

fits_by : {laws : Laws} (job : LoggedJob laws) (number claimed at : ℕ) (w : Pending) (i : IntakeView) (is : IsIntakeOf job number i) → HoldsWaits job is.streams number claimed w → HasSets w → IsNext w (Ready at) → claimed + 1 ≤ done
fits_by {laws} job number claimed at (Sets inbox) i is holds has next =
    let h = holds.1 in
    let some = some_next (next_set inbox.policy (queues_of inbox.pool)) at next in
    let rest = what_is_next inbox.policy claimed (queues_of inbox.pool) h.came h.stands in
    let more = nonempty (drop claimed (settled_sets inbox.policy h.came)) some.0 (ap (λ (sets : List (TimedSet Plain)). slice_get sets 0) (sym rest) ∙ some.1) in
    let few = few_sets inbox.policy h.came (all_prefixes (queues_of inbox.pool) h.came h.stands.each) in
    omega (arith, more, few, length-drop claimed (settled_sets inbox.policy h.came))
fits_by {laws} job number claimed at (Loop held) i is holds has next = absurd has

next_fits_by : {laws : Laws} (job : LoggedJob laws) (number at : ℕ) (intake : IntakeView) → LawfulIntake job number intake → HasSets intake.waits → IsNext intake.waits (Ready at) → intake.claimed + 1 ≤ done
unfolding LawfulIntake
next_fits_by {laws} job number at intake i has next = fits_by job number intake.claimed at intake.waits intake i i.holds has next

pub cell_fits : {laws : Laws} (engine : EngineView) (intake : IntakeView) (at : ℕ) → AreCell laws engine intake → engine.role ≡ SetsRole → IsNext intake.waits (Ready at) → engine.claimed + 1 ≤ done
cell_fits {laws} engine intake at cell role next =
    let few = next_fits_by cell.job cell.number at intake cell.lawful_intake (cell_sets engine intake cell role) next in
    let agree : engine.claimed ≡ intake.claimed = subst (λ (r : Role). AgreeBy r engine.claimed intake.claimed) role cell.agree in
    omega (arith, few, agree)

pub cell_has_intake : {laws : Laws} (engine : EngineView) (intake : IntakeView) → AreCell laws engine intake → SomeJobHasIntake intake
cell_has_intake {laws} engine intake cell = record { laws = laws; job = cell.job; consumer = cell.number; lawful = cell.lawful_intake }
