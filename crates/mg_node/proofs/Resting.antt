-- A cell that can go no further meets its equation: what it laid extends what becomes of its node from what came.
use Rattle.std.proofs.Common.{◌≡◌, ℕ, ℤ, ◌+◌, ◌<◌, ◌≤◌, Bool, false, inl, inr, List, [], ◌∷◌, take, length, All, Option, Some, None, option_map, unwrap_or, is_some, slice_get, slice_index_or, count_by as number_of, ap, ap₂, sym, refl, subst, ◌∙◌, arith, if◌then◌else◌}
use Rattle.std.specs.List.{AllZip, AllByRecursion}
use Rattle.std.proofs.lemmas.Bool.{cases_Bool, false≢true}
use Rattle.std.proofs.lemmas.Bool.Decides.{eqb_tells}
use Rattle.std.proofs.lemmas.List.Elements.{All-from_recursion, recursion_from_All}
use Rattle.mg_time.specs.Time.{done, shift}
use Rattle.mg_value.specs.Payload.{Plain}
use Rattle.mg_value.specs.declared.policy.Policy.{Policy}
use Rattle.mg_value.specs.declared.policy.Policy.TheVariants.{Default}
use Rattle.mg_settled.specs.Prefix.{StreamPrefix, IsPrefix, empty_prefix}
use Rattle.mg_settled.specs.Extension.{IsExtendedBy, AreExtendedBy}
use Rattle.mg_settled.specs.Settled.{TimedSet, settled_sets, reach}
use Rattle.mg_settled.proofs.Lemmas.{first-time, all_without_first, all_by_themselves, sets-stay, loopback_extends}
use Rattle.mg_stream.specs.Queue.{Waiting, StandsFor}
use Rattle.mg_stream.specs.Pool.{Backlog, queue_of, queues_of}
use Rattle.mg_policy.specs.Inbox.{Gathered, rests, next_set, IsOver, StandAfter}
use Rattle.mg_policy.proofs.Answered.{tells_close, none_next}
use Rattle.mg_policy.proofs.Standing.{gone_of, all_prefixes, rests-left, what_is_the_reach}
use Rattle.mg_loopback.specs.Loopback.{Held, reached}
use Rattle.mg_loopback.specs.Standing.{StandsAfter, after_replies}
use Rattle.mg_loopback.proofs.Standing.{all_told, told_stream}
use Rattle.mg_calc.specs.Rules.{Laws}
use Rattle.mg_calc.specs.declared.law.Law.{Law}
use Rattle.mg_calc.specs.declared.law.Law.TheVariants.{Count, SideOnce, Constants, Loopback}
use Rattle.mg_calc.specs.declared.plan_node.PlanNode.{PlanNode}
use Rattle.mg_calc.specs.Laying.{all_raised}
use Rattle.mg_calc.specs.Outcome.{Outcome, shown_all, ended, with_reach, node_outcome}
use Rattle.mg_calc.specs.Shape.{IsOuter}
use Rattle.mg_calc.specs.Equations.{Job, inputs_of, sides_of, outcome_by, outcome_of, rules_at}
use Rattle.mg_calc.proofs.NodeStreams.{node_follows}
use Rattle.mg_calc.proofs.Outcomes.{goes_on}
use Rattle.mg_calc.proofs.Rounds.{stream_extends, stream_is_prefix}
use Rattle.mg_calc.proofs.Solutions.{one_solution}
use Rattle.mg_node.specs.declared.role.Role.{Role}
use Rattle.mg_node.specs.declared.role.Role.TheVariants.{Loop as LoopRole, Sets as SetsRole}
use Rattle.mg_node.specs.declared.pending.Pending.{Pending}
use Rattle.mg_node.specs.declared.pending.Pending.TheVariants.{Sets, Loop}
use Rattle.mg_node.specs.Views.{IntakeView, EntryView, EngineView}
use Rattle.mg_node.specs.Ports.{ports_in, port_queue, next_time, horizon_of}
use Rattle.mg_node.specs.Claims.{has_ended, IsEarly}
use Rattle.mg_node.specs.Advances.{until_claimed, raised_by, advance_bound, any_moved_by, is_advanced}
use Rattle.mg_node.specs.Job.{LoggedJob, ports_of, streams_at, role_of, main_of, loop_of, sets_of, answered, stage}
use Rattle.mg_node.specs.Lawful.{HoldsWaits, IsIntakeOf, LawfulIntake, IsRaised, is_close, come_to, IsEngineOf, LawfulEngine, of_node, AgreeBy, Agree}
use Rattle.mg_node.specs.Resting.{IsResting, HasCome, HasCarried}
use Rattle.mg_node.proofs.Answering.{loop_outcome, loop_stage}
use Rattle.mg_node.proofs.Closing.{law_is_loop, no_fault, second_not}
use Rattle.mg_node.proofs.NothingBelow.{Tells, answers_tell}
use Rattle.mg_node.proofs.RestingEnds.{whole_is_all, of_these}
use Rattle.mg_node.proofs.RestingStands.{stood_same, all_stood_same, each_stands, each_prefix, all_raised_extended, none_moved, raised_by_offset, one_told}
use Rattle.mg_node.proofs.NodeSolution.{node_streams}
use Rattle.mg_node.proofs.Stages.{IsCalled, kind_of, outer_stage, outer_outcome, called_outcome}
use Rattle.mg_node.proofs.StageStreams.{IsKnownNode, node_known}
use Rattle.mg_calc.specs.Rules.{Rules}

-- What becomes of a node follows what comes.
loop_follows : (law : Law) (job : Job) (streams more : List (StreamPrefix Plain)) (node : PlanNode) → law ≡ Loopback → IsPrefix (main_of more node) → AreExtendedBy (inputs_of streams node) (inputs_of more node)
    → AreExtendedBy (outcome_by law job streams node).outputs (outcome_by law job more node).outputs
loop_follows law job streams more node is wider e =
    subst (λ (l : Law). AreExtendedBy (outcome_by l job streams node).outputs (outcome_by l job more node).outputs) (sym is)
    (loopback_extends (main_of streams node) (main_of more node) (loop_of streams node) (loop_of more node) wider (stream_extends (inputs_of streams node) (inputs_of more node) 1 e) (stream_extends (inputs_of streams node) (inputs_of more node) 0 e), tt)

outcome_follows : (job : Job) (streams more : List (StreamPrefix Plain)) (node : PlanNode) → IsKnownNode more node → AllByRecursion IsPrefix (inputs_of streams node) → IsPrefix (main_of more node) → AreExtendedBy (inputs_of streams node) (inputs_of more node)
    → AreExtendedBy (outcome_of job streams node).outputs (outcome_of job more node).outputs
outcome_follows job streams more node known prefixes wider e = elim (kind_of node.law) [
  | inl is ↦ (
      let shows : List (StreamPrefix Plain) → Outcome = λ ss. node_outcome (rules_at job node) node.shape.offset node.policy (length node.outputs) (sides_of job node) ss in
      subst (λ (o : Outcome). AreExtendedBy o.outputs (outcome_of job more node).outputs) (sym (outer_outcome node.law job streams node is))
      (subst (λ (o : Outcome). AreExtendedBy (shows (inputs_of streams node)).outputs o.outputs) (sym (outer_outcome node.law job more node is))
      (node_follows (rules_at job node) node.shape.offset node.policy (length node.outputs) (sides_of job node) (inputs_of streams node) (inputs_of more node)
      (All-from_recursion IsPrefix (inputs_of streams node) prefixes) known.inputs e)))
  | inr (inl is) ↦ subst (λ (o : Outcome). AreExtendedBy (outcome_of job streams node).outputs o.outputs) (called_outcome node.law job streams node is ∙ sym (called_outcome node.law job more node is)) (all_by_themselves (outcome_of job streams node).outputs)
  | inr (inr is) ↦ loop_follows node.law job streams more node is wider e
]

-- Sets at rest: all that are settled are claimed, and the reach isn't the end.
none_there : {X : Type 0} (xs : List X) → slice_get xs 0 ≡ None → xs ≡ []
none_there [] none = refl
none_there (x ∷ xs) none = absurd cc

pub record AreClaimed (policy : Policy) (k : ℕ) (qs : List (Waiting Plain)) (came : List (StreamPrefix Plain)) : Type 0 where
  pub all : length (settled_sets policy came) ≡ k
  pub early : reach policy came ≡ done → ⊥
  pub horizon : next_time (next_set policy qs) (reach policy (rests qs)) ≡ reach policy came

sets_claimed : (policy : Policy) (k : ℕ) (qs : List (Waiting Plain)) (came : List (StreamPrefix Plain)) → StandAfter policy k qs came → next_set policy qs ≡ None → ¬ IsOver policy qs → AreClaimed policy k qs came
sets_claimed policy k qs came stands none not_over =
    let prefixes : All IsPrefix (rests qs) = subst (All IsPrefix) (sym (rests-left qs came stands.each)) (all_without_first came (gone_of qs) (all_prefixes qs came stands.each)) in
    let first = sym (first-time policy (rests qs) prefixes) ∙ ap (option_map (λ (e : TimedSet Plain). e.at)) none in
    record {
      all = none_next policy k qs came stands (none_there (settled_sets policy (rests qs)) none);
      early = λ end. not_over (tells_close policy qs prefixes first (what_is_the_reach policy k qs came stands ∙ end));
      horizon = ap (λ (o : Option (TimedSet Plain)). next_time o (reach policy (rests qs))) none ∙ what_is_the_reach policy k qs came stands;
    }

-- what becomes then of the node is its stage, raised to the reach
abbrev pub up_to : Option ℤ → ℕ → Outcome → Outcome
up_to offset reached outcome = record outcome { outputs = all_raised offset reached outcome.outputs }

not_at_end : (rules : Rules) (offset : Option ℤ) (reached : ℕ) (outcome : Outcome) → (reached ≡ done → ⊥) → with_reach rules offset reached outcome ≡ up_to offset reached outcome
not_at_end rules offset reached outcome early = elim (eqb_tells reached done) [
  | inl (test, end) ↦ absurd (early end)
  | inr (test, further) ↦ rw test refl
]

pub outer_at_rest : (job : Job) (streams more : List (StreamPrefix Plain)) (node : PlanNode) (k : ℕ) → IsOuter node.law → AreExtendedBy (inputs_of streams node) (inputs_of more node) → length (sets_of streams node) ≡ k → (reach node.policy (inputs_of streams node) ≡ done → ⊥)
    → (stage job more node k).fault ≡ None → outcome_of job streams node ≡ up_to node.shape.offset (reach node.policy (inputs_of streams node)) (stage job more node k)
outer_at_rest job streams more node k is e all early good =
    let offset = node.shape.offset in
    let reached = reach node.policy (inputs_of streams node) in
    let before = stage job more node k in
    let shows : List (TimedSet Plain) → Outcome = λ sets. shown_all (rules_at job node) offset (length node.outputs) (sides_of job node) sets in
    let at : before ≡ shows (sets_of streams node) =
    outer_stage node.law job more node k is ∙ ap shows (ap (λ (n : ℕ). take n (sets_of more node)) (sym all) ∙ sets-stay node.policy (inputs_of streams node) (inputs_of more node) e) in
    outer_outcome node.law job streams node is ∙ ap (ended (rules_at job node) offset reached) (sym at) ∙ goes_on before.fault before (with_reach (rules_at job node) offset reached before) good ∙ not_at_end (rules_at job node) offset reached before early

-- Who is early.
outer_is : (law : Law) → IsOuter law → role_of law ≡ SetsRole
outer_is (Count count start apart) is = absurd is
outer_is (SideOnce at) is = absurd is
outer_is Constants is = absurd is
outer_is Loopback is = absurd is
outer_is law is = refl

never_early : (law : Law) (w : Pending) → IsCalled law → IsEarly (role_of law) w → ⊥
never_early (Count count start apart) w is early = early
never_early (SideOnce at) w is early = early
never_early Constants w is early = early
never_early law w is early = absurd is

-- an engine that goes on, with all laid that is claimed, and outputs that what waits doesn't raise
pub record Waited {laws : Laws} (job : LoggedJob laws) (number : ℕ) (engine : EngineView) (h : IsEngineOf job number engine) (w : Pending) : Type 0 where
  pub going : engine.closed ≡ false
  pub good : (stage job.job h.streams h.node engine.claimed).fault ≡ None
  pub all : engine.laid ≡ engine.claimed
  pub told : (b : ℕ) → raised_by engine.role engine.offset (horizon_of w) ≡ Some b → AllByRecursion (λ (o : Backlog Plain). b ≤ o.bound) engine.outputs

pub waited : {laws : Laws} (job : LoggedJob laws) (number : ℕ) (engine : EngineView) (h : IsEngineOf job number engine) (w : Pending) → has_ended engine ≡ false → engine.window ≡ [] → is_advanced engine w ≡ false → Waited job number engine h w
waited {laws} job number engine h w goes empty raised =
    let on = second_not engine.closed (is_some engine.fault) goes in
    let order = subst (λ (es : List EntryView). engine.laid + length es ≡ engine.claimed + number_of (λ (e : EntryView). is_close e.phase) es) empty h.order in
    let all : engine.laid ≡ engine.claimed = omega (arith, order) in
    let good : (stage job.job h.streams h.node engine.laid).fault ≡ None =
    no_fault engine.fault (stage job.job h.streams h.node engine.laid).fault number on.1 (h.fault ∙ ap (λ (c : Bool). option_map (λ f. record { node = number; phase = f.phase; cause = f.cause }) (come_to job h.streams h.node engine.laid c).fault) on.0) in
    record {
      going = on.0;
      good = ap (λ (n : ℕ). (stage job.job h.streams h.node n).fault) (sym all) ∙ good;
      all = all;
      told = λ b is. (
          let bound : advance_bound engine w ≡ Some b =
          ap (λ (c : Bool). if c then None else raised_by engine.role engine.offset (until_claimed engine.window (horizon_of w))) goes
          ∙ ap (λ (es : List EntryView). raised_by engine.role engine.offset (until_claimed es (horizon_of w))) empty ∙ is in
          none_moved b engine.outputs (ap (λ (o : Option ℕ). any_moved_by o engine.outputs) (sym bound) ∙ raised));
    }

module _ {laws : Laws} (job : LoggedJob laws) (number : ℕ) (engine : EngineView) (h : IsEngineOf job number engine) (streams : List (StreamPrefix Plain)) (e : AreExtendedBy (inputs_of streams h.node) (inputs_of h.streams h.node)) where
  base_is : (w : Pending) → Waited job number engine h w → AllZip IsRaised (stage job.job h.streams h.node engine.claimed).outputs h.whole
  base_is w at = subst (λ (n : ℕ). AllZip IsRaised (stage job.job h.streams h.node n).outputs h.whole) at.all (subst (λ (c : Bool). AllZip IsRaised (come_to job h.streams h.node engine.laid c).outputs h.whole) at.going h.raised)

  ports_are : streams_at h.streams (ports_of job.job.plan number) ≡ inputs_of h.streams h.node
  ports_are = ap (λ (o : Option PlanNode). streams_at h.streams (unwrap_or (option_map (λ n. n.inputs) o) job.job.plan.outputs)) h.there

  -- A node that is shown sets.
  pub sets_rest : (inbox : Gathered) → HoldsWaits job h.streams number engine.claimed (Sets inbox) → length (inputs_of streams h.node) ≡ ports_in (Sets inbox)
      → ((port : ℕ) → port < length (inputs_of streams h.node) → StandsFor (port_queue (Sets inbox) port) (slice_index_or (inputs_of streams h.node) port empty_prefix)) → IsEarly SetsRole (Sets inbox)
      → AreClaimed h.node.policy engine.claimed (queues_of inbox.pool) (inputs_of streams h.node)
  sets_rest inbox holds ports came early =
      let node = h.node in
      let qs = queues_of inbox.pool in
      let now = inputs_of streams node in
      let policy : inbox.policy ≡ node.policy = holds.1.policy ∙ ap (λ (o : Option PlanNode). unwrap_or (option_map (λ n. n.policy) o) Default) h.there in
      let each : AllZip StandsFor qs now = each_stands inbox.pool.spare inbox.pool.ports now ports came in
      let same : holds.1.came ≡ now = all_stood_same (λ (q : Waiting Plain). q) qs holds.1.came now (inputs_of h.streams node) holds.1.stands.each each (subst (AreExtendedBy holds.1.came) ports_are holds.1.extended) e in
      let stands : StandAfter inbox.policy engine.claimed qs now = subst (StandAfter inbox.policy engine.claimed qs) same holds.1.stands in
      subst (λ (p : Policy). AreClaimed p engine.claimed qs now) policy (sets_claimed inbox.policy engine.claimed qs now stands early.0 early.1)

  outer_rests : (w : Pending) → IsOuter h.node.law → Waited job number engine h w → HoldsWaits job h.streams number engine.claimed w → length (inputs_of streams h.node) ≡ ports_in w
      → ((port : ℕ) → port < length (inputs_of streams h.node) → StandsFor (port_queue w port) (slice_index_or (inputs_of streams h.node) port empty_prefix)) → IsEarly SetsRole w
      → AreExtendedBy (outcome_of job.job streams h.node).outputs h.whole
  outer_rests (Loop held) is at holds ports came early = absurd (subst IsOuter (law_is_loop (slice_get job.job.plan.nodes number) h.node h.there holds.0) is)
  outer_rests (Sets inbox) is at holds ports came early =
      let node = h.node in
      let qs = queues_of inbox.pool in
      let policy : inbox.policy ≡ node.policy = holds.1.policy ∙ ap (λ (o : Option PlanNode). unwrap_or (option_map (λ n. n.policy) o) Default) h.there in
      let claimed = sets_rest inbox holds ports came early in
      let reached = reach node.policy (inputs_of streams node) in
      let horizon : horizon_of (Sets inbox) ≡ reached = ap (λ (p : Policy). next_time (next_set p qs) (reach p (rests qs))) policy ∙ claimed.horizon in
      let role : engine.role ≡ SetsRole = h.set_up.role ∙ outer_is node.law is in
      let up : AllZip IsRaised (all_raised node.shape.offset reached (stage job.job h.streams node engine.claimed).outputs) h.whole =
      raised_by_offset node.shape.offset reached engine.outputs (stage job.job h.streams node engine.claimed).outputs h.whole (base_is (Sets inbox) at) h.kept
      (λ offset there. at.told (shift reached offset)
      (ap₂ (λ (r : Role) (o : Option ℤ). raised_by r o (horizon_of (Sets inbox))) role (h.set_up.offset ∙ there) ∙ ap (λ (t : ℕ). Some (shift t offset)) horizon)) in
      subst (λ (o : Outcome). AreExtendedBy o.outputs h.whole) (sym (outer_at_rest job.job streams h.streams node engine.claimed is e claimed.all claimed.early at.good)) (all_raised_extended _ h.whole up)

  -- A loopback.
  pub loop_stands : (held : Held Plain) → HoldsWaits job h.streams number engine.claimed (Loop held) → length (inputs_of streams h.node) ≡ 2
      → ((port : ℕ) → port < length (inputs_of streams h.node) → StandsFor (port_queue (Loop held) port) (slice_index_or (inputs_of streams h.node) port empty_prefix))
      → StandsAfter engine.claimed held (main_of streams h.node) (loop_of streams h.node)
  loop_stands held holds ports came =
      let node = h.node in
      let k = engine.claimed in
      let main = main_of streams node in
      let loop = loop_of streams node in
      let old : List (StreamPrefix Plain) = holds.1.loop ∷ holds.1.main ∷ [] in
      let extended : AreExtendedBy old (inputs_of h.streams node) = subst (AreExtendedBy old) ports_are holds.1.extended in
      let main_further : IsExtendedBy main (main_of h.streams node) = stream_extends (inputs_of streams node) (inputs_of h.streams node) 1 e in
      let loop_further : IsExtendedBy loop (loop_of h.streams node) = stream_extends (inputs_of streams node) (inputs_of h.streams node) 0 e in
      let main_is : holds.1.main ≡ main = stood_same held.main holds.1.main main (main_of h.streams node) holds.1.stands.at_main (came 1 (omega (arith, ports))) (stream_extends old (inputs_of h.streams node) 1 extended) main_further in
      let loop_is : holds.1.loop ≡ loop = stood_same held.loop holds.1.loop loop (loop_of h.streams node) holds.1.stands.at_loop (came 0 (omega (arith, ports))) (stream_extends old (inputs_of h.streams node) 0 extended) loop_further in
      subst (StandsAfter k held main) loop_is (subst (λ (m : StreamPrefix Plain). StandsAfter k held m holds.1.loop) main_is holds.1.stands)

  loop_rests : (w : Pending) → h.node.law ≡ Loopback → IsPrefix (main_of h.streams h.node) → Waited job number engine h w → HoldsWaits job h.streams number engine.claimed w → length (inputs_of streams h.node) ≡ ports_in w
      → ((port : ℕ) → port < length (inputs_of streams h.node) → StandsFor (port_queue w port) (slice_index_or (inputs_of streams h.node) port empty_prefix)) → IsEarly LoopRole w
      → AreExtendedBy (outcome_of job.job streams h.node).outputs h.whole
  loop_rests (Sets inbox) is wider at holds ports came early = absurd (holds.0 (ap (λ (o : Option PlanNode). option_map (λ n. n.law) o) h.there ∙ ap Some is))
  loop_rests (Loop held) is wider at holds ports came early =
      let node = h.node in
      let k = engine.claimed in
      let main = main_of streams node in
      let loop = loop_of streams node in
      let main_further : IsExtendedBy main (main_of h.streams node) = stream_extends (inputs_of streams node) (inputs_of h.streams node) 1 e in
      let loop_further : IsExtendedBy loop (loop_of h.streams node) = stream_extends (inputs_of streams node) (inputs_of h.streams node) 0 e in
      let stands : StandsAfter k held main loop = loop_stands held holds ports came in
      let u = after_replies k main loop in
      let tells : Tells k (reached held) (main_of h.streams node) (loop_of h.streams node) u = answers_tell k held main loop (main_of h.streams node) (loop_of h.streams node) wider stands main_further loop_further in
      let role : engine.role ≡ LoopRole = h.set_up.role ∙ ap role_of is in
      let base : AllZip IsRaised (answered k (main_of h.streams node) (loop_of h.streams node) ∷ []) h.whole =
      subst (λ (ss : List (StreamPrefix Plain)). AllZip IsRaised ss h.whole) (loop_stage node.law job.job h.streams node k is) (base_is (Loop held) at) in
      let up : AllZip IsRaised (u ∷ []) h.whole =
      one_told (reached held) u (answered k (main_of h.streams node) (loop_of h.streams node)) engine.outputs h.whole tells.packets tells.bound base h.kept
      (at.told (reached held) (ap (λ (r : Role). raised_by r engine.offset (reached held)) role)) in
      let into : (outcome_of job.job streams node).outputs ≡ u ∷ [] = loop_outcome node.law job.job streams node is ∙ ap (λ (s : StreamPrefix Plain). s ∷ []) (sym (told_stream k main loop (all_told k held main loop stands early.0))) in
      subst (λ (ss : List (StreamPrefix Plain)). AreExtendedBy ss h.whole) (sym into) (all_raised_extended (u ∷ []) h.whole up)

  -- By what the cell is.
  pub by_kind : (C : Type 0) (intake : IntakeView) → IsIntakeOf job number intake → Agree engine intake → IsEarly engine.role intake.waits
      → (IsOuter h.node.law → HoldsWaits job h.streams number engine.claimed intake.waits → IsEarly SetsRole intake.waits → C)
      → (h.node.law ≡ Loopback → HoldsWaits job h.streams number engine.claimed intake.waits → IsEarly LoopRole intake.waits → C) → C
  by_kind C intake i agree early sets loop =
      let role_early : IsEarly (role_of h.node.law) intake.waits = subst (λ (r : Role). IsEarly r intake.waits) h.set_up.role early in
      elim (kind_of h.node.law) [
        | inl is ↦
            (let role = outer_is h.node.law is in
            sets is (holds_too (subst (λ (r : Role). AgreeBy r engine.claimed intake.claimed) (h.set_up.role ∙ role) agree)) (subst (λ (r : Role). IsEarly r intake.waits) role role_early))
        | inr (inl is) ↦ absurd (never_early h.node.law intake.waits is role_early)
        | inr (inr is) ↦
            (let role : role_of h.node.law ≡ LoopRole = ap role_of is in
            loop is (holds_too (subst (λ (r : Role). AgreeBy r engine.claimed intake.claimed) (h.set_up.role ∙ role) agree)) (subst (λ (r : Role). IsEarly r intake.waits) role role_early))
      ]
    where
      holds_too : engine.claimed ≡ intake.claimed → HoldsWaits job h.streams number engine.claimed intake.waits
      holds_too same =
          let streams_same : i.streams ≡ h.streams = one_solution job.job i.streams h.streams i.solves.solution h.solves.solution in
          subst (λ (k : ℕ). HoldsWaits job h.streams number k intake.waits) (sym same) (subst (λ (ss : List (StreamPrefix Plain)). HoldsWaits job ss number intake.claimed intake.waits) streams_same i.holds)

  goes_and_rests : (intake : IntakeView) → IsIntakeOf job number intake → Agree engine intake → IsPrefix (main_of h.streams h.node) → HasCome intake (inputs_of streams h.node) → has_ended engine ≡ false → engine.window ≡ [] → IsEarly engine.role intake.waits → is_advanced engine intake.waits ≡ false
      → AreExtendedBy (outcome_of job.job streams h.node).outputs h.whole
  goes_and_rests intake i agree wider came goes empty early raised =
      let at = waited job number engine h intake.waits goes empty raised in
      by_kind (AreExtendedBy (outcome_of job.job streams h.node).outputs h.whole) intake i agree early
      (λ is holds early_too. outer_rests intake.waits is at holds came.ports came.stands early_too)
      (λ is holds early_too. loop_rests intake.waits is wider at holds came.ports came.stands early_too)

-- A cell at rest.
rests_by : {laws : Laws} (job : LoggedJob laws) (number : ℕ) (engine : EngineView) (intake : IntakeView) (streams laid : List (StreamPrefix Plain)) (h : IsEngineOf job number engine) → IsIntakeOf job number intake → Agree engine intake → IsResting engine intake
    → HasCarried job h.streams streams h.node engine intake laid → AreExtendedBy (outcome_of job.job streams h.node).outputs laid
rests_by {laws} job number engine intake streams laid h i agree r c =
    let known = node_known job h.streams number h.node h.solves h.there in
    let wider : IsPrefix (main_of h.streams h.node) = stream_is_prefix (inputs_of h.streams h.node) 1 (recursion_from_All IsPrefix (inputs_of h.streams h.node) known.inputs) in
    let prefixes = each_prefix (inputs_of streams h.node) (λ port there. (c.came.stands port there).prefix) in
    let same : h.whole ≡ laid = all_stood_same (queue_of 0) engine.outputs h.whole laid (streams_at h.streams h.node.outputs) h.kept c.kept h.extended c.laid_of in
    subst (AreExtendedBy (outcome_of job.job streams h.node).outputs) same
    (elim (cases_Bool (has_ended engine)) [
      | inl ended ↦ subst (AreExtendedBy (outcome_of job.job streams h.node).outputs) (sym (whole_is_all job number engine h ended ∙ node_streams job h.streams number h.node h.solves h.there))
          (outcome_follows job.job streams h.streams h.node known prefixes wider c.came_of)
      | inr goes ↦ elim r.claims [
        | inl ended ↦ absurd (false≢true (sym goes ∙ ended))
        | inr (empty, early) ↦ goes_and_rests job number engine h streams c.came_of intake i agree wider c.came goes empty early r.raised
      ]
    ])

pub meets_its_equation : {laws : Laws} (job : LoggedJob laws) (number : ℕ) (node : PlanNode) (engine : EngineView) (intake : IntakeView) (solution streams laid : List (StreamPrefix Plain)) → slice_get job.job.plan.nodes number ≡ Some node
    → LawfulEngine job (of_node number) engine → LawfulIntake job number intake → Agree engine intake → IsResting engine intake → HasCarried job solution streams node engine intake laid
    → AreExtendedBy (outcome_of job.job streams node).outputs laid
unfolding LawfulEngine LawfulIntake
meets_its_equation {laws} job number node engine intake solution streams laid there h i agree r c =
    of_these (λ ss m. HasCarried job ss streams m engine intake laid → AreExtendedBy (outcome_of job.job streams m).outputs laid) job number node engine solution h c.solves there (rests_by job number engine intake streams laid h i agree r) c
