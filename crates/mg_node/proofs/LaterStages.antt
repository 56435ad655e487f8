-- The outcome of a node when more input comes later. Up to the sets, calls or answers that there were, it is the same. If no more of them
-- came, all is the same.
use Rattle.std.proofs.Common.{◌≡◌, ℕ, zero, suc, ◌+◌, ◌≤◌, List, [], ◌∷◌, map, take, drop, length, Option, Some, None, refl, ap, ap₂, sym, subst, ◌∙◌, arith, inl, inr}
use Rattle.std.specs.List.{AllByRecursion, fold, filter_map, range_with_len}
use Rattle.std.proofs.lemmas.List.{length-take, take-take, take_all}
use Rattle.std.proofs.lemmas.List.Elements.{All-from_recursion}
use Rattle.mg_time.specs.Time.{done}
use Rattle.mg_value.specs.Payload.{Plain}
use Rattle.mg_value.specs.Packet.{Stamped}
use Rattle.mg_settled.specs.Prefix.{StreamPrefix, IsPrefix, empty_prefix, all_appended, first_time}
use Rattle.mg_settled.specs.Extension.{IsExtendedBy, AreExtendedBy}
use Rattle.mg_settled.specs.Loopback.{Reply, packet_of, replies}
use Rattle.mg_settled.specs.Settled.{TimedSet, settled_sets, reach}
use Rattle.mg_settled.proofs.Lemmas.{sets-stay, sets-end, reach-rises, reach-most, replies-stay, replies-most, ended_stays}
use Rattle.mg_calc.specs.declared.call.Call.TheVariants.{Begun, Shown}
use Rattle.mg_calc.specs.declared.law.Law.{Law}
use Rattle.mg_calc.specs.declared.law.Law.TheVariants.{Count, SideOnce, Constants, Loopback}
use Rattle.mg_calc.specs.declared.node_fault.Phase.{Phase}
use Rattle.mg_calc.specs.declared.node_fault.Phase.TheVariants.{Open, Call as SourceCall, Process, Close}
use Rattle.mg_calc.specs.declared.plan_node.PlanNode.{PlanNode}
use Rattle.mg_calc.specs.Outcome.{Failure, Outcome, opened, shown_all, ended, called, with_last_call}
use Rattle.mg_calc.specs.Shape.{IsOuter, calls_of}
use Rattle.mg_calc.specs.Equations.{Job, stream_of, inputs_of, sides_of, outcome_by, outcome_of, rules_at}
use Rattle.mg_calc.specs.Meaning.{count_of}
use Rattle.mg_calc.proofs.Counting.{shown_as_counted}
use Rattle.mg_calc.proofs.Rounds.{stream_extends, stream_is_prefix}
use Rattle.mg_calc.specs.Rules.{Rules}
use Rattle.mg_node.specs.Job.{sets_of, main_of, loop_of, count_by, count_of_all, IsOverBy, stage_by, stage, IsLastWork, IsTask, calls_before_by, calls_before}
use Rattle.mg_node.proofs.Claiming.{stays_at}
use Rattle.mg_node.proofs.StageCounts.{one_more_counted}
use Rattle.mg_node.proofs.Stages.{IsCalled, kind_of, outer_stage, outer_outcome, outer_count, outer_over, calls_made, called_stage, called_outcome, called_count, failed_is_all}

-- the first of a list's elements, where it stands first in another
same_first : {X : Type 0} (n : ℕ) (xs ys : List X) → n ≤ length xs → take (length xs) ys ≡ xs → take n xs ≡ take n ys
same_first n xs ys few same = ap (take n) (sym same) ∙ take-take n (length xs) ys few

not_longer : {X : Type 0} (xs ys : List X) → take (length xs) ys ≡ xs → length xs ≤ length ys
not_longer xs ys same = (let long = ap length same in let cut = length-take (length xs) ys in omega (arith, long, cut))

-- a source has neither sets nor answers
outer_not_called : (law : Law) → IsOuter law → ¬ IsCalled law
outer_not_called (Count count start apart) is = absurd is
outer_not_called (SideOnce at) is = absurd is
outer_not_called Constants is = absurd is
outer_not_called law is = λ called. absurd called

loop_not_called : (law : Law) → law ≡ Loopback → ¬ IsCalled law
loop_not_called law is = λ called. subst IsCalled is called

-- no more come
over_outer : (law : Law) (streams : List (StreamPrefix Plain)) (node : PlanNode) → IsOuter law → reach node.policy (inputs_of streams node) ≡ done → IsOverBy law streams node
over_outer (Count count start apart) streams node is end = absurd is
over_outer (SideOnce at) streams node is end = absurd is
over_outer Constants streams node is end = absurd is
over_outer Loopback streams node is end = absurd is
over_outer law streams node is end = end

over_called : (law : Law) (streams : List (StreamPrefix Plain)) (node : PlanNode) → IsCalled law → IsOverBy law streams node
over_called (Count count start apart) streams node is = tt
over_called (SideOnce at) streams node is = tt
over_called Constants streams node is = tt
over_called law streams node is = absurd is

-- the calls before a work
calls_of_sets : (law : Law) (streams more : List (StreamPrefix Plain)) (node : PlanNode) (n : ℕ) → take n (sets_of streams node) ≡ take n (sets_of more node) → calls_before_by law streams node n ≡ calls_before_by law more node n
calls_of_sets Loopback streams more node n same = refl
calls_of_sets law streams more node n same = ap (λ (es : List (TimedSet Plain)). Begun ∷ map (λ e. Shown e.at e.set) es) same

calls_of_loop : (law : Law) (streams more : List (StreamPrefix Plain)) (node : PlanNode) (n : ℕ) → law ≡ Loopback → calls_before_by law streams node n ≡ calls_before_by law more node n
calls_of_loop law streams more node n is = subst (λ (l : Law). calls_before_by l streams node n ≡ calls_before_by l more node n) (sym is) refl

-- what is known of a node in two jobs: its rules and side packets are the same, and a source has no ports. What comes at the node's ports
-- in the second job extends what comes in the first.
pub record GoesOn (job later : Job) (streams more : List (StreamPrefix Plain)) (node : PlanNode) : Type 0 where
  pub rules : rules_at job node ≡ rules_at later node
  pub sides : sides_of job node ≡ sides_of later node
  pub prefixes : AllByRecursion IsPrefix (inputs_of more node)
  pub extended : AreExtendedBy (inputs_of streams node) (inputs_of more node)
  pub no_ports : IsCalled node.law → node.inputs ≡ []

module _ {job later : Job} {streams more : List (StreamPrefix Plain)} {node : PlanNode} (on : GoesOn job later streams more node) where
  -- a number is one of those that there were; a source has all its calls anyway
  abbrev pub Stood : ℕ → Type 0
  Stood n = ¬ IsCalled node.law → n ≤ count_of_all streams node

  sets_stay : take (length (sets_of streams node)) (sets_of more node) ≡ sets_of streams node
  sets_stay = sets-stay node.policy (inputs_of streams node) (inputs_of more node) on.extended

  main_extended : IsExtendedBy (main_of streams node) (main_of more node)
  main_extended = stream_extends (inputs_of streams node) (inputs_of more node) 1 on.extended

  loop_extended : IsExtendedBy (loop_of streams node) (loop_of more node)
  loop_extended = stream_extends (inputs_of streams node) (inputs_of more node) 0 on.extended

  replies_stay : take (length (replies (main_of streams node) (loop_of streams node))) (replies (main_of more node) (loop_of more node)) ≡ replies (main_of streams node) (loop_of streams node)
  replies_stay = replies-stay (main_of streams node) (main_of more node) (loop_of streams node) (loop_of more node) main_extended loop_extended

  -- Stages.

  outer_stays : (n : ℕ) → IsOuter node.law → n ≤ length (sets_of streams node) → stage job streams node n ≡ stage later more node n
  outer_stays n is few =
      outer_stage node.law job streams node n is
      ∙ ap₂ (λ (ss : List (Option Plain)) (es : List (TimedSet Plain)). shown_all (rules_at job node) node.shape.offset (length node.outputs) ss es) on.sides (same_first n (sets_of streams node) (sets_of more node) few sets_stay)
      ∙ ap (λ (r : Rules). shown_all r node.shape.offset (length node.outputs) (sides_of later node) (take n (sets_of more node))) on.rules
      ∙ sym (outer_stage node.law later more node n is)

  calls_stay_made : (n : ℕ) → calls_made job node n ≡ calls_made later node n
  calls_stay_made n = ap₂ (λ (r : Rules) (ss : List (Option Plain)). fold (called node.law) (opened r None (length node.outputs) ss) (range_with_len 0 n)) on.rules on.sides

  called_stays : (n : ℕ) → IsCalled node.law → stage job streams node n ≡ stage later more node n
  called_stays n is = called_stage node.law job streams node n is ∙ calls_stay_made n ∙ sym (called_stage node.law later more node n is)

  loop_stays : (law : Law) (n : ℕ) → law ≡ Loopback → n ≤ count_by law streams node → stage_by law job streams node n ≡ stage_by law later more node n
  loop_stays law n is =
      subst (λ (l : Law). n ≤ count_by l streams node → stage_by l job streams node n ≡ stage_by l later more node n) (sym is)
      (λ few.
      ap (λ (rs : List (Reply Plain)). (let o : Outcome = record { state = []; outputs = all_appended empty_prefix (filter_map packet_of rs) ∷ []; taken = n; fault = None } in o))
      (same_first n (replies (main_of streams node) (loop_of streams node)) (replies (main_of more node) (loop_of more node)) few replies_stay))

  pub stage_stays : (n : ℕ) → Stood n → stage job streams node n ≡ stage later more node n
  stage_stays n stood = elim (kind_of node.law) [
    | inl is ↦ outer_stays n is (let few = stood (outer_not_called node.law is) in let count = outer_count node.law streams node is in omega (arith, few, count))
    | inr (inl is) ↦ called_stays n is
    | inr (inr is) ↦ loop_stays node.law n is (stood (loop_not_called node.law is))
  ]

  -- The calls before a work.

  pub calls_stay : (n : ℕ) → Stood n → calls_before streams node n ≡ calls_before more node n
  calls_stay n stood = elim (kind_of node.law) [
    | inl is ↦ calls_of_sets node.law streams more node n
        (same_first n (sets_of streams node) (sets_of more node) (let few = stood (outer_not_called node.law is) in let count = outer_count node.law streams node is in omega (arith, few, count)) sets_stay)
    | inr (inl is) ↦ calls_of_sets node.law streams more node n
        (ap (λ (ns : List ℕ). take n (settled_sets node.policy (map (stream_of streams) ns))) (on.no_ports is) ∙ sym (ap (λ (ns : List ℕ). take n (settled_sets node.policy (map (stream_of more) ns))) (on.no_ports is)))
    | inr (inr is) ↦ calls_of_loop node.law streams more node n is
  ]

  -- Counts.

  loop_rises : (law : Law) → law ≡ Loopback → count_by law streams node ≤ count_by law more node
  loop_rises law is = subst (λ (l : Law). count_by l streams node ≤ count_by l more node) (sym is)
      (not_longer (replies (main_of streams node) (loop_of streams node)) (replies (main_of more node) (loop_of more node)) replies_stay)

  all_rise : count_of_all streams node ≤ count_of_all more node
  all_rise = elim (kind_of node.law) [
    | inl is ↦ (let a = outer_count node.law streams node is in let b = outer_count node.law more node is in let up = not_longer (sets_of streams node) (sets_of more node) sets_stay in omega (arith, a, b, up))
    | inr (inl is) ↦ (let a = called_count node.law streams node is in let b = called_count node.law more node is in omega (arith, a, b))
    | inr (inr is) ↦ loop_rises node.law is
  ]

  -- Where no more come.

  -- no more come in the first job, so none came by the second, and the node has the same outcome
  abbrev Ends : Law → Type 0
  Ends law = IsOverBy law streams node → (count_by law more node ≡ count_by law streams node) × IsOverBy law more node × (outcome_by law job streams node ≡ outcome_by law later more node)

  outer_ends : IsOuter node.law → Ends node.law
  outer_ends is over =
      let law = node.law in
      let before = inputs_of streams node in
      let now = inputs_of more node in
      let prefixes = All-from_recursion IsPrefix now on.prefixes in
      let end : reach node.policy before ≡ done = outer_over law streams node is over in
      let rises = reach-rises node.policy before now prefixes on.extended in
      let most = reach-most node.policy now prefixes in
      let reached : reach node.policy now ≡ done = omega (arith, end, rises, most) in
      let sets : sets_of more node ≡ sets_of streams node = sets-end node.policy before now prefixes on.extended end in
      let shows : List (Option Plain) → List (TimedSet Plain) → Outcome = λ ss es. shown_all (rules_at later node) node.shape.offset (length node.outputs) ss es in (
        outer_count law more node is ∙ ap length sets ∙ sym (outer_count law streams node is),
        over_outer law more node is reached,
        outer_outcome law job streams node is
            ∙ ap (λ (r : Rules). ended r node.shape.offset (reach node.policy before) (shown_all r node.shape.offset (length node.outputs) (sides_of job node) (sets_of streams node))) on.rules
            ∙ ap₂ (λ (r : ℕ) (ss : List (Option Plain)). ended (rules_at later node) node.shape.offset r (shows ss (sets_of streams node))) (end ∙ sym reached) on.sides
            ∙ ap (λ (es : List (TimedSet Plain)). ended (rules_at later node) node.shape.offset (reach node.policy now) (shows (sides_of later node) es)) (sym sets)
            ∙ sym (outer_outcome law later more node is),
      )

  called_same : IsCalled node.law → outcome_of job streams node ≡ outcome_of later more node
  called_same is = called_outcome node.law job streams node is ∙ ap with_last_call (calls_stay_made (calls_of node.law)) ∙ sym (called_outcome node.law later more node is)

  called_ends : IsCalled node.law → Ends node.law
  called_ends is over = (called_count node.law more node is ∙ sym (called_count node.law streams node is), over_called node.law more node is, called_same is)

  loop_ends : Ends Loopback
  loop_ends over =
      let main = main_of streams node in
      let wider = main_of more node in
      let rs = replies main (loop_of streams node) in
      let all = replies wider (loop_of more node) in
      let same_main : main ≡ wider = ended_stays main wider over.1 (stream_is_prefix (inputs_of more node) 1 on.prefixes) main_extended in
      let packets : length main.packets ≡ length wider.packets = ap (λ (s : StreamPrefix Plain). length s.packets) same_main in
      let each = over.0 in
      let most = replies-most wider (loop_of more node) in
      let same : all ≡ rs = sym (take_all (length rs) all (omega (arith, most, packets, each))) ∙ replies_stay in (
        ap length same,
        (ap length same ∙ each ∙ packets, ap (λ (s : StreamPrefix Plain). s.bound) (sym same_main) ∙ over.1),
        ap₂ (λ (s : StreamPrefix Plain) (xs : List (Reply Plain)).
            (let o : Outcome = record { state = []; outputs = record { packets = filter_map packet_of xs; bound = first_time (drop (length xs) s.packets) s.bound } ∷ []; taken = length xs; fault = None } in o)) same_main (sym same),
      )

  ends : Ends node.law
  ends over = elim (kind_of node.law) [
    | inl is ↦ outer_ends is over
    | inr (inl is) ↦ called_ends is over
    | inr (inr is) ↦ subst Ends (sym is) loop_ends over
  ]

  pub last_stays : (n : ℕ) → IsLastWork job streams node n → IsLastWork later more node n
  last_stays n last =
      let all = last.all in
      let e = ends last.over in
      record {
        all = all ∙ sym e.0;
        good = ap (λ (o : Outcome). o.fault) (sym (stage_stays n (λ never. omega (arith, all)))) ∙ last.good;
        over = e.1;
      }

  pub last_same : (n : ℕ) → IsLastWork job streams node n → outcome_of job streams node ≡ outcome_of later more node
  last_same n last = (ends last.over).2

  -- a work stands where it stood
  pub task_stays : (n : ℕ) (phase : Phase) (set : List (Option (Stamped Plain))) → IsTask job streams node n phase set → IsTask later more node n phase set
  task_stays n Open set task = absurd task
  task_stays n (SourceCall call) set task = task
  task_stays n (Process at) set task = (task.0, stays_at node.policy (inputs_of streams node) (inputs_of more node) n (record { at = at; set = set }) on.extended task.1)
  task_stays n Close set task = last_stays n task

  -- What was taken.

  -- if it has failed, the outcome is the same
  failed_same : (n : ℕ) (failure : Failure) → n ≤ count_of_all streams node → (stage job streams node n).fault ≡ Some failure → outcome_of job streams node ≡ outcome_of later more node
  failed_same n failure few failed =
      let same = stage_stays n (λ never. few) in
      let up = all_rise in
      failed_is_all job streams node n failure few failed ∙ same
      ∙ sym (failed_is_all later more node n failure (omega (arith, few, up)) (ap (λ (o : Outcome). o.fault) (sym same) ∙ failed))

  last_taken : (n : ℕ) (fault : Option Failure) → n + 1 ≤ count_of_all streams node → n + 1 ≤ count_of job streams node → (stage job streams node n).fault ≡ fault → n + 1 ≤ count_of later more node
  last_taken n (Some failure) few taken failed = (let same = ap (λ (o : Outcome). o.taken) (failed_same n failure (omega (arith, few)) failed) in omega (arith, taken, same))
  last_taken n None few taken good =
      let up = all_rise in
      one_more_counted later more node n (omega (arith, few, up)) (ap (λ (o : Outcome). o.fault) (sym (stage_stays n (λ never. omega (arith, few)))) ∙ good)

  outer_taken : (n : ℕ) → n ≤ count_of_all streams node → n ≤ count_of job streams node → n ≤ count_of later more node
  outer_taken zero few taken = omega arith
  outer_taken (suc n) few taken = (let one = last_taken n (stage job streams node n).fault (omega (arith, few)) (omega (arith, taken)) refl in omega (arith, one))

  loop_counted : (law : Law) → law ≡ Loopback → (outcome_by law job streams node).taken ≡ count_by law streams node
  loop_counted law is = subst (λ (l : Law). (outcome_by l job streams node).taken ≡ count_by l streams node) (sym is) refl

  -- no more is counted than there is
  outer_counted : IsOuter node.law → count_of job streams node ≤ count_of_all streams node
  outer_counted is =
      let shown = shown_as_counted job streams node is in
      let cut = length-take (count_of job streams node) (sets_of streams node) in
      let count = outer_count node.law streams node is in
      omega (arith, shown, cut, count)

  pub taken_stood : (n : ℕ) → n ≤ count_of job streams node → Stood n
  taken_stood n taken = elim (kind_of node.law) [
    | inl is ↦ λ never. (let most = outer_counted is in omega (arith, taken, most))
    | inr (inl is) ↦ λ never. absurd (never is)
    | inr (inr is) ↦ λ never. (let count = loop_counted node.law is in omega (arith, taken, count))
  ]

  pub taken_stays : (n : ℕ) → n ≤ count_of job streams node → n ≤ count_of later more node
  taken_stays n taken = elim (kind_of node.law) [
    | inl is ↦ outer_taken n (taken_stood n taken (outer_not_called node.law is)) taken
    | inr (inl is) ↦ (let same = ap (λ (o : Outcome). o.taken) (called_same is) in omega (arith, taken, same))
    | inr (inr is) ↦ outer_taken n (taken_stood n taken (loop_not_called node.law is)) taken
  ]
