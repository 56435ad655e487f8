-- A loop over lists: each list comes out as the list of its images, at its own time.
use Rattle.std.proofs.Common.{◌≡◌, ℕ, zero, suc, ◌+◌, ◌<◌, arith, Bool, true, false, inl, inr, List, [], ◌∷◌, ◌++◌, length, map, All, Option, Some, None, slice_get, Ok, ap, ap₂, sym, refl, subst, ◌∙◌}
use Rattle.std.specs.List.{AllByRecursion, filter_map}
use Rattle.std.proofs.lemmas.List.Elements.{recursion_from_All}
use Rattle.std.proofs.lemmas.Option.{slice_get_within}
use Rattle.mg_time.specs.Time.{done, IsAllowed, place_of}
use Rattle.mg_value.specs.Payload.{Plain}
use Rattle.mg_value.specs.Packet.{Stamped}
use Rattle.mg_value.specs.declared.policy.Policy.{Policy}
use Rattle.mg_value.specs.declared.policy.Policy.TheVariants.{Default}
use Rattle.mg_settled.specs.Prefix.{StreamPrefix, IsPrefix}
use Rattle.mg_settled.specs.Settled.{TimedSet, packet_at, settled_times, settled_sets, reach}
use Rattle.mg_settled.proofs.Climbs.{prefix-rises}
use Rattle.mg_settled.proofs.PrefixSteps.{empty_is_prefix}
use Rattle.mg_settled.proofs.SettledTimes.{settled_rises}
use Rattle.mg_calc.specs.declared.law.Law.{Law}
use Rattle.mg_calc.specs.declared.law.Law.TheVariants.{Pass, Compute, Filter, BeginLoop, EndLoop}
use Rattle.mg_calc.specs.declared.plan_node.PlanNode.{PlanNode}
use Rattle.mg_calc.specs.Rules.{Rules, Laws}
use Rattle.mg_calc.specs.Law.{opening, finish, table_rules, rules_of}
use Rattle.mg_calc.specs.Plan.{MayHavePolicy}
use Rattle.mg_calc.specs.Values.{place_at, number_of}
use Rattle.mg_calc.specs.Outcome.{Outcome, node_outcome}
use Rattle.mg_calc.specs.Equations.{Job, IsJob, IsSolution, stream_of, inputs_of, outcome_by, outcome_of, rules_at, sides_of}
use Rattle.mg_calc.proofs.Earlier.{at_place, get_map}
use Rattle.mg_calc.proofs.Jobs.{job_known}
use Rattle.mg_calc.proofs.Solutions.{solution_keeps}
use Rattle.mg_batch.specs.Loop.{IsInner, IsOf, Leads, IsLoop, RunThrough, list_of_images, list_of_some_images}
use Rattle.mg_batch.proofs.Runs.{Runs, packets_at, node_packets}
use Rattle.mg_batch.proofs.SetsOf.{all_found}
use Rattle.mg_batch.proofs.InnerRuns.{image_of, images_of, inner_runs, images_chain, no_nodes}
use Rattle.mg_batch.proofs.BeginRuns.{ends_from, items_from, shown_batches, ends_run, items_run}
use Rattle.mg_batch.proofs.EndRuns.{gathers, end_runs}
use Rattle.mg_batch.proofs.Gathering.{IsSilent, listed_batch, of_batch, gathered_again, of_lists, all_lists, some_lists}
use Rattle.mg_batch.proofs.Settles.{first_bound, node_settles}
use Rattle.mg_batch.proofs.LoopStreams.{node_streams, among_settled}

-- the laws of a loop: they emit nothing in Open and in Close, and have the default policy
abbrev Quiet : Law → Type 0
Quiet Pass = Unit {0}
Quiet (Compute computation) = Unit {0}
Quiet (Filter keep raises) = Unit {0}
Quiet (BeginLoop clones always_end) = Unit {0}
Quiet (EndLoop form) = Unit {0}
Quiet law = ⊥

inner_quiet : (law : Law) → IsInner law → Quiet law
inner_quiet Pass h = tt
inner_quiet (Compute computation) h = tt
inner_quiet (Filter keep raises) h = tt
inner_quiet law h = absurd h

quiet_opening : (law : Law) (sides : List (Option Plain)) → Quiet law → opening law sides ≡ Ok ([], [])
quiet_opening Pass sides h = refl
quiet_opening (Compute computation) sides h = refl
quiet_opening (Filter keep raises) sides h = refl
quiet_opening (BeginLoop clones always_end) sides h = refl
quiet_opening (EndLoop form) sides h = refl
quiet_opening law sides h = absurd h

quiet_finish : (law : Law) → Quiet law → (state : List Plain) → finish law state ≡ Ok (state, [])
quiet_finish Pass h state = refl
quiet_finish (Compute computation) h state = refl
quiet_finish (Filter keep raises) h state = refl
quiet_finish (BeginLoop clones always_end) h state = refl
quiet_finish (EndLoop form) h state = refl
quiet_finish law h state = absurd h

quiet_rules : (laws : Laws) (law : Law) → Quiet law → rules_of laws law ≡ table_rules law
quiet_rules laws Pass h = refl
quiet_rules laws (Compute computation) h = refl
quiet_rules laws (Filter keep raises) h = refl
quiet_rules laws (BeginLoop clones always_end) h = refl
quiet_rules laws (EndLoop form) h = refl
quiet_rules laws law h = absurd h

quiet_policy : (law : Law) (policy : Policy) → Quiet law → MayHavePolicy law policy → policy ≡ Default
quiet_policy Pass policy h may = may
quiet_policy (Compute computation) policy h may = may
quiet_policy (Filter keep raises) policy h may = may
quiet_policy (BeginLoop clones always_end) policy h may = may
quiet_policy (EndLoop form) policy h may = may
quiet_policy law policy h may = absurd h

quiet_outcome : (law : Law) (job : Job) (streams : List (StreamPrefix Plain)) (node : PlanNode) → Quiet law
    → outcome_by law job streams node ≡ node_outcome (rules_at job node) node.shape.offset node.policy (length node.outputs) (sides_of job node) (inputs_of streams node)
quiet_outcome Pass job streams node h = refl
quiet_outcome (Compute computation) job streams node h = refl
quiet_outcome (Filter keep raises) job streams node h = refl
quiet_outcome (BeginLoop clones always_end) job streams node h = refl
quiet_outcome (EndLoop form) job streams node h = refl
quiet_outcome law job streams node h = absurd h

-- streams by number
stream_prefix : (streams : List (StreamPrefix Plain)) (s : ℕ) → AllByRecursion IsPrefix streams → IsPrefix (stream_of streams s)
stream_prefix [] s h = empty_is_prefix
stream_prefix (x ∷ xs) zero h = h.0
stream_prefix (x ∷ xs) (suc s) h = stream_prefix xs s h.1

stream_at : (streams : List (StreamPrefix Plain)) (outputs : List ℕ) (i s : ℕ) → slice_get outputs i ≡ Some s → packets_at i (map (stream_of streams) outputs) ≡ (stream_of streams s).packets
stream_at streams [] i s there = absurd cc
stream_at streams (x ∷ xs) zero s there = (let same : x ≡ s = cc in ap (λ n. (stream_of streams n).packets) same)
stream_at streams (x ∷ xs) (suc i) s there = stream_at streams xs i s there

ended_first : (streams : List (StreamPrefix Plain)) (xs ys : List ℕ) → AllByRecursion (λ s. (stream_of streams s).bound ≡ done) (xs ++ ys) → AllByRecursion (λ s. s.bound ≡ done) (map (stream_of streams) xs)
ended_first streams [] ys h = tt
ended_first streams (x ∷ xs) ys h = (h.0, ended_first streams xs ys h.1)

module _ (job : Job) (streams : List (StreamPrefix Plain)) (is_job : IsJob job) (solution : IsSolution job streams) where
  prefixes : AllByRecursion IsPrefix streams
  prefixes = solution_keeps job (job_known job is_job) streams solution

  -- a node that runs through: it has no fault, and its streams have ended
  record Through (node : PlanNode) : Type 0 where
    of_plan : IsOf job.plan node
    faultless : (outcome_of job streams node).fault ≡ None
    ended : AllByRecursion (λ s. s.bound ≡ done) (inputs_of streams node)

  -- what such a node puts on one of its streams
  written : (law : Law) (node : PlanNode) (ss : List (StreamPrefix Plain)) (i out : ℕ) → Through node → node.law ≡ law → Quiet law → inputs_of streams node ≡ ss → slice_get node.outputs i ≡ Some out
      → Runs law [] (settled_sets Default ss) i (stream_of streams out).packets
  written law node ss i out h is quiet reads there =
      let own : Quiet node.law = subst Quiet (sym is) quiet in
      let default : node.policy ≡ Default =
      quiet_policy node.law node.policy own (at_place (λ (n : PlanNode). MayHavePolicy n.law n.policy) job.plan.nodes h.of_plan.0 node (recursion_from_All (λ (n : PlanNode). MayHavePolicy n.law n.policy) job.plan.nodes is_job.plan.policies) h.of_plan.1) in
      let same : outcome_of job streams node ≡ node_outcome (table_rules law) node.shape.offset Default (length node.outputs) (sides_of job node) ss =
      quiet_outcome node.law job streams node own
      ∙ ap (λ (r : Rules). node_outcome r node.shape.offset node.policy (length node.outputs) (sides_of job node) (inputs_of streams node)) (ap (rules_of job.laws) is ∙ quiet_rules job.laws law quiet)
      ∙ ap₂ (λ (p : Policy) (xs : List (StreamPrefix Plain)). node_outcome (table_rules law) node.shape.offset p (length node.outputs) (sides_of job node) xs) default reads in
      let runs = node_packets law node.shape.offset Default (length node.outputs) (sides_of job node) ss i (quiet_opening law (sides_of job node) quiet) (quiet_finish law quiet) (slice_get_within node.outputs i out there)
      (ap (λ (o : Outcome). o.fault) (sym same) ∙ h.faultless) in
      let put : runs.0 ≡ (stream_of streams out).packets =
      sym runs.2 ∙ ap (λ (o : Outcome). packets_at i o.outputs) (sym same) ∙ ap (packets_at i) (sym (node_streams job streams h.of_plan.0 node is_job solution h.of_plan.1)) ∙ stream_at streams node.outputs i out there in
      subst (λ (ps : List (Stamped Plain)). Runs law [] (settled_sets Default ss) i ps) put runs.1

  -- its settled sets show all packets of each of its streams
  shows : (ss : List (StreamPrefix Plain)) (k s : ℕ) → slice_get ss k ≡ Some (stream_of streams s) → AllByRecursion (λ x. x.bound ≡ done) ss → filter_map (λ t. packet_at t (stream_of streams s).packets) (settled_times ss) ≡ (stream_of streams s).packets
  shows ss k s there ended =
      all_found 0 0 (settled_times ss) (stream_of streams s).packets (settled_rises ss) (prefix-rises (stream_of streams s) (stream_prefix streams s prefixes))
      (among_settled ss k (stream_of streams s) there (stream_prefix streams s prefixes) ended)

  -- where an EndLoop is told that a batch ends, its output is settled
  pub end_law : (form : Bool) (node : PlanNode) (out k : ℕ) (set : TimedSet Plain) (told : Stamped Plain) → IsOf job.plan node → node.law ≡ EndLoop form → node.outputs ≡ out ∷ [] → (outcome_of job streams node).fault ≡ None
      → slice_get (settled_sets Default (inputs_of streams node)) k ≡ Some set → place_at set.set 0 ≡ Some told → IsAllowed (place_of (number_of told.value)) → place_of (number_of told.value) < (stream_of streams out).bound
  end_law form node out k set told of_plan is writes faultless there at allowed =
      let own : Quiet node.law = subst Quiet (sym is) tt in
      let default : node.policy ≡ Default =
      quiet_policy node.law node.policy own (at_place (λ (n : PlanNode). MayHavePolicy n.law n.policy) job.plan.nodes of_plan.0 node (recursion_from_All (λ (n : PlanNode). MayHavePolicy n.law n.policy) job.plan.nodes is_job.plan.policies) of_plan.1) in
      let ss : List (StreamPrefix Plain) = inputs_of streams node in
      let sides = sides_of job node in
      let same : outcome_of job streams node ≡ node_outcome (table_rules (EndLoop form)) node.shape.offset Default 1 sides ss =
      quiet_outcome node.law job streams node own
      ∙ ap (λ (r : Rules). node_outcome r node.shape.offset node.policy (length node.outputs) sides ss) (ap (rules_of job.laws) is ∙ quiet_rules job.laws (EndLoop form) tt)
      ∙ ap₂ (λ (p : Policy) (n : ℕ). node_outcome (table_rules (EndLoop form)) node.shape.offset p n sides ss) default (ap length writes) in
      let put : stream_of streams out ∷ [] ≡ (outcome_of job streams node).outputs = sym (ap (map (stream_of streams)) writes) ∙ node_streams job streams of_plan.0 node is_job solution of_plan.1 in
      let bound = node_settles form node.shape.offset 1 (settled_sets Default ss) (reach Default ss) k set told (omega arith) there at allowed (ap (λ (o : Outcome). o.fault) (sym same) ∙ faultless) in
      subst (λ (outputs : List (StreamPrefix Plain)). place_of (number_of told.value) < first_bound outputs) (ap (λ (o : Outcome). o.outputs) (sym same) ∙ sym put) bound

  -- a node inside the loop
  inside : (node : PlanNode) (from out : ℕ) → Through node → IsInner node.law → node.inputs ≡ from ∷ [] → node.outputs ≡ out ∷ []
      → (stream_of streams out).packets ≡ filter_map (image_of node.law) (stream_of streams from).packets
  inside node from out h inner reads writes =
      let ss : List (StreamPrefix Plain) = stream_of streams from ∷ [] in
      let inputs : inputs_of streams node ≡ ss = ap (map (stream_of streams)) reads in
      let runs = written node.law node ss 0 out h refl (inner_quiet node.law inner) inputs (ap (λ (ns : List ℕ). slice_get ns 0) writes) in
      let ended : AllByRecursion (λ (x : StreamPrefix Plain). x.bound ≡ done) ss = subst (λ (xs : List (StreamPrefix Plain)). AllByRecursion (λ x. x.bound ≡ done) xs) inputs h.ended in
      inner_runs node.law (stream_of streams from) (settled_times ss) (stream_of streams out).packets inner runs ∙ ap (filter_map (image_of node.law)) (shows ss 0 from refl ended)

  -- all of them
  chain : (nodes : List PlanNode) (from to : ℕ) → AllByRecursion Through nodes → Leads nodes from to → (stream_of streams to).packets ≡ filter_map (images_of nodes) (stream_of streams from).packets
  chain [] from to all leads = ap (λ (s : ℕ). (stream_of streams s).packets) (sym leads) ∙ sym (no_nodes (stream_of streams from).packets)
  chain (node ∷ nodes) from to all leads =
      chain nodes leads.2 to all.1 leads.4 ∙ ap (filter_map (images_of nodes)) (inside node from leads.2 all.0 leads.0 leads.1 leads.3) ∙ images_chain node nodes (stream_of streams from).packets

  through : (nodes : List PlanNode) → AllByRecursion (IsOf job.plan) nodes → AllByRecursion (λ node. (outcome_of job streams node).fault ≡ None) nodes
      → AllByRecursion (λ node. All (λ s. (stream_of streams s).bound ≡ done) (node.inputs ++ node.outputs)) nodes → AllByRecursion Through nodes
  through [] of_plan faultless ended = tt
  through (node ∷ nodes) of_plan faultless ended = (
    record {
      of_plan = of_plan.0;
      faultless = faultless.0;
      ended = ended_first streams node.inputs node.outputs (recursion_from_All (λ (s : ℕ). (stream_of streams s).bound ≡ done) (node.inputs ++ node.outputs) ended.0);
    },
    through nodes of_plan.1 faultless.1 ended.1,
  )

  -- the whole loop
  loop_batches : (clones : ℕ) (always_end form : Bool) (lists out : ℕ) (begin end : PlanNode) (inner : List PlanNode) → IsSilent always_end form → IsLoop job.plan clones always_end form lists begin inner end out
      → RunThrough job streams (begin ∷ end ∷ inner) → (stream_of streams out).packets ≡ filter_map (λ p. of_batch form inner (listed_batch p)) (stream_of streams lists).packets
  loop_batches clones always_end form lists out begin end inner silent loop run =
      let nodes : List PlanNode = begin ∷ end ∷ inner in
      let all = through nodes (recursion_from_All (IsOf job.plan) nodes loop.nodes) (recursion_from_All (λ (node : PlanNode). (outcome_of job streams node).fault ≡ None) nodes run.faultless)
      (recursion_from_All (λ (node : PlanNode). All (λ s. (stream_of streams s).bound ≡ done) (node.inputs ++ node.outputs)) nodes run.ended) in
      let ss : List (StreamPrefix Plain) = inputs_of streams begin in
      let s : StreamPrefix Plain = stream_of streams lists in
      let there : slice_get ss clones ≡ Some s = get_map (stream_of streams) begin.inputs clones lists loop.reads in
      let batches : List (Stamped (List Plain)) = shown_batches clones always_end ss s there (settled_times ss) in
      let ends : (stream_of streams loop.batches).packets ≡ ends_from 0 batches =
      ends_run clones always_end ss s there [] (settled_times ss) (stream_of streams loop.batches).packets (written (BeginLoop clones always_end) begin ss 0 loop.batches all.0 loop.begin_law tt refl loop.tells) in
      let items : (stream_of streams loop.items).packets ≡ items_from 0 batches =
      items_run clones always_end ss s there [] (settled_times ss) (stream_of streams loop.items).packets (written (BeginLoop clones always_end) begin ss (clones + 1) loop.items all.0 loop.begin_law tt refl loop.gives) in
      let images : (stream_of streams loop.images).packets ≡ filter_map (images_of inner) (items_from 0 batches) =
      chain inner loop.items loop.images all.1.1 loop.inside ∙ ap (filter_map (images_of inner)) items in
      let pair : List (StreamPrefix Plain) = stream_of streams loop.batches ∷ stream_of streams loop.images ∷ [] in
      let inputs : inputs_of streams end ≡ pair = ap (map (stream_of streams)) loop.ends in
      let ended : AllByRecursion (λ (x : StreamPrefix Plain). x.bound ≡ done) pair = subst (λ (xs : List (StreamPrefix Plain)). AllByRecursion (λ x. x.bound ≡ done) xs) inputs all.1.0.ended in
      let is_e = stream_prefix streams loop.batches prefixes in
      let is_i = stream_prefix streams loop.images prefixes in
      let gathers_all : (stream_of streams out).packets ≡ gathers form [] (stream_of streams loop.batches).packets (stream_of streams loop.images).packets =
      end_runs form 0 0 0 (settled_times pair) (stream_of streams loop.batches).packets (stream_of streams loop.images).packets [] [] (stream_of streams out).packets (settled_rises pair)
      (prefix-rises (stream_of streams loop.batches) is_e) (prefix-rises (stream_of streams loop.images) is_i)
      (among_settled pair 0 (stream_of streams loop.batches) refl is_e ended) (among_settled pair 1 (stream_of streams loop.images) refl is_i ended) refl
      (written (EndLoop form) end pair 0 out all.1.0 loop.end_law tt inputs (ap (λ (ns : List ℕ). slice_get ns 0) loop.comes)) in
      gathers_all ∙ ap₂ (gathers form []) ends images ∙ gathered_again form inner 0 batches
      ∙ of_lists always_end form inner s.packets (settled_times ss) silent ∙ ap (filter_map (λ p. of_batch form inner (listed_batch p))) (shows ss clones lists there all.0.ended)

  pub loop_law : (clones lists out : ℕ) (begin end : PlanNode) (inner : List PlanNode) → IsLoop job.plan clones false false lists begin inner end out → RunThrough job streams (begin ∷ end ∷ inner)
      → (stream_of streams out).packets ≡ map (list_of_images inner) (stream_of streams lists).packets
  loop_law clones lists out begin end inner loop run =
      loop_batches clones false false lists out begin end inner (inl refl) loop run ∙ all_lists inner (stream_of streams lists).packets

  pub some_law : (clones lists out : ℕ) (always_end : Bool) (begin end : PlanNode) (inner : List PlanNode) → IsLoop job.plan clones always_end true lists begin inner end out → RunThrough job streams (begin ∷ end ∷ inner)
      → (stream_of streams out).packets ≡ filter_map (list_of_some_images inner) (stream_of streams lists).packets
  some_law clones lists out always_end begin end inner loop run =
      loop_batches clones always_end true lists out begin end inner (inr refl) loop run ∙ some_lists inner (stream_of streams lists).packets
