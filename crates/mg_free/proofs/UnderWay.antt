-- Rounds under way: the core's inputs make a job, and the free nodes have taken what they may.
use Rattle.std.proofs.Common.{◌≡◌, ℕ, zero, suc, ◌+◌, ◌<◌, Bool, true, false, cond, List, [], ◌∷◌, ◌++◌, map, length, length-append, zip, None, refl, sym, ap, ◌∙◌, subst, arith}
use Rattle.std.specs.List.{AllByRecursion, AllZip}
use Rattle.std.proofs.lemmas.List.{length-map}
use Rattle.std.proofs.lemmas.List.Elements.{All-from_recursion}
use Rattle.mg_value.specs.Payload.{Plain}
use Rattle.mg_settled.specs.Prefix.{StreamPrefix, IsPrefix, closed}
use Rattle.mg_settled.specs.Extension.{AreExtendedBy}
use Rattle.mg_settled.proofs.Lemmas.{empty_is_prefix, all_by_themselves}
use Rattle.mg_calc.specs.declared.inputs.Inputs.{Inputs}
use Rattle.mg_calc.specs.Plan.{IsValid, given_places}
use Rattle.mg_calc.specs.Rules.{Laws}
use Rattle.mg_calc.specs.Equations.{Job, IsJob, IsSolution, stream_of}
use Rattle.mg_calc.proofs.Jobs.{job_known, solution_grows}
use Rattle.mg_calc.proofs.Solutions.{solution_keeps}
use Rattle.mg_calc.proofs.FirstRound.{a_solution}
use Rattle.mg_free.specs.declared.node.FreeNode.{FreeNode}
use Rattle.mg_free.specs.declared.plan.FreePlan.{FreePlan}
use Rattle.mg_free.specs.Free.{ports_of}
use Rattle.mg_free.specs.Logs.{flow_of, has_ended, output_of}
use Rattle.mg_free.specs.Rounds.{Taken, none_taken, output_so_far, core_inputs, core_job, free_inputs, next_arrivals, last_of, with_next, turn, IsRound, Rounds, rests, round, AllRounds, ends, batch}
use Rattle.mg_free.specs.Turns.{AreLawfulSoFar, HasCome, last_batch}
use Rattle.mg_free.proofs.Placing.{zipped_long}
use Rattle.mg_free.proofs.Turning.{turns}
use Rattle.mg_free.proofs.TurnEnds.{inputs_extended, all_rest_lawful, log_longer, heads, tails}
use Rattle.mg_free.proofs.WellTaken.{IsWell, shown, after, well_later, well_turn, well_prefix, turn_extends}

-- each free node has taken what it may
abbrev pub AreWell : List (StreamPrefix Plain) → List FreeNode → List Taken → Type 0
AreWell streams frees takens = AllZip (λ free taken. IsWell (free_inputs streams free) free taken) frees takens

abbrev outs : List FreeNode → List Taken → List (StreamPrefix Plain)
outs frees takens = map (λ e. output_so_far e.0 e.1) (zip frees takens)

pub inputs_keep : (streams : List (StreamPrefix Plain)) (ports : List ℕ) → AllByRecursion IsPrefix streams → AllByRecursion IsPrefix (map (stream_of streams) ports)
inputs_keep streams [] all = tt
inputs_keep streams (p ∷ ports) all = (one streams p all, inputs_keep streams ports all)
  where
    one : (ss : List (StreamPrefix Plain)) (i : ℕ) → AllByRecursion IsPrefix ss → IsPrefix (stream_of ss i)
    one [] i a = empty_is_prefix
    one (s ∷ ss) zero a = a.0
    one (s ∷ ss) (suc i) a = one ss i a.1

pub all_turn : (streams : List (StreamPrefix Plain)) (frees : List FreeNode) (takens : List Taken) → AreWell streams frees takens → AreWell streams frees (turns streams frees takens)
all_turn streams [] [] well = tt
all_turn streams [] (t ∷ takens) well = absurd well
all_turn streams (f ∷ frees) [] well = absurd well
all_turn streams (f ∷ frees) (t ∷ takens) well = (well_turn streams f t well.0, all_turn streams frees takens well.1)

all_later : (streams later : List (StreamPrefix Plain)) (frees : List FreeNode) (takens : List Taken) → AreExtendedBy streams later → AllByRecursion IsPrefix later → AreWell streams frees takens → AreWell later frees takens
all_later streams later [] [] e all well = tt
all_later streams later [] (t ∷ takens) e all well = absurd well
all_later streams later (f ∷ frees) [] e all well = absurd well
all_later streams later (f ∷ frees) (t ∷ takens) e all well =
    (well_later (free_inputs streams f) (free_inputs later f) f t (inputs_extended streams later f.inputs e) (inputs_keep later f.inputs all) well.0, all_later streams later frees takens e all well.1)

outs_keep : (streams : List (StreamPrefix Plain)) (frees : List FreeNode) (takens : List Taken) → AllByRecursion IsPrefix streams → AreWell streams frees takens → AllByRecursion IsPrefix (outs frees takens)
outs_keep streams [] [] all well = tt
outs_keep streams [] (t ∷ takens) all well = absurd well
outs_keep streams (f ∷ frees) [] all well = absurd well
outs_keep streams (f ∷ frees) (t ∷ takens) all well = (well_prefix (free_inputs streams f) f t (inputs_keep streams f.inputs all) well.0, outs_keep streams frees takens all well.1)

outs_extend : (streams : List (StreamPrefix Plain)) (frees : List FreeNode) (takens : List Taken) → AllByRecursion IsPrefix streams → AreWell streams frees takens → AreExtendedBy (outs frees takens) (outs frees (turns streams frees takens))
outs_extend streams [] [] all well = tt
outs_extend streams [] (t ∷ takens) all well = absurd well
outs_extend streams (f ∷ frees) [] all well = absurd well
outs_extend streams (f ∷ frees) (t ∷ takens) all well = (turn_extends streams f t (inputs_keep streams f.inputs all) well.0, outs_extend streams frees takens all well.1)

outs_long : (frees : List FreeNode) (takens : List Taken) → length frees ≡ length takens → length (outs frees takens) ≡ length frees
outs_long [] [] e = refl
outs_long [] (t ∷ takens) e = absurd (omega (arith, e))
outs_long (f ∷ frees) [] e = absurd (omega (arith, e))
outs_long (f ∷ frees) (t ∷ takens) e = ap suc (outs_long frees takens (omega (arith, e)))

pub lawfuls : (streams : List (StreamPrefix Plain)) (frees : List FreeNode) (takens : List Taken) → AreWell streams frees takens → AreLawfulSoFar streams frees takens
lawfuls streams [] [] well = tt
lawfuls streams [] (t ∷ takens) well = absurd well
lawfuls streams (f ∷ frees) [] well = absurd well
lawfuls streams (f ∷ frees) (t ∷ takens) well = (well.0.lawful, lawfuls streams frees takens well.1)

-- The inputs of a graph fit its core.
pub record FitsCore (split : FreePlan) (inputs : Inputs) : Type 0 where
  pub core : IsValid split.core
  pub count : length inputs.streams + length split.free ≡ length split.core.inputs
  pub prefixes : AllByRecursion IsPrefix inputs.streams
  pub sides : length inputs.sides ≡ length (given_places split.core)
  pub ports : AllByRecursion (λ f. length f.inputs ≡ ports_of f.law) split.free

both : {X : Type 0} (P : X → Type 0) (xs ys : List X) → AllByRecursion P xs → AllByRecursion P ys → AllByRecursion P (xs ++ ys)
both P [] ys a b = b
both P (x ∷ xs) ys a b = (a.0, both P xs ys a.1 b)

extend_both : (us vs ws zs : List (StreamPrefix Plain)) → AreExtendedBy us vs → AreExtendedBy ws zs → AreExtendedBy (us ++ ws) (vs ++ zs)
extend_both [] [] ws zs e f = f
extend_both [] (v ∷ vs) ws zs e f = absurd e
extend_both (u ∷ us) [] ws zs e f = absurd e
extend_both (u ∷ us) (v ∷ vs) ws zs e f = (e.0, extend_both us vs ws zs e.1 f)

job_of : (laws : Laws) (split : FreePlan) (inputs : Inputs) (takens : List Taken) → FitsCore split inputs → length split.free ≡ length takens → AllByRecursion IsPrefix (outs split.free takens) → IsJob (core_job laws split inputs takens)
job_of laws split inputs takens fits long all = record {
  plan = fits.core;
  inputs = record {
    streams = length-append inputs.streams (outs split.free takens) ∙ (ap (λ n. length inputs.streams + n) (outs_long split.free takens long) ∙ fits.count);
    prefixes = All-from_recursion IsPrefix (inputs.streams ++ outs split.free takens) (both IsPrefix inputs.streams (outs split.free takens) fits.prefixes all);
    sides = fits.sides;
  };
}

-- Rounds are under way.
pub record IsUnderWay (laws : Laws) (split : FreePlan) (inputs : Inputs) (takens : List Taken) : Type 0 where
  pub job : IsJob (core_job laws split inputs takens)
  pub streams : List (StreamPrefix Plain)
  pub solution : IsSolution (core_job laws split inputs takens) streams
  pub well : AreWell streams split.free takens

pub kept : (job : Job) (streams : List (StreamPrefix Plain)) → IsJob job → IsSolution job streams → AllByRecursion IsPrefix streams
kept job streams is solution = solution_keeps job (job_known job is) streams solution

solved : (job : Job) → IsJob job → (streams : List (StreamPrefix Plain)) × IsSolution job streams
solved job is = a_solution job (job_known job is) is.plan is.inputs.streams

-- what was under way still is with more that came, whether from outside or from the free nodes
further : (laws : Laws) (split : FreePlan) (inputs more : Inputs) (before after : List Taken) (streams : List (StreamPrefix Plain)) → FitsCore split more → IsJob (core_job laws split inputs before) → IsSolution (core_job laws split inputs before) streams
    → inputs.sides ≡ more.sides → AreExtendedBy inputs.streams more.streams → AreExtendedBy (outs split.free before) (outs split.free after) → AreWell streams split.free after → IsUnderWay laws split more after
further laws split inputs more before after streams fits job solution sides streams_more outs_more well =
    let all = kept (core_job laws split inputs before) streams job solution in
    let later = job_of laws split more after fits (zipped_long (λ free taken. IsWell (free_inputs streams free) free taken) split.free after well) (outs_keep streams split.free after all well) in
    let solution_later = solved (core_job laws split more after) later in
    let grows = solution_grows split.core (core_inputs split inputs before) (core_inputs split more after) streams solution_later.0 job later sides
    (extend_both inputs.streams more.streams (outs split.free before) (outs split.free after) streams_more outs_more) solution solution_later.1 in
    record {
      job = later;
      streams = solution_later.0;
      solution = solution_later.1;
      well = all_later streams solution_later.0 split.free after grows (kept (core_job laws split more after) solution_later.0 later solution_later.1) well;
    }

-- whatever solution is taken, it is the one
well_in : (laws : Laws) (split : FreePlan) (inputs : Inputs) (takens : List Taken) (streams : List (StreamPrefix Plain)) (u : IsUnderWay laws split inputs takens) → IsSolution (core_job laws split inputs takens) streams → AreWell streams split.free takens
well_in laws split inputs takens streams u solution =
    all_later u.streams streams split.free takens
    (solution_grows split.core (core_inputs split inputs takens) (core_inputs split inputs takens) u.streams streams u.job u.job refl
    (all_by_themselves (core_inputs split inputs takens).streams) u.solution solution)
    (kept (core_job laws split inputs takens) streams u.job solution) u.well

pub a_round : (laws : Laws) (split : FreePlan) (inputs : Inputs) (before after : List Taken) → FitsCore split inputs → IsUnderWay laws split inputs before → IsRound laws split inputs before after → IsUnderWay laws split inputs after
a_round laws split inputs before after fits u r =
    let well = well_in laws split inputs before r.streams u r.solution in
    subst (IsUnderWay laws split inputs) (sym r.turns)
    (further laws split inputs inputs before (turns r.streams split.free before) r.streams fits u.job r.solution refl (all_by_themselves inputs.streams)
    (outs_extend r.streams split.free before (kept (core_job laws split inputs before) r.streams u.job r.solution) well) (all_turn r.streams split.free before well))

pub a_batch : (laws : Laws) (split : FreePlan) (inputs more : Inputs) (takens : List Taken) → FitsCore split more → inputs.sides ≡ more.sides → AreExtendedBy inputs.streams more.streams → IsUnderWay laws split inputs takens → IsUnderWay laws split more takens
a_batch laws split inputs more takens fits sides streams_more u =
    further laws split inputs more takens takens u.streams fits u.job u.solution sides streams_more (all_by_themselves (outs split.free takens)) u.well

-- At the end of the rounds.
abbrev Ended : List (StreamPrefix Plain) → FreeNode → Taken → Type 0
Ended streams free taken = output_so_far free taken ≡ output_of free.law (free_inputs streams free) taken.log

out_by : (taken : Taken) (output : StreamPrefix Plain) (ended shut : Bool) → taken.closed ≡ shut → (after taken ended).closed ≡ taken.closed → (taken.closed ≡ true → ended ≡ true)
    → shown taken.closed output ≡ cond ended (closed output) output
out_by taken output true true c s h = subst (λ (b : Bool). shown b output ≡ closed output) (sym c) refl
out_by taken output true false c s h = absurd (let x = s ∙ c in cc)
out_by taken output false true c s h = absurd (let x = h c in cc)
out_by taken output false false c s h = subst (λ (b : Bool). shown b output ≡ output) (sym c) refl

output_at_rest : (streams : List (StreamPrefix Plain)) (free : FreeNode) (taken : Taken) → turn streams free taken ≡ taken → IsWell (free_inputs streams free) free taken → Ended streams free taken
output_at_rest streams free taken rest well =
    let nothing : last_of (next_arrivals streams free taken) ≡ None = log_longer streams free taken (last_of (next_arrivals streams free taken)) rest in
    let same : with_next streams free taken None ≡ taken = ap (with_next streams free taken) (sym nothing) ∙ rest in
    out_by taken (flow_of free.law taken.log).output (has_ended free.law (free_inputs streams free)) taken.closed refl (ap (λ (t : Taken). t.closed) same) (λ c. (well.shut c).ended)

outputs_at_rest : (streams : List (StreamPrefix Plain)) (frees : List FreeNode) (takens : List Taken) → turns streams frees takens ≡ takens → AreWell streams frees takens → AllZip (Ended streams) frees takens
outputs_at_rest streams [] [] rest well = tt
outputs_at_rest streams [] (t ∷ takens) rest well = absurd well
outputs_at_rest streams (f ∷ frees) [] rest well = absurd well
outputs_at_rest streams (f ∷ frees) (t ∷ takens) rest well = (
  output_at_rest streams f t (heads (turn streams f t) t (turns streams frees takens) takens rest) well.0,
  outputs_at_rest streams frees takens (tails (turn streams f t) t (turns streams frees takens) takens rest) well.1,
)

has_come : (laws : Laws) (split : FreePlan) (inputs : Inputs) (takens : List Taken) → IsUnderWay laws split inputs takens → IsRound laws split inputs takens takens → HasCome laws split inputs takens
has_come laws split inputs takens u r =
    let well = well_in laws split inputs takens r.streams u r.solution in
    record {
      job = u.job;
      streams = r.streams;
      solution = r.solution;
      logs = all_rest_lawful r.streams split.free takens (sym r.turns) (lawfuls r.streams split.free takens well);
      outputs = outputs_at_rest r.streams split.free takens (sym r.turns) well;
    }

-- what rounds result in
pub record Come (laws : Laws) (split : FreePlan) (inputs : Inputs) (takens : List Taken) : Type 0 where
  pub goes_on : IsUnderWay laws split inputs takens
  pub come : HasCome laws split inputs takens

pub rounds_come : (laws : Laws) (split : FreePlan) (inputs : Inputs) (before last : List Taken) → FitsCore split inputs → IsUnderWay laws split inputs before → Rounds laws split inputs before last → Come laws split inputs last
rounds_come laws split inputs before last fits u (rests r) = record { goes_on = u; come = has_come laws split inputs _ u r }
rounds_come laws split inputs before last fits u (round r changes more) = rounds_come laws split inputs _ last fits (a_round laws split inputs before _ fits u r) more

-- and those of all batches
abbrev pub BatchesFit : FreePlan → Inputs → List Inputs → Type 0
BatchesFit split before [] = Unit {0}
BatchesFit split before (inputs ∷ later) = FitsCore split inputs × (before.sides ≡ inputs.sides) × AreExtendedBy before.streams inputs.streams × BatchesFit split inputs later

pub all_rounds_come : (laws : Laws) (split : FreePlan) (inputs : Inputs) (later : List Inputs) (before last : List Taken) → FitsCore split inputs → BatchesFit split inputs later → IsUnderWay laws split inputs before
    → AllRounds laws split (inputs ∷ later) before last → HasCome laws split (last_batch inputs later) last
all_rounds_come laws split inputs [] before last fits more u (batch rounds ends) = (rounds_come laws split inputs before _ fits u rounds).come
all_rounds_come laws split inputs (next ∷ later) before last fits more u (batch rounds rest) =
    let come = rounds_come laws split inputs before _ fits u rounds in
    all_rounds_come laws split next later _ last more.0 more.3 (a_batch laws split inputs next _ more.0 more.1 more.2 come.goes_on) rest

-- At first.
none_keep : (frees : List FreeNode) → AllByRecursion IsPrefix (outs frees (map (λ free. record { log = []; closed = false }) frees))
none_keep [] = tt
none_keep (f ∷ frees) = (empty_is_prefix, none_keep frees)

none_well : (streams : List (StreamPrefix Plain)) (frees : List FreeNode) → AllByRecursion (λ f. length f.inputs ≡ ports_of f.law) frees → AreWell streams frees (map (λ free. record { log = []; closed = false }) frees)
none_well streams [] ports = tt
none_well streams (f ∷ frees) ports = (
  record {
    ports = length-map f.inputs (stream_of streams) ∙ ports.0;
    lawful = record { ports = All-from_recursion (λ a. a.port < length (free_inputs streams f)) [] tt; first = λ port le. refl };
    shut = λ e. absurd cc;
  },
  none_well streams frees ports.1,
)

pub begins_under_way : (laws : Laws) (split : FreePlan) (inputs : Inputs) → FitsCore split inputs → IsUnderWay laws split inputs (none_taken split)
begins_under_way laws split inputs fits =
    let job = job_of laws split inputs (none_taken split) fits (sym (length-map split.free (λ free. record { log = []; closed = false }))) (none_keep split.free) in
    let solution = solved (core_job laws split inputs (none_taken split)) job in
    record { job = job; streams = solution.0; solution = solution.1; well = none_well solution.0 split.free fits.ports }
