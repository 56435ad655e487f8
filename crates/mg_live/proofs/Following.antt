-- Rounds under way: what they result in, and what the core's inputs are meanwhile.
use Rattle.std.proofs.Common.{◌≡◌, ℕ, zero, suc, List, [], ◌∷◌, ◌++◌, map, zip, reverse, slice_get, Some, refl, sym, ap, ◌∙◌, subst, arith}
use Rattle.std.specs.List.{AllByRecursion}
use Rattle.std.proofs.lemmas.List.{append_assoc, length-map, reverse-append}
use Rattle.std.proofs.lemmas.List.Elements.{All-from_recursion}
use Rattle.std.proofs.lemmas.Option.{same_Some, none-some}
use Rattle.mg_value.specs.Payload.{Plain}
use Rattle.mg_settled.specs.Prefix.{StreamPrefix, IsPrefix}
use Rattle.mg_settled.specs.Extension.{AreExtendedBy}
use Rattle.mg_settled.proofs.Lemmas.{all_by_themselves}
use Rattle.mg_calc.specs.declared.inputs.Inputs.{Inputs}
use Rattle.mg_calc.specs.declared.plan.Plan.{Plan}
use Rattle.mg_calc.specs.Plan.{IsValidWithFree, InputsFit}
use Rattle.mg_calc.specs.Rules.{Laws}
use Rattle.mg_calc.specs.Equations.{IsJob, IsSolution, stream_of}
use Rattle.mg_calc.proofs.Jobs.{job_known}
use Rattle.mg_calc.proofs.Solutions.{one_solution, solution_has_each}
use Rattle.mg_free.specs.declared.plan.FreePlan.{FreePlan}
use Rattle.mg_free.specs.Core.{split_of}
use Rattle.mg_free.specs.declared.node.FreeNode.{FreeNode}
use Rattle.mg_free.specs.Turns.{HasCome}
use Rattle.mg_free.specs.Rounds.{Taken, none_taken, output_so_far, core_job, free_inputs, IsRound, Rounds, rests, round, AllRounds, ends, batch}
use Rattle.mg_free.proofs.CoreFits.{core_fits}
use Rattle.mg_free.proofs.Turning.{turns}
use Rattle.mg_free.proofs.WellTaken.{IsWell, turn_extends}
use Rattle.mg_free.proofs.UnderWay.{AreWell, IsUnderWay, inputs_keep, kept, a_round, a_batch, rounds_come, begins_under_way}
use Rattle.mg_live.specs.Takes.{MayAllTurn}
use Rattle.mg_live.proofs.CoreReads.{reads_core}
use Rattle.mg_live.specs.SoFar.{SoFar, begins, goes, comes, HaveCome, CoreGoesOn}

-- With the rounds that are left they are all rounds.
rounds_with : (laws : Laws) (split : FreePlan) (inputs : Inputs) (earlier : List Inputs) (takens mid last : List Taken) (later : List Inputs) → SoFar laws split (inputs ∷ earlier) takens → Rounds laws split inputs takens mid → AllRounds laws split later mid last
    → AllRounds laws split (reverse earlier ++ inputs ∷ later) (none_taken split) last
rounds_with laws split inputs earlier takens mid last later begins rounds rest = batch rounds rest
rounds_with laws split inputs earlier takens mid last later (goes h r changed) rounds rest = rounds_with laws split inputs earlier _ mid last later h (round r changed rounds) rest
rounds_with laws split inputs earlier takens mid last later (comes {inputs = first} {earlier = before} h r) rounds rest =
    subst (λ (bs : List Inputs). AllRounds laws split bs (none_taken split) last) (sym (ap (λ (bs : List Inputs). bs ++ inputs ∷ later) (reverse-append (first ∷ []) before) ∙ append_assoc (reverse before) (first ∷ []) (inputs ∷ later)))
    (rounds_with laws split first before takens takens last (inputs ∷ later) h (rests r) (batch rounds rest))

pub all_rounds : (laws : Laws) (split : FreePlan) (inputs : Inputs) (earlier : List Inputs) (takens : List Taken) → SoFar laws split (inputs ∷ earlier) takens → IsRound laws split inputs takens takens
    → AllRounds laws split (reverse (inputs ∷ earlier)) (none_taken split) takens
all_rounds laws split inputs earlier takens h r =
    subst (λ (bs : List Inputs). AllRounds laws split bs (none_taken split) takens) (sym (reverse-append (inputs ∷ []) earlier)) (rounds_with laws split inputs earlier takens takens takens [] h (rests r) ends)

-- Each batch fits.
newest_fits : (plan : Plan) (inputs : Inputs) (earlier : List Inputs) → HaveCome plan (inputs ∷ earlier) → InputsFit plan inputs
newest_fits plan inputs [] h = h
newest_fits plan inputs (before ∷ earlier) h = h.0

-- So they are under way.
pub under_way : (laws : Laws) (plan : Plan) (inputs : Inputs) (earlier : List Inputs) (takens : List Taken) → IsValidWithFree plan → HaveCome plan (inputs ∷ earlier) → SoFar laws (split_of plan) (inputs ∷ earlier) takens
    → IsUnderWay laws (split_of plan) inputs takens
under_way laws plan inputs earlier takens valid come begins = begins_under_way laws (split_of plan) inputs (core_fits plan inputs valid come)
under_way laws plan inputs earlier takens valid come (goes h r changed) =
    a_round laws (split_of plan) inputs _ takens (core_fits plan inputs valid (newest_fits plan inputs earlier come)) (under_way laws plan inputs earlier _ valid come h) r
under_way laws plan inputs earlier takens valid come (comes {inputs = first} {earlier = before} h r) =
    a_batch laws (split_of plan) first inputs takens (core_fits plan inputs valid come.0) come.1 come.2 (under_way laws plan first before takens valid come.3 h)

-- At the end all has come.
pub all_come : (laws : Laws) (plan : Plan) (inputs : Inputs) (earlier : List Inputs) (takens : List Taken) → IsValidWithFree plan → HaveCome plan (inputs ∷ earlier) → SoFar laws (split_of plan) (inputs ∷ earlier) takens → IsRound laws (split_of plan) inputs takens takens
    → HasCome laws (split_of plan) inputs takens
all_come laws plan inputs earlier takens valid come h r =
    (rounds_come laws (split_of plan) inputs takens takens (core_fits plan inputs valid (newest_fits plan inputs earlier come)) (under_way laws plan inputs earlier takens valid come h) (rests r)).come

pub is_job : (laws : Laws) (plan : Plan) (inputs : Inputs) (earlier : List Inputs) (takens : List Taken) → IsValidWithFree plan → HaveCome plan (inputs ∷ earlier) → SoFar laws (split_of plan) (inputs ∷ earlier) takens → IsJob (core_job laws (split_of plan) inputs takens)
is_job laws plan inputs earlier takens valid come h = (under_way laws plan inputs earlier takens valid come h).job

-- The core's inputs are extended.
abbrev outs : List FreeNode → List Taken → List (StreamPrefix Plain)
outs frees takens = map (λ e. output_so_far e.0 e.1) (zip frees takens)

extend_both : (us vs ws zs : List (StreamPrefix Plain)) → AreExtendedBy us vs → AreExtendedBy ws zs → AreExtendedBy (us ++ ws) (vs ++ zs)
extend_both [] [] ws zs e f = f
extend_both [] (v ∷ vs) ws zs e f = absurd e
extend_both (u ∷ us) [] ws zs e f = absurd e
extend_both (u ∷ us) (v ∷ vs) ws zs e f = (e.0, extend_both us vs ws zs e.1 f)

outs_extend : (streams : List (StreamPrefix Plain)) (frees : List FreeNode) (takens : List Taken) → AllByRecursion IsPrefix streams → AreWell streams frees takens → AreExtendedBy (outs frees takens) (outs frees (turns streams frees takens))
outs_extend streams [] [] all well = tt
outs_extend streams [] (t ∷ takens) all well = absurd well
outs_extend streams (f ∷ frees) [] all well = absurd well
outs_extend streams (f ∷ frees) (t ∷ takens) all well = (turn_extends streams f t (inputs_keep streams f.inputs all) well.0, outs_extend streams frees takens all well.1)

-- the logs are well in every solution for what has come
well_in : (laws : Laws) (split : FreePlan) (inputs : Inputs) (takens : List Taken) (streams : List (StreamPrefix Plain)) (u : IsUnderWay laws split inputs takens) → IsSolution (core_job laws split inputs takens) streams → AreWell streams split.free takens
well_in laws split inputs takens streams u solution = subst (λ (ss : List (StreamPrefix Plain)). AreWell ss split.free takens) (one_solution (core_job laws split inputs takens) u.streams streams u.solution solution) u.well

pub round_goes_on : (laws : Laws) (plan : Plan) (inputs : Inputs) (earlier : List Inputs) (before after : List Taken) → IsValidWithFree plan → HaveCome plan (inputs ∷ earlier) → SoFar laws (split_of plan) (inputs ∷ earlier) before
    → IsRound laws (split_of plan) inputs before after → CoreGoesOn laws (split_of plan) inputs inputs before after
round_goes_on laws plan inputs earlier before after valid come h r =
    let split = split_of plan in
    let u = under_way laws plan inputs earlier before valid come h in
    let later = a_round laws split inputs before after (core_fits plan inputs valid (newest_fits plan inputs earlier come)) u r in
    let well = well_in laws split inputs before r.streams u r.solution in
    record {
      is_job = later.job;
      sides = refl;
      extended = extend_both inputs.streams inputs.streams (outs split.free before) (outs split.free after) (all_by_themselves inputs.streams)
          (subst (λ (ts : List Taken). AreExtendedBy (outs split.free before) (outs split.free ts)) (sym r.turns)
          (outs_extend r.streams split.free before (kept (core_job laws split inputs before) r.streams u.job r.solution) well));
    }

pub batch_goes_on : (laws : Laws) (plan : Plan) (inputs more : Inputs) (earlier : List Inputs) (takens : List Taken) → IsValidWithFree plan → HaveCome plan (more ∷ inputs ∷ earlier) → SoFar laws (split_of plan) (inputs ∷ earlier) takens
    → CoreGoesOn laws (split_of plan) inputs more takens takens
batch_goes_on laws plan inputs more earlier takens valid come h =
    let split = split_of plan in
    let u = under_way laws plan inputs earlier takens valid come.3 h in
    let later = a_batch laws split inputs more takens (core_fits plan more valid come.0) come.1 come.2 u in
    record {
      is_job = later.job;
      sides = come.1;
      extended = extend_both inputs.streams more.streams (outs split.free takens) (outs split.free takens) come.2 (all_by_themselves (outs split.free takens));
    }

-- Each may have its turn.

well_at : (streams : List (StreamPrefix Plain)) (frees : List FreeNode) (takens : List Taken) (i : ℕ) (free : FreeNode) (taken : Taken) → AreWell streams frees takens → slice_get frees i ≡ Some free → slice_get takens i ≡ Some taken
    → IsWell (free_inputs streams free) free taken
well_at streams [] takens i free taken well at at_taken = absurd (none-some free at)
well_at streams (f ∷ frees) [] i free taken well at at_taken = absurd (none-some taken at_taken)
well_at streams (f ∷ frees) (t ∷ takens) zero free taken well at at_taken =
    subst (λ (x : FreeNode). IsWell (free_inputs streams x) x taken) (same_Some f free at) (subst (λ (x : Taken). IsWell (free_inputs streams f) f x) (same_Some t taken at_taken) well.0)
well_at streams (f ∷ frees) (t ∷ takens) (suc i) free taken well at at_taken = well_at streams frees takens i free taken well.1 at at_taken

pub may_all_turn : (laws : Laws) (plan : Plan) (inputs : Inputs) (earlier : List Inputs) (takens : List Taken) (streams : List (StreamPrefix Plain)) → IsValidWithFree plan → HaveCome plan (inputs ∷ earlier) → SoFar laws (split_of plan) (inputs ∷ earlier) takens
    → IsSolution (core_job laws (split_of plan) inputs takens) streams → MayAllTurn streams (split_of plan).free takens
may_all_turn laws plan inputs earlier takens streams valid come h solution place free taken at at_taken =
    let split = split_of plan in
    let u = under_way laws plan inputs earlier takens valid come h in
    let well = well_at streams split.free takens place free taken (well_in laws split inputs takens streams u solution) at at_taken in
    record {
      ports = sym (length-map free.inputs (stream_of streams)) ∙ well.ports;
      among = λ port stream at_port.
          let each = solution_has_each (core_job laws split inputs takens) (job_known (core_job laws split inputs takens) u.job) streams solution in
          let reads = reads_core plan place port stream free valid at at_port in
          omega (arith, each, reads);
      prefixes = All-from_recursion IsPrefix (free_inputs streams free) (inputs_keep streams free.inputs (kept (core_job laws split inputs takens) streams u.job solution));
      lawful = well.lawful;
    }
