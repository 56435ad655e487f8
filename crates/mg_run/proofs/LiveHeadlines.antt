-- There is one headline of a run of a graph with free nodes.
use Rattle.std.proofs.Common.{◌≡◌, ℕ, false, List, [], ◌∷◌, Some, sym, ap, ◌∙◌, subst}
use Rattle.mg_edge.specs.Edge.{SourceTold}
use Rattle.mg_calc.specs.Rules.{Laws}
use Rattle.mg_calc.specs.declared.inputs.Inputs.{Inputs}
use Rattle.mg_calc.specs.declared.plan.Plan.{Plan}
use Rattle.mg_calc.specs.Equations.{Job, IsSolution}
use Rattle.mg_calc.proofs.Solutions.{one_solution}
use Rattle.mg_free.specs.Core.{split_of}
use Rattle.mg_free.specs.Rounds.{none_taken, core_job, AllRounds}
use Rattle.mg_free.specs.Turns.{last_batch}
use Rattle.mg_free.proofs.RoundsEnd.{all_rounds_one}
use Rattle.mg_answer.specs.declared.status.Status.{Status}
use Rattle.mg_files.specs.Loads.{loads_of}
use Rattle.mg_run.specs.Invocation.{Invocation}
use Rattle.mg_run.specs.Devices.{Device, CallDevices, Unrisen}
use Rattle.mg_run.specs.Headline.{Origin, from_input, from_number, IsOrigin, AreBatchesFrom, bare, IsGraph, LiveHeadline}
use Rattle.mg_words.specs.declared.words.Instruction.{Instruction}
use Rattle.mg_words.specs.declared.words.Verb.TheVariants.{Use}
use Rattle.mg_words.specs.declared.words.Way.TheVariants.{Run}
use Rattle.mg_run.proofs.Headlines.{told_contents, one_plan, one_origin}
use Rattle.mg_run.proofs.OneLiveAnswer.{one-batches}

-- of one origin there are the same batches, if batches of lines may not end early
same_batches : (laws : Laws) (instruction : Instruction) (whole plan : Plan) (input : Device SourceTold) (from : Origin) (batches other : List Inputs) → (instruction.verb ≡ Use Run → instruction.unbuffered ≡ false) → IsOrigin instruction whole input from
    → AreBatchesFrom laws instruction plan from batches → AreBatchesFrom laws instruction plan from other → batches ≡ other
same_batches laws instruction whole plan input (from_input read) batches other full origin a b = one-batches instruction.unbuffered plan read batches other (full origin.0) a b
same_batches laws instruction whole plan input (from_number number) batches other full origin a b = a ∙ sym b

-- what had come with the last of some batches
abbrev last_in : Inputs → List Inputs → Inputs
last_in inputs [] = inputs
last_in inputs (first ∷ later) = last_batch first later

pub one_live_headline : (laws : Laws) (invocation : Invocation) (status other_status : Status) (all other : CallDevices) (contents : List (List ℕ)) (bytes : List ℕ) (a : LiveHeadline laws invocation status all) (b : LiveHeadline laws invocation other_status other)
    → (invocation.instruction.verb ≡ Use Run → invocation.instruction.unbuffered ≡ false) → loads_of all.store.before.content invocation.files ≡ Some contents → loads_of other.store.before.content invocation.files ≡ Some contents → all.input.before.left ≡ Some bytes → other.input.before.left ≡ Some bytes
    → Unrisen all.input.before.faults all.input.now.faults → Unrisen other.input.before.faults other.input.now.faults
    → (a.plan ≡ b.plan) × (a.from ≡ b.from) × (a.first ∷ a.later ≡ b.first ∷ b.later) × (a.run.comes.takens ≡ b.run.comes.takens) × (a.run.comes.streams ≡ b.run.comes.streams)
one_live_headline laws invocation status other_status all other contents bytes a b full loads loads_too left left_too un un_too =
    let in_a : IsGraph invocation contents a.plan = subst (λ (cs : List (List ℕ)). IsGraph invocation cs a.plan) (told_contents invocation.files a.contents contents all.store a.loaded loads) a.graph in
    let in_b : IsGraph invocation contents b.plan = subst (λ (cs : List (List ℕ)). IsGraph invocation cs b.plan) (told_contents invocation.files b.contents contents other.store b.loaded loads_too) b.graph in
    let plans = one_plan invocation contents a.plan b.plan in_a in_b in
    let origin : IsOrigin invocation.instruction b.plan all.input a.from = subst (λ (p : Plan). IsOrigin invocation.instruction p all.input a.from) plans a.origin in
    let origins = one_origin invocation.instruction b.plan all.input other.input bytes a.from b.from left left_too un un_too origin b.origin in
    let before : AreBatchesFrom laws invocation.instruction (bare b.plan) b.from (a.first ∷ a.later) =
    subst (λ (o : Origin). AreBatchesFrom laws invocation.instruction (bare b.plan) o (a.first ∷ a.later)) origins (subst (λ (p : Plan). AreBatchesFrom laws invocation.instruction (bare p) a.from (a.first ∷ a.later)) plans a.batches) in
    let batches = same_batches laws invocation.instruction b.plan (bare b.plan) other.input b.from (a.first ∷ a.later) (b.first ∷ b.later) full b.origin before b.batches in
    let rounds : AllRounds laws (split_of (bare b.plan)) (b.first ∷ b.later) (none_taken (split_of (bare b.plan))) a.run.comes.takens =
    subst (λ (l : List Inputs). AllRounds laws (split_of (bare b.plan)) l (none_taken (split_of (bare b.plan))) a.run.comes.takens) batches
    (subst (λ (p : Plan). AllRounds laws (split_of (bare p)) (a.first ∷ a.later) (none_taken (split_of (bare p))) a.run.comes.takens) plans a.run.comes.rounds) in
    let logs = all_rounds_one laws (split_of (bare b.plan)) (b.first ∷ b.later) (none_taken (split_of (bare b.plan))) a.run.comes.takens b.run.comes.takens rounds b.run.comes.rounds in
    let bases : last_batch a.first a.later ≡ last_batch b.first b.later = ap (last_in a.first) batches in
    let jobs : core_job laws (split_of (bare a.plan)) (last_batch a.first a.later) a.run.comes.takens ≡ core_job laws (split_of (bare b.plan)) (last_batch b.first b.later) b.run.comes.takens =
    ap (λ (p : Plan). core_job laws (split_of (bare p)) (last_batch a.first a.later) a.run.comes.takens) plans
    ∙ ap (λ (i : Inputs). core_job laws (split_of (bare b.plan)) i a.run.comes.takens) bases
    ∙ ap (core_job laws (split_of (bare b.plan)) (last_batch b.first b.later)) logs in (
      plans,
      origins,
      batches,
      logs,
      one_solution (core_job laws (split_of (bare b.plan)) (last_batch b.first b.later) b.run.comes.takens) a.run.comes.streams b.run.comes.streams (subst (λ (j : Job). IsSolution j a.run.comes.streams) jobs a.run.comes.solution) b.run.comes.solution,
    )
