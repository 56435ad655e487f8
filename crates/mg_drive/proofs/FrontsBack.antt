-- What a run leaves of the user-supplied calculators if memory ran out: a prefix of their calls.
use Rattle.std.proofs.Common.{◌≡◌, ◌≤◌, ◌⊎◌, inl, ℕ, suc, List, [], ◌∷◌, ◌++◌, length, map, append-nil, Bool, false, Option, Some, None, slice_get, option_map, if◌then◌else◌, refl, sym, ap, ◌∙◌, subst, arith}
use Rattle.std.proofs.Math.Nat.{min-le_left}
use Rattle.std.proofs.lemmas.List.{length-map, length-take, take_all}
use Rattle.mg_value.specs.Payload.{Plain}
use Rattle.mg_settled.specs.Prefix.{StreamPrefix}
use Rattle.mg_settled.specs.Settled.{settled_sets}
use Rattle.mg_calc.specs.Rules.{Laws}
use Rattle.mg_calc.specs.declared.call.Call.{Call}
use Rattle.mg_calc.specs.declared.call.Call.TheVariants.{Begun, Shown, Finished}
use Rattle.mg_calc.specs.declared.cause.Cause.{Cause}
use Rattle.mg_calc.specs.declared.node_fault.Phase.{Phase}
use Rattle.mg_calc.specs.declared.node_fault.Phase.TheVariants.{Open, Call as SourceCall, Process, Close}
use Rattle.mg_calc.specs.declared.plan.Plan.{Plan}
use Rattle.mg_calc.specs.declared.plan_node.PlanNode.{PlanNode}
use Rattle.mg_calc.specs.Shape.{IsOuter}
use Rattle.mg_calc.specs.Told.{BoxTold}
use Rattle.mg_calc.specs.Outcome.{Failure}
use Rattle.mg_calc.specs.Equations.{Job, IsJob, inputs_of, outcome_of}
use Rattle.mg_calc.specs.Meaning.{count_of, shown_sets, last_call, log_of}
use Rattle.mg_answer.specs.Devices.{Device, device}
use Rattle.mg_node.specs.Had.{opens_well, had_close}
use Rattle.mg_node.specs.Job.{LoggedJob, Solves}
use Rattle.mg_node.specs.Batches.{Grows}
use Rattle.mg_sched.specs.Views.{NetView}
use Rattle.mg_sched.specs.Made.{BoxesFit}
use Rattle.mg_sched.specs.GivesBack.{given_back, StoodFor}
use Rattle.mg_sched.proofs.CountedBack.{knows_back}
use Rattle.mg_sched.proofs.FrontsBack.{front_back}
use Rattle.mg_sched.proofs.Solved.{solved}
use Rattle.mg_drive.specs.Leaves.{first_calls, kept_by, KeepsAFront, IsRelatedAt, HadCallsOf, HadFronts}
use Rattle.mg_drive.proofs.BoxesBack.{box_at, log_was, state_kept}

-- Calculators of a net --

-- a calculator comes back with a prefix of its calls
kept_front : {laws : Laws} (boxes : List BoxTold) (job later : LoggedJob laws) (net : NetView) (streams : List (StreamPrefix Plain)) (number place : ℕ) (node : PlanNode) → BoxesFit later.job.plan boxes → later.boxes ≡ boxes → StoodFor job net
    → (later ≡ job) ⊎ Grows job later → net.plan ≡ later.job.plan → Solves later streams → slice_get later.job.plan.nodes number ≡ Some node → node.box_number ≡ Some place → IsRelatedAt place (KeepsAFront later.job streams node) (device boxes (given_back net))
kept_front {laws} boxes job later net streams number place node fit same stood more plan_is solves there has =
    let box = box_at later.job.plan boxes number place node fit there has in
    let outer : IsOuter node.law = subst IsOuter box.2.fits.same_law box.2.outer in
    let back = front_back job later net streams number place node stood more solves (ap (λ (p : Plan). slice_get p.nodes number) plan_is ∙ there) has outer in
    record {
      before = box.0;
      now = back.0;
      was = box.1;
      is = back.1;
      holds = record {
        count = back.2.count;
        close = back.2.close;
        opened = back.2.opened;
        log = back.2.log ∙ ap (option_map (λ (calls : List Call). calls ++ first_calls later.job streams node back.2.count back.2.close)) (log_was later boxes place node box.0 same has box.1);
        law = back.2.fits.same_law ∙ sym box.2.fits.same_law;
        shape = back.2.fits.same_shape ∙ sym box.2.fits.same_shape;
        unopened = λ none. back.2.unopened none place box.0 has (ap (λ (bs : List BoxTold). slice_get bs place) same ∙ box.1);
        state = λ shown is. back.2.state shown is ∙ state_kept later.job streams node shown back.2.close outer;
      };
    }

-- each calculator does so, in the solution of the net's job or of a job that goes on from it
pub kept_fronts : {laws : Laws} (boxes : List BoxTold) (job later : LoggedJob laws) (net : NetView) → BoxesFit later.job.plan boxes → later.boxes ≡ boxes → StoodFor job net → job.job.plan ≡ later.job.plan → (later ≡ job) ⊎ Grows job later
    → IsJob later.job → HadFronts later.job (device boxes (given_back net))
kept_fronts {laws} boxes job later net fit handed stood same more is =
    let found = solved later is in
    record {
      is_job = is;
      streams = found.0;
      solution = found.1.solution;
      each = λ number place node there has. kept_front boxes job later net found.0 number place node fit handed stood more ((knows_back job net stood).plan ∙ same) found.1 there has;
    }

pub kept_now : {laws : Laws} (boxes now : List BoxTold) (job : LoggedJob laws) (net : NetView) → BoxesFit job.job.plan boxes → job.boxes ≡ boxes → StoodFor job net → IsJob job.job → now ≡ given_back net → HadFronts job.job (device boxes now)
kept_now {laws} boxes now job net fit handed stood is back =
    subst (λ (bs : List BoxTold). HadFronts job.job (device boxes bs)) (sym back) (kept_fronts boxes job job net fit handed stood refl (inl refl) is)

-- Calculators that had none of their calls, or all --

none_more : (log : Option (List Call)) → log ≡ option_map (λ (calls : List Call). calls ++ []) log
none_more None = refl
none_more (Some calls) = ap Some (sym (append-nil calls))

-- calculators without calls had the empty prefix of their calls in any job
pub none_had : (job : Job) (boxes : List BoxTold) → IsJob job → BoxesFit job.plan boxes → HadFronts job (device boxes boxes)
none_had job boxes is fit =
    let found = solved (record { job = job; boxes = []; same = refl }) is in
    record {
      is_job = is;
      streams = found.0;
      solution = found.1.solution;
      each = λ number place node there has.
          (let box = box_at job.plan boxes number place node fit there has in
          record {
            before = box.0;
            now = box.0;
            was = box.1;
            is = box.1;
            holds = record {
              count = 0;
              close = false;
              opened = λ closed. absurd cc;
              log = none_more box.0.log;
              law = refl;
              shape = refl;
              unopened = λ none. refl;
              state = λ shown is. absurd cc;
            };
          });
    }

abbrev finish : Bool → List Call
finish close = if close then Finished ∷ [] else []

last_at : (phase : Phase) (cause : Cause) → last_call (Some (record { phase = phase; cause = cause })) ≡ finish (opens_well phase)
last_at Open cause = refl
last_at (SourceCall number) cause = refl
last_at (Process at) cause = refl
last_at Close cause = refl

last_is : (fault : Option Failure) → last_call fault ≡ finish (had_close fault)
last_is None = refl
last_is (Some failure) = last_at failure.phase failure.cause

-- all of a node's calls are a prefix of these calls
pub all_first : (job : Job) (streams : List (StreamPrefix Plain)) (node : PlanNode) → log_of job streams node ≡ first_calls job streams node (suc (count_of job streams node)) (had_close (outcome_of job streams node).fault)
all_first job streams node =
    let sets = shown_sets job streams node in
    let shown : List Call = map (λ e. Shown e.at e.set) sets in
    let fault = (outcome_of job streams node).fault in
    let few : length sets ≤ count_of job streams node = subst (λ (n : ℕ). n ≤ count_of job streams node) (sym (length-take (count_of job streams node) (settled_sets node.policy (inputs_of streams node)))) (min-le_left (count_of job streams node) (length (settled_sets node.policy (inputs_of streams node)))) in
    let long : length shown ≤ count_of job streams node = subst (λ (n : ℕ). n ≤ count_of job streams node) (sym (length-map sets (λ e. Shown e.at e.set))) few in
    ap (λ (last : List Call). (Begun ∷ shown) ++ last) (last_is fault) ∙ ap (λ (calls : List Call). (Begun ∷ calls) ++ finish (had_close fault)) (sym (take_all (count_of job streams node) shown long))

-- so calculators that had all calls had a prefix of them
pub all_are_fronts : (job : Job) (boxes : Device (List BoxTold)) → BoxesFit job.plan boxes.before → HadCallsOf job boxes → HadFronts job boxes
all_are_fronts job boxes fit had = record {
  is_job = had.is_job;
  streams = had.streams;
  solution = had.solution;
  each = λ number place node there has.
      (let at = had.each number place node there has in
      let close = had_close (outcome_of job had.streams node).fault in
      record {
        before = at.before;
        now = at.now;
        was = at.was;
        is = at.is;
        holds = record {
          count = suc (count_of job had.streams node);
          close = close;
          opened = λ closed. omega arith;
          log = at.holds.log ∙ ap (λ (more : List Call). option_map (λ (calls : List Call). calls ++ more) at.before.log) (all_first job had.streams node);
          law = at.holds.law;
          shape = at.holds.shape;
          unopened = λ none. absurd cc;
          state = λ shown is. at.holds.state ∙ (let same : count_of job had.streams node ≡ shown = omega (arith, is) in ap (λ (n : ℕ). kept_by job had.streams node n close) same);
        };
      });
}
