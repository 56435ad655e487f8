-- An engine stays lawful when what waits at its node raises its outputs.
use Rattle.std.proofs.Common.{◌≡◌, ℕ, suc, ℤ, ◌+◌, ◌≤◌, Bool, true, false, List, [], ◌∷◌, length, map, Option, Some, None, option_map, unwrap_or, slice_get, is_some, count_by as number_of, cond, ap, sym, refl, subst, ◌∙◌, arith, if◌then◌else◌}
use Rattle.std.specs.List.{AllZip}
use Rattle.std.proofs.lemmas.List.Sums.{sum_by-cons}
use Rattle.mg_time.specs.Time.{shift}
use Rattle.mg_value.specs.Payload.{Plain}
use Rattle.mg_value.specs.Packet.{Stamped}
use Rattle.mg_settled.specs.Prefix.{StreamPrefix, IsPrefix, raised}
use Rattle.mg_settled.specs.Extension.{AreExtendedBy}
use Rattle.mg_settled.specs.Loopback.{loopback}
use Rattle.mg_settled.proofs.Lemmas.{reach-most, loopback_is_prefix}
use Rattle.mg_stream.specs.Pool.{Backlog}
use Rattle.mg_loopback.specs.Loopback.{reached}
use Rattle.mg_loopback.specs.Standing.{after_replies}
use Rattle.mg_calc.specs.Rules.{Laws}
use Rattle.mg_calc.specs.declared.law.Law.{Law}
use Rattle.mg_calc.specs.declared.law.Law.TheVariants.{Count, SideOnce, Constants, Loopback}
use Rattle.mg_calc.specs.declared.node_fault.Phase.{Phase}
use Rattle.mg_calc.specs.declared.node_fault.Phase.TheVariants.{Open, Call as SourceCall, Process, Close}
use Rattle.mg_calc.specs.declared.plan_node.PlanNode.{PlanNode}
use Rattle.mg_calc.specs.Laying.{all_raised}
use Rattle.mg_calc.specs.Shape.{IsOuter, IsSource, IsShapeOf}
use Rattle.mg_calc.specs.Equations.{Job, inputs_of}
use Rattle.mg_calc.proofs.LaidBehind.{shift_within}
use Rattle.mg_calc.proofs.Rounds.{stream_extends, stream_is_prefix, streams_are_prefixes}
use Rattle.mg_calc.proofs.Jobs.{job_known}
use Rattle.mg_calc.proofs.Solutions.{solution_keeps, one_solution}
use Rattle.mg_node.specs.declared.role.Role.{Role}
use Rattle.mg_node.specs.declared.role.Role.TheVariants.{Input, Source, Loop as LoopRole, Sets as SetsRole}
use Rattle.mg_node.specs.declared.pending.Pending.{Pending}
use Rattle.mg_node.specs.declared.pending.Pending.TheVariants.{Sets, Loop}
use Rattle.mg_node.specs.Views.{IntakeView, EntryView, EngineView}
use Rattle.mg_node.specs.Ports.{horizon_of}
use Rattle.mg_node.specs.Windows.{has_ended}
use Rattle.mg_node.specs.Advances.{until_claimed, raised_by, advance_bound, raised_output, advanced}
use Rattle.mg_node.specs.Job.{LoggedJob, ports_of, streams_at, role_of, main_of, loop_of, answered, stage, IsTask}
use Rattle.mg_node.specs.Lawful.{HoldsWaits, IsIntakeOf, LawfulIntake, IsRaised, is_close, come_to, IsEngineOf, LawfulEngine, of_node, AgreeBy, Agree}
use Rattle.mg_node.proofs.Advancing.{raised_none}
use Rattle.mg_node.proofs.Answering.{loop_law, loop_outcome, loop_stage}
use Rattle.mg_node.proofs.Claimable.{never_input}
use Rattle.mg_node.proofs.Closing.{no_fault, second_not}
use Rattle.mg_node.proofs.Giving.{with_outputs}
use Rattle.mg_node.proofs.NodeSolution.{node_streams}
use Rattle.mg_node.proofs.NothingBelow.{NoneBelow, none_comes_below, none_left_below, until_least, Tells, answers_tell}
use Rattle.mg_node.proofs.HeldRules.{of_node as at_node}
use Rattle.mg_node.proofs.RaisedOutputs.{IsUnder, MayRise, all_between, raised_under, raised_engine}
use Rattle.mg_node.proofs.Stages.{IsCalled, called_offset}
use Rattle.mg_node.proofs.StageStreams.{node_known, raised_stage_extended}

-- Roles tell kinds of laws.
outer_role : (law : Law) → role_of law ≡ SetsRole → IsOuter law
outer_role (Count count start apart) e = absurd cc
outer_role (SideOnce at) e = absurd cc
outer_role Constants e = absurd cc
outer_role Loopback e = absurd cc
outer_role law e = tt

called_role : (law : Law) (calls : ℕ) → role_of law ≡ Source calls → IsCalled law
called_role (Count count start apart) calls e = tt
called_role (SideOnce at) calls e = tt
called_role Constants calls e = tt
called_role Loopback calls e = absurd cc
called_role law calls e = absurd cc

-- A node that is shown sets.
sets_rise : {laws : Laws} (job : LoggedJob laws) (number : ℕ) (engine : EngineView) (h : IsEngineOf job number engine) (w : Pending) (offset : ℤ) → engine.role ≡ SetsRole → engine.offset ≡ Some offset → engine.closed ≡ false → (stage job.job h.streams h.node engine.laid).fault ≡ None
    → HoldsWaits job h.streams number engine.claimed w → MayRise (shift (until_claimed engine.window (horizon_of w)) offset) h.whole (streams_at h.streams h.node.outputs)
sets_rise {laws} job number engine h w offset role offset_is going good holds =
    let role_is : role_of h.node.law ≡ SetsRole = sym h.set_up.role ∙ role in
    let outer = outer_role h.node.law role_is in
    let known = node_known job h.streams number h.node h.solves h.there in
    let t = until_claimed engine.window (horizon_of w) in
    let b = shift t offset in
    let into = streams_at h.streams h.node.outputs in
    let comes = none_comes_below job number h.streams h.node engine.claimed w known.inputs h.there role_is holds in
    let below : NoneBelow t engine.laid h.node.policy (inputs_of h.streams h.node) =
    none_left_below job h.streams h.node engine.laid number (horizon_of w) engine.window outer h.entries comes.0 (λ empty. (subst (λ (k : ℕ). NoneBelow (horizon_of w) k h.node.policy (inputs_of h.streams h.node)) (all_laid empty) comes).1) in
    let base : (come_to job h.streams h.node engine.laid engine.closed).outputs ≡ (stage job.job h.streams h.node engine.laid).outputs = ap (λ (c : Bool). (come_to job h.streams h.node engine.laid c).outputs) going in
    let node_offset : h.node.shape.offset ≡ Some offset = sym h.set_up.offset ∙ offset_is in
    let higher : AreExtendedBy (map (λ s. raised s b) (stage job.job h.streams h.node engine.laid).outputs) into =
    subst (λ (o : Option ℤ). AreExtendedBy (all_raised o t (stage job.job h.streams h.node engine.laid).outputs) into) node_offset
    (raised_stage_extended job h.streams number h.node engine.laid t h.solves h.there outer good below.0 below.1) in
    let under = raised_under b (stage job.job h.streams h.node engine.laid).outputs h.whole (subst (λ (ss : List (StreamPrefix Plain)). AllZip IsRaised ss h.whole) base h.raised) in
    record {
      within = shift_within t offset (let most = reach-most h.node.policy (inputs_of h.streams h.node) known.inputs in let le = below.0 in omega (arith, most, le));
      extended = all_between b h.whole (map (λ s. raised s b) (stage job.job h.streams h.node engine.laid).outputs) into h.extended higher under;
    }
  where
    all_laid : engine.window ≡ [] → engine.claimed ≡ engine.laid
    all_laid empty = (let order = subst (λ (es : List EntryView). engine.laid + length es ≡ engine.claimed + number_of (λ (e : EntryView). is_close e.phase) es) empty h.order in omega (arith, order))

-- A loopback: all that it claims it lays, but Close.
each_closes : (job : Job) (streams : List (StreamPrefix Plain)) (node : PlanNode) (n : ℕ) (phase : Phase) (set : List (Option (Stamped Plain))) → node.law ≡ Loopback → IsTask job streams node n phase set → is_close phase ≡ true
each_closes job streams node n Open set is task = absurd task
each_closes job streams node n (SourceCall number) set is task = absurd (subst IsSource is task.0)
each_closes job streams node n (Process at) set is task = absurd (subst IsOuter is task.0)
each_closes job streams node n Close set is task = refl

all_close : (window : List EntryView) → ((i : ℕ) (entry : EntryView) → slice_get window i ≡ Some entry → is_close entry.phase ≡ true) → number_of (λ e. is_close e.phase) window ≡ length window
all_close [] each = refl
all_close (entry ∷ window) each =
    let later = all_close window (λ i e there. each (suc i) e there) in
    sum_by-cons (λ (e : EntryView). cond (is_close e.phase) 1 0) entry window ∙ ap (λ (b : Bool). cond b 1 0 + number_of (λ (e : EntryView). is_close e.phase) window) (each 0 entry refl) ∙ omega (arith, later)

under_one : (b : ℕ) (u base : StreamPrefix Plain) (whole : List (StreamPrefix Plain)) → base.packets ≡ u.packets → b ≤ u.bound → AllZip IsRaised (base ∷ []) whole → AllZip (IsUnder b) (u ∷ []) whole
under_one b u base [] same le r = absurd r
under_one b u base (w ∷ []) same le r = ((r.0.packets ∙ same, le), tt)
under_one b u base (w ∷ x ∷ ws) same le r = absurd r.1

loop_rises_by : {laws : Laws} (job : LoggedJob laws) (number : ℕ) (engine : EngineView) (h : IsEngineOf job number engine) (w : Pending) → engine.role ≡ LoopRole → engine.closed ≡ false → HoldsWaits job h.streams number engine.claimed w
    → MayRise (until_claimed engine.window (horizon_of w)) h.whole (streams_at h.streams h.node.outputs)
loop_rises_by {laws} job number engine h (Sets inbox) role going holds = absurd (holds.0 (ap (λ (o : Option PlanNode). option_map (λ n. n.law) o) h.there ∙ ap Some (loop_law h.node.law (sym h.set_up.role ∙ role))))
loop_rises_by {laws} job number engine h (Loop held) role going holds =
    let law : h.node.law ≡ Loopback = loop_law h.node.law (sym h.set_up.role ∙ role) in
    let b = until_claimed engine.window (reached held) in
    let main = main_of h.streams h.node in
    let loop = loop_of h.streams h.node in
    let at : streams_at h.streams (ports_of job.job.plan number) ≡ inputs_of h.streams h.node = ap (λ (o : Option PlanNode). streams_at h.streams (unwrap_or (option_map (λ n. n.inputs) o) job.job.plan.outputs)) h.there in
    let came : List (StreamPrefix Plain) = holds.1.loop ∷ holds.1.main ∷ [] in
    let both : AreExtendedBy came (inputs_of h.streams h.node) = subst (AreExtendedBy came) at holds.1.extended in
    let prefixes = solution_keeps job.job (job_known job.job h.solves.is_job) h.streams h.solves.solution in
    let is : IsPrefix main = stream_is_prefix (inputs_of h.streams h.node) 1 (streams_are_prefixes h.streams h.node.inputs prefixes) in
    let u = after_replies engine.claimed holds.1.main holds.1.loop in
    let tells : Tells engine.claimed (reached held) main loop u =
    answers_tell engine.claimed held holds.1.main holds.1.loop main loop is holds.1.stands (stream_extends came (inputs_of h.streams h.node) 1 both) (stream_extends came (inputs_of h.streams h.node) 0 both) in
    let closes : number_of (λ (e : EntryView). is_close e.phase) engine.window ≡ length engine.window =
    all_close engine.window (λ i entry there. each_closes job.job h.streams h.node (engine.laid + i) entry.phase (h.entries i entry there).set law (h.entries i entry there).task) in
    let all : engine.laid ≡ engine.claimed = (let order = h.order in omega (arith, order, closes)) in
    let base : (come_to job h.streams h.node engine.laid engine.closed).outputs ≡ answered engine.claimed main loop ∷ [] =
    ap (λ (c : Bool). (come_to job h.streams h.node engine.laid c).outputs) going ∙ loop_stage h.node.law job.job h.streams h.node engine.laid law ∙ ap (λ (n : ℕ). answered n main loop ∷ []) all in
    let into : streams_at h.streams h.node.outputs ≡ loopback main loop ∷ [] = node_streams job h.streams number h.node h.solves h.there ∙ loop_outcome h.node.law job.job h.streams h.node law in
    let most : b ≤ u.bound = (let least = until_least engine.window (reached held) in let bound = tells.bound in omega (arith, least, bound)) in
    let under = under_one b u (answered engine.claimed main loop) h.whole tells.packets most (subst (λ (ss : List (StreamPrefix Plain)). AllZip IsRaised ss h.whole) base h.raised) in
    record {
      within = (let up = tells.extended.bound in let end = (loopback_is_prefix main loop is).within in omega (arith, most, up, end));
      extended = all_between b h.whole (u ∷ []) (streams_at h.streams h.node.outputs) h.extended (subst (AreExtendedBy (u ∷ [])) (sym into) (tells.extended, tt)) under;
    }

-- By its role.
going_by : (ended : Bool) (o : Option ℕ) (b : ℕ) → (if ended then None else o) ≡ Some b → (ended ≡ false) × (o ≡ Some b)
going_by true o b e = absurd cc
going_by false o b e = (refl, e)

some_same : (a b : ℕ) → Some a ≡ Some b → a ≡ b
some_same a b e = cc

module _ {laws : Laws} (job : LoggedJob laws) (number : ℕ) (engine : EngineView) (intake : IntakeView) (h : IsEngineOf job number engine) (i : IsIntakeOf job number intake) (going : engine.closed ≡ false) (good : (stage job.job h.streams h.node engine.laid).fault ≡ None) where
  holds_too : engine.claimed ≡ intake.claimed → HoldsWaits job h.streams number engine.claimed intake.waits
  holds_too agree =
      let same : i.streams ≡ h.streams = one_solution job.job i.streams h.streams i.solves.solution h.solves.solution in
      subst (λ (k : ℕ). HoldsWaits job h.streams number k intake.waits) (sym agree) (subst (λ (ss : List (StreamPrefix Plain)). HoldsWaits job ss number intake.claimed intake.waits) same i.holds)

  sets_rise_by : (offset : Option ℤ) (b : ℕ) → engine.role ≡ SetsRole → engine.offset ≡ offset → engine.claimed ≡ intake.claimed → raised_by SetsRole offset (until_claimed engine.window (horizon_of intake.waits)) ≡ Some b → MayRise b h.whole (streams_at h.streams h.node.outputs)
  sets_rise_by None b role offset_is agree is = absurd cc
  sets_rise_by (Some offset) b role offset_is agree is =
      subst (λ (c : ℕ). MayRise c h.whole (streams_at h.streams h.node.outputs)) (some_same (shift (until_claimed engine.window (horizon_of intake.waits)) offset) b is)
      (sets_rise job number engine h intake.waits offset role offset_is going good (holds_too agree))

  source_offset : (calls : ℕ) → engine.role ≡ Source calls → engine.offset ≡ None
  source_offset calls role =
      let shape : IsShapeOf h.node.law h.node.shape = at_node (λ (m : PlanNode). IsShapeOf m.law m.shape) job.job.plan.nodes number h.node h.solves.is_job.plan.shapes h.there in
      h.set_up.offset ∙ shape.offset ∙ called_offset h.node.law (called_role h.node.law calls (sym h.set_up.role ∙ role))

  rise_by : (r : Role) (b : ℕ) → engine.role ≡ r → AgreeBy r engine.claimed intake.claimed → raised_by r engine.offset (until_claimed engine.window (horizon_of intake.waits)) ≡ Some b → MayRise b h.whole (streams_at h.streams h.node.outputs)
  rise_by (Source calls) b role agree is =
      absurd (let none : None ≡ Some b = subst (λ (o : Option ℤ). raised_by (Source calls) o (until_claimed engine.window (horizon_of intake.waits)) ≡ Some b) (source_offset calls role) is in cc)
  rise_by Input b role agree is = absurd (never_input h.node.law (sym h.set_up.role ∙ role))
  rise_by LoopRole b role agree is =
      subst (λ (c : ℕ). MayRise c h.whole (streams_at h.streams h.node.outputs)) (some_same (until_claimed engine.window (horizon_of intake.waits)) b is)
      (loop_rises_by job number engine h intake.waits role going (holds_too agree))
  rise_by SetsRole b role agree is = sets_rise_by engine.offset b role refl agree is

may_rise : {laws : Laws} (job : LoggedJob laws) (number : ℕ) (engine : EngineView) (intake : IntakeView) (b : ℕ) (h : IsEngineOf job number engine) → IsIntakeOf job number intake → Agree engine intake → advance_bound engine intake.waits ≡ Some b → MayRise b h.whole (streams_at h.streams h.node.outputs)
may_rise {laws} job number engine intake b h i agree is =
    let goes = going_by (has_ended engine) (raised_by engine.role engine.offset (until_claimed engine.window (horizon_of intake.waits))) b is in
    let on = second_not engine.closed (is_some engine.fault) goes.0 in
    let good : (stage job.job h.streams h.node engine.laid).fault ≡ None =
    no_fault engine.fault (stage job.job h.streams h.node engine.laid).fault number on.1 (h.fault ∙ ap (λ (c : Bool). option_map (λ f. record { node = number; phase = f.phase; cause = f.cause }) (come_to job h.streams h.node engine.laid c).fault) on.0) in
    rise_by job number engine intake h i on.0 good engine.role b refl agree goes.1

advanced_by : {laws : Laws} (job : LoggedJob laws) (number : ℕ) (engine : EngineView) (intake : IntakeView) (o : Option ℕ) → IsEngineOf job number engine → IsIntakeOf job number intake → Agree engine intake → advance_bound engine intake.waits ≡ o
    → IsEngineOf job number (record engine { outputs = map (raised_output o) engine.outputs })
advanced_by {laws} job number engine intake None h i agree is = subst (λ (os : List (Backlog Plain)). IsEngineOf job number (with_outputs engine os)) (sym (raised_none engine.outputs)) h
advanced_by {laws} job number engine intake (Some b) h i agree is = raised_engine job number engine b h (may_rise job number engine intake b h i agree is)

pub advance_lawful : {laws : Laws} (job : LoggedJob laws) (number : ℕ) (engine : EngineView) (intake : IntakeView) → LawfulEngine job (of_node number) engine → LawfulIntake job number intake → Agree engine intake → LawfulEngine job (of_node number) (advanced engine intake.waits)
unfolding LawfulEngine LawfulIntake
advance_lawful {laws} job number engine intake h i agree = advanced_by job number engine intake (advance_bound engine intake.waits) h i agree refl
