-- What a loopback's cell has to be for its answer, and what the answer leaves.
use Rattle.std.proofs.Common.{◌≡◌, ℕ, ◌+◌, ◌<◌, ◌≤◌, List, [], ◌∷◌, length, map, Option, Some, None, option_map, get_or, set, ap, sym, refl, subst, ◌∙◌, arith}
use Rattle.std.specs.List.{AllByRecursion}
use Rattle.std.proofs.lemmas.List.{length-map}
use Rattle.std.proofs.lemmas.List.Elements.{recursion_from_All}
use Rattle.mg_time.specs.Time.{done, post_stream, IsAllowed}
use Rattle.mg_value.specs.Payload.{Plain}
use Rattle.mg_value.specs.Packet.{Stamped}
use Rattle.mg_settled.specs.Prefix.{StreamPrefix, IsPrefix}
use Rattle.mg_settled.specs.Loopback.{packet_of}
use Rattle.mg_settled.specs.Settled.{times_of}
use Rattle.mg_settled.proofs.Climbs.{prefix-rises}
use Rattle.mg_settled.proofs.Lemmas.{replies-most}
use Rattle.mg_stream.specs.Queue.{Waiting, StandsFor, MayCome}
use Rattle.mg_stream.specs.Pool.{Backlog, queue_of, backlog_of}
use Rattle.mg_policy.specs.declared.readiness.Readiness.TheVariants.{Close as AtEnd, NotReady as NotYet}
use Rattle.mg_loopback.specs.Loopback.{Held, next_reply}
use Rattle.mg_calc.specs.Rules.{Laws}
use Rattle.mg_calc.specs.declared.plan_node.PlanNode.{PlanNode}
use Rattle.mg_node.specs.declared.role.Role.{Role}
use Rattle.mg_node.specs.declared.role.Role.TheVariants.{Loop as LoopRole}
use Rattle.mg_node.specs.declared.pending.Pending.{Pending}
use Rattle.mg_node.specs.declared.pending.Pending.TheVariants.{Sets, Loop}
use Rattle.mg_node.specs.Views.{IntakeView, EngineView}
use Rattle.mg_node.specs.Ports.{IsNext}
use Rattle.mg_node.specs.Intakes.{HasLoop}
use Rattle.mg_node.specs.Job.{LoggedJob}
use Rattle.mg_node.specs.Lawful.{HoldsLoop, HoldsWaits, LawfulIntake, IsRaised, come_to, IsEngineOf, LawfulEngine, of_node, AgreeBy, AreCell}
use Rattle.mg_node.specs.Claims.{MayClaim, IsEarly, AreSame, TakesAnswer, with_reply, with_answer}
use Rattle.mg_node.specs.Code.Replying.{MayLay, LaysReply, TellsNone}
use Rattle.mg_node.proofs.Answering.{loop_law, loop_cell, may_answer, cell_base}
use Rattle.mg_node.proofs.Claiming.{few_rise}
use Rattle.mg_node.proofs.Giving.{with_outputs}
use Rattle.mg_node.proofs.Zips.{zip_long}

-- an intake of a loopback's node is a loopback's
has_loop_by : {laws : Laws} (job : LoggedJob laws) (number : ℕ) (engine : EngineView) (h : IsEngineOf job number engine) (streams : List (StreamPrefix Plain)) (claimed : ℕ) (w : Pending) → engine.role ≡ LoopRole → HoldsWaits job streams number claimed w → HasLoop w
has_loop_by {laws} job number engine h streams claimed (Sets inbox) role holds = absurd (holds.0 (ap (λ (o : Option PlanNode). option_map (λ n. n.law) o) h.there ∙ ap Some (loop_law h.node.law (sym h.set_up.role ∙ role))))
has_loop_by {laws} job number engine h streams claimed (Loop held) role holds = tt

cell_loop_by : {laws : Laws} (job : LoggedJob laws) (number : ℕ) (engine : EngineView) (intake : IntakeView) → LawfulEngine job (of_node number) engine → LawfulIntake job number intake → engine.role ≡ LoopRole → HasLoop intake.waits
unfolding LawfulEngine LawfulIntake
cell_loop_by {laws} job number engine intake h i role = has_loop_by job number engine h i.streams intake.claimed intake.waits role i.holds

pub cell_loop : {laws : Laws} (engine : EngineView) (intake : IntakeView) → AreCell laws engine intake → engine.role ≡ LoopRole → HasLoop intake.waits
cell_loop {laws} engine intake cell role = cell_loop_by cell.job cell.number engine intake cell.lawful_engine cell.lawful_intake role

held_of : (w : Pending) → HasLoop w → (held : Held Plain) × (w ≡ Loop held)
held_of (Sets inbox) h = absurd h
held_of (Loop held) h = (held, refl)

-- fewer packets than times
times_under : (b : ℕ) (ps : List (Stamped Plain)) → AllByRecursion (λ p. IsAllowed p.at) ps → post_stream < b → AllByRecursion (λ t. t < b) (times_of ps)
times_under b [] a le = tt
times_under b (p ∷ ps) a le = (let here = a.0 in let most = here.1 in omega (arith, most, le), times_under b ps a.1 le)

few_packets : (s : StreamPrefix Plain) → IsPrefix s → length s.packets + 1 ≤ done
few_packets s is =
    let under = times_under (post_stream + 1) s.packets (recursion_from_All (λ (p : Stamped Plain). IsAllowed p.at) s.packets is.allowed) (omega arith) in
    let few = few_rise 0 (post_stream + 1) (times_of s.packets) (prefix-rises s is) under (omega arith) in
    let long = length-map s.packets (λ (p : Stamped Plain). p.at) in
    omega (arith, few, long)

few_by : {laws : Laws} (job : LoggedJob laws) (streams : List (StreamPrefix Plain)) (number claimed : ℕ) (held : Held Plain) → HoldsLoop job streams number claimed held → claimed + 1 ≤ done
few_by {laws} job streams number claimed held h =
    let answered = h.stands.answered in
    let most = replies-most h.main h.loop in
    let few = few_packets h.main h.stands.at_main.prefix in
    omega (arith, answered, most, few)

few_waits : {laws : Laws} (job : LoggedJob laws) (streams : List (StreamPrefix Plain)) (number claimed : ℕ) (w : Pending) → HasLoop w → HoldsWaits job streams number claimed w → claimed + 1 ≤ done
few_waits {laws} job streams number claimed (Sets inbox) has holds = absurd has
few_waits {laws} job streams number claimed (Loop held) has holds = few_by job streams number claimed held holds.1

cell_few_by : {laws : Laws} (job : LoggedJob laws) (number : ℕ) (intake : IntakeView) → LawfulIntake job number intake → HasLoop intake.waits → intake.claimed + 1 ≤ done
unfolding LawfulIntake
cell_few_by {laws} job number intake i has = few_waits job i.streams number intake.claimed intake.waits has i.holds

pub cell_few : {laws : Laws} (engine : EngineView) (intake : IntakeView) → AreCell laws engine intake → engine.role ≡ LoopRole → intake.claimed + 1 ≤ done
cell_few {laws} engine intake cell role = cell_few_by cell.job cell.number intake cell.lawful_intake (cell_loop engine intake cell role)

-- the counts of the engine
pub cell_counts : {laws : Laws} (engine : EngineView) (intake : IntakeView) → AreCell laws engine intake → engine.role ≡ LoopRole → MayClaim engine → (engine.claimed ≡ intake.claimed) × (engine.laid ≡ engine.claimed)
cell_counts {laws} engine intake cell role may =
    let held = held_of intake.waits (cell_loop engine intake cell role) in
    let it = loop_cell engine intake held.0 cell role held.1 may in
    (subst (λ (r : Role). AgreeBy r engine.claimed intake.claimed) role cell.agree, it.all)

-- one output, if the packet may come
pub cell_one : {laws : Laws} (engine : EngineView) (intake : IntakeView) → AreCell laws engine intake → engine.role ≡ LoopRole → MayClaim engine → length engine.outputs ≡ 1
cell_one {laws} engine intake cell role may =
    let held = held_of intake.waits (cell_loop engine intake cell role) in
    let it = loop_cell engine intake held.0 cell role held.1 may in
    let h = it.engine_is in
    let base = cell_base cell.job cell.number engine held.0 it in
    zip_long (λ (o : Backlog Plain) (s : StreamPrefix Plain). StandsFor (queue_of 0 o) s) engine.outputs h.whole h.kept
    ∙ sym (zip_long IsRaised (come_to cell.job h.streams h.node engine.laid engine.closed).outputs h.whole h.raised) ∙ ap length base

pub cell_lays : {laws : Laws} (engine : EngineView) (intake : IntakeView) (items : List (Waiting Plain)) (q : Waiting Plain) → AreCell laws engine intake → engine.role ≡ LoopRole → MayClaim engine → map backlog_of items ≡ engine.outputs → q ≡ get_or items 0 q → MayLay q intake.waits
cell_lays {laws} engine intake items q cell role may is first = λ held r p waits next packet.
    (let a = may_answer engine intake held r p cell role waits may next packet in
    first_may items q a.output p.at (is ∙ a.outputs) first a.may_come)
  where
    first_may : (xs : List (Waiting Plain)) (x : Waiting Plain) (b : Backlog Plain) (at : ℕ) → map backlog_of xs ≡ b ∷ [] → x ≡ get_or xs 0 x → MayCome (queue_of 0 b) at → MayCome x at
    first_may [] x b at e here may = absurd cc
    first_may (y ∷ ys) x b at e here may =
        let same : backlog_of y ≡ b = cc in
        let as_is : MayCome (queue_of 0 (backlog_of x)) at = subst (λ (c : Backlog Plain). MayCome (queue_of 0 c) at) (sym same ∙ ap backlog_of (sym here)) may in
        record { allowed = as_is.allowed; above = as_is.above; alone = as_is.alone }

-- the outputs after it
pub one_laid : (items : List (Waiting Plain)) (q r : Waiting Plain) (answer : Option (Stamped Plain)) → length items ≡ 1 → q ≡ get_or items 0 q → backlog_of r ≡ with_reply answer (backlog_of q) → map backlog_of (set items 0 r) ≡ with_answer answer (map backlog_of items)
one_laid [] q r answer one here laid = absurd (omega (arith, one))
one_laid (x ∷ xs) q r answer one here laid = ap (λ (b : Backlog Plain). b ∷ map backlog_of xs) (laid ∙ ap (λ (y : Waiting Plain). with_reply answer (backlog_of y)) here)

pub one_same : (items : List (Waiting Plain)) (q r : Waiting Plain) → length items ≡ 1 → q ≡ get_or items 0 q → backlog_of r ≡ backlog_of q → map backlog_of (set items 0 r) ≡ map backlog_of items
one_same [] q r one here same = absurd (omega (arith, one))
one_same (x ∷ xs) q r one here same = ap (λ (b : Backlog Plain). b ∷ map backlog_of xs) (same ∙ ap backlog_of here)

-- what isn't told yet
pub early : (role : Role) (w : Pending) (held : Held Plain) → role ≡ LoopRole → w ≡ Loop held → next_reply held ≡ None → ¬ IsNext w AtEnd → IsEarly role w
early role w held is waits none not_over =
    subst (λ (r : Role). IsEarly r w) (sym is) (subst (λ (v : Pending). (¬ IsNext v AtEnd) → IsNext v NotYet) (sym waits) (λ no. (none, no)) not_over)

-- The engine, after each of its answers.
pub item_one : {laws : Laws} (engine : EngineView) (intake : IntakeView) (items : List (Waiting Plain)) → AreCell laws engine intake → engine.role ≡ LoopRole → MayClaim engine → map backlog_of items ≡ engine.outputs → length items ≡ 1
item_one {laws} engine intake items cell role may is = sym (length-map items backlog_of) ∙ ap length is ∙ cell_one engine intake cell role may

pub none_laid : {laws : Laws} (engine : EngineView) (intake : IntakeView) (items : List (Waiting Plain)) (q r : Waiting Plain) → AreCell laws engine intake → engine.role ≡ LoopRole → MayClaim engine → map backlog_of items ≡ engine.outputs → q ≡ get_or items 0 q → backlog_of r ≡ backlog_of q
    → with_outputs engine (map backlog_of (set items 0 r)) ≡ engine
none_laid {laws} engine intake items q r cell role may is here same = ap (with_outputs engine) (one_same items q r (item_one engine intake items cell role may is) here same ∙ is)

abbrev pub with_laid : EngineView → List (Backlog Plain) → EngineView
with_laid engine outputs = record engine { claimed = engine.claimed + 1; laid = engine.laid + 1; outputs = outputs }

pub not_yet : {laws : Laws} (engine engine_now : EngineView) (intake intake_now : IntakeView) (items : List (Waiting Plain)) (q r : Waiting Plain) → AreCell laws engine intake → engine.role ≡ LoopRole → MayClaim engine → map backlog_of items ≡ engine.outputs → q ≡ get_or items 0 q
    → engine_now ≡ with_outputs engine (map backlog_of (set items 0 r)) → ¬ IsNext intake.waits AtEnd → TellsNone q r intake intake_now → IsEarly engine.role intake.waits × AreSame engine intake engine_now intake_now
not_yet {laws} engine engine_now intake intake_now items q r cell role may is here now not_over t = (
  early engine.role intake.waits t.held role t.waits t.none not_over,
  record { same_engine = now ∙ none_laid engine intake items q r cell role may is here t.same; same_intake = t.intake_is },
)

pub now_laid : {laws : Laws} (engine engine_now : EngineView) (intake intake_now : IntakeView) (items : List (Waiting Plain)) (q r : Waiting Plain) → AreCell laws engine intake → engine.role ≡ LoopRole → MayClaim engine → map backlog_of items ≡ engine.outputs → q ≡ get_or items 0 q
    → engine_now ≡ with_laid engine (map backlog_of (set items 0 r)) → LaysReply q r intake intake_now → TakesAnswer engine engine_now intake intake_now
now_laid {laws} engine engine_now intake intake_now items q r cell role may is here now t = record {
  role = role;
  held = t.held;
  waits = t.waits;
  reply = t.reply;
  next = t.next;
  now = now ∙ ap (with_laid engine) (one_laid items q r (packet_of t.reply) (item_one engine intake items cell role may is) here t.laid ∙ ap (with_answer (packet_of t.reply)) is);
  intake_is = t.intake_is;
}
