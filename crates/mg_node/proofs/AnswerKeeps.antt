-- An answer that is laid leaves the cell of a loopback lawful.
use Rattle.std.proofs.Common.{◌≡◌, ℕ, ◌+◌, ◌≤◌, Bool, false, List, [], ◌∷◌, ◌++◌, length, take, append-nil, Option, Some, None, option_map, slice_get, is_some, count_by as number_of, ap, sym, refl, subst, ◌∙◌, arith}
use Rattle.std.specs.List.{AllZip, filter_map, cons_option}
use Rattle.std.proofs.lemmas.List.{take_more}
use Rattle.std.proofs.lemmas.List.Elements.{filter_map-append, All-weaker}
use Rattle.std.proofs.lemmas.Option.{slice_get_within, get_or_from_slice_get}
use Rattle.mg_value.specs.Payload.{Plain}
use Rattle.mg_value.specs.Packet.{Stamped}
use Rattle.mg_settled.specs.Prefix.{StreamPrefix, empty_prefix, appended, all_appended}
use Rattle.mg_settled.specs.Extension.{AreExtendedBy}
use Rattle.mg_settled.proofs.Extending.{all_appended_behind}
use Rattle.mg_settled.specs.Loopback.{Reply, replies, packet_of, loopback}
use Rattle.mg_stream.specs.Pool.{Backlog, queue_of}
use Rattle.mg_stream.proofs.QueueSteps.{stands_appended}
use Rattle.mg_loopback.specs.Loopback.{Held, next_reply, replied}
use Rattle.mg_loopback.proofs.Standing.{answer_counts}
use Rattle.mg_calc.specs.Rules.{Laws}
use Rattle.mg_calc.specs.declared.law.Law.{Law}
use Rattle.mg_calc.specs.declared.law.Law.TheVariants.{Loopback}
use Rattle.mg_calc.specs.declared.call.Call.{Call}
use Rattle.mg_calc.specs.declared.plan_node.PlanNode.{PlanNode}
use Rattle.mg_calc.specs.Equations.{Job, outcome_by}
use Rattle.mg_calc.specs.Meaning.{count_of}
use Rattle.mg_node.specs.declared.pending.Pending.{Pending}
use Rattle.mg_node.specs.declared.pending.Pending.TheVariants.{Loop}
use Rattle.mg_node.specs.Views.{IntakeView, ContextView, EntryView, EngineView}
use Rattle.mg_node.specs.Job.{LoggedJob, main_of, loop_of, answered, stage_by, calls_before_by, log_after}
use Rattle.mg_node.specs.Lawful.{HoldsWaits, IsIntakeOf, LawfulIntake, is_close, IsRaised, StandForAll, IsIdle, come_to, calls_by, IsEngineOf, LawfulEngine, of_node, AgreeBy}
use Rattle.mg_node.specs.Claims.{MayClaim, with_answer, TakesAnswer}
use Rattle.mg_node.proofs.Answering.{IsLoopCell, HasOne, loop_stage, loop_cell_by, next_in, one_of, into_is, stream_is, parts_of, follows, may_come_by}
use Rattle.mg_node.proofs.Delivering.{GoesOn}
use Rattle.mg_node.proofs.Stages.{loop_has_no_fault}

-- The base, with one answer more.
all_appended-snoc : (s : StreamPrefix Plain) (ps : List (Stamped Plain)) (p : Stamped Plain) → all_appended s (ps ++ p ∷ []) ≡ appended (all_appended s ps) p
all_appended-snoc s [] p = refl
all_appended-snoc s (q ∷ ps) p = all_appended-snoc (appended s q) ps p

one_more : (rs : List (Reply Plain)) (k : ℕ) (r : Reply Plain) → slice_get rs k ≡ Some r → filter_map packet_of (take (k + 1) rs) ≡ filter_map packet_of (take k rs) ++ cons_option (packet_of r) []
one_more rs k r at =
    let within = slice_get_within rs k r at in
    ap (filter_map packet_of) (take_more rs k r within ∙ ap (λ (x : Reply Plain). take k rs ++ x ∷ []) (get_or_from_slice_get rs k r r at)) ∙ filter_map-append packet_of (take k rs) (r ∷ [])

base_packet : (main loop : StreamPrefix Plain) (k : ℕ) (r : Reply Plain) (p : Stamped Plain) → slice_get (replies main loop) k ≡ Some r → packet_of r ≡ Some p → answered (k + 1) main loop ≡ appended (answered k main loop) p
base_packet main loop k r p at is =
    ap (all_appended empty_prefix) (one_more (replies main loop) k r at ∙ ap (λ (o : Option (Stamped Plain)). filter_map packet_of (take k (replies main loop)) ++ cons_option o []) is)
    ∙ all_appended-snoc empty_prefix (filter_map packet_of (take k (replies main loop))) p

base_silent : (main loop : StreamPrefix Plain) (k : ℕ) (r : Reply Plain) → slice_get (replies main loop) k ≡ Some r → packet_of r ≡ None → answered (k + 1) main loop ≡ answered k main loop
base_silent main loop k r at is =
    ap (all_appended empty_prefix) (one_more (replies main loop) k r at ∙ ap (λ (o : Option (Stamped Plain)). filter_map packet_of (take k (replies main loop)) ++ cons_option o []) is ∙ append-nil (filter_map packet_of (take k (replies main loop))))

-- the one output, after an answer
pub record LaysOne (engine : EngineView) (stream : StreamPrefix Plain) (main loop : StreamPrefix Plain) (answer : Option (Stamped Plain)) (k : ℕ) : Type 0 where
  pub w : StreamPrefix Plain
  pub kept : StandForAll (with_answer answer engine.outputs) (w ∷ [])
  pub raised : AllZip IsRaised (answered (k + 1) main loop ∷ []) (w ∷ [])
  pub extended : AreExtendedBy (w ∷ []) (stream ∷ [])

lays_packet : {laws : Laws} (job : LoggedJob laws) (engine : EngineView) (stream w main loop : StreamPrefix Plain) (k : ℕ) (r : Reply Plain) (p : Stamped Plain) → HasOne job engine stream w k main loop → GoesOn stream w p → slice_get (replies main loop) k ≡ Some r → packet_of r ≡ Some p
    → LaysOne engine stream main loop (Some p) k
lays_packet {laws} job engine stream w main loop k r p one go at is =
    let base = base_packet main loop k r p at is in
    record {
      w = appended w p;
      kept = subst (λ (os : List (Backlog Plain)). StandForAll (with_answer (Some p) os) (appended w p ∷ [])) (sym one.outputs)
          (stands_appended (queue_of 0 one.output) p w (may_come_by (queue_of 0 one.output) w p one.stands go.may) one.stands, tt);
      raised = (
        record {
          packets = ap (λ (ps : List (Stamped Plain)). ps ++ p ∷ []) (one.packets ∙ sym (all_appended_behind empty_prefix (filter_map packet_of (take k (replies main loop))))) ∙ ap (λ (s : StreamPrefix Plain). s.packets) (sym base);
          bound = (let same = ap (λ (s : StreamPrefix Plain). s.bound) base in omega (arith, same));
        },
        tt,
      );
      extended = (go.extended, tt);
    }

lays_nothing : {laws : Laws} (job : LoggedJob laws) (number : ℕ) (engine : EngineView) (stream w main loop : StreamPrefix Plain) (k : ℕ) (r : Reply Plain) → HasOne job engine stream w k main loop → (answered k main loop).bound ≤ w.bound → slice_get (replies main loop) k ≡ Some r → packet_of r ≡ None
    → LaysOne engine stream main loop None k
lays_nothing {laws} job number engine stream w main loop k r one low at is =
    let base = base_silent main loop k r at is in
    record {
      w = w;
      kept = subst (λ (os : List (Backlog Plain)). StandForAll (with_answer None os) (w ∷ [])) (sym one.outputs) (one.stands, tt);
      raised = (
        record {
          packets = one.packets ∙ sym (all_appended_behind empty_prefix (filter_map packet_of (take k (replies main loop)))) ∙ ap (λ (s : StreamPrefix Plain). s.packets) (sym base);
          bound = (let same = ap (λ (s : StreamPrefix Plain). s.bound) base in omega (arith, same, low));
        },
        tt,
      );
      extended = (one.extended, tt);
    }

-- A loopback keeps nothing, has no fault, and is shown no sets.
stage_state : (law : Law) (job : Job) (streams : List (StreamPrefix Plain)) (node : PlanNode) (n : ℕ) → law ≡ Loopback → (stage_by law job streams node n).state ≡ []
stage_state law job streams node n is = subst (λ (l : Law). (stage_by l job streams node n).state ≡ []) (sym is) refl

calls_same : (law : Law) (streams : List (StreamPrefix Plain)) (node : PlanNode) (m n : ℕ) → law ≡ Loopback → calls_before_by law streams node m ≡ calls_before_by law streams node n
calls_same law streams node m n is = subst (λ (l : Law). calls_before_by l streams node m ≡ calls_before_by l streams node n) (sym is) refl

count_replies : (law : Law) (job : Job) (streams : List (StreamPrefix Plain)) (node : PlanNode) → law ≡ Loopback → (outcome_by law job streams node).taken ≡ length (replies (main_of streams node) (loop_of streams node))
count_replies law job streams node is = subst (λ (l : Law). (outcome_by l job streams node).taken ≡ length (replies (main_of streams node) (loop_of streams node))) (sym is) refl

idle_on : {laws : Laws} (job : LoggedJob laws) (streams : List (StreamPrefix Plain)) (node : PlanNode) (laid : ℕ) (closed : Bool) → node.law ≡ Loopback → closed ≡ false → (context : ContextView) → IsIdle job streams node laid closed context → IsIdle job streams node (laid + 1) closed context
idle_on {laws} job streams node laid closed law going context idle = record {
  fits = idle.fits;
  places = idle.places;
  state = idle.state ∙ ap (λ (b : Bool). (come_to job streams node laid b).state) going ∙ stage_state node.law job.job streams node laid law ∙ sym (stage_state node.law job.job streams node (laid + 1) law) ∙ ap (λ (b : Bool). (come_to job streams node (laid + 1) b).state) (sym going);
  log = idle.log ∙ ap (λ (b : Bool). log_after job node (calls_by streams node laid b)) going ∙ ap (λ (c : List Call). log_after job node (c ++ [])) (calls_same node.law streams node laid (laid + 1) law)
      ∙ ap (λ (b : Bool). log_after job node (calls_by streams node (laid + 1) b)) (sym going);
}

lays_by : {laws : Laws} (job : LoggedJob laws) (number : ℕ) (engine : EngineView) (held : Held Plain) (r : Reply Plain) (cell : IsLoopCell job number engine held)
    → slice_get (replies (main_of cell.engine_is.streams cell.engine_is.node) (loop_of cell.engine_is.streams cell.engine_is.node)) engine.laid ≡ Some r → (answer : Option (Stamped Plain)) → packet_of r ≡ answer
    → LaysOne engine (loopback (main_of cell.engine_is.streams cell.engine_is.node) (loop_of cell.engine_is.streams cell.engine_is.node)) (main_of cell.engine_is.streams cell.engine_is.node) (loop_of cell.engine_is.streams cell.engine_is.node) answer engine.laid
lays_by {laws} job number engine held r cell at (Some p) is =
    let h = cell.engine_is in
    let main = main_of h.streams h.node in
    let loop = loop_of h.streams h.node in
    let one = one_of job number engine held cell in
    let parts = parts_of (replies main loop) engine.laid r p at is in
    let go = follows (loopback main loop) one.0 p parts.0 (stream_is job number engine held cell) one.1.extended (parts.1 ∙ ap (λ (ps : List (Stamped Plain)). ps ++ p ∷ parts.0) (sym one.1.packets)) in
    lays_packet job engine (loopback main loop) one.0 main loop engine.laid r p one.1 go at is
lays_by {laws} job number engine held r cell at None is =
    let h = cell.engine_is in
    let main = main_of h.streams h.node in
    let loop = loop_of h.streams h.node in
    let one = one_of job number engine held cell in
    lays_nothing job number engine (loopback main loop) one.0 main loop engine.laid r one.1 one.1.low at is

answered_engine : {laws : Laws} (job : LoggedJob laws) (number : ℕ) (engine : EngineView) (held : Held Plain) (r : Reply Plain) (cell : IsLoopCell job number engine held) → next_reply held ≡ Some r
    → IsEngineOf job number (record engine { claimed = engine.claimed + 1; laid = engine.laid + 1; outputs = with_answer (packet_of r) engine.outputs })
answered_engine {laws} job number engine held r cell next =
    let h = cell.engine_is in
    let main = main_of h.streams h.node in
    let loop = loop_of h.streams h.node in
    let at = next_in job number engine held r cell next in
    let within = slice_get_within (replies main loop) engine.laid r at in
    let count : count_of job.job h.streams h.node ≡ length (replies main loop) = count_replies h.node.law job.job h.streams h.node cell.law in
    let lays = lays_by job number engine held r cell at (packet_of r) refl in
    let claimed = h.claimed in
    let order = h.order in
    let none : number_of (λ (e : EntryView). is_close e.phase) engine.window ≡ 0 = ap (number_of (λ (e : EntryView). is_close e.phase)) cell.laid in
    let base : (come_to job h.streams h.node (engine.laid + 1) engine.closed).outputs ≡ answered (engine.laid + 1) main loop ∷ [] =
    ap (λ (b : Bool). (come_to job h.streams h.node (engine.laid + 1) b).outputs) cell.going ∙ loop_stage h.node.law job.job h.streams h.node (engine.laid + 1) cell.law in
    let fault_before : (come_to job h.streams h.node engine.laid engine.closed).fault ≡ None = ap (λ (b : Bool). (come_to job h.streams h.node engine.laid b).fault) cell.going ∙ loop_has_no_fault h.node.law job.job h.streams h.node engine.laid cell.law in
    let fault_after : (come_to job h.streams h.node (engine.laid + 1) engine.closed).fault ≡ None = ap (λ (b : Bool). (come_to job h.streams h.node (engine.laid + 1) b).fault) cell.going ∙ loop_has_no_fault h.node.law job.job h.streams h.node (engine.laid + 1) cell.law in
    record {
      streams = h.streams;
      solves = h.solves;
      node = h.node;
      there = h.there;
      set_up = record { role = h.set_up.role; number_is = h.set_up.number_is; first = h.set_up.first; offset = h.set_up.offset; in_flight = h.set_up.in_flight; inputs = h.set_up.inputs };
      begun = h.begun;
      claimed = omega (arith, claimed);
      taken = omega (arith, within, count);
      closed = (λ e. absurd (let going = cell.going in cc));
      whole = lays.w ∷ [];
      kept = lays.kept;
      raised = subst (λ (bs : List (StreamPrefix Plain)). AllZip IsRaised bs (lays.w ∷ [])) (sym base) lays.raised;
      extended = subst (λ (ss : List (StreamPrefix Plain)). AreExtendedBy (lays.w ∷ []) ss) (sym (into_is job number engine held cell)) lays.extended;
      fault = h.fault ∙ ap (option_map (λ f. record { node = number; phase = f.phase; cause = f.cause })) (fault_before ∙ sym fault_after);
      order = omega (arith, order);
      entries = (λ i entry there. absurd (let empty = ap (λ (w : List EntryView). slice_get w i) cell.laid in let nothing : slice_get engine.window i ≡ None = empty in cc));
      idle = All-weaker (IsIdle job h.streams h.node engine.laid engine.closed) (IsIdle job h.streams h.node (engine.laid + 1) engine.closed) (idle_on job h.streams h.node engine.laid engine.closed cell.law cell.going) engine.idle h.idle;
      contexts = h.contexts;
      waits = h.waits;
      ended = h.ended;
    }

-- an intake that has answered
answered_intake : {laws : Laws} (job : LoggedJob laws) (number : ℕ) (intake : IntakeView) (held : Held Plain) (r : Reply Plain) → IsIntakeOf job number intake → intake.waits ≡ Loop held → next_reply held ≡ Some r → IsIntakeOf job number (record { claimed = intake.claimed + 1; waits = Loop (replied held) })
answered_intake {laws} job number intake held r i waits next =
    let holds : HoldsWaits job i.streams number intake.claimed (Loop held) = subst (λ (w : Pending). HoldsWaits job i.streams number intake.claimed w) waits i.holds in
    let h = holds.1 in
    record {
      streams = i.streams;
      solves = i.solves;
      is_there = i.is_there;
      holds = (holds.0, record { main = h.main; loop = h.loop; extended = h.extended; stands = answer_counts intake.claimed held h.main h.loop h.stands (ap is_some next) });
    }

pub answered_lawful : {laws : Laws} (job : LoggedJob laws) (number : ℕ) (engine engine_now : EngineView) (intake intake_now : IntakeView) → LawfulEngine job (of_node number) engine → LawfulIntake job number intake → AgreeBy engine.role engine.claimed intake.claimed → MayClaim engine
    → TakesAnswer engine engine_now intake intake_now → LawfulEngine job (of_node number) engine_now × LawfulIntake job number intake_now
unfolding LawfulEngine LawfulIntake
answered_lawful {laws} job number engine engine_now intake intake_now h i agree may t = (
  subst (λ (e : EngineView). IsEngineOf job number e) (sym t.now) (answered_engine job number engine t.held t.reply (loop_cell_by job number engine intake t.held h i agree t.role t.waits may) t.next),
  subst (λ (v : IntakeView). IsIntakeOf job number v) (sym t.intake_is) (answered_intake job number intake t.held t.reply i t.waits t.next),
)
