-- The answer of a loopback may be laid: it is the solution's next packet.
use Rattle.std.proofs.Common.{◌≡◌, ℕ, zero, suc, ◌+◌, ◌<◌, ◌≤◌, Bool, true, false, List, [], ◌∷◌, ◌++◌, length, map, take, get_or, All, Option, Some, None, option_map, unwrap_or, slice_get, count_by as number_of, ◌||◌, ap, sym, refl, subst, ◌∙◌, arith}
use Rattle.std.specs.List.{AllZip, filter_map, cons_option}
use Rattle.mg_value.specs.Payload.{Plain}
use Rattle.mg_value.specs.Packet.{Stamped}
use Rattle.mg_settled.specs.Prefix.{StreamPrefix, IsPrefix, MayFollow, empty_prefix}
use Rattle.mg_settled.specs.Extension.{IsExtendedBy, AreExtendedBy}
use Rattle.mg_settled.specs.Loopback.{Reply, replies, packet_of, loopback}
use Rattle.mg_settled.proofs.Extending.{all_appended_behind}
use Rattle.mg_settled.proofs.Lemmas.{replies-stay}
use Rattle.mg_stream.specs.Queue.{Waiting, StandsFor, MayCome}
use Rattle.mg_stream.specs.Pool.{Backlog, queue_of}
use Rattle.mg_loopback.specs.Loopback.{Held, next_reply}
use Rattle.mg_loopback.proofs.Standing.{next_is}
use Rattle.mg_calc.specs.Rules.{Laws}
use Rattle.mg_calc.specs.declared.law.Law.{Law}
use Rattle.mg_calc.specs.declared.law.Law.TheVariants.{Count, SideOnce, Constants, Loopback}
use Rattle.mg_calc.specs.declared.plan_node.PlanNode.{PlanNode}
use Rattle.mg_calc.specs.Equations.{Job, inputs_of, outcome_by}
use Rattle.mg_calc.specs.Plan.{FlightFits}
use Rattle.mg_calc.specs.Shape.{IsShapeOf, is_stateless}
use Rattle.mg_calc.proofs.Jobs.{job_known}
use Rattle.mg_calc.proofs.Rounds.{stream_is_prefix}
use Rattle.mg_calc.proofs.Solutions.{solution_keeps, one_solution}
use Rattle.mg_node.specs.declared.role.Role.{Role}
use Rattle.mg_node.specs.declared.role.Role.TheVariants.{Loop as LoopRole}
use Rattle.mg_node.specs.declared.pending.Pending.{Pending}
use Rattle.mg_node.specs.declared.pending.Pending.TheVariants.{Loop}
use Rattle.mg_node.specs.Views.{IntakeView, EntryView, EngineView}
use Rattle.mg_node.specs.Job.{LoggedJob, ports_of, streams_at, role_of, loop_of, main_of, answered, stage_by}
use Rattle.mg_node.specs.Lawful.{is_close, HoldsLoop, HoldsWaits, LawfulIntake, IsRaised, StandForAll, come_to, IsEngineOf, LawfulEngine, of_node, AgreeBy, AreCell}
use Rattle.mg_node.specs.Claims.{MayClaim}
use Rattle.mg_node.proofs.Delivering.{GoesOn, goes_on_by, counted}
use Rattle.mg_node.proofs.NodeSolution.{node_streams}
use Rattle.mg_node.proofs.HeldRules.{of_node as at_node}

-- a role of loopbacks is the law's
pub loop_law : (law : Law) → role_of law ≡ LoopRole → law ≡ Loopback
loop_law (Count count start step) e = absurd cc
loop_law (SideOnce at) e = absurd cc
loop_law Constants e = absurd cc
loop_law Loopback e = refl
loop_law law e = absurd cc

-- the packets of some answers, the first ones and the next
pub parts_of : (rs : List (Reply Plain)) (k : ℕ) (r : Reply Plain) (p : Stamped Plain) → slice_get rs k ≡ Some r → packet_of r ≡ Some p
    → (more : List (Stamped Plain)) × (filter_map packet_of rs ≡ filter_map packet_of (take k rs) ++ p ∷ more)
parts_of [] k r p at is = absurd cc
parts_of (x ∷ rs) zero r p at is =
    let same : x ≡ r = cc in
    let here : packet_of x ≡ Some p = ap packet_of same ∙ is in
    (filter_map packet_of rs, ap (λ (o : Option (Stamped Plain)). cons_option o (filter_map packet_of rs)) here)
parts_of (x ∷ rs) (suc k) r p at is =
    let later = parts_of rs k r p at is in
    (later.0, ap (cons_option (packet_of x)) later.1 ∙ cons_front (packet_of x) (filter_map packet_of (take k rs)) (p ∷ later.0))
  where
    cons_front : (o : Option (Stamped Plain)) (xs ys : List (Stamped Plain)) → cons_option o (xs ++ ys) ≡ cons_option o xs ++ ys
    cons_front None xs ys = refl
    cons_front (Some y) xs ys = refl

-- what follows the same first elements in the same list is the same
pub same_rest : {X : Type 0} (xs us vs : List X) → xs ++ us ≡ xs ++ vs → us ≡ vs
same_rest [] us vs e = e
same_rest (x ∷ xs) us vs e = same_rest xs us vs cc

-- the next packet of a stream that extends what is laid
pub follows : (stream w : StreamPrefix Plain) (p : Stamped Plain) (more : List (Stamped Plain)) → IsPrefix stream → IsExtendedBy w stream → stream.packets ≡ w.packets ++ p ∷ more → GoesOn stream w p
follows stream w p more is e same =
    let rest : e.further ≡ p ∷ more = same_rest w.packets e.further (p ∷ more) (sym e.packets ∙ same) in
    goes_on_by stream w p more is same (subst (λ (ps : List (Stamped Plain)). All (λ q. w.bound ≤ q.at) ps) rest e.above)

pub may_come_by : (q : Waiting Plain) (s : StreamPrefix Plain) (p : Stamped Plain) → StandsFor q s → MayFollow s p → MayCome q p.at
may_come_by q s p h may = record {
  allowed = may.allowed;
  above = (let bound = h.bound in let above = may.above in omega (arith, bound, above));
  alone = (λ e. (let none = may.alone e in let n = counted q s h in omega (arith, none, n)));
}

-- what a cell of a loopback is: nothing is claimed that isn't laid, and its output is the loopback's stream so far
pub record IsLoopCell {laws : Laws} (job : LoggedJob laws) (number : ℕ) (engine : EngineView) (held : Held Plain) : Type 0 where
  pub engine_is : IsEngineOf job number engine
  pub law : engine_is.node.law ≡ Loopback
  pub holds : HoldsLoop job engine_is.streams number engine.laid held
  pub laid : engine.window ≡ []
  pub all : engine.laid ≡ engine.claimed
  pub going : engine.closed ≡ false

empty_by : {X : Type 0} (xs : List X) → length xs < 1 → xs ≡ []
empty_by [] le = refl
empty_by (x ∷ xs) le = absurd (omega (arith, le))

not_both : (a b : Bool) → (a || b) ≡ false → a ≡ false
not_both false b e = refl
not_both true b e = absurd cc

pub loop_cell_by : {laws : Laws} (job : LoggedJob laws) (number : ℕ) (engine : EngineView) (intake : IntakeView) (held : Held Plain) → LawfulEngine job (of_node number) engine → LawfulIntake job number intake → AgreeBy engine.role engine.claimed intake.claimed → engine.role ≡ LoopRole → intake.waits ≡ Loop held → MayClaim engine
    → IsLoopCell job number engine held
unfolding LawfulEngine LawfulIntake
loop_cell_by {laws} job number engine intake held h i agree role waits may =
    let law : h.node.law ≡ Loopback = loop_law h.node.law (sym h.set_up.role ∙ role) in
    let shape : IsShapeOf h.node.law h.node.shape = at_node (λ (m : PlanNode). IsShapeOf m.law m.shape) job.job.plan.nodes number h.node h.solves.is_job.plan.shapes h.there in
    let flight : FlightFits h.node = at_node FlightFits job.job.plan.nodes number h.node h.solves.is_job.plan.flights h.there in
    let one : h.node.in_flight ≡ 1 = flight.stateful (shape.stateless ∙ ap is_stateless law) in
    let room = may.room in
    let in_flight = h.set_up.in_flight in
    let empty : engine.window ≡ [] = empty_by engine.window (omega (arith, room, in_flight, one)) in
    let order : engine.laid + 0 ≡ engine.claimed + 0 = subst (λ (w : List EntryView). engine.laid + length w ≡ engine.claimed + number_of (λ e. is_close e.phase) w) empty h.order in
    let same : i.streams ≡ h.streams = one_solution job.job i.streams h.streams i.solves.solution h.solves.solution in
    let counts : engine.claimed ≡ intake.claimed = subst (λ (r : Role). AgreeBy r engine.claimed intake.claimed) role agree in
    let holds : HoldsWaits job i.streams number intake.claimed (Loop held) = subst (λ (w : Pending). HoldsWaits job i.streams number intake.claimed w) waits i.holds in
    let number_is : intake.claimed ≡ engine.laid = omega (arith, order, counts) in
    record {
      engine_is = h;
      law = law;
      holds = subst (λ (ss : List (StreamPrefix Plain)). HoldsLoop job ss number engine.laid held) same (subst (λ (k : ℕ). HoldsLoop job i.streams number k held) number_is holds.1);
      laid = empty;
      all = omega (arith, order);
      going = not_both engine.closed _ may.goes;
    }

-- the stream of a loopback in the solution
pub loop_outcome : (law : Law) (job : Job) (streams : List (StreamPrefix Plain)) (node : PlanNode) → law ≡ Loopback → (outcome_by law job streams node).outputs ≡ loopback (main_of streams node) (loop_of streams node) ∷ []
loop_outcome law job streams node is = subst (λ (l : Law). (outcome_by l job streams node).outputs ≡ loopback (main_of streams node) (loop_of streams node) ∷ []) (sym is) refl

pub loop_stage : (law : Law) (job : Job) (streams : List (StreamPrefix Plain)) (node : PlanNode) (n : ℕ) → law ≡ Loopback → (stage_by law job streams node n).outputs ≡ answered n (main_of streams node) (loop_of streams node) ∷ []
loop_stage law job streams node n is = subst (λ (l : Law). (stage_by l job streams node n).outputs ≡ answered n (main_of streams node) (loop_of streams node) ∷ []) (sym is) refl

-- its one output
pub record HasOne {laws : Laws} (job : LoggedJob laws) (engine : EngineView) (stream w : StreamPrefix Plain) (k : ℕ) (main loop : StreamPrefix Plain) : Type 0 where
  pub output : Backlog Plain
  pub outputs : engine.outputs ≡ output ∷ []
  pub stands : StandsFor (queue_of 0 output) w
  pub packets : w.packets ≡ filter_map packet_of (take k (replies main loop))
  pub low : (answered k main loop).bound ≤ w.bound
  pub extended : IsExtendedBy w stream

one_by : {laws : Laws} (job : LoggedJob laws) (engine : EngineView) (k : ℕ) (main loop stream : StreamPrefix Plain) (outputs : List (Backlog Plain)) (whole base into : List (StreamPrefix Plain)) → engine.outputs ≡ outputs → StandForAll outputs whole → AllZip IsRaised base whole → AreExtendedBy whole into
    → base ≡ answered k main loop ∷ [] → into ≡ stream ∷ [] → (w : StreamPrefix Plain) × HasOne job engine stream w k main loop
one_by {laws} job engine k main loop stream outputs whole base into is kept raised extended base_is into_is =
    by_whole outputs whole is kept (subst (λ (bs : List (StreamPrefix Plain)). AllZip IsRaised bs whole) base_is raised) (subst (AreExtendedBy whole) into_is extended)
  where
    by_whole : (os : List (Backlog Plain)) (ws : List (StreamPrefix Plain)) → engine.outputs ≡ os → StandForAll os ws → AllZip IsRaised (answered k main loop ∷ []) ws → AreExtendedBy ws (stream ∷ []) → (w : StreamPrefix Plain) × HasOne job engine stream w k main loop
    by_whole [] [] at kept raised extended = absurd raised
    by_whole (o ∷ os) [] at kept raised extended = absurd raised
    by_whole [] (w ∷ ws) at kept raised extended = absurd kept
    by_whole (o ∷ []) (w ∷ []) at kept raised extended = (
      w,
      record {
        output = o;
        outputs = at;
        stands = kept.0;
        packets = raised.0.packets ∙ all_appended_behind empty_prefix (filter_map packet_of (take k (replies main loop)));
        low = raised.0.bound;
        extended = extended.0;
      },
    )
    by_whole (o ∷ o2 ∷ os) (w ∷ []) at kept raised extended = absurd kept.1
    by_whole (o ∷ os) (w ∷ w2 ∷ ws) at kept raised extended = absurd raised.1

-- the next answer, in the solution
pub next_in : {laws : Laws} (job : LoggedJob laws) (number : ℕ) (engine : EngineView) (held : Held Plain) (r : Reply Plain) (cell : IsLoopCell job number engine held) → next_reply held ≡ Some r
    → slice_get (replies (main_of cell.engine_is.streams cell.engine_is.node) (loop_of cell.engine_is.streams cell.engine_is.node)) engine.laid ≡ Some r
next_in {laws} job number engine held r cell next =
    let h = cell.engine_is in
    let at : streams_at h.streams (ports_of job.job.plan number) ≡ inputs_of h.streams h.node =
    ap (λ (o : Option PlanNode). streams_at h.streams (unwrap_or (option_map (λ n. n.inputs) o) job.job.plan.outputs)) h.there in
    let both : AreExtendedBy (cell.holds.loop ∷ cell.holds.main ∷ []) (inputs_of h.streams h.node) = subst (AreExtendedBy (cell.holds.loop ∷ cell.holds.main ∷ [])) at cell.holds.extended in
    let came : slice_get (replies cell.holds.main cell.holds.loop) engine.laid ≡ Some r = sym (next_is engine.laid held cell.holds.main cell.holds.loop cell.holds.stands) ∙ next in
    by_inputs (inputs_of h.streams h.node) both came
  where
    of_first : {X : Type 0} (n : ℕ) (xs : List X) (i : ℕ) (x : X) → slice_get (take n xs) i ≡ Some x → slice_get xs i ≡ Some x
    of_first zero xs i x e = absurd cc
    of_first (suc n) [] i x e = absurd cc
    of_first (suc n) (y ∷ xs) zero x e = e
    of_first (suc n) (y ∷ xs) (suc i) x e = of_first n xs i x e

    by_inputs : (ss : List (StreamPrefix Plain)) → AreExtendedBy (cell.holds.loop ∷ cell.holds.main ∷ []) ss → slice_get (replies cell.holds.main cell.holds.loop) engine.laid ≡ Some r
        → slice_get (replies (get_or ss 1 empty_prefix) (get_or ss 0 empty_prefix)) engine.laid ≡ Some r
    by_inputs [] e came = absurd e
    by_inputs (loop ∷ []) e came = absurd e.1
    by_inputs (loop ∷ main ∷ []) e came =
        of_first (length (replies cell.holds.main cell.holds.loop)) (replies main loop) engine.laid r
        (ap (λ (rs : List (Reply Plain)). slice_get rs engine.laid) (replies-stay cell.holds.main main cell.holds.loop loop e.1.0 e.0) ∙ came)
    by_inputs (loop ∷ main ∷ s ∷ ss) e came = absurd e.1.1

-- the output of a lawful loopback, and the packet that may come there
pub record MayAnswer (engine : EngineView) (p : Stamped Plain) : Type 0 where
  pub output : Backlog Plain
  pub outputs : engine.outputs ≡ output ∷ []
  pub may_come : MayCome (queue_of 0 output) p.at

first_stream : (streams : List (StreamPrefix Plain)) (stream : StreamPrefix Plain) (ns : List ℕ) → map (λ (n : ℕ). get_or streams n empty_prefix) ns ≡ stream ∷ [] → get_or streams (get_or ns 0 0) empty_prefix ≡ stream
first_stream streams stream [] e = absurd cc
first_stream streams stream (n ∷ ns) e = cc

pub cell_base : {laws : Laws} (job : LoggedJob laws) (number : ℕ) (engine : EngineView) (held : Held Plain) (cell : IsLoopCell job number engine held)
    → (come_to job cell.engine_is.streams cell.engine_is.node engine.laid engine.closed).outputs ≡ answered engine.laid (main_of cell.engine_is.streams cell.engine_is.node) (loop_of cell.engine_is.streams cell.engine_is.node) ∷ []
cell_base {laws} job number engine held cell =
    let h = cell.engine_is in
    ap (λ (b : Bool). (come_to job h.streams h.node engine.laid b).outputs) cell.going ∙ loop_stage h.node.law job.job h.streams h.node engine.laid cell.law

pub into_is : {laws : Laws} (job : LoggedJob laws) (number : ℕ) (engine : EngineView) (held : Held Plain) (cell : IsLoopCell job number engine held)
    → streams_at cell.engine_is.streams cell.engine_is.node.outputs ≡ loopback (main_of cell.engine_is.streams cell.engine_is.node) (loop_of cell.engine_is.streams cell.engine_is.node) ∷ []
into_is {laws} job number engine held cell =
    let h = cell.engine_is in
    node_streams job h.streams number h.node h.solves h.there ∙ loop_outcome h.node.law job.job h.streams h.node cell.law

pub stream_is : {laws : Laws} (job : LoggedJob laws) (number : ℕ) (engine : EngineView) (held : Held Plain) (cell : IsLoopCell job number engine held) → IsPrefix (loopback (main_of cell.engine_is.streams cell.engine_is.node) (loop_of cell.engine_is.streams cell.engine_is.node))
stream_is {laws} job number engine held cell =
    let h = cell.engine_is in
    let prefixes = solution_keeps job.job (job_known job.job h.solves.is_job) h.streams h.solves.solution in
    subst IsPrefix (first_stream h.streams (loopback (main_of h.streams h.node) (loop_of h.streams h.node)) h.node.outputs (into_is job number engine held cell)) (stream_is_prefix h.streams (get_or h.node.outputs 0 0) prefixes)

pub one_of : {laws : Laws} (job : LoggedJob laws) (number : ℕ) (engine : EngineView) (held : Held Plain) (cell : IsLoopCell job number engine held)
    → (w : StreamPrefix Plain) × HasOne job engine (loopback (main_of cell.engine_is.streams cell.engine_is.node) (loop_of cell.engine_is.streams cell.engine_is.node)) w engine.laid (main_of cell.engine_is.streams cell.engine_is.node) (loop_of cell.engine_is.streams cell.engine_is.node)
one_of {laws} job number engine held cell =
    let h = cell.engine_is in
    one_by job engine engine.laid (main_of h.streams h.node) (loop_of h.streams h.node) (loopback (main_of h.streams h.node) (loop_of h.streams h.node)) engine.outputs h.whole _ _ refl h.kept h.raised h.extended
    (cell_base job number engine held cell) (into_is job number engine held cell)

may_answer_by : {laws : Laws} (job : LoggedJob laws) (number : ℕ) (engine : EngineView) (held : Held Plain) (r : Reply Plain) (p : Stamped Plain) → IsLoopCell job number engine held → next_reply held ≡ Some r → packet_of r ≡ Some p → MayAnswer engine p
may_answer_by {laws} job number engine held r p cell next is =
    let h = cell.engine_is in
    let one = one_of job number engine held cell in
    let parts = parts_of (replies (main_of h.streams h.node) (loop_of h.streams h.node)) engine.laid r p (next_in job number engine held r cell next) is in
    record {
      output = one.1.output;
      outputs = one.1.outputs;
      may_come = may_come_by (queue_of 0 one.1.output) one.0 p one.1.stands
          (follows (loopback (main_of h.streams h.node) (loop_of h.streams h.node)) one.0 p parts.0 (stream_is job number engine held cell) one.1.extended (parts.1 ∙ ap (λ (ps : List (Stamped Plain)). ps ++ p ∷ parts.0) (sym one.1.packets))).may;
    }

pub may_answer : {laws : Laws} (engine : EngineView) (intake : IntakeView) (held : Held Plain) (r : Reply Plain) (p : Stamped Plain) → AreCell laws engine intake → engine.role ≡ LoopRole → intake.waits ≡ Loop held → MayClaim engine → next_reply held ≡ Some r → packet_of r ≡ Some p → MayAnswer engine p
may_answer {laws} engine intake held r p cell role waits may next is =
    may_answer_by cell.job cell.number engine held r p (loop_cell_by cell.job cell.number engine intake held cell.lawful_engine cell.lawful_intake cell.agree role waits may) next is

-- of a cell
pub loop_cell : {laws : Laws} (engine : EngineView) (intake : IntakeView) (held : Held Plain) (cell : AreCell laws engine intake) → engine.role ≡ LoopRole → intake.waits ≡ Loop held → MayClaim engine → IsLoopCell cell.job cell.number engine held
loop_cell {laws} engine intake held cell role waits may = loop_cell_by cell.job cell.number engine intake held cell.lawful_engine cell.lawful_intake cell.agree role waits may
