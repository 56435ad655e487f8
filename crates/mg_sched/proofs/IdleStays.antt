-- A step that does nothing leaves the net as it was.
use Rattle.std.proofs.Common.{◌≡◌, ℕ, zero, suc, ◌+◌, ◌<◌, ◌==◌, ◌||◌, not, Bool, true, false, List, [], ◌∷◌, length, Option, Some, None, slice_get, inl, inr, ap, sym, refl, subst, ◌∙◌, arith, if◌then◌else◌, map, max, nat_lt}
use Rattle.std.specs.Bool.{⊤}
use Rattle.std.proofs.lemmas.Bool.Decides.{nat_tests}
use Rattle.std.proofs.lemmas.Option.{slice_get_within}
use Rattle.mg_calc.specs.Rules.{Laws}
use Rattle.mg_calc.specs.declared.edge.Edge.{Edge}
use Rattle.mg_calc.specs.declared.plan.Plan.{Plan}
use Rattle.mg_calc.specs.Plan.{numbers}
use Rattle.mg_calc.specs.declared.event.Event.{Event}
use Rattle.mg_calc.specs.declared.event.Event.TheVariants.{Deliver, Advance, Claim, Perform, Commit, Relax}
use Rattle.mg_calc.specs.declared.event.Effect.{Effect}
use Rattle.mg_calc.specs.declared.event.Effect.TheVariants.{Did, Idle, OutOfMemory}
use Rattle.mg_node.specs.declared.delivered.Delivered.{Delivered}
use Rattle.mg_node.specs.declared.delivered.Delivered.TheVariants.{Moved, OutOfMemory as NoRoom}
use Rattle.mg_node.specs.Views.{IntakeView, PerformedView, EngineView}
use Rattle.mg_node.specs.Job.{LoggedJob, ports_of}
use Rattle.mg_node.specs.Ports.{ports_in, port_queue}
use Rattle.mg_node.proofs.Lemmas.{intake_ports, same_put}
use Rattle.mg_node.specs.Advances.{advance_bound, raised_output, any_moved, any_moved_by, is_advanced}
use Rattle.mg_node.specs.Claims.{AreSame}
use Rattle.mg_node.specs.Shelves.{shelf_at}
use Rattle.mg_stream.specs.Pool.{Backlog}
use Rattle.mg_value.specs.Payload.{Plain}
use Rattle.mg_throttle.specs.declared.queue.Queue.{Queue}
use Rattle.mg_throttle.specs.Throttle.{noted}
use Rattle.mg_sched.specs.Views.{WorkQueueView, NetView}
use Rattle.mg_sched.specs.Places.{first_edge, lengths_of, with_engine, with_intake, with_work_queue, with_limits}
use Rattle.mg_sched.specs.StandsFor.{StandsFor, StandsForSome, IsRunning}
use Rattle.mg_sched.specs.Acts.{effect_of, all_noted, with_noted, IsEventOf, Brings, ClaimsNext, CommittedAt, Acts}
use Rattle.mg_sched.proofs.Finding.{found, valid}
use Rattle.mg_sched.proofs.Carrying.{intake_lawful, queues_long}
use Rattle.mg_sched.proofs.PlanEdges.{mapped_at, edge_number}
use Rattle.mg_sched.proofs.PlanStreams.{number_of}

-- what was told already
pub noted_same : (qs : List Queue) (k n : ℕ) (q : Queue) → slice_get qs k ≡ Some q → q.waiting ≡ n → noted qs k n ≡ qs
noted_same [] k n q at is = refl
noted_same (x ∷ qs) zero n q at is = ap (λ (y : Queue). y ∷ qs) (let same : x ≡ q = cc in ap (λ (m : ℕ). record x { waiting = m }) (sym is ∙ ap (λ (y : Queue). y.waiting) (sym same)))
noted_same (x ∷ qs) (suc k) n q at is = ap (λ (rest : List Queue). x ∷ rest) (noted_same qs k n q at is)

-- queues whose lengths are told once more
pub all_noted_same : (ns : List ℕ) (qs : List Queue) (k : ℕ) → ((j n : ℕ) → slice_get ns j ≡ Some n → (q : Queue) × (slice_get qs (k + j) ≡ Some q) × (q.waiting ≡ n)) → all_noted qs k ns ≡ qs
all_noted_same [] qs k know = refl
all_noted_same (n ∷ ns) qs k know =
    let first = know 0 n refl in
    let here : k + 0 ≡ k = omega arith in
    let one : noted qs k n ≡ qs = noted_same qs k n first.0 (ap (slice_get qs) (sym here) ∙ first.1) first.2 in
    ap (λ (rest : List Queue). all_noted rest (k + 1) ns) one
    ∙ all_noted_same ns qs (k + 1) (λ j m at.
    (let q = know (suc j) m at in
    let next : k + suc j ≡ (k + 1) + j = omega arith in
    (q.0, ap (slice_get qs) (sym next) ∙ q.1, q.2)))

-- what a net's limits know of the ports of a node
pub know_ports : {laws : Laws} (job : LoggedJob laws) (net : NetView) (node : ℕ) (intake : IntakeView) → StandsFor job net → IsRunning net → node < length net.plan.nodes → slice_get net.intakes node ≡ Some intake
    → (j n : ℕ) → slice_get (lengths_of intake.waits) j ≡ Some n → (q : Queue) × (slice_get net.limits.queues (first_edge net.plan node + j) ≡ Some q) × (q.waiting ≡ n)
unfolding StandsFor
know_ports {laws} job net node intake h running less to j n at =
    let some : StandsForSome laws net = record { job = job; stands = h } in
    let ok = valid net some in
    let port = mapped_at (λ (p : ℕ). length (port_queue intake.waits p).packets) (numbers (ports_in intake.waits)) j n at in
    let number = number_of 0 (ports_in intake.waits) j port.0 port.1 in
    let within = number.0 in let is = number.1 in
    let lawful = intake_lawful job net node intake h running (omega (arith, less)) to in
    let ports = intake_ports job node intake lawful in
    let same = ap (λ (plan : Plan). length (ports_of plan node)) h.plan in
    let e = edge_number net.plan ok node j (omega (arith, less)) (omega (arith, within, ports, same)) in
    let edge_within = slice_get_within net.plan.edges (first_edge net.plan node + j) e.0 e.1 in
    let long = queues_long net some in
    let q = found net.limits.queues (first_edge net.plan node + j) (omega (arith, edge_within, long)) in
    let known = (h.limits.queues (first_edge net.plan node + j) e.0 q.0 e.1 q.1).waiting intake (ap (slice_get net.intakes) e.2 ∙ to) in
    let port_is : port.0 ≡ j = omega (arith, is) in
    (q.0, q.1, known ∙ ap (λ (p : ℕ). length (port_queue intake.waits p).packets) (e.3 ∙ sym port_is) ∙ port.2)

-- a delivery that did nothing brought nothing
abbrev IsBusy : Effect → Type 0
IsBusy Did = ⊤
IsBusy Idle = ⊥
IsBusy OutOfMemory = ⊤

not_busy : (effect : Effect) → effect ≡ Idle → IsBusy effect → ⊥
not_busy effect e busy = subst IsBusy e busy

some_moved : (none raised : Bool) → none ≡ false → (if not none || raised then Did else Idle) ≡ Idle → ⊥
some_moved true raised is e = absurd cc
some_moved false raised is e = not_busy Did e tt

pub brought_none : (answer : Delivered) → effect_of answer ≡ Idle → answer ≡ Moved 0 false
brought_none (Moved zero false) e = refl
brought_none (Moved zero true) e = absurd (not_busy Did e tt)
brought_none (Moved (suc n) raised) e = (let none : (suc n == 0) ≡ false = grind (arith, nat_tests) in absurd (some_moved (suc n == 0) raised none e))
brought_none (NoRoom n) e = absurd (not_busy OutOfMemory e tt)

-- the parts of a node as they were
pub same_parts : (net : NetView) (node : ℕ) (engine : EngineView) (intake : IntakeView) (work_queue : WorkQueueView) → slice_get net.engines node ≡ Some engine → slice_get net.intakes node ≡ Some intake → slice_get net.work_queues node ≡ Some work_queue
    → with_work_queue (with_intake (with_engine net node engine) node intake) node work_queue ≡ net
same_parts net node engine intake work_queue at to on = λ i. record net { engines = same_put net.engines node engine at i; intakes = same_put net.intakes node intake to i; work_queues = same_put net.work_queues node work_queue on i }

pub claimed_none : {laws : Laws} (job : LoggedJob laws) (node : ℕ) (before now : NetView) → StandsFor job before → IsRunning before → node < length before.plan.nodes → ClaimsNext node Idle before now → now ≡ before
claimed_none {laws} job node before now h running less c =
    let first = first_edge before.plan node in
    let told : all_noted before.limits.queues first (lengths_of c.intake.waits) ≡ before.limits.queues = all_noted_same (lengths_of c.intake.waits) before.limits.queues first (know_ports job before node c.intake h running less c.to) in
    by_same (elim c.claims.0 [
      | inl early ↦ early.2
      | inr (inl full) ↦ full.3
      | inr (inr (inl draining)) ↦ draining.3
      | inr (inr (inr ended)) ↦ ended.1
    ]) told
  where
    by_same : AreSame c.engine c.intake c.engine_now c.intake_now → all_noted before.limits.queues (first_edge before.plan node) (lengths_of c.intake.waits) ≡ before.limits.queues → now ≡ before
    by_same same told =
        c.now_is
        ∙ ap (λ (e : EngineView). with_noted (with_work_queue (with_intake (with_engine before node e) node c.intake_now) node c.work_queue_now) (first_edge before.plan node) (lengths_of c.intake_now.waits)) same.same_engine
        ∙ ap (λ (i : IntakeView). with_noted (with_work_queue (with_intake (with_engine before node c.engine) node i) node c.work_queue_now) (first_edge before.plan node) (lengths_of i.waits)) same.same_intake
        ∙ ap (λ (d : WorkQueueView). with_noted (with_work_queue (with_intake (with_engine before node c.engine) node c.intake) node d) (first_edge before.plan node) (lengths_of c.intake.waits)) c.claims.1
        ∙ ap (λ (v : NetView). with_noted v (first_edge before.plan node) (lengths_of c.intake.waits)) (same_parts before node c.engine c.intake c.work_queue c.at c.to c.on)
        ∙ ap (λ (qs : List Queue). with_limits before (record before.limits { queues = qs })) told

raised_first : (b : Backlog Plain) (bs : List (Backlog Plain)) (bound : ℕ) (test : Bool) → nat_lt b.bound bound ≡ test → (if test then true else any_moved bound bs) ≡ false → (any_moved bound bs ≡ false → map (raised_output (Some bound)) bs ≡ bs)
    → map (raised_output (Some bound)) (b ∷ bs) ≡ b ∷ bs
raised_first b bs bound true is none rest = absurd cc
raised_first b bs bound false is none rest =
    let high : max b.bound bound ≡ b.bound = grind (arith, nat_tests, is) in
    ap (λ (n : ℕ). record b { bound = n } ∷ map (raised_output (Some bound)) bs) high ∙ ap (λ (more : List (Backlog Plain)). b ∷ more) (rest none)

pub raised_none : (bound : Option ℕ) (outputs : List (Backlog Plain)) → any_moved_by bound outputs ≡ false → map (raised_output bound) outputs ≡ outputs
raised_none None [] none = refl
raised_none None (b ∷ bs) none = ap (λ (more : List (Backlog Plain)). b ∷ more) (raised_none None bs refl)
raised_none (Some bound) [] none = refl
raised_none (Some bound) (b ∷ bs) none = raised_first b bs bound (nat_lt b.bound bound) refl none (raised_none (Some bound) bs)

pub not_advanced : (moved : Bool) → (if moved then Did else Idle) ≡ Idle → moved ≡ false
not_advanced true e = absurd (not_busy Did e tt)
not_advanced false e = refl

committed_none : (node number : ℕ) (shelf : Option PerformedView) (engine : EngineView) (before now : NetView) → CommittedAt node number shelf Idle engine before now → now ≡ before
committed_none node number None engine before now r = r.same
committed_none node number (Some p) engine before now c = absurd c

brought_nothing : {laws : Laws} (job : LoggedJob laws) (number : ℕ) (e : Edge) (before now : NetView) → IsRunning before → StandsFor job before → slice_get before.plan.edges number ≡ Some e → Brings number e Idle before now → now ≡ before
unfolding StandsFor
brought_nothing {laws} job number e before now running h at b =
    let some : StandsForSome laws before = record { job = job; stands = h } in
    let same = b.still (brought_none b.answer (sym b.effect_is)) in
    let within = slice_get_within before.plan.edges number e at in
    let long = queues_long before some in
    let q = found before.limits.queues number (omega (arith, within, long)) in
    let known = (h.limits.queues number e q.0 at q.1).waiting b.intake b.to in
    b.now_is
    ∙ ap (λ (i : IntakeView). with_noted (with_intake before e.node i) number (length (port_queue i.waits e.port).packets ∷ [])) same
    ∙ ap (λ (is : List IntakeView). with_noted (record before { intakes = is }) number (length (port_queue b.intake.waits e.port).packets ∷ [])) (same_put before.intakes e.node b.intake b.to)
    ∙ ap (λ (qs : List Queue). with_limits before (record before.limits { queues = qs })) (noted_same before.limits.queues number (length (port_queue b.intake.waits e.port).packets) q.0 q.1 known)

-- A step that did nothing: the net is as it was.
pub idle_same : {laws : Laws} (job : LoggedJob laws) (event : Event) (before now : NetView) → IsEventOf before event → IsRunning before → StandsFor job before → Acts laws event Idle before now → now ≡ before
unfolding StandsFor
idle_same {laws} job (Deliver number) before now of running h a = elim a.delivered [
  | inl held ↦ held.1.same
  | inr brings ↦ brought_nothing job number a.edge before now running h a.there brings.1
]
idle_same {laws} job (Advance node) before now of running h a =
    let moved = not_advanced (is_advanced a.engine a.intake.waits) (sym a.effect_is) in
    a.now_is
    ∙ ap (λ (outputs : List (Backlog Plain)). with_engine before node (record a.engine { outputs = outputs })) (raised_none (advance_bound a.engine a.intake.waits) a.engine.outputs moved)
    ∙ ap (λ (es : List EngineView). record before { engines = es }) (same_put before.engines node a.engine a.at)
idle_same {laws} job (Claim node) before now of running h a = elim a [
  | inl held ↦ held.1.same
  | inr claims ↦ claimed_none job node before now h running of claims.1
]
idle_same {laws} job (Perform node number) before now of running h a = elim a.performed [
  | inl none ↦ none.1.same
  | inr performs ↦ absurd performs.performed
]
idle_same {laws} job (Commit node number) before now of running h a = committed_none node number (shelf_at a.engine number) a.engine before now a.committed
idle_same {laws} job Relax before now of running h a = elim a [
  | inl none ↦ none.1.same
  | inr full ↦ absurd (not_busy Did (sym full.1) tt)
]
