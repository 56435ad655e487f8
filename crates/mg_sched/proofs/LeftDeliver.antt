-- A delivery lessens what a port may still get, or how far it may still be raised.
use Rattle.std.proofs.Common.{◌≡◌, ℕ, zero, suc, ◌+◌, ◌-◌, ◌<◌, ◌≤◌, ◌^◌, Bool, true, false, [], ◌∷◌, length, take, sum_by, Some, slice_get, nat_lt, ◌⊎◌, inl, inr, ap, sym, refl, subst, ◌∙◌, arith}
use Rattle.std.proofs.lemmas.Bool.Decides.{nat_tests, eqb_tells}
use Rattle.std.proofs.lemmas.List.{length-take}
use Rattle.mg_time.specs.Time.{done}
use Rattle.mg_value.specs.Payload.{Plain}
use Rattle.mg_stream.specs.Queue.{Waiting, count_of}
use Rattle.mg_calc.specs.Rules.{Laws}
use Rattle.mg_calc.specs.declared.edge.Edge.{Edge}
use Rattle.mg_calc.specs.declared.event.Effect.{Effect}
use Rattle.mg_calc.specs.declared.event.Effect.TheVariants.{Did}
use Rattle.mg_calc.specs.Plan.{IsValid, numbers}
use Rattle.mg_node.specs.declared.delivered.Delivered.{Delivered}
use Rattle.mg_node.specs.declared.delivered.Delivered.TheVariants.{Moved, OutOfMemory as NoRoom}
use Rattle.mg_node.specs.declared.pending.Pending.{Pending}
use Rattle.mg_node.specs.Views.{IntakeView}
use Rattle.mg_node.specs.Job.{LoggedJob}
use Rattle.mg_node.specs.Lawful.{LawfulIntake}
use Rattle.mg_node.specs.Ports.{ports_in, port_queue, with_room}
use Rattle.mg_node.specs.Delivery.{missing, delivered, Delivers}
use Rattle.mg_node.specs.IntakeStanding.{HasGrown, IntakeGrows}
use Rattle.mg_node.specs.Leading.{output_at}
use Rattle.mg_node.proofs.Lemmas.{counts_small, deliver_grows, delivery_lawful, intake_ports, leads_one, leads_port, port_bounds_small, queue-there}
use Rattle.mg_sched.specs.Views.{NetView}
use Rattle.mg_sched.specs.Places.{with_intake}
use Rattle.mg_sched.specs.StandsFor.{StandsFor, IsRunning}
use Rattle.mg_sched.specs.Acts.{effect_of, Brings, DeliversAlong}
use Rattle.mg_sched.specs.Code.Left.{intake_left, left_in}
use Rattle.mg_sched.proofs.EdgePlaces.{edge_placed}
use Rattle.mg_sched.proofs.PlanStreams.{number_there}
use Rattle.mg_sched.proofs.ArrivesWithin.{packets_count}
use Rattle.mg_sched.proofs.Carrying.{intake_lawful, leads, still_lawful}
use Rattle.mg_sched.proofs.SumsFall.{sums_no_more, sums_fall}
use Rattle.mg_sched.proofs.LeftParts.{intake_put, noted_same, put_less, put_no_more, not_idle, not_without}

-- One port.

-- how many packets may come, and how far it may be raised
abbrev port_left : Waiting Plain → ℕ
port_left q = (2 ^ 65 - count_of q) + (done - q.bound)

port_low : (q r : Waiting Plain) → HasGrown q r → port_left r ≤ port_left q
port_low q r g = (let count = g.count in let bound = g.bound in omega (arith, count, bound))

-- more packets came, or the bound is higher
abbrev HasMore : Waiting Plain → Waiting Plain → Type 0
HasMore before now = (count_of before < count_of now) ⊎ (before.bound < now.bound)

port_falls : (q r : Waiting Plain) → HasGrown q r → HasMore q r → count_of r < 2 ^ 64 → r.bound ≤ done → port_left r < port_left q
port_falls q r g more few top = elim more [
  | inl packets ↦ (let bound = g.bound in omega (arith, packets, bound, few))
  | inr higher ↦ (let count = g.count in omega (arith, higher, count, top))
]

delivered_count : (o q : Waiting Plain) (n : ℕ) → n ≤ length (missing o q) → count_of (delivered o q n) ≡ count_of q + n
delivered_count o q n le = elim (eqb_tells n (length (missing o q))) [
  | inl (test, same) ↦ rw test (let all = packets_count q (missing o q) in omega (arith, all, same))
  | inr (test, other) ↦ rw test (let some = packets_count q (take n (missing o q)) in omega (arith, some, le, length-take n (missing o q)))
]

did_raise : (raised : Bool) → Did ≡ effect_of (Moved 0 raised) → raised ≡ true
did_raise true e = refl
did_raise false e = absurd (not_idle e)

moved_more : (packets : ℕ) (raised : Bool) (o : Waiting Plain) (port most : ℕ) (before now : Pending) → port < ports_in before → Delivers (Moved packets raised) o port most before now → Did ≡ effect_of (Moved packets raised) → HasMore (port_queue before port) (port_queue now port)
moved_more zero raised o port most before now there d e =
    let higher : nat_lt (port_queue before port).bound (port_queue now port).bound ≡ true = sym d.2 ∙ did_raise raised e in
    inr (grind (arith, nat_tests, higher))
moved_more (suc n) raised o port most before now there d e =
    let q = port_queue before port in
    let spare = (port_queue now port).spare in
    let is : port_queue now port ≡ with_room (delivered o q (suc n)) spare = ap (λ (w : Pending). port_queue w port) d.1 ∙ queue-there before port (with_room (delivered o q (suc n)) spare) there in
    let within : suc n ≤ length (missing o q) = (let count = d.0 in omega (arith, count)) in
    let count = delivered_count o q (suc n) within in
    let same : count_of (port_queue now port) ≡ count_of (delivered o q (suc n)) = ap (λ (r : Waiting Plain). count_of r) is in
    inl (omega (arith, count, same))

came_more : (answer : Delivered) (o : Waiting Plain) (port most : ℕ) (before now : Pending) → port < ports_in before → Delivers answer o port most before now → Did ≡ effect_of answer → HasMore (port_queue before port) (port_queue now port)
came_more (Moved packets raised) o port most before now there d e = moved_more packets raised o port most before now there d e
came_more (NoRoom packets) o port most before now there d e = absurd (not_without e)

-- All ports of an intake.

same_ports : (before now : IntakeView) → ports_in now.waits ≡ ports_in before.waits → intake_left now ≡ sum_by (λ port. port_left (port_queue now.waits port)) (numbers (ports_in before.waits))
same_ports before now same = ap (λ (n : ℕ). sum_by (λ port. port_left (port_queue now.waits port)) (numbers n)) same

intake_low : (before now : IntakeView) → ports_in now.waits ≡ ports_in before.waits → IntakeGrows before now → intake_left now ≤ intake_left before
intake_low before now same grows =
    subst (λ (n : ℕ). n ≤ intake_left before) (sym (same_ports before now same))
    (sums_no_more (λ port. port_left (port_queue before.waits port)) (λ port. port_left (port_queue now.waits port)) (numbers (ports_in before.waits)) (λ i port at. port_low (port_queue before.waits port) (port_queue now.waits port) (grows.ports port)))

intake_falls : (before now : IntakeView) (port : ℕ) → ports_in now.waits ≡ ports_in before.waits → IntakeGrows before now → port < ports_in before.waits → HasMore (port_queue before.waits port) (port_queue now.waits port)
    → count_of (port_queue now.waits port) < 2 ^ 64 → (port_queue now.waits port).bound ≤ done → intake_left now < intake_left before
intake_falls before now port same grows there more few top =
    let at : slice_get (numbers (ports_in before.waits)) port ≡ Some port = number_there 0 (ports_in before.waits) port there ∙ ap Some (let is : 0 + port ≡ port = omega arith in is) in
    subst (λ (n : ℕ). n < intake_left before) (sym (same_ports before now same))
    (sums_fall (λ port. port_left (port_queue before.waits port)) (λ port. port_left (port_queue now.waits port)) (numbers (ports_in before.waits)) port port
    (λ i p at_p. port_low (port_queue before.waits p) (port_queue now.waits p) (grows.ports p)) at
    (port_falls (port_queue before.waits port) (port_queue now.waits port) (grows.ports port) more few top))

-- Nets.

-- the intake to which packets came
record Brought {laws : Laws} (job : LoggedJob laws) (e : Edge) (before now : IntakeView) : Type 0 where
  pub there : e.port < ports_in before.waits
  pub ports : ports_in now.waits ≡ ports_in before.waits
  pub grows : IntakeGrows before now
  pub lawful : LawfulIntake job e.node now

brought : {laws : Laws} (job : LoggedJob laws) (number : ℕ) (e : Edge) (effect : Effect) (before now : NetView) → IsRunning before → StandsFor job before → slice_get before.plan.edges number ≡ Some e → (b : Brings number e effect before now) → Brought job e b.intake b.intake_now
unfolding StandsFor
brought {laws} job number e effect before now running h at b =
    let valid : IsValid before.plan = subst IsValid (sym h.plan) h.is_job.plan in
    let placed = edge_placed before.plan number e valid at in
    let joined = h.edges e number b.place b.engine b.intake at b.from b.at b.to in
    let lead = leads before number b.place e b.engine b.intake (record { job = job; stands = h }) running at b.from b.at b.to in
    let lawful = still_lawful job before number b.place e b.engine b.intake b.intake_now h running at b.from b.at b.to
    (λ owner engine intake stream. delivery_lawful job owner b.engine e b.intake b.intake_now 4294967295 b.answer lead.leaves joined.kept engine intake stream b.moved b.claimed) in
    record {
      there = leads_port b.engine e b.intake lead;
      ports = intake_ports job e.node b.intake_now lawful ∙ sym (intake_ports job e.node b.intake (intake_lawful job before e.node b.intake h running placed.node b.to));
      grows = deliver_grows b.answer (output_at b.engine e) e.port 4294967295 b.intake b.intake_now (leads_one b.engine e b.intake lead) b.moved b.claimed;
      lawful = lawful;
    }

-- what is left then
brought_left : (number : ℕ) (e : Edge) (effect : Effect) (before now : NetView) → (b : Brings number e effect before now) → left_in now + intake_left b.intake ≡ left_in before + intake_left b.intake_now
brought_left number e effect before now b =
    let told = length (port_queue b.intake_now.waits e.port).packets ∷ [] in
    ap (λ (v : NetView). left_in v + intake_left b.intake) b.now_is
    ∙ ap (λ (n : ℕ). n + intake_left b.intake) (noted_same (with_intake before e.node b.intake_now) number told)
    ∙ intake_put before e.node b.intake b.intake_now b.to

pub deliver_less : {laws : Laws} (job : LoggedJob laws) (number : ℕ) (before now : NetView) → IsRunning before → StandsFor job before → DeliversAlong number Did before now → left_in now < left_in before
deliver_less {laws} job number before now running h d = elim d.delivered [
  | inl held ↦ absurd (not_idle held.1.idle)
  | inr free ↦
      (let b = free.1 in
      let it = brought job number d.edge Did before now running h d.there b in
      let more = came_more b.answer (output_at b.engine d.edge) d.edge.port 4294967295 b.intake.waits b.intake_now.waits it.there b.moved b.effect_is in
      put_less (left_in now) (left_in before) (intake_left b.intake_now) (intake_left b.intake) (brought_left number d.edge Did before now b)
      (intake_falls b.intake b.intake_now d.edge.port it.ports it.grows it.there more (counts_small job d.edge.node d.edge.port b.intake_now it.lawful) (port_bounds_small job d.edge.node d.edge.port b.intake_now it.lawful)))
]

pub deliver_no_more : {laws : Laws} (job : LoggedJob laws) (number : ℕ) (effect : Effect) (before now : NetView) → IsRunning before → StandsFor job before → DeliversAlong number effect before now → left_in now ≤ left_in before
deliver_no_more {laws} job number effect before now running h d = elim d.delivered [
  | inl held ↦ subst (λ (v : NetView). left_in v ≤ left_in before) (sym held.1.same) (omega arith)
  | inr free ↦
      (let b = free.1 in
      let it = brought job number d.edge effect before now running h d.there b in
      put_no_more (left_in now) (left_in before) (intake_left b.intake_now) (intake_left b.intake) (brought_left number d.edge effect before now b) (intake_low b.intake b.intake_now it.ports it.grows))
]
